-- What the ways of an address pay, by the kind of work of the instruction there.
use Rattle.std.proofs.Common.{◌≡◌, ℕ, Bool, true, false, not, ◌+◌, ◌-◌, ◌*◌, ◌<◌, ◌≤◌, ◌==◌, ◌&&◌, ◌||◌, ◌⊎◌, inl, inr, if◌then◌else◌, Option, Some, None, List, [], ◌∷◌, length, drop, map, refl, sym, ◌∙◌, ap, subst, arith}
use Rattle.std.proofs.lemmas.List.Folds.{list_all-map}
use Rattle.std.proofs.lemmas.List.Sums.{AllPass-from_list_all}
use Rattle.std.proofs.lemmas.List.Elements.{All-contains}
use Rattle.std.specs.Prelude.{Contains}
use Rattle.std.specs.List.{list_all}
use Rattle.std.specs.Option.{option_map}
use Rattle.kc_isa.specs.declared.insn.Insn.{Insn}
use Rattle.kc_exec_spec.specs.declared.cpu.Words.{Words}
use Rattle.kc_exec_spec.specs.declared.cpu.After.{After}
use Rattle.kc_exec_spec.specs.declared.cpu.After.TheVariants.{MoreWords}
use Rattle.kc_exec_spec.specs.declared.plan.Plan.{Plan}
use Rattle.kc_exec_spec.specs.declared.plan.Plan.TheVariants.{Compute, Move, Jump, Save, Set, BlockMove, Trap, Idle, Reset}
use Rattle.kc_exec_spec.specs.declared.plan.Route.TheVariants.{Always, Call as Calls, Return, When, Bit, CountDown, Table, Register}
use Rattle.kc_exec_spec.specs.Jumping.{next_pc, jump_pc, branch_pc, is_taken}
use Rattle.kc_exec_spec.specs.Places.{jump_taken}
use Rattle.kc_machine_spec.specs.declared.doing.Going.TheVariants.{Moving}
use Rattle.kc_machine_spec.specs.Machine.{Machine, next_after}
use Rattle.kc_bound.specs.declared.notes.Notes.{Notes}
use Rattle.kc_bound.specs.declared.way.Way.{Way}
use Rattle.kc_bound.specs.declared.way.Way.TheVariants.{To, Call, Back, Out}
use Rattle.kc_bound.specs.declared.certificate.Standing.{Standing}
use Rattle.kc_bound.specs.declared.certificate.Certificate.{Certificate}
use Rattle.kc_bound.specs.Notes.{targets_at, words_at}
use Rattle.kc_bound.specs.Passes.{is_at_end, is_last_work, opened_by}
use Rattle.kc_bound.specs.Premises.{is_return_plan, is_computed_plan}
use Rattle.kc_bound.specs.Ways.{ways_planned, ways_to, unless_end, most_states, image_word}
use Rattle.kc_bound.specs.Certified.{pays, pays_all, price_at, credit_at}
use Rattle.kc_bound.proofs.Paid.{both}
use Rattle.kc_bound.proofs.GoingOn.{GoesOn, IsPlain}
use Rattle.kc_bound.proofs.Follows.{HasEnded, IsFollowed, LeadsTo, Leads, EndsOr}
use Rattle.kc_bound.proofs.Ahead.{Begins, Comes, Returns, states_on, leaves-out, comes-to, comes-into, returns-paid, most-on-way, returns-out, returns-most, comes-back}
use Rattle.kc_bound.proofs.Keeps.{IsBetween, IsGoing, EndsOrGoes, GoesPlainly, plainly, goes-plainly, Keeps, keeps-last, keeps-ended, keeps-arrived, keeps-moving}

-- what is assumed of an instruction, by the kind of its work
pub record IsAssumed {X : Type 0} (notes : Notes) (plan : Plan) (a : ℕ) (calls : List ℕ) (n : Machine X) : Type 0 where
  pub returns : is_return_plan (Some plan) ≡ true → (back : ℕ) (more : List ℕ) → calls ≡ back ∷ more → n.ended ≡ None → n.cpu.pc ≡ back
  pub goes : is_computed_plan (Some plan) ≡ true → (targets : List ℕ) → targets_at notes a ≡ Some targets → n.ended ≡ None → Contains targets n.cpu.pc
  pub words : (i : Insn) (w : Words) (most : ℕ) → n.going ≡ Some (Moving i w) → words_at notes n.cpu.pc ≡ Some most → w.left ≤ most

module _ (image : List ℕ) (notes : Notes) (from : ℕ) (c : Certificate) (rank total a : ℕ) (calls : List ℕ) (spent turns after : ℕ) (b : Begins notes c rank total a calls spent turns after (price_at notes c a) (credit_at notes c a)) where
  -- whether a way pays
  abbrev pub is_paid : Way → Bool
  is_paid way = pays notes c b.ready.here.standing (b.ready.here.standing.potential + price_at notes c a) (credit_at notes c a) way

  abbrev pub Pays : Way → Type 0
  Pays way = is_paid (unless_end notes way) ≡ true

  -- the ways of an address, each of which pays
  abbrev pub AllPay : Option (List Way) → Type 0
  AllPay ways = pays_all notes c a b.ready.here.standing (option_map (map (unless_end notes)) ways) ≡ true

  pub first-pays : (way : Way) (more : List Way) → AllPay (Some (way ∷ more)) → Pays way
  first-pays way more h = (both (is_paid (unless_end notes way)) (list_all is_paid (map (unless_end notes) more)) h).0

  second-pays : (first way : Way) (more : List Way) → AllPay (Some (first ∷ way ∷ more)) → Pays way
  second-pays first way more h = first-pays way more (both (is_paid (unless_end notes first)) (list_all is_paid (map (unless_end notes) (way ∷ more))) h).1

  each-pays : (states first : ℕ) (targets : List ℕ) (target : ℕ) → AllPay (Some (ways_to states (first ∷ targets))) → Contains (first ∷ targets) target → Pays (To states target)
  each-pays states first targets target h there =
      let one : list_all is_paid (map (unless_end notes) (ways_to states (first ∷ targets))) ≡ list_all (λ w. is_paid (unless_end notes w)) (ways_to states (first ∷ targets)) = list_all-map is_paid (unless_end notes) (ways_to states (first ∷ targets)) in
      let two : list_all (λ w. is_paid (unless_end notes w)) (ways_to states (first ∷ targets)) ≡ list_all (λ t. is_paid (unless_end notes (To states t))) (first ∷ targets) = list_all-map (λ w. is_paid (unless_end notes w)) (λ t. To states t) (first ∷ targets) in
      All-contains (λ t. is_paid (unless_end notes (To states t)) ≡ true) (first ∷ targets) target (AllPass-from_list_all (λ t. is_paid (unless_end notes (To states t))) (first ∷ targets) (sym two ∙ sym one ∙ h)) there

  -- a way that takes as many states as an instruction, which pays
  abbrev pub HasWay : ℕ → Type 0
  HasWay k = (way : Way) × (k ≤ states_on way) × Pays way

  targets-way : (k s : ℕ) (o : Option (List ℕ)) → k ≤ s → AllPay (option_map (ways_to s) o) → HasWay k
  targets-way k s None few pay = absurd (cc pay)
  targets-way k s (Some []) few pay = absurd (cc pay)
  targets-way k s (Some (t ∷ ts)) few pay = (To s t, few, first-pays (To s t) (ways_to s ts) pay)

  block-way : (i : Insn) (k s : ℕ) (o : Option ℕ) → k ≤ s → AllPay (option_map (λ most. To (s + 14 * most) (next_pc i a) ∷ []) o) → HasWay k
  block-way i k s None few pay = absurd (cc pay)
  block-way i k s (Some most) few pay = (To (s + 14 * most) (next_pc i a), omega (arith, few), first-pays (To (s + 14 * most) (next_pc i a)) [] pay)

  test-way : (i : Insn) (k s t : ℕ) (taken : Bool) → k ≤ (if taken then t else s) → AllPay (Some (To s (next_pc i a) ∷ To t (jump_pc i a) ∷ [])) → HasWay k
  test-way i k s t true few pay = (To t (jump_pc i a), few, second-pays (To s (next_pc i a)) (To t (jump_pc i a)) [] pay)
  test-way i k s t false few pay = (To s (next_pc i a), few, first-pays (To s (next_pc i a)) (To t (jump_pc i a) ∷ []) pay)

  pub way-of : (plan : Plan) (i : Insn) (psw k : ℕ) → k ≤ most_states plan i (jump_taken plan psw) → AllPay (ways_planned image notes plan i a) → HasWay k
  way-of (Compute how) i psw k few pay = (To (most_states (Compute how) i false) (next_pc i a), few, first-pays (To (most_states (Compute how) i false) (next_pc i a)) [] pay)
  way-of (Move how) i psw k few pay = (To (most_states (Move how) i false) (next_pc i a), few, first-pays (To (most_states (Move how) i false) (next_pc i a)) [] pay)
  way-of (Save how) i psw k few pay = (To (most_states (Save how) i false) (next_pc i a), few, first-pays (To (most_states (Save how) i false) (next_pc i a)) [] pay)
  way-of (Set bit) i psw k few pay = (To (most_states (Set bit) i false) (next_pc i a), few, first-pays (To (most_states (Set bit) i false) (next_pc i a)) [] pay)
  way-of (Jump Always) i psw k few pay = (To (most_states (Jump Always) i false) (jump_pc i a), few, first-pays (To (most_states (Jump Always) i false) (jump_pc i a)) [] pay)
  way-of (Jump Calls) i psw k few pay = (Call (most_states (Jump Calls) i false) (jump_pc i a) (next_pc i a), few, first-pays (Call (most_states (Jump Calls) i false) (jump_pc i a) (next_pc i a)) [] pay)
  way-of (Jump Return) i psw k few pay = (Back (most_states (Jump Return) i false), few, first-pays (Back (most_states (Jump Return) i false)) [] pay)
  way-of (Jump (When test wanted)) i psw k few pay =
      test-way i k (most_states (Jump (When test wanted)) i false) (most_states (Jump (When test wanted)) i true) (is_taken test wanted psw) (either (is_taken test wanted psw) few) pay
    where
      either : (taken : Bool) → k ≤ most_states (Jump (When test wanted)) i taken → k ≤ (if taken then most_states (Jump (When test wanted)) i true else most_states (Jump (When test wanted)) i false)
      either true h = h
      either false h = h
  way-of (Jump (Bit set)) i psw k few pay = (To (most_states (Jump (Bit set)) i false) (next_pc i a), few, first-pays (To (most_states (Jump (Bit set)) i false) (next_pc i a)) (To (most_states (Jump (Bit set)) i false) (jump_pc i a) ∷ []) pay)
  way-of (Jump (CountDown byte)) i psw k few pay = (To (most_states (Jump (CountDown byte)) i false) (next_pc i a), few, first-pays (To (most_states (Jump (CountDown byte)) i false) (next_pc i a)) (To (most_states (Jump (CountDown byte)) i false) (jump_pc i a) ∷ []) pay)
  way-of (Jump Table) i psw k few pay = targets-way k (most_states (Jump Table) i false) (targets_at notes a) few pay
  way-of (Jump Register) i psw k few pay = targets-way k (most_states (Jump Register) i false) (targets_at notes a) few pay
  way-of (BlockMove interruptible) i psw k few pay = block-way i k (most_states (BlockMove interruptible) i false) (words_at notes a) few pay
  way-of Trap i psw k few pay = (Call (most_states Trap i false) (image_word image 0x2010) (next_pc i a), few, first-pays (Call (most_states Trap i false) (image_word image 0x2010) (next_pc i a)) [] pay)
  way-of Idle i psw k few pay = (Out (most_states Idle i false), few, first-pays (Out (most_states Idle i false)) [] pay)
  way-of Reset i psw k few pay = (Out (most_states Reset i false), few, first-pays (Out (most_states Reset i false)) [] pay)

  module _ {X : Type 0} (n : Machine X) (now : ℕ) (is : IsBetween image n) where
    -- what holds behind it, by whether it is the last, and with these open calls
    abbrev pub Kept : Bool → List ℕ → Type 0
    Kept last open_calls = Keeps image notes from c rank total (last || is_at_end notes n) n open_calls now after

    never : (x : ℕ) → false ≡ true → x ≤ total
    never x h = absurd (cc h)

    pub ended-on : (way : Way) (open_calls : List ℕ) → now ≤ spent + states_on way → Pays way → HasEnded n → Kept false open_calls
    ended-on way open_calls soon pay ended =
        keeps-ended image notes from c rank total false n open_calls now after ended (never (now + c.floor))
        (most-on-way notes c rank total a calls spent turns after (price_at notes c a) (credit_at notes c a) b way now soon pay)

    -- on to an address
    pub kept-to : (states target : ℕ) → now ≤ spent + states → Pays (To states target) → EndsOrGoes target n → Kept false calls
    kept-to states target soon pay (inl ended) = ended-on (To states target) calls soon pay ended
    kept-to states target soon pay (inr at) =
        keeps-arrived image notes from c rank total target n calls now after is at
        (comes-to notes c rank total a calls spent turns after (price_at notes c a) (credit_at notes c a) b states target now soon pay)

    -- into a routine
    pub kept-into : (states target back : ℕ) → now ≤ spent + states → Pays (Call states target back) → EndsOrGoes target n → Kept false (back ∷ calls)
    kept-into states target back soon pay (inl ended) = ended-on (Call states target back) (back ∷ calls) soon pay ended
    kept-into states target back soon pay (inr at) =
        keeps-arrived image notes from c rank total target n (back ∷ calls) now after is at
        (comes-into notes c rank total a calls spent turns after (price_at notes c a) (credit_at notes c a) b states target back now soon pay)

    -- out of the pass
    pub kept-out : (states : ℕ) (open_calls : List ℕ) → now ≤ spent + states → Pays (Out states) → Kept true open_calls
    kept-out states open_calls soon pay =
        keeps-last image notes from c rank total n open_calls now after
        (leaves-out notes c rank total a calls spent turns after (price_at notes c a) (credit_at notes c a) b states now soon pay)

    -- back behind the last call that is open
    back-by : (cs : List ℕ) → length cs ≤ rank → Returns notes c rank total cs now after → HasEnded n ⊎ ((n.going ≡ None) × (n.ended ≡ None))
        → ((back : ℕ) (more : List ℕ) → cs ≡ back ∷ more → n.ended ≡ None → n.cpu.pc ≡ back) → Kept (is_last_work (Some (Jump Return)) cs) (drop 1 cs)
    back-by [] few r e returns = keeps-last image notes from c rank total n [] now after (returns-out notes c rank total now after r)
    back-by (back ∷ more) few r (inl ended) returns =
        keeps-ended image notes from c rank total false n more now after ended (never (now + c.floor)) (returns-most notes c rank total (back ∷ more) now after few r)
    back-by (back ∷ more) few r (inr plain) returns =
        keeps-arrived image notes from c rank total back n more now after is (record { pc = returns back more refl plain.1; going = plain.0; ended = plain.1 }) (comes-back notes c rank total back more now after r)

    pub kept-back : (states : ℕ) → now ≤ spent + states → Pays (Back states) → HasEnded n ⊎ ((n.going ≡ None) × (n.ended ≡ None))
        → ((back : ℕ) (more : List ℕ) → calls ≡ back ∷ more → n.ended ≡ None → n.cpu.pc ≡ back) → Kept (is_last_work (Some (Jump Return)) calls) (drop 1 calls)
    kept-back states soon pay e returns =
        let few : length calls + b.ready.here.standing.rank ≤ rank = b.ready.here.few in
        back-by calls (omega (arith, few))
        (record {
          open_calls = b.ready.open_calls;
          paid = returns-paid notes c rank total a calls spent turns after (price_at notes c a) (credit_at notes c a) b states now soon pay;
        })
        e returns

    -- on with the words of a block move
    pub kept-moving : (i : Insn) (w : Words) (states most : ℕ) → now ≤ spent + states → Pays (To (states + 14 * most) (next_pc i a)) → n.ended ≡ None → n.going ≡ Some (Moving i w) → n.held ≡ false → n.cpu.pc ≡ a → 0 < w.left → w.left ≤ most → Kept false calls
    kept-moving i w states most soon pay ended going free pc some few =
        keeps-moving image notes from c rank total i w a n calls now after is ended going free pc some
        (comes-to notes c rank total a calls spent turns after (price_at notes c a) (credit_at notes c a) b (states + 14 * most) (next_pc i a) (now + 14 * w.left) (omega (arith, soon, few)) pay)

    -- ---- by the kind of work of an instruction

    -- where it goes on
    abbrev pub Where : Plan → Insn → ℕ → After → ℕ → Type 0
    Where plan i psw behind pc = GoesOn plan i (record { pc = a; psw_high = psw }) behind pc × LeadsTo image plan pc

    -- what is known of it
    pub record IsDone (plan : Plan) (i : Insn) (psw : ℕ) : Type 0 where
      pub soon : now ≤ spent + most_states plan i (jump_taken plan psw)
      pub pay : AllPay (ways_planned image notes plan i a)
      pub assumed : IsAssumed notes plan a calls n
      pub follows : HasEnded n ⊎ IsFollowed (Where plan i psw) i n

    abbrev pub Result : Plan → Insn → Type 0
    Result plan i = Kept (is_last_work (Some plan) calls) (opened_by (Some plan) (next_pc i a) calls)

    -- a machine that has ended, or goes on where a plan says
    going-to : (P : After → ℕ → Type 0) (i : Insn) (target : ℕ) → ((behind : After) (pc : ℕ) → P behind pc → IsPlain behind × (pc ≡ target)) → HasEnded n ⊎ IsFollowed P i n → EndsOrGoes target n
    going-to P i target so (inl ended) = inl ended
    going-to P i target so (inr h) =
        let s : IsPlain h.behind × (n.cpu.pc ≡ target) = so h.behind n.cpu.pc h.goes in
        inr (goes-plainly P i n target h s.0 s.1)

    going-on : (P : After → ℕ → Type 0) (i : Insn) → ((behind : After) (pc : ℕ) → P behind pc → IsPlain behind) → HasEnded n ⊎ IsFollowed P i n → HasEnded n ⊎ ((n.going ≡ None) × (n.ended ≡ None))
    going-on P i so (inl ended) = inl ended
    going-on P i so (inr h) =
        let p : GoesPlainly i h.behind = plainly i h.behind (so h.behind n.cpu.pc h.goes) in
        inr (h.going ∙ p.going, h.ended ∙ p.ended)

    -- one of two ways, by whether a jump is taken
    kept-test : (i : Insn) (s t : ℕ) (taken : Bool) → now ≤ spent + (if taken then t else s) → Pays (To s (next_pc i a)) → Pays (To t (jump_pc i a)) → EndsOrGoes (branch_pc taken i a) n → Kept false calls
    kept-test i s t true soon on jump e = kept-to t (jump_pc i a) soon jump e
    kept-test i s t false soon on jump e = kept-to s (next_pc i a) soon on e

    kept-either : (i : Insn) (s : ℕ) (taken : Bool) → now ≤ spent + s → Pays (To s (next_pc i a)) → Pays (To s (jump_pc i a)) → EndsOrGoes (branch_pc taken i a) n → Kept false calls
    kept-either i s true soon on jump e = kept-to s (jump_pc i a) soon jump e
    kept-either i s false soon on jump e = kept-to s (next_pc i a) soon on e

    kept-branch : (P : After → ℕ → Type 0) (i : Insn) (s : ℕ) → now ≤ spent + s → Pays (To s (next_pc i a)) → Pays (To s (jump_pc i a)) → ((behind : After) (pc : ℕ) → P behind pc → IsPlain behind × ((taken : Bool) × (pc ≡ branch_pc taken i a)))
        → HasEnded n ⊎ IsFollowed P i n → Kept false calls
    kept-branch P i s soon on jump so (inl ended) = kept-to s (next_pc i a) soon on (inl ended)
    kept-branch P i s soon on jump so (inr h) =
        let t : IsPlain h.behind × ((taken : Bool) × (n.cpu.pc ≡ branch_pc taken i a)) = so h.behind n.cpu.pc h.goes in
        kept-either i s t.1.0 soon on jump (inr (goes-plainly P i n (branch_pc t.1.0 i a) h t.0 t.1.1))

    -- a computed jump
    kept-computed : (P : After → ℕ → Type 0) (i : Insn) (s : ℕ) (o : Option (List ℕ)) → targets_at notes a ≡ o → now ≤ spent + s → AllPay (option_map (ways_to s) o)
        → ((targets : List ℕ) → targets_at notes a ≡ Some targets → n.ended ≡ None → Contains targets n.cpu.pc) → ((behind : After) (pc : ℕ) → P behind pc → IsPlain behind) → HasEnded n ⊎ IsFollowed P i n → Kept false calls
    kept-computed P i s None noted soon pay goes so e = absurd (cc pay)
    kept-computed P i s (Some []) noted soon pay goes so e = absurd (cc pay)
    kept-computed P i s (Some (t ∷ ts)) noted soon pay goes so (inl ended) = ended-on (To s t) calls soon (first-pays (To s t) (ways_to s ts) pay) ended
    kept-computed P i s (Some (t ∷ ts)) noted soon pay goes so (inr h) =
        let plain : IsPlain h.behind = so h.behind n.cpu.pc h.goes in
        let p : GoesPlainly i h.behind = plainly i h.behind plain in
        let there : Contains (t ∷ ts) n.cpu.pc = goes (t ∷ ts) noted (h.ended ∙ p.ended) in
        kept-to s n.cpu.pc soon (each-pays s t ts n.cpu.pc pay there) (inr (goes-plainly P i n n.cpu.pc h plain refl))

    -- a block move
    abbrev MovesOrNot : Insn → After → ℕ → Type 0
    MovesOrNot i behind pc = (IsPlain behind × (pc ≡ next_pc i a)) ⊎ ((w : Words) × (behind ≡ MoreWords w) × (pc ≡ a) × (0 < w.left))

    moves-by : (P : After → ℕ → Type 0) (i : Insn) (s most : ℕ) → now ≤ spent + s → Pays (To (s + 14 * most) (next_pc i a)) → words_at notes a ≡ Some most
        → ((w : Words) (k : ℕ) → n.going ≡ Some (Moving i w) → words_at notes n.cpu.pc ≡ Some k → w.left ≤ k) → (h : IsFollowed P i n) → MovesOrNot i h.behind n.cpu.pc → Kept false calls
    moves-by P i s most soon pay noted words h (inl none) = kept-to (s + 14 * most) (next_pc i a) (omega (arith, soon)) pay (inr (goes-plainly P i n (next_pc i a) h none.0 none.1))
    moves-by P i s most soon pay noted words h (inr more) =
        let going : n.going ≡ Some (Moving i more.0) = h.going ∙ ap (λ (x : After). (next_after i x).going) more.1 in
        let ended : n.ended ≡ None = h.ended ∙ ap (λ (x : After). (next_after i x).ended) more.1 in
        let free : n.held ≡ false = h.held ∙ ap (λ (x : After). (next_after i x).held) more.1 in
        kept-moving i more.0 s most soon pay ended going free more.2 more.3 (words more.0 most going (ap (words_at notes) more.2 ∙ noted))

    kept-block : (P : After → ℕ → Type 0) (i : Insn) (s : ℕ) (o : Option ℕ) → words_at notes a ≡ o → now ≤ spent + s → AllPay (option_map (λ most. To (s + 14 * most) (next_pc i a) ∷ []) o)
        → ((w : Words) (k : ℕ) → n.going ≡ Some (Moving i w) → words_at notes n.cpu.pc ≡ Some k → w.left ≤ k) → ((behind : After) (pc : ℕ) → P behind pc → MovesOrNot i behind pc) → HasEnded n ⊎ IsFollowed P i n → Kept false calls
    kept-block P i s None noted soon pay words so e = absurd (cc pay)
    kept-block P i s (Some most) noted soon pay words so (inl ended) = ended-on (To (s + 14 * most) (next_pc i a)) calls (omega (arith, soon)) (first-pays (To (s + 14 * most) (next_pc i a)) [] pay) ended
    kept-block P i s (Some most) noted soon pay words so (inr h) = moves-by P i s most soon (first-pays (To (s + 14 * most) (next_pc i a)) [] pay) noted words h (so h.behind n.cpu.pc h.goes)

    pub instruction-keeps : (plan : Plan) (i : Insn) (psw : ℕ) → IsDone plan i psw → Result plan i
    instruction-keeps (Compute how) i psw d =
        let s : ℕ = most_states (Compute how) i false in
        kept-to s (next_pc i a) d.soon (first-pays (To s (next_pc i a)) [] d.pay) (going-to (Where (Compute how) i psw) i (next_pc i a) (λ behind pc h. h.0) d.follows)
    instruction-keeps (Move how) i psw d =
        let s : ℕ = most_states (Move how) i false in
        kept-to s (next_pc i a) d.soon (first-pays (To s (next_pc i a)) [] d.pay) (going-to (Where (Move how) i psw) i (next_pc i a) (λ behind pc h. h.0) d.follows)
    instruction-keeps (Save how) i psw d =
        let s : ℕ = most_states (Save how) i false in
        kept-to s (next_pc i a) d.soon (first-pays (To s (next_pc i a)) [] d.pay) (going-to (Where (Save how) i psw) i (next_pc i a) (λ behind pc h. h.0) d.follows)
    instruction-keeps (Set bit) i psw d =
        let s : ℕ = most_states (Set bit) i false in
        kept-to s (next_pc i a) d.soon (first-pays (To s (next_pc i a)) [] d.pay) (going-to (Where (Set bit) i psw) i (next_pc i a) (λ behind pc h. h.0) d.follows)
    instruction-keeps (Jump Always) i psw d =
        let s : ℕ = most_states (Jump Always) i false in
        kept-to s (jump_pc i a) d.soon (first-pays (To s (jump_pc i a)) [] d.pay) (going-to (Where (Jump Always) i psw) i (jump_pc i a) (λ behind pc h. h.0) d.follows)
    instruction-keeps (Jump Calls) i psw d =
        let s : ℕ = most_states (Jump Calls) i false in
        kept-into s (jump_pc i a) (next_pc i a) d.soon (first-pays (Call s (jump_pc i a) (next_pc i a)) [] d.pay) (going-to (Where (Jump Calls) i psw) i (jump_pc i a) (λ behind pc h. h.0) d.follows)
    instruction-keeps (Jump Return) i psw d =
        let s : ℕ = most_states (Jump Return) i false in
        kept-back s d.soon (first-pays (Back s) [] d.pay) (going-on (Where (Jump Return) i psw) i (λ behind pc h. h.0) d.follows) (d.assumed.returns refl)
    instruction-keeps (Jump (When test wanted)) i psw d =
        let s : ℕ = most_states (Jump (When test wanted)) i false in
        let t : ℕ = most_states (Jump (When test wanted)) i true in
        kept-test i s t (is_taken test wanted psw) (either (is_taken test wanted psw) d.soon)
        (first-pays (To s (next_pc i a)) (To t (jump_pc i a) ∷ []) d.pay) (second-pays (To s (next_pc i a)) (To t (jump_pc i a)) [] d.pay)
        (going-to (Where (Jump (When test wanted)) i psw) i (branch_pc (is_taken test wanted psw) i a) (λ behind pc h. h.0) d.follows)
      where
        either : (taken : Bool) → now ≤ spent + most_states (Jump (When test wanted)) i taken → now ≤ spent + (if taken then most_states (Jump (When test wanted)) i true else most_states (Jump (When test wanted)) i false)
        either true h = h
        either false h = h
    instruction-keeps (Jump (Bit set)) i psw d =
        let s : ℕ = most_states (Jump (Bit set)) i false in
        kept-branch (Where (Jump (Bit set)) i psw) i s d.soon (first-pays (To s (next_pc i a)) (To s (jump_pc i a) ∷ []) d.pay) (second-pays (To s (next_pc i a)) (To s (jump_pc i a)) [] d.pay) (λ behind pc h. h.0) d.follows
    instruction-keeps (Jump (CountDown byte)) i psw d =
        let s : ℕ = most_states (Jump (CountDown byte)) i false in
        kept-branch (Where (Jump (CountDown byte)) i psw) i s d.soon (first-pays (To s (next_pc i a)) (To s (jump_pc i a) ∷ []) d.pay) (second-pays (To s (next_pc i a)) (To s (jump_pc i a)) [] d.pay) (λ behind pc h. h.0) d.follows
    instruction-keeps (Jump Table) i psw d = kept-computed (Where (Jump Table) i psw) i (most_states (Jump Table) i false) (targets_at notes a) refl d.soon d.pay (d.assumed.goes refl) (λ behind pc h. h.0) d.follows
    instruction-keeps (Jump Register) i psw d = kept-computed (Where (Jump Register) i psw) i (most_states (Jump Register) i false) (targets_at notes a) refl d.soon d.pay (d.assumed.goes refl) (λ behind pc h. h.0) d.follows
    instruction-keeps (BlockMove interruptible) i psw d = kept-block (Where (BlockMove interruptible) i psw) i (most_states (BlockMove interruptible) i false) (words_at notes a) refl d.soon d.pay (d.assumed.words i) (λ behind pc h. h.0) d.follows
    instruction-keeps Trap i psw d =
        let s : ℕ = most_states Trap i false in
        kept-into s (image_word image 0x2010) (next_pc i a) d.soon (first-pays (Call s (image_word image 0x2010) (next_pc i a)) [] d.pay) (going-to (Where Trap i psw) i (image_word image 0x2010) (λ behind pc h. h) d.follows)
    instruction-keeps Idle i psw d =
        let s : ℕ = most_states Idle i false in
        kept-out s calls d.soon (first-pays (Out s) [] d.pay)
    instruction-keeps Reset i psw d =
        let s : ℕ = most_states Reset i false in
        kept-out s calls d.soon (first-pays (Out s) [] d.pay)
