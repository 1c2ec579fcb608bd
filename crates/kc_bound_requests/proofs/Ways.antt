-- Where an activity leads, and how many states it takes before interrupts may be asked for, by the way on that it takes.
use Rattle.std.proofs.Common.{◌≡◌, ℕ, Bool, true, false, ◌+◌, ◌-◌, ◌*◌, ◌<◌, ◌≤◌, ◌&&◌, ◌⊎◌, inl, inr, if◌then◌else◌, Option, Some, None, List, [], ◌∷◌, map, drop, refl, sym, ◌∙◌, ap, subst, arith}
use Rattle.std.proofs.lemmas.List.Folds.{list_all-map}
use Rattle.std.proofs.lemmas.List.Sums.{AllPass-from_list_all}
use Rattle.std.proofs.lemmas.List.Elements.{All-contains}
use Rattle.std.specs.Prelude.{Contains}
use Rattle.std.specs.List.{list_all}
use Rattle.std.specs.Option.{option_map}
use Rattle.kc_isa.specs.declared.insn.Insn.{Insn}
use Rattle.kc_exec_spec.specs.declared.cpu.Words.{Words}
use Rattle.kc_exec_spec.specs.declared.cpu.After.{After}
use Rattle.kc_exec_spec.specs.declared.cpu.After.TheVariants.{MoreWords}
use Rattle.kc_exec_spec.specs.declared.plan.Plan.{Plan}
use Rattle.kc_exec_spec.specs.declared.plan.Plan.TheVariants.{Compute, Move, Jump, Save, Set, BlockMove, Trap, Idle, Reset}
use Rattle.kc_exec_spec.specs.declared.plan.Route.TheVariants.{Always, Call as Calls, Return, When, Bit, CountDown, Table, Register}
use Rattle.kc_exec_spec.specs.Jumping.{next_pc, jump_pc, branch_pc, is_taken}
use Rattle.kc_exec_spec.specs.Places.{jump_taken}
use Rattle.kc_machine_spec.specs.declared.doing.Going.TheVariants.{Moving}
use Rattle.kc_machine_spec.specs.Machine.{Machine, next_after}
use Rattle.kc_bound.specs.declared.notes.Notes.{Notes}
use Rattle.kc_bound.specs.declared.way.Way.{Way}
use Rattle.kc_bound.specs.declared.way.Way.TheVariants.{To, Call, Back, Out}
use Rattle.kc_bound.specs.Notes.{targets_at, words_at}
use Rattle.kc_bound.specs.Passes.{is_last_work, opened_by}
use Rattle.kc_bound.specs.Premises.{is_return_plan, is_computed_plan}
use Rattle.kc_bound.specs.Ways.{ways_planned, ways_to, unless_end, most_states, image_word}
use Rattle.kc_bound.proofs.Paid.{both}
use Rattle.kc_bound.proofs.GoingOn.{GoesOn, IsPlain}
use Rattle.kc_bound.proofs.Follows.{IsFollowed, LeadsTo}
use Rattle.kc_bound.proofs.Keeps.{GoesPlainly, plainly}
use Rattle.kc_bound_requests.specs.declared.enabled.Enabled.{Enabled}
use Rattle.kc_bound_requests.specs.Latency.{shut_states, way_states}

module _ (notes : Notes) (test : Way → Bool) where
  -- a way that passes a test, and all ways of an address
  abbrev pub Passes : Way → Type 0
  Passes way = test (unless_end notes way) ≡ true

  abbrev pub AllPass : Option (List Way) → Type 0
  AllPass None = ⊥
  AllPass (Some []) = ⊥
  AllPass (Some (way ∷ more)) = list_all test (map (unless_end notes) (way ∷ more)) ≡ true

  pub first-passes : (way : Way) (more : List Way) → AllPass (Some (way ∷ more)) → Passes way
  first-passes way more h = (both (test (unless_end notes way)) (list_all test (map (unless_end notes) more)) h).0

  second-passes : (first way : Way) (more : List Way) → AllPass (Some (first ∷ way ∷ more)) → Passes way
  second-passes first way more h = first-passes way more (both (test (unless_end notes first)) (list_all test (map (unless_end notes) (way ∷ more))) h).1

  each-passes : (states first : ℕ) (targets : List ℕ) (target : ℕ) → AllPass (Some (ways_to states (first ∷ targets))) → Contains (first ∷ targets) target → Passes (To states target)
  each-passes states first targets target h there =
      let one : list_all test (map (unless_end notes) (ways_to states (first ∷ targets))) ≡ list_all (λ w. test (unless_end notes w)) (ways_to states (first ∷ targets)) = list_all-map test (unless_end notes) (ways_to states (first ∷ targets)) in
      let two : list_all (λ w. test (unless_end notes w)) (ways_to states (first ∷ targets)) ≡ list_all (λ t. test (unless_end notes (To states t))) (first ∷ targets) = list_all-map (λ w. test (unless_end notes w)) (λ t. To states t) (first ∷ targets) in
      All-contains (λ t. test (unless_end notes (To states t)) ≡ true) (first ∷ targets) target (AllPass-from_list_all (λ t. test (unless_end notes (To states t))) (first ∷ targets) (sym two ∙ sym one ∙ h)) there

  -- ---- of work at an address, with this allowed before it and these calls open, which takes so many states

  module _ (work : Option Plan) (a : ℕ) (e : Enabled) (states : ℕ) where
    -- a way takes as many, before interrupts may be asked for
    abbrev pub Takes : Way → Type 0
    Takes way = states ≤ shut_states work (words_at notes a) e (way_states way)

    abbrev pub HasWay : Type 0
    HasWay = (way : Way) × Takes way × Passes way

    module _ {X : Type 0} (calls : List ℕ) (n : Machine X) (now : List ℕ) where
      -- a way leads to a machine at which an instruction begins, with these calls open
      abbrev pub Leads : Way → Type 0
      Leads (To s target) = (n.cpu.pc ≡ target) × (now ≡ calls)
      Leads (Call s target back) = (n.cpu.pc ≡ target) × (now ≡ (back ∷ calls))
      Leads (Back s) = calls ≡ (n.cpu.pc ∷ now)
      Leads (Out s) = ⊥

      pub record Arrives : Type 0 where
        pub way : Way
        pub takes : Takes way
        pub passes : Passes way
        pub going : n.going ≡ None
        pub leads : Leads way

      -- the words of a block move follow its set-up
      pub record SetsUp : Type 0 where
        pub interruptible : Bool
        pub is : work ≡ Some (BlockMove interruptible)
        pub insn : Insn
        pub words : Words
        pub most : ℕ
        pub set_up : ℕ
        pub takes : states ≤ set_up
        pub noted : words_at notes a ≡ Some most
        pub passes : Passes (To (set_up + 14 * most) (next_pc insn a))
        pub going : n.going ≡ Some (Moving insn words)
        pub some : 0 < words.left
        pub few : words.left ≤ most
        pub same : words.interruptible ≡ interruptible
        pub free : n.held ≡ false
        pub pc : n.cpu.pc ≡ a
        pub calls_same : now ≡ calls

      abbrev pub Went : Type 0
      Went = Arrives ⊎ SetsUp

-- ---- an instruction by the kind of its work

set-up-least : (between : Bool) (k s most : ℕ) → k ≤ s → k ≤ (if between then (s + 14 * most) - 14 * most else s + 14 * most)
set-up-least true k s most h = omega (arith, h)
set-up-least false k s most h = omega (arith, h)

module _ (image : List ℕ) (notes : Notes) (test : Way → Bool) (i : Insn) (psw a : ℕ) (e : Enabled) (k : ℕ) where
  -- a way that takes as many states as the instruction
  abbrev Has : Plan → Type 0
  Has plan = HasWay notes test (Some plan) a e k

  plain-way : (plan : Plan) (way : Way) (more : List Way) → Takes notes test (Some plan) a e k way → AllPass notes test (Some (way ∷ more)) → Has plan
  plain-way plan way more few pass = (way, few, first-passes notes test way more pass)

  table-way : (s : ℕ) (o : Option (List ℕ)) → k ≤ s → AllPass notes test (option_map (ways_to s) o) → (way : Way) × (k ≤ way_states way) × Passes notes test way
  table-way s None few pass = absurd pass
  table-way s (Some []) few pass = absurd pass
  table-way s (Some (t ∷ ts)) few pass = (To s t, few, first-passes notes test (To s t) (ways_to s ts) pass)

  test-way : (s t : ℕ) (taken : Bool) → k ≤ (if taken then t else s) → AllPass notes test (Some (To s (next_pc i a) ∷ To t (jump_pc i a) ∷ [])) → (way : Way) × (k ≤ way_states way) × Passes notes test way
  test-way s t true few pass = (To t (jump_pc i a), few, second-passes notes test (To s (next_pc i a)) (To t (jump_pc i a)) [] pass)
  test-way s t false few pass = (To s (next_pc i a), few, first-passes notes test (To s (next_pc i a)) (To t (jump_pc i a) ∷ []) pass)

  block-way : (interruptible : Bool) (s : ℕ) (o : Option ℕ) → words_at notes a ≡ o → k ≤ s → AllPass notes test (option_map (λ most. To (s + 14 * most) (next_pc i a) ∷ []) o) → Has (BlockMove interruptible)
  block-way interruptible s None noted few pass = absurd pass
  block-way interruptible s (Some most) noted few pass =
      (To (s + 14 * most) (next_pc i a), rw noted (set-up-least (interruptible && e.interrupts) k s most few), first-passes notes test (To (s + 14 * most) (next_pc i a)) [] pass)

  either : (plan : Plan) (taken : Bool) → k ≤ most_states plan i taken → k ≤ (if taken then most_states plan i true else most_states plan i false)
  either plan true h = h
  either plan false h = h

  pub way-of : (plan : Plan) → k ≤ most_states plan i (jump_taken plan psw) → AllPass notes test (ways_planned image notes plan i a) → Has plan
  way-of (Compute how) few pass = plain-way (Compute how) (To (most_states (Compute how) i false) (next_pc i a)) [] few pass
  way-of (Move how) few pass = plain-way (Move how) (To (most_states (Move how) i false) (next_pc i a)) [] few pass
  way-of (Save how) few pass = plain-way (Save how) (To (most_states (Save how) i false) (next_pc i a)) [] few pass
  way-of (Set bit) few pass = plain-way (Set bit) (To (most_states (Set bit) i false) (next_pc i a)) [] few pass
  way-of (Jump Always) few pass = plain-way (Jump Always) (To (most_states (Jump Always) i false) (jump_pc i a)) [] few pass
  way-of (Jump Calls) few pass = plain-way (Jump Calls) (Call (most_states (Jump Calls) i false) (jump_pc i a) (next_pc i a)) [] few pass
  way-of (Jump Return) few pass = plain-way (Jump Return) (Back (most_states (Jump Return) i false)) [] few pass
  way-of (Jump (When flag wanted)) few pass = test-way (most_states (Jump (When flag wanted)) i false) (most_states (Jump (When flag wanted)) i true) (is_taken flag wanted psw) (either (Jump (When flag wanted)) (is_taken flag wanted psw) few) pass
  way-of (Jump (Bit set)) few pass = plain-way (Jump (Bit set)) (To (most_states (Jump (Bit set)) i false) (next_pc i a)) (To (most_states (Jump (Bit set)) i false) (jump_pc i a) ∷ []) few pass
  way-of (Jump (CountDown byte)) few pass = plain-way (Jump (CountDown byte)) (To (most_states (Jump (CountDown byte)) i false) (next_pc i a)) (To (most_states (Jump (CountDown byte)) i false) (jump_pc i a) ∷ []) few pass
  way-of (Jump Table) few pass = table-way (most_states (Jump Table) i false) (targets_at notes a) few pass
  way-of (Jump Register) few pass = table-way (most_states (Jump Register) i false) (targets_at notes a) few pass
  way-of (BlockMove interruptible) few pass = block-way interruptible (most_states (BlockMove interruptible) i false) (words_at notes a) refl few pass
  way-of Trap few pass = plain-way Trap (Call (most_states Trap i false) (image_word image 0x2010) (next_pc i a)) [] few pass
  way-of Idle few pass = plain-way Idle (Out (most_states Idle i false)) [] few pass
  way-of Reset few pass = plain-way Reset (Out (most_states Reset i false)) [] few pass

  -- ---- where it goes on

  module _ {X : Type 0} (plan : Plan) (calls : List ℕ) (n : Machine X) where
    abbrev pub Where : After → ℕ → Type 0
    Where behind pc = GoesOn plan i (record { pc = a; psw_high = psw }) behind pc × LeadsTo image plan pc

    -- what is known of it, where the pass goes on
    pub record IsDone : Type 0 where
      pub soon : k ≤ most_states plan i (jump_taken plan psw)
      pub pass : AllPass notes test (ways_planned image notes plan i a)
      pub returns : is_return_plan (Some plan) ≡ true → (back : ℕ) (more : List ℕ) → calls ≡ back ∷ more → n.cpu.pc ≡ back
      pub goes : is_computed_plan (Some plan) ≡ true → (targets : List ℕ) → targets_at notes a ≡ Some targets → Contains targets n.cpu.pc
      pub moves : (interruptible : Bool) → plan ≡ BlockMove interruptible → (j : Insn) (w : Words) → n.going ≡ Some (Moving j w) → w.interruptible ≡ interruptible
      pub words : (j : Insn) (w : Words) (most : ℕ) → n.going ≡ Some (Moving j w) → words_at notes n.cpu.pc ≡ Some most → w.left ≤ most
      pub follows : IsFollowed Where i n
      pub on : is_last_work (Some plan) calls ≡ false

    abbrev Result : Type 0
    Result = Went notes test (Some plan) a e k calls n (opened_by (Some plan) (next_pc i a) calls)

    abbrev On : List ℕ → Type 0
    On now = Went notes test (Some plan) a e k calls n now

    module _ (d : IsDone) where
      going-plainly : IsPlain d.follows.behind → n.going ≡ None
      going-plainly plain = let p : GoesPlainly i d.follows.behind = plainly i d.follows.behind plain in d.follows.going ∙ p.going

      went-to : (s target : ℕ) → Takes notes test (Some plan) a e k (To s target) → IsPlain d.follows.behind → n.cpu.pc ≡ target → Passes notes test (To s target) → On calls
      went-to s target few plain pc pass = inl (record { way = To s target; takes = few; passes = pass; going = going-plainly plain; leads = (pc, refl) })

      went-into : (s target back : ℕ) → Takes notes test (Some plan) a e k (Call s target back) → IsPlain d.follows.behind → n.cpu.pc ≡ target → Passes notes test (Call s target back) → On (back ∷ calls)
      went-into s target back few plain pc pass = inl (record { way = Call s target back; takes = few; passes = pass; going = going-plainly plain; leads = (pc, refl) })

      went-back : (s : ℕ) (cs : List ℕ) → calls ≡ cs → Takes notes test (Some plan) a e k (Back s) → is_return_plan (Some plan) ≡ true → is_last_work (Some (Jump Return)) cs ≡ false → IsPlain d.follows.behind → Passes notes test (Back s) → On (drop 1 cs)
      went-back s [] opens few is_return on plain pass = absurd (cc on)
      went-back s (back ∷ more) opens few is_return on plain pass =
          let pc : n.cpu.pc ≡ back = d.returns is_return back more opens in
          inl (record { way = Back s; takes = few; passes = pass; going = going-plainly plain; leads = opens ∙ ap (λ b. b ∷ more) (sym pc) })

      went-branch : (s t : ℕ) (taken : Bool) → Takes notes test (Some plan) a e k (Back (if taken then t else s)) → IsPlain d.follows.behind → n.cpu.pc ≡ branch_pc taken i a → Passes notes test (To s (next_pc i a)) → Passes notes test (To t (jump_pc i a)) → On calls
      went-branch s t true few plain pc on jump = went-to t (jump_pc i a) few plain pc jump
      went-branch s t false few plain pc on jump = went-to s (next_pc i a) few plain pc on

      went-computed : (s : ℕ) (o : Option (List ℕ)) → targets_at notes a ≡ o → Takes notes test (Some plan) a e k (Back s) → is_computed_plan (Some plan) ≡ true → IsPlain d.follows.behind → AllPass notes test (option_map (ways_to s) o) → On calls
      went-computed s None noted few computed plain pass = absurd pass
      went-computed s (Some []) noted few computed plain pass = absurd pass
      went-computed s (Some (t ∷ ts)) noted few computed plain pass = went-to s n.cpu.pc few plain refl (each-passes notes test s t ts n.cpu.pc pass (d.goes computed (t ∷ ts) noted))

      went-moving : (interruptible : Bool) (s most : ℕ) → plan ≡ BlockMove interruptible → k ≤ s → words_at notes a ≡ Some most → Takes notes test (Some plan) a e k (To (s + 14 * most) (next_pc i a)) → Passes notes test (To (s + 14 * most) (next_pc i a))
          → (IsPlain d.follows.behind × (n.cpu.pc ≡ next_pc i a)) ⊎ ((w : Words) × (d.follows.behind ≡ MoreWords w) × (n.cpu.pc ≡ a) × (0 < w.left)) → On calls
      went-moving interruptible s most is soon noted few pass (inl none) = went-to (s + 14 * most) (next_pc i a) few none.0 none.1 pass
      went-moving interruptible s most is soon noted few pass (inr more) =
          let going : n.going ≡ Some (Moving i more.0) = d.follows.going ∙ ap (λ (x : After). (next_after i x).going) more.1 in
          inr (record {
            interruptible = interruptible;
            is = ap (λ p. Some p) is;
            insn = i;
            words = more.0;
            most = most;
            set_up = s;
            takes = soon;
            noted = noted;
            passes = pass;
            going = going;
            some = more.3;
            few = d.words i more.0 most going (ap (words_at notes) more.2 ∙ noted);
            same = d.moves interruptible is i more.0 going;
            free = d.follows.held ∙ ap (λ (x : After). (next_after i x).held) more.1;
            pc = more.2;
            calls_same = refl;
          })

      went-block : (interruptible : Bool) (s : ℕ) (o : Option ℕ) → plan ≡ BlockMove interruptible → k ≤ s → words_at notes a ≡ o → AllPass notes test (option_map (λ most. To (s + 14 * most) (next_pc i a) ∷ []) o)
          → (IsPlain d.follows.behind × (n.cpu.pc ≡ next_pc i a)) ⊎ ((w : Words) × (d.follows.behind ≡ MoreWords w) × (n.cpu.pc ≡ a) × (0 < w.left)) → On calls
      went-block interruptible s None is soon noted pass moves = absurd pass
      went-block interruptible s (Some most) is soon noted pass moves =
          let few : Takes notes test (Some (BlockMove interruptible)) a e k (To (s + 14 * most) (next_pc i a)) = rw noted (set-up-least (interruptible && e.interrupts) k s most soon) in
          went-moving interruptible s most is soon noted (subst (λ p. Takes notes test (Some p) a e k (To (s + 14 * most) (next_pc i a))) (sym is) few) (first-passes notes test (To (s + 14 * most) (next_pc i a)) [] pass) moves

  same-states : (s : ℕ) (taken : Bool) → k ≤ s → k ≤ (if taken then s else s)
  same-states s true h = h
  same-states s false h = h

  pub instruction-went : {X : Type 0} (plan : Plan) (calls : List ℕ) (n : Machine X) → IsDone plan calls n → Result plan calls n
  instruction-went (Compute how) calls n d =
      let s : ℕ = most_states (Compute how) i false in
      went-to (Compute how) calls n d s (next_pc i a) d.soon d.follows.goes.0.0 d.follows.goes.0.1 (first-passes notes test (To s (next_pc i a)) [] d.pass)
  instruction-went (Move how) calls n d =
      let s : ℕ = most_states (Move how) i false in
      went-to (Move how) calls n d s (next_pc i a) d.soon d.follows.goes.0.0 d.follows.goes.0.1 (first-passes notes test (To s (next_pc i a)) [] d.pass)
  instruction-went (Save how) calls n d =
      let s : ℕ = most_states (Save how) i false in
      went-to (Save how) calls n d s (next_pc i a) d.soon d.follows.goes.0.0 d.follows.goes.0.1 (first-passes notes test (To s (next_pc i a)) [] d.pass)
  instruction-went (Set bit) calls n d =
      let s : ℕ = most_states (Set bit) i false in
      went-to (Set bit) calls n d s (next_pc i a) d.soon d.follows.goes.0.0 d.follows.goes.0.1 (first-passes notes test (To s (next_pc i a)) [] d.pass)
  instruction-went (Jump Always) calls n d =
      let s : ℕ = most_states (Jump Always) i false in
      went-to (Jump Always) calls n d s (jump_pc i a) d.soon d.follows.goes.0.0 d.follows.goes.0.1 (first-passes notes test (To s (jump_pc i a)) [] d.pass)
  instruction-went (Jump Calls) calls n d =
      let s : ℕ = most_states (Jump Calls) i false in
      went-into (Jump Calls) calls n d s (jump_pc i a) (next_pc i a) d.soon d.follows.goes.0.0 d.follows.goes.0.1 (first-passes notes test (Call s (jump_pc i a) (next_pc i a)) [] d.pass)
  instruction-went (Jump Return) calls n d =
      let s : ℕ = most_states (Jump Return) i false in
      went-back (Jump Return) calls n d s calls refl d.soon refl d.on d.follows.goes.0 (first-passes notes test (Back s) [] d.pass)
  instruction-went (Jump (When flag wanted)) calls n d =
      let s : ℕ = most_states (Jump (When flag wanted)) i false in
      let t : ℕ = most_states (Jump (When flag wanted)) i true in
      went-branch (Jump (When flag wanted)) calls n d s t (is_taken flag wanted psw) (either (Jump (When flag wanted)) (is_taken flag wanted psw) d.soon) d.follows.goes.0.0 d.follows.goes.0.1
      (first-passes notes test (To s (next_pc i a)) (To t (jump_pc i a) ∷ []) d.pass) (second-passes notes test (To s (next_pc i a)) (To t (jump_pc i a)) [] d.pass)
  instruction-went (Jump (Bit set)) calls n d =
      let s : ℕ = most_states (Jump (Bit set)) i false in
      went-branch (Jump (Bit set)) calls n d s s d.follows.goes.0.1.0 (same-states s d.follows.goes.0.1.0 d.soon) d.follows.goes.0.0 d.follows.goes.0.1.1
      (first-passes notes test (To s (next_pc i a)) (To s (jump_pc i a) ∷ []) d.pass) (second-passes notes test (To s (next_pc i a)) (To s (jump_pc i a)) [] d.pass)
  instruction-went (Jump (CountDown byte)) calls n d =
      let s : ℕ = most_states (Jump (CountDown byte)) i false in
      went-branch (Jump (CountDown byte)) calls n d s s d.follows.goes.0.1.0 (same-states s d.follows.goes.0.1.0 d.soon) d.follows.goes.0.0 d.follows.goes.0.1.1
      (first-passes notes test (To s (next_pc i a)) (To s (jump_pc i a) ∷ []) d.pass) (second-passes notes test (To s (next_pc i a)) (To s (jump_pc i a)) [] d.pass)
  instruction-went (Jump Table) calls n d = went-computed (Jump Table) calls n d (most_states (Jump Table) i false) (targets_at notes a) refl d.soon refl d.follows.goes.0 d.pass
  instruction-went (Jump Register) calls n d = went-computed (Jump Register) calls n d (most_states (Jump Register) i false) (targets_at notes a) refl d.soon refl d.follows.goes.0 d.pass
  instruction-went (BlockMove interruptible) calls n d = went-block (BlockMove interruptible) calls n d interruptible (most_states (BlockMove interruptible) i false) (words_at notes a) refl d.soon refl d.pass d.follows.goes.0
  instruction-went Trap calls n d =
      let s : ℕ = most_states Trap i false in
      went-into Trap calls n d s (image_word image 0x2010) (next_pc i a) d.soon d.follows.goes.0 d.follows.goes.1 (first-passes notes test (Call s (image_word image 0x2010) (next_pc i a)) [] d.pass)
  instruction-went Idle calls n d = absurd (cc d.on)
  instruction-went Reset calls n d = absurd (cc d.on)
