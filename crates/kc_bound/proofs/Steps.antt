-- One activity of a pass.
use Rattle.std.proofs.Common.{◌≡◌, ◌≢◌, ℕ, Bool, true, false, not, ◌+◌, ◌-◌, ◌*◌, ◌%◌, ◌<◌, ◌≤◌, ◌==◌, ◌&&◌, ◌||◌, ◌⊎◌, inl, inr, if◌then◌else◌, Option, Some, None, List, [], ◌∷◌, length, refl, sym, ◌∙◌, ap, subst, arith}
use Rattle.std.specs.Prelude.{map, max, Contains}
use Rattle.std.specs.Option.{option_map}
use Rattle.kc_base.specs.declared.types.Kind.{Kind}
use Rattle.kc_base.specs.declared.types.Kind.TheVariants.{Opcode}
use Rattle.kc_isa.specs.declared.insn.Insn.{Insn}
use Rattle.kc_isa.specs.declared.table.Mnemonic.{Mnemonic}
use Rattle.kc_isa.specs.Names.{mnemonic_at}
use Rattle.kc_code.specs.declared.reader.Decoded.{Decoded}
use Rattle.kc_code.specs.declared.reader.Decoded.TheVariants as says
use Rattle.kc_exec_spec.specs.declared.cpu.Words.{Words}
use Rattle.kc_exec_spec.specs.declared.cpu.After.{After}
use Rattle.kc_exec_spec.specs.declared.plan.Plan.{Plan}
use Rattle.kc_exec_spec.specs.Plans.{plan_of}
use Rattle.kc_exec_spec.specs.Jumping.{next_pc}
use Rattle.kc_exec_spec.specs.BlockMoves.{less_one, word_states_of}
use Rattle.kc_exec_spec.specs.Places.{place_of, jump_taken}
use Rattle.kc_extra.specs.Further.{Further}
use Rattle.kc_machine_spec.specs.declared.doing.Activity.{Activity}
use Rattle.kc_machine_spec.specs.declared.doing.Activity.TheVariants.{Executes, MovesWord, Traps, Breaks}
use Rattle.kc_machine_spec.specs.declared.doing.Going.{Going}
use Rattle.kc_machine_spec.specs.declared.doing.Going.TheVariants.{Moving, Idling, Serving}
use Rattle.kc_machine_spec.specs.declared.doing.UnderWay.{UnderWay}
use Rattle.kc_machine_spec.specs.Board.{masks_of}
use Rattle.kc_machine_spec.specs.Scene.{byte}
use Rattle.kc_machine_spec.specs.Machine.{Machine, scene_of, current, begins, fetches, goes_on, breaks, pushing_states, next_after}
use Rattle.kc_bound.specs.declared.notes.Notes.{Notes}
use Rattle.kc_bound.specs.declared.way.Way.{Way}
use Rattle.kc_bound.specs.declared.way.Way.TheVariants.{To, Call, Back, Out}
use Rattle.kc_bound.specs.declared.certificate.Standing.{Standing}
use Rattle.kc_bound.specs.declared.certificate.Certificate.{Certificate}
use Rattle.kc_bound.specs.Notes.{is_end, targets_at, words_at}
use Rattle.kc_bound.specs.Passes.{is_own, plan_in, begun, opened_by, opened, is_last_work, is_last, is_at_end, after_activity}
use Rattle.kc_bound.specs.Premises.{is_return_plan, is_computed_plan, is_return, is_computed}
use Rattle.kc_bound.specs.Ways.{found_at, ways_at, ways_of, ways_named, ways_planned, unless_end, most_states, image_word, trap_states}
use Rattle.kc_bound.specs.Certified.{standing_at, pays_all, is_sound_at, price_at, credit_at}
use Rattle.kc_bound.specs.Bounded.{IsImage, HoldsImage}
use Rattle.kc_bound.proofs.Activities.{own-goes_on, HasPassed, own-passes}
use Rattle.kc_bound.proofs.Begins.{fetches-found, IsPlaced, begins-placed, trap-most}
use Rattle.kc_bound.proofs.Positive.{placed-some, traps-some, word-some, word-few}
use Rattle.kc_bound.proofs.GoingOn.{GoesOn}
use Rattle.kc_bound.proofs.Follows.{HasEnded, IsFollowed, LeadsTo, Leads, MovesOn, IsTrapped, EndsOr, executes-leads, word-moves, traps-lead, breaks-end}
use Rattle.kc_bound.proofs.Ahead.{Stands, Ready, Begins, Comes, comes-sooner, comes-most, states_on}
use Rattle.kc_bound.proofs.Keeps.{IsBetween, IsGoing, EndsOrGoes, IsAsked, Account, IsOnWay, Keeps, keeps-ended, keeps-arrived, keeps-moving, begun-at, begun-none}
use Rattle.kc_bound.proofs.OnWays.{IsAssumed, Pays, AllPay, Kept, IsDone, Result, first-pays, way-of, ended-on, kept-into, instruction-keeps}

-- how the turns of loops are counted over an activity, by the address that begins
abbrev pub Counted : Notes → Certificate → Option ℕ → ℕ → ℕ → Type 0
Counted notes c None turns after = after ≡ turns
Counted notes c (Some a) turns after = after + price_at notes c a ≤ turns + credit_at notes c a

-- what is assumed of an activity
pub record Assumed {X : Type 0} (notes : Notes) (doing : Activity) (a : ℕ) (calls : List ℕ) (n : Machine X) : Type 0 where
  pub returns : is_return doing ≡ true → (back : ℕ) (more : List ℕ) → calls ≡ back ∷ more → n.ended ≡ None → n.cpu.pc ≡ back
  pub goes : is_computed doing ≡ true → (targets : List ℕ) → targets_at notes a ≡ Some targets → n.ended ≡ None → Contains targets n.cpu.pc
  pub words : (i : Insn) (w : Words) (most : ℕ) → n.going ≡ Some (Moving i w) → words_at notes n.cpu.pc ≡ Some most → w.left ≤ most

-- what is asked of an address that begins
pub asked-pays : (image : List ℕ) (notes : Notes) (from : ℕ) (c : Certificate) (a : ℕ) (here : Standing) → standing_at c a ≡ Some here → IsAsked notes from a
    → is_sound_at image notes from c a (standing_at c a) ≡ true → pays_all notes c a here (ways_at image notes a) ≡ true
asked-pays image notes from c a here there asked sound =
    let one : is_sound_at image notes from c a (Some here) ≡ true = subst (λ o. is_sound_at image notes from c a o ≡ true) there sound in
    subst (λ b. (b || pays_all notes c a here (ways_at image notes a)) ≡ true) asked one

ways-are : (image : List ℕ) (notes : Notes) (a : ℕ) → ways_at image notes a ≡ option_map (map (unless_end notes)) (ways_of image notes (found_at image a) a)
unfolding ways_at
ways-are image notes a = refl

found-whole : (image : List ℕ) (notes : Notes) (c : Certificate) (a : ℕ) (here : Standing) (d : Decoded) → pays_all notes c a here (option_map (map (unless_end notes)) (ways_of image notes d a)) ≡ true → d ≢ says.Short
found-whole image notes c a here d h = λ short. let e : pays_all notes c a here (option_map (map (unless_end notes)) (ways_of image notes says.Short a)) ≡ true = subst (λ x. pays_all notes c a here (option_map (map (unless_end notes)) (ways_of image notes x a)) ≡ true) short h in cc e

-- a machine that still holds the image
still-between : {X : Type 0} (f : Further X) (image : List ℕ) (m : Machine X) → HoldsImage image m → HasPassed f m (after_activity f m) → IsBetween image (after_activity f m)
still-between f image m holds p = record {
  between = p.between;
  holds = record { whole = p.rom.count ∙ holds.whole; rom = λ at h. p.rom.rom at h ∙ holds.rom at h };
}

module _ {X : Type 0} (f : Further X) (image : List ℕ) (notes : Notes) (from : ℕ) (c : Certificate) (rank total : ℕ) where
  -- ---- at the begin of an instruction

  module _ (m : Machine X) (calls : List ℕ) (spent turns after : ℕ) (b : Begins notes c rank total m.cpu.pc calls spent turns after (price_at notes c m.cpu.pc) (credit_at notes c m.cpu.pc)) (holds : HoldsImage image m) (lives : m.ended ≡ None) where
    -- what holds behind an activity with so many states
    abbrev pub Behind : Activity → ℕ → Type 0
    Behind doing now = Keeps image notes from c rank total (is_last doing calls || is_at_end notes (after_activity f m)) (after_activity f m) (opened doing m.cpu.pc calls) now after

    abbrev PayOf : Decoded → Type 0
    PayOf d = AllPay image notes from c rank total m.cpu.pc calls spent turns after b (ways_of image notes d m.cpu.pc)

    -- an undefined use that is found at the start
    breaks-keep : (kind : Kind) (way : Way) → 0 < (current m).left → (current m).left ≤ states_on way → (current m).doing ≡ Breaks kind → IsBetween image (after_activity f m)
        → Pays image notes from c rank total m.cpu.pc calls spent turns after b way → Behind (Breaks kind) (spent + (current m).left)
    breaks-keep kind way some few is still pay =
        ended-on image notes from c rank total m.cpu.pc calls spent turns after b (after_activity f m) (spent + (current m).left) still way calls (omega (arith, few)) pay (breaks-end f kind m lives some is)

    -- the trap of an opcode without an instruction
    traps-keep : 0 < (current m).left → (current m).left ≤ 14 → (current m).doing ≡ Traps → IsBetween image (after_activity f m)
        → Pays image notes from c rank total m.cpu.pc calls spent turns after b (Call 14 (image_word image 0x2012) ((m.cpu.pc + 1) % 0x10000)) → Behind Traps (spent + (current m).left)
    traps-keep some few is still pay =
        kept-into image notes from c rank total m.cpu.pc calls spent turns after b (after_activity f m) (spent + (current m).left) still 14 (image_word image 0x2012) ((m.cpu.pc + 1) % 0x10000) (omega (arith, few)) pay
        (trapped (traps-lead f image m holds.rom lives some is))
      where
        trapped : HasEnded (after_activity f m) ⊎ IsTrapped f image (after_activity f m) → EndsOrGoes (image_word image 0x2012) (after_activity f m)
        trapped (inl ended) = inl ended
        trapped (inr t) = inr (record { pc = t.pc; going = t.going; ended = t.ended })

    -- an instruction
    executes-keeps : (i : Insn) (mnemonic : Mnemonic) → mnemonic_at i.opcode i.signed ≡ Some mnemonic → 0 < (current m).left → (current m).left ≤ most_states (plan_of mnemonic) i (jump_taken (plan_of mnemonic) m.cpu.psw_high)
        → (current m).doing ≡ Executes i → IsBetween image (after_activity f m) → AllPay image notes from c rank total m.cpu.pc calls spent turns after b (ways_planned image notes (plan_of mnemonic) i m.cpu.pc)
        → Assumed notes (Executes i) m.cpu.pc calls (after_activity f m) → Behind (Executes i) (spent + (current m).left)
    executes-keeps i mnemonic named some few is still pay assumed =
        let plan : plan_in i ≡ Some (plan_of mnemonic) = ap (option_map plan_of) named in
        let done : IsDone image notes from c rank total m.cpu.pc calls spent turns after b (after_activity f m) (spent + (current m).left) still (plan_of mnemonic) i m.cpu.psw_high = record {
          soon = omega (arith, few);
          pay = pay;
          assumed = record {
            returns = λ yes. assumed.returns (ap is_return_plan plan ∙ yes);
            goes = λ yes. assumed.goes (ap is_computed_plan plan ∙ yes);
            words = assumed.words;
          };
          follows = executes-leads f image i m mnemonic named holds.rom lives some is;
        } in
        subst (λ (p : Option Plan). Keeps image notes from c rank total (is_last_work p calls || is_at_end notes (after_activity f m)) (after_activity f m) (opened_by p (next_pc i m.cpu.pc) calls) (spent + (current m).left) after) (sym plan)
        (instruction-keeps image notes from c rank total m.cpu.pc calls spent turns after b (after_activity f m) (spent + (current m).left) still (plan_of mnemonic) i m.cpu.psw_high done)

    -- what is known of the activity that begins with what was found
    record IsBegun (d : Decoded) : Type 0 where
      pub begins_so : current m ≡ begins m d
      pub pay : PayOf d
      pub own : is_own (current m).doing ≡ true
      pub assumed : Assumed notes (current m).doing m.cpu.pc calls (after_activity f m)

    abbrev IsKept : Type 0
    IsKept = Behind (current m).doing (spent + (current m).left)

    still : 0 < (current m).left → is_own (current m).doing ≡ true → IsBetween image (after_activity f m)
    still some own = still-between f image m holds (own-passes f m lives some own)

    -- the activity is so, of so many states
    doing-so : (a : UnderWay) → current m ≡ a → 0 < a.left → 0 < (current m).left
    doing-so a e some = subst (λ (x : UnderWay). 0 < x.left) (sym e) some

    placed-keeps : (i : Insn) (size : ℕ) (mnemonic : Mnemonic) → mnemonic_at i.opcode i.signed ≡ Some mnemonic → IsBegun (says.Insn i size) → AllPay image notes from c rank total m.cpu.pc calls spent turns after b (ways_planned image notes (plan_of mnemonic) i m.cpu.pc)
        → IsPlaced (plan_of mnemonic) i m (current m) → 0 < (current m).left → IsKept
    placed-keeps i size mnemonic named h pay p some = by p.doing
      where
        by : ((current m).doing ≡ Executes i) ⊎ ((kind : Kind) × ((current m).doing ≡ Breaks kind)) → IsKept
        by (inl is) =
            subst (λ (d : Activity). Behind d (spent + (current m).left)) (sym is)
            (executes-keeps i mnemonic named some p.states is (still some h.own) pay (subst (λ (d : Activity). Assumed notes d m.cpu.pc calls (after_activity f m)) is h.assumed))
        by (inr broken) =
            let way = way-of image notes from c rank total m.cpu.pc calls spent turns after b (plan_of mnemonic) i m.cpu.psw_high (current m).left p.states pay in
            subst (λ (d : Activity). Behind d (spent + (current m).left)) (sym broken.1) (breaks-keep broken.0 way.0 some way.1 broken.1 (still some h.own) way.2)

    named-keeps : (i : Insn) (size : ℕ) (o : Option Mnemonic) → mnemonic_at i.opcode i.signed ≡ o → IsBegun (says.Insn i size) → AllPay image notes from c rank total m.cpu.pc calls spent turns after b (ways_named image notes o i m.cpu.pc) → IsKept
    named-keeps i size None named h pay = absurd (cc pay)
    named-keeps i size (Some mnemonic) named h pay =
        placed-keeps i size mnemonic named h pay
        (subst (λ (x : UnderWay). IsPlaced (plan_of mnemonic) i m x) (sym h.begins_so) (begins-placed i size m mnemonic named))
        (doing-so (begins m (says.Insn i size)) h.begins_so (placed-some i (place_of i m.cpu (masks_of m.board.units) (byte (scene_of m))) mnemonic named))

    found-keeps : (d : Decoded) → IsBegun d → IsKept
    found-keeps (says.Insn i size) h = named-keeps i size (mnemonic_at i.opcode i.signed) refl h h.pay
    found-keeps says.Unimplemented h =
        let some : 0 < (current m).left = doing-so (begins m says.Unimplemented) h.begins_so (traps-some m) in
        let few : (current m).left ≤ 14 = subst (λ (x : UnderWay). x.left ≤ 14) (sym h.begins_so) (trap-most m) in
        let is : (current m).doing ≡ Traps = ap (λ (x : UnderWay). x.doing) h.begins_so in
        subst (λ (d : Activity). Behind d (spent + (current m).left)) (sym is)
        (traps-keep some few is (still some h.own) (first-pays image notes from c rank total m.cpu.pc calls spent turns after b (Call 14 (image_word image 0x2012) ((m.cpu.pc + 1) % 0x10000)) [] h.pay))
    found-keeps says.Undefined h =
        let left : (current m).left ≡ 2 = ap (λ (x : UnderWay). x.left) h.begins_so in
        let some : 0 < (current m).left = omega (arith, left) in
        let is : (current m).doing ≡ Breaks Opcode = ap (λ (x : UnderWay). x.doing) h.begins_so in
        subst (λ (d : Activity). Behind d (spent + (current m).left)) (sym is)
        (breaks-keep Opcode (Out 2) some (omega (arith, left)) is (still some h.own) (first-pays image notes from c rank total m.cpu.pc calls spent turns after b (Out 2) [] h.pay))
    found-keeps says.Short h = absurd (cc h.pay)

  -- an instruction that begins
  pub begin-keeps : (m : Machine X) (calls : List ℕ) (spent turns after : ℕ) → IsImage image → IsOnWay image notes from c rank total m calls spent turns → m.going ≡ None → m.ended ≡ None → is_own (current m).doing ≡ true
      → ((a : ℕ) → is_sound_at image notes from c a (standing_at c a) ≡ true) → Counted notes c (begun m) turns after → Assumed notes (current m).doing m.cpu.pc calls (after_activity f m)
      → Keeps image notes from c rank total (is_last (current m).doing calls || is_at_end notes (after_activity f m)) (after_activity f m) (opened (current m).doing m.cpu.pc calls) (spent + (current m).left) after
  begin-keeps m calls spent turns after is on none lives own sound counted assumed =
      let account : IsAsked notes from m.cpu.pc × Ready notes c rank total m.cpu.pc calls spent turns = subst (λ (g : Option Going). Account image notes from c rank total g m.cpu.pc calls spent turns) none on.account in
      let b : Begins notes c rank total m.cpu.pc calls spent turns after (price_at notes c m.cpu.pc) (credit_at notes c m.cpu.pc) = record {
        ready = account.1;
        counted = subst (λ (o : Option ℕ). Counted notes c o turns after) (begun-at m lives none) counted;
      } in
      let pays : pays_all notes c m.cpu.pc account.1.here.standing (ways_at image notes m.cpu.pc) ≡ true = asked-pays image notes from c m.cpu.pc account.1.here.standing account.1.here.is_there account.0 (sound m.cpu.pc) in
      let pay : pays_all notes c m.cpu.pc account.1.here.standing (option_map (map (unless_end notes)) (ways_of image notes (found_at image m.cpu.pc) m.cpu.pc)) ≡ true = subst (λ w. pays_all notes c m.cpu.pc account.1.here.standing w ≡ true) (ways-are image notes m.cpu.pc) pays in
      let whole : found_at image m.cpu.pc ≢ says.Short = found-whole image notes c m.cpu.pc account.1.here.standing (found_at image m.cpu.pc) pay in
      let goes : current m ≡ goes_on m m.going = own-goes_on m on.is.between on.free own in
      found-keeps m calls spent turns after b on.is.holds lives (found_at image m.cpu.pc) (record {
        begins_so = goes ∙ ap (goes_on m) none ∙ fetches-found image m is on.is.holds whole;
        pay = pay;
        own = own;
        assumed = assumed;
      })

  -- ---- a word of a block move

  word-keeps : (m : Machine X) (calls : List ℕ) (spent turns : ℕ) (i : Insn) (w : Words) → IsOnWay image notes from c rank total m calls spent turns → m.ended ≡ None → current m ≡ record { doing = MovesWord i w; left = word_states_of w }
      → 0 < w.left → Comes notes c rank total (next_pc i m.cpu.pc) calls (spent + 14 * w.left) turns
      → Keeps image notes from c rank total (is_at_end notes (after_activity f m)) (after_activity f m) calls (spent + (current m).left) turns
  word-keeps m calls spent turns i w on lives so more comes = by (word-moves f i w m lives some is)
    where
      left : (current m).left ≡ word_states_of w
      left = ap (λ (x : UnderWay). x.left) so

      is : (current m).doing ≡ MovesWord i w
      is = ap (λ (x : UnderWay). x.doing) so

      some : 0 < (current m).left
      some = subst (λ k. 0 < k) (sym left) (word-some w)

      few : (current m).left ≤ 14
      few = subst (λ k. k ≤ 14) (sym left) (word-few w)

      own : is_own (current m).doing ≡ true
      own = ap is_own is

      still : IsBetween image (after_activity f m)
      still = still-between f image m on.is.holds (own-passes f m lives some own)

      sooner : (x : ℕ) → spent + (current m).left + x ≤ spent + 14 * w.left → Comes notes c rank total (next_pc i m.cpu.pc) calls (spent + (current m).left + x) turns
      sooner x h = comes-sooner notes c rank total (next_pc i m.cpu.pc) calls (spent + 14 * w.left) (spent + (current m).left + x) turns h comes

      last-word : spent + (current m).left ≤ spent + 14 * w.left
      last-word = omega (arith, few, more)

      on-word : spent + (current m).left + 14 * (w.left - 1) ≤ spent + 14 * w.left
      on-word = omega (arith, few, more)

      comes-now : Comes notes c rank total (next_pc i m.cpu.pc) calls (spent + (current m).left) turns
      comes-now = comes-sooner notes c rank total (next_pc i m.cpu.pc) calls (spent + 14 * w.left) (spent + (current m).left) turns last-word comes

      followed : (h : IsFollowed (MovesOn i w m.cpu.pc) i (after_activity f m)) → MovesOn i w m.cpu.pc h.behind (after_activity f m).cpu.pc
          → Keeps image notes from c rank total (is_at_end notes (after_activity f m)) (after_activity f m) calls (spent + (current m).left) turns
      followed h (inl none) =
          keeps-arrived image notes from c rank total (next_pc i m.cpu.pc) (after_activity f m) calls (spent + (current m).left) turns still
          (record { pc = none.1; going = h.going ∙ ap (λ (x : After). (next_after i x).going) none.0; ended = h.ended ∙ ap (λ (x : After). (next_after i x).ended) none.0 }) comes-now
      followed h (inr rest) =
          keeps-moving image notes from c rank total i (less_one w) m.cpu.pc (after_activity f m) calls (spent + (current m).left) turns still
          (h.ended ∙ ap (λ (x : After). (next_after i x).ended) rest.0) (h.going ∙ ap (λ (x : After). (next_after i x).going) rest.0) (h.held ∙ ap (λ (x : After). (next_after i x).held) rest.0) rest.1 rest.2
          (sooner (14 * (w.left - 1)) on-word)

      by : EndsOr f (MovesOn i w m.cpu.pc) i (after_activity f m) → Keeps image notes from c rank total (is_at_end notes (after_activity f m)) (after_activity f m) calls (spent + (current m).left) turns
      by (inl ended) = keeps-ended image notes from c rank total false (after_activity f m) calls (spent + (current m).left) turns ended (λ no. absurd (cc no)) (comes-most notes c rank total (next_pc i m.cpu.pc) calls (spent + (current m).left) turns comes-now)
      by (inr h) = followed h h.goes

  moving-keeps : (g : Going) (m : Machine X) (calls : List ℕ) (spent turns : ℕ) → IsOnWay image notes from c rank total m calls spent turns → m.going ≡ Some g → m.ended ≡ None → is_own (current m).doing ≡ true
      → Account image notes from c rank total (Some g) m.cpu.pc calls spent turns
      → Keeps image notes from c rank total (is_last (current m).doing calls || is_at_end notes (after_activity f m)) (after_activity f m) (opened (current m).doing m.cpu.pc calls) (spent + (current m).left) turns
  moving-keeps Idling m calls spent turns on some lives own account = absurd account
  moving-keeps (Serving number cycle) m calls spent turns on some lives own account = absurd account
  moving-keeps (Moving i w) m calls spent turns on some lives own account =
      let so : current m ≡ record { doing = MovesWord i w; left = word_states_of w } = own-goes_on m on.is.between on.free own ∙ ap (goes_on m) some in
      let is : (current m).doing ≡ MovesWord i w = ap (λ (x : UnderWay). x.doing) so in
      subst (λ (d : Activity). Keeps image notes from c rank total (is_last d calls || is_at_end notes (after_activity f m)) (after_activity f m) (opened d m.cpu.pc calls) (spent + (current m).left) turns) (sym is)
      (word-keeps m calls spent turns i w on lives so account.0 account.1)

  -- ---- an activity

  pub activity-keeps : (m : Machine X) (calls : List ℕ) (spent turns after : ℕ) → IsImage image → IsOnWay image notes from c rank total m calls spent turns → m.ended ≡ None → is_own (current m).doing ≡ true
      → ((a : ℕ) → is_sound_at image notes from c a (standing_at c a) ≡ true) → Counted notes c (begun m) turns after → Assumed notes (current m).doing m.cpu.pc calls (after_activity f m)
      → Keeps image notes from c rank total (is_last (current m).doing calls || is_at_end notes (after_activity f m)) (after_activity f m) (opened (current m).doing m.cpu.pc calls) (spent + (current m).left) after
  activity-keeps m calls spent turns after is on lives own sound counted assumed = by m.going refl
    where
      by : (g : Option Going) → m.going ≡ g
          → Keeps image notes from c rank total (is_last (current m).doing calls || is_at_end notes (after_activity f m)) (after_activity f m) (opened (current m).doing m.cpu.pc calls) (spent + (current m).left) after
      by None e = begin-keeps m calls spent turns after is on e lives own sound counted assumed
      by (Some g) e =
          let same : after ≡ turns = subst (λ (o : Option ℕ). Counted notes c o turns after) (begun-none m g lives e) counted in
          subst (λ t. Keeps image notes from c rank total (is_last (current m).doing calls || is_at_end notes (after_activity f m)) (after_activity f m) (opened (current m).doing m.cpu.pc calls) (spent + (current m).left) t) (sym same)
          (moving-keeps g m calls spent turns on e lives own (subst (λ (o : Option Going). Account image notes from c rank total o m.cpu.pc calls spent turns) e on.account))
