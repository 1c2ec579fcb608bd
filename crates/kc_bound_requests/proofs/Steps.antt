-- One activity of a pass.
use Rattle.std.proofs.lemmas.Grind.{common_steps}
use Rattle.std.proofs.Common.{◌≡◌, ◌≢◌, ℕ, Bool, true, false, not, ◌+◌, ◌*◌, ◌%◌, ◌<◌, ◌≤◌, ◌==◌, ◌||◌, ◌⊎◌, inl, inr, nat_lt, Option, Result as Answer, Ok, Err, Some, None, List, [], ◌∷◌, map, drop, refl, sym, ◌∙◌, ap, subst, arith}
use Rattle.std.specs.Prelude.{Contains}
use Rattle.std.specs.Option.{option_map}
use Rattle.kc_base.specs.declared.types.Kind.{Kind}
use Rattle.kc_isa.specs.declared.insn.Insn.{Insn}
use Rattle.kc_isa.specs.declared.insn.Place.{Place}
use Rattle.kc_isa.specs.declared.table.Mnemonic.{Mnemonic}
use Rattle.kc_isa.specs.Names.{mnemonic_at}
use Rattle.kc_code.specs.declared.reader.Decoded.{Decoded}
use Rattle.kc_code.specs.declared.reader.Decoded.TheVariants as says
use Rattle.kc_exec_spec.specs.declared.cpu.Words.{Words}
use Rattle.kc_exec_spec.specs.declared.cpu.After.{After}
use Rattle.kc_exec_spec.specs.declared.cpu.After.TheVariants.{MoreWords}
use Rattle.kc_exec_spec.specs.declared.plan.Plan.{Plan}
use Rattle.kc_exec_spec.specs.declared.plan.Plan.TheVariants.{Compute, Move, Jump, Save, Set, BlockMove, Trap, Idle, Reset}
use Rattle.kc_exec_spec.specs.declared.plan.Route.TheVariants.{Always, Call as Calls, Return, When, Bit, CountDown, Table, Register}
use Rattle.kc_exec_spec.specs.Plans.{plan_of}
use Rattle.kc_exec_spec.specs.Jumping.{next_pc, jump_pc, branch_pc, is_taken}
use Rattle.kc_exec_spec.specs.BlockMoves.{less_one, word_states_of}
use Rattle.kc_exec_spec.specs.Places.{place_of}
use Rattle.kc_extra.specs.Further.{Further}
use Rattle.kc_machine_spec.specs.declared.doing.Activity.{Activity}
use Rattle.kc_machine_spec.specs.declared.doing.Activity.TheVariants.{Executes, MovesWord, Traps, Breaks}
use Rattle.kc_machine_spec.specs.declared.doing.Going.{Going}
use Rattle.kc_machine_spec.specs.declared.doing.Going.TheVariants.{Moving, Idling, Serving}
use Rattle.kc_machine_spec.specs.declared.doing.UnderWay.{UnderWay}
use Rattle.kc_machine_spec.specs.Board.{masks_of}
use Rattle.kc_machine_spec.specs.Scene.{byte}
use Rattle.kc_machine_spec.specs.Machine.{Machine, scene_of, current, begins, fetches, goes_on, placed, pushing_states, next_after}
use Rattle.kc_bound.specs.declared.notes.Notes.{Notes}
use Rattle.kc_bound.specs.declared.way.Way.TheVariants.{To, Call, Back}
use Rattle.kc_bound.specs.Notes.{is_end, targets_at, words_at}
use Rattle.kc_bound.specs.Passes.{is_own, plan_in, opened_by, opened, is_last_work, is_last, is_at_end, after_activity}
use Rattle.kc_bound.specs.Premises.{is_return_plan, is_computed_plan, is_return, is_computed}
use Rattle.kc_bound.specs.Ways.{found_at, ways_at, ways_of, ways_named, ways_planned, ways_to, unless_end, most_states, image_word}
use Rattle.kc_bound.specs.Bounded.{IsImage, HoldsImage}
use Rattle.kc_bound.specs.Steps.{StatesAreSome, FoundIsDecoded}
use Rattle.kc_bound.proofs.Activities.{own-goes_on, HasPassed, own-passes}
use Rattle.kc_bound.proofs.GoingOn.{GoesOn, IsPlain}
use Rattle.kc_bound.proofs.Follows.{HasEnded, IsFollowed, LeadsTo, MovesOn, IsTrapped, executes-leads, word-moves, traps-lead, breaks-end}
use Rattle.kc_bound.proofs.Keeps.{IsBetween, GoesPlainly, plainly, at-end}
use Rattle.kc_bound_requests.specs.declared.enabled.Enabled.{Enabled}
use Rattle.kc_bound_requests.specs.declared.certificate.RequestCertificate.{RequestCertificate}
use Rattle.kc_bound_requests.specs.Enabled.{enabled_in, is_enabled, may_leave, may_change}
use Rattle.kc_base.specs.Limits.{image_start, rom_end}
use Rattle.kc_bound_requests.specs.declared.certificate.EnabledAt.{EnabledAt}
use Rattle.kc_bound_requests.specs.Closed.{is_in, nothing, enabled_at, work_of, work_at, is_past, is_interruptible, is_closed_on_all, is_closed_at, is_open_at}
use Rattle.kc_bound_requests.proofs.Sets.{equal, not-empty}
use Rattle.kc_bound_requests.proofs.Activity.{activity-changes, moves-as}
use Rattle.kc_bound_requests.proofs.OnWay.{unheld, Ready, Comes, IsLeft, goes-back, comes-to, comes-into, AllClosed, IsClosedOn, first-closed, second-closed, each-closed, Account, IsOnWay, arrives, open-there}

either-false : (a b : Bool) → (a || b) ≡ false → (a ≡ false) × (b ≡ false)
either-false false b h = (refl, h)
either-false true b h = absurd (cc h)

-- what is assumed of an activity
pub record Assumed {X : Type 0} (notes : Notes) (doing : Activity) (a : ℕ) (calls : List ℕ) (n : Machine X) : Type 0 where
  pub returns : is_return doing ≡ true → (back : ℕ) (more : List ℕ) → calls ≡ back ∷ more → n.ended ≡ None → n.cpu.pc ≡ back
  pub goes : is_computed doing ≡ true → (targets : List ℕ) → targets_at notes a ≡ Some targets → n.ended ≡ None → Contains targets n.cpu.pc

-- a machine that lives has not ended
lives-not : {X : Type 0} {A : Type 0} (n : Machine X) → n.ended ≡ None → HasEnded n ⊎ A → A
lives-not n lives (inl ended) = absurd (let e : Some ended.0 ≡ None = sym ended.1 ∙ lives in cc e)
lives-not n lives (inr a) = a

module _ (image : List ℕ) (notes : Notes) (from : ℕ) (c : RequestCertificate) where
  -- ---- by the kind of work of an instruction

  module _ {X : Type 0} (plan : Plan) (i : Insn) (psw a : ℕ) (calls : List ℕ) (old : Enabled) (n : Machine X) where
    -- where it goes on
    abbrev pub Where : After → ℕ → Type 0
    Where behind pc = GoesOn plan i (record { pc = a; psw_high = psw }) behind pc × LeadsTo image plan pc

    -- what is known of it, where the pass goes on
    pub record IsDone : Type 0 where
      pub is : IsBetween image n
      pub asked : is_past notes from a ≡ false
      pub left : IsLeft image notes from c (Some plan) a calls old (enabled_in n)
      pub closed : AllClosed image notes from c (Some plan) a (ways_planned image notes plan i a)
      pub work : work_at image a ≡ Some plan
      pub returns : is_return_plan (Some plan) ≡ true → (back : ℕ) (more : List ℕ) → calls ≡ back ∷ more → n.cpu.pc ≡ back
      pub goes : is_computed_plan (Some plan) ≡ true → (targets : List ℕ) → targets_at notes a ≡ Some targets → Contains targets n.cpu.pc
      pub moves : (interruptible : Bool) → plan ≡ BlockMove interruptible → (j : Insn) (w : Words) → n.going ≡ Some (Moving j w) → w.interruptible ≡ interruptible
      pub lives : n.ended ≡ None
      pub follows : IsFollowed Where i n
      pub on : (is_last_work (Some plan) calls || is_at_end notes n) ≡ false

    abbrev pub Result : Type 0
    Result = IsOnWay image notes from c n (opened_by (Some plan) (next_pc i a) calls)

    module _ (d : IsDone) where
      -- nothing but an instruction follows
      going-plainly : IsPlain d.follows.behind → n.going ≡ None
      going-plainly plain = let p : GoesPlainly i d.follows.behind = plainly i d.follows.behind plain in d.follows.going ∙ p.going

      no-end : n.going ≡ None → is_end notes n.cpu.pc ≡ false
      no-end going = sym (at-end notes n d.lives going) ∙ (either-false (is_last_work (Some plan) calls) (is_at_end notes n) d.on).1

      on-to : (states target : ℕ) (open_calls : List ℕ) → IsPlain d.follows.behind → n.cpu.pc ≡ target → Comes image notes from c target open_calls (enabled_in n) → IsOnWay image notes from c n open_calls
      on-to states target open_calls plain pc comes = arrives image notes from c target n open_calls d.is (going-plainly plain) pc (no-end (going-plainly plain)) comes

      way-to : (states target : ℕ) → IsPlain d.follows.behind → n.cpu.pc ≡ target → IsClosedOn image notes from c (Some plan) a (To states target) → IsOnWay image notes from c n calls
      way-to states target plain pc closed = on-to states target calls plain pc (comes-to image notes from c (Some plan) a calls old (enabled_in n) d.left states target closed)

      way-into : (states target back : ℕ) → IsPlain d.follows.behind → n.cpu.pc ≡ target → IsClosedOn image notes from c (Some plan) a (Call states target back) → IsOnWay image notes from c n (back ∷ calls)
      way-into states target back plain pc closed = on-to states target (back ∷ calls) plain pc (comes-into image notes from c (Some plan) a calls old (enabled_in n) d.left states target back closed)

      way-branch : (s t : ℕ) (taken : Bool) → IsPlain d.follows.behind → n.cpu.pc ≡ branch_pc taken i a → IsClosedOn image notes from c (Some plan) a (To s (next_pc i a)) → IsClosedOn image notes from c (Some plan) a (To t (jump_pc i a)) → IsOnWay image notes from c n calls
      way-branch s t true plain pc on jump = way-to t (jump_pc i a) plain pc jump
      way-branch s t false plain pc on jump = way-to s (next_pc i a) plain pc on

      -- a computed jump
      way-computed : (s : ℕ) (o : Option (List ℕ)) → targets_at notes a ≡ o → is_computed_plan (Some plan) ≡ true → IsPlain d.follows.behind → AllClosed image notes from c (Some plan) a (option_map (ways_to s) o) → IsOnWay image notes from c n calls
      way-computed s None noted computed plain closed = absurd (cc closed)
      way-computed s (Some targets) noted computed plain closed =
          way-to s n.cpu.pc plain refl (each-closed image notes from c (Some plan) a s targets n.cpu.pc closed (d.goes computed targets noted))

      -- back behind the last call that is open
      way-back : (s : ℕ) (cs : List ℕ) → calls ≡ cs → is_return_plan (Some plan) ≡ true → is_last_work (Some (Jump Return)) cs ≡ false → IsPlain d.follows.behind → IsClosedOn image notes from c (Some plan) a (Back s) → IsOnWay image notes from c n (drop 1 cs)
      way-back s [] opens is_return on plain closed = absurd (cc on)
      way-back s (back ∷ more) opens is_return on plain closed =
          on-to s back more plain (d.returns is_return back more opens) (inr (goes-back image notes from c (Some plan) a calls old (enabled_in n) d.left s back more opens closed))

      -- a block move
      abbrev MovesOrNot : After → ℕ → Type 0
      MovesOrNot behind pc = (IsPlain behind × (pc ≡ next_pc i a)) ⊎ ((w : Words) × (behind ≡ MoreWords w) × (pc ≡ a) × (0 < w.left))

      moves-by : (interruptible : Bool) (s most : ℕ) → plan ≡ BlockMove interruptible → may_leave (Some (BlockMove interruptible)) old (enabled_in n) ≡ true → IsClosedOn image notes from c (Some plan) a (To (s + 14 * most) (next_pc i a)) → MovesOrNot d.follows.behind n.cpu.pc → IsOnWay image notes from c n calls
      moves-by interruptible s most is leaves closed (inl none) = way-to (s + 14 * most) (next_pc i a) none.0 none.1 closed
      moves-by interruptible s most is leaves closed (inr more) =
          let going : n.going ≡ Some (Moving i more.0) = d.follows.going ∙ ap (λ (x : After). (next_after i x).going) more.1 in
          let free : n.held ≡ false = d.follows.held ∙ ap (λ (x : After). (next_after i x).held) more.1 in
          let of_it : more.0.interruptible ≡ interruptible = d.moves interruptible is i more.0 going in
          let same : unheld old ≡ enabled_in n = equal (unheld old) (enabled_in n) leaves in
          let work : is_interruptible (work_at image a) ≡ interruptible = ap is_interruptible (d.work ∙ ap (λ p. Some p) is) in
          let comes : Comes image notes from c (next_pc i a) calls (enabled_in n) = comes-to image notes from c (Some plan) a calls old (enabled_in n) d.left (s + 14 * most) (next_pc i a) closed in
          record {
            is = d.is;
            free = λ held. absurd (let e : false ≡ true = sym free ∙ held in cc e);
            account = subst (λ (g : Option Going). Account image notes from c g n.cpu.pc calls (enabled_in n)) (sym going) (
              λ can on. subst (λ x. is_open_at image notes from c x ≡ true) (sym more.2)
                  (open-there image notes from c a old d.asked d.left.ready.before (subst (λ (e : Enabled). is_enabled e ≡ true) (sym same) on) (either-true (not old.held) (is_interruptible (work_at image a)) (work ∙ sym of_it ∙ can))),
              subst (λ x. Comes image notes from c (next_pc i x) calls (unheld (enabled_in n))) (sym more.2) (subst (λ (e : Enabled). Comes image notes from c (next_pc i a) calls e) (sym same ∙ ap unheld same) comes),
            );
          }
        where
          either-true : (x y : Bool) → y ≡ true → (x || y) ≡ true
          either-true true y h = refl
          either-true false y h = h

      way-block : (interruptible : Bool) (s : ℕ) (o : Option ℕ) → plan ≡ BlockMove interruptible → may_leave (Some (BlockMove interruptible)) old (enabled_in n) ≡ true → AllClosed image notes from c (Some plan) a (option_map (λ most. To (s + 14 * most) (next_pc i a) ∷ []) o) → MovesOrNot d.follows.behind n.cpu.pc → IsOnWay image notes from c n calls
      way-block interruptible s None is leaves closed moves = absurd (cc closed)
      way-block interruptible s (Some most) is leaves closed moves = moves-by interruptible s most is leaves (first-closed image notes from c (Some plan) a (To (s + 14 * most) (next_pc i a)) [] closed) moves

  instruction-goes : {X : Type 0} (plan : Plan) (i : Insn) (psw a : ℕ) (calls : List ℕ) (old : Enabled) (n : Machine X) → IsDone plan i psw a calls old n → Result plan i psw a calls old n
  instruction-goes (Compute how) i psw a calls old n d =
      let s : ℕ = most_states (Compute how) i false in
      way-to (Compute how) i psw a calls old n d s (next_pc i a) d.follows.goes.0.0 d.follows.goes.0.1 (first-closed image notes from c (Some (Compute how)) a (To s (next_pc i a)) [] d.closed)
  instruction-goes (Move how) i psw a calls old n d =
      let s : ℕ = most_states (Move how) i false in
      way-to (Move how) i psw a calls old n d s (next_pc i a) d.follows.goes.0.0 d.follows.goes.0.1 (first-closed image notes from c (Some (Move how)) a (To s (next_pc i a)) [] d.closed)
  instruction-goes (Save how) i psw a calls old n d =
      let s : ℕ = most_states (Save how) i false in
      way-to (Save how) i psw a calls old n d s (next_pc i a) d.follows.goes.0.0 d.follows.goes.0.1 (first-closed image notes from c (Some (Save how)) a (To s (next_pc i a)) [] d.closed)
  instruction-goes (Set set) i psw a calls old n d =
      let s : ℕ = most_states (Set set) i false in
      way-to (Set set) i psw a calls old n d s (next_pc i a) d.follows.goes.0.0 d.follows.goes.0.1 (first-closed image notes from c (Some (Set set)) a (To s (next_pc i a)) [] d.closed)
  instruction-goes (Jump Always) i psw a calls old n d =
      let s : ℕ = most_states (Jump Always) i false in
      way-to (Jump Always) i psw a calls old n d s (jump_pc i a) d.follows.goes.0.0 d.follows.goes.0.1 (first-closed image notes from c (Some (Jump Always)) a (To s (jump_pc i a)) [] d.closed)
  instruction-goes (Jump Calls) i psw a calls old n d =
      let s : ℕ = most_states (Jump Calls) i false in
      way-into (Jump Calls) i psw a calls old n d s (jump_pc i a) (next_pc i a) d.follows.goes.0.0 d.follows.goes.0.1 (first-closed image notes from c (Some (Jump Calls)) a (Call s (jump_pc i a) (next_pc i a)) [] d.closed)
  instruction-goes (Jump Return) i psw a calls old n d =
      let s : ℕ = most_states (Jump Return) i false in
      way-back (Jump Return) i psw a calls old n d s calls refl refl (either-false (is_last_work (Some (Jump Return)) calls) (is_at_end notes n) d.on).0 d.follows.goes.0 (first-closed image notes from c (Some (Jump Return)) a (Back s) [] d.closed)
  instruction-goes (Jump (When test wanted)) i psw a calls old n d =
      let s : ℕ = most_states (Jump (When test wanted)) i false in
      let t : ℕ = most_states (Jump (When test wanted)) i true in
      way-branch (Jump (When test wanted)) i psw a calls old n d s t (is_taken test wanted psw) d.follows.goes.0.0 d.follows.goes.0.1
      (first-closed image notes from c (Some (Jump (When test wanted))) a (To s (next_pc i a)) (To t (jump_pc i a) ∷ []) d.closed) (second-closed image notes from c (Some (Jump (When test wanted))) a (To s (next_pc i a)) (To t (jump_pc i a)) [] d.closed)
  instruction-goes (Jump (Bit set)) i psw a calls old n d =
      let s : ℕ = most_states (Jump (Bit set)) i false in
      way-branch (Jump (Bit set)) i psw a calls old n d s s d.follows.goes.0.1.0 d.follows.goes.0.0 d.follows.goes.0.1.1
      (first-closed image notes from c (Some (Jump (Bit set))) a (To s (next_pc i a)) (To s (jump_pc i a) ∷ []) d.closed) (second-closed image notes from c (Some (Jump (Bit set))) a (To s (next_pc i a)) (To s (jump_pc i a)) [] d.closed)
  instruction-goes (Jump (CountDown byte)) i psw a calls old n d =
      let s : ℕ = most_states (Jump (CountDown byte)) i false in
      way-branch (Jump (CountDown byte)) i psw a calls old n d s s d.follows.goes.0.1.0 d.follows.goes.0.0 d.follows.goes.0.1.1
      (first-closed image notes from c (Some (Jump (CountDown byte))) a (To s (next_pc i a)) (To s (jump_pc i a) ∷ []) d.closed) (second-closed image notes from c (Some (Jump (CountDown byte))) a (To s (next_pc i a)) (To s (jump_pc i a)) [] d.closed)
  instruction-goes (Jump Table) i psw a calls old n d = way-computed (Jump Table) i psw a calls old n d (most_states (Jump Table) i false) (targets_at notes a) refl refl d.follows.goes.0 d.closed
  instruction-goes (Jump Register) i psw a calls old n d = way-computed (Jump Register) i psw a calls old n d (most_states (Jump Register) i false) (targets_at notes a) refl refl d.follows.goes.0 d.closed
  instruction-goes (BlockMove interruptible) i psw a calls old n d = way-block (BlockMove interruptible) i psw a calls old n d interruptible (most_states (BlockMove interruptible) i false) (words_at notes a) refl d.left.leaves d.closed d.follows.goes.0
  instruction-goes Trap i psw a calls old n d =
      let s : ℕ = most_states Trap i false in
      way-into Trap i psw a calls old n d s (image_word image 0x2010) (next_pc i a) d.follows.goes.0 d.follows.goes.1 (first-closed image notes from c (Some Trap) a (Call s (image_word image 0x2010) (next_pc i a)) [] d.closed)
  instruction-goes Idle i psw a calls old n d = absurd (cc d.on)
  instruction-goes Reset i psw a calls old n d = absurd (cc d.on)

-- ---- the activity that begins

-- an address with something before it is one of the ROM
nothing-there : (c : RequestCertificate) (a : ℕ) (e : Enabled) → (nat_lt a image_start || not (nat_lt a rom_end)) ≡ true → is_in (enabled_at c a).before e ≡ true → ⊥
nothing-there c a e out there =
    let none : enabled_at c a ≡ nothing = rw out refl in
    let no : ((enabled_at c a).before.bits == 0) ≡ true = ap (λ (x : EnabledAt). x.before.bits == 0) none in
    let e : true ≡ false = sym no ∙ not-empty (enabled_at c a).before e there in
    cc e

pub in-rom : (c : RequestCertificate) (a : ℕ) (e : Enabled) → is_in (enabled_at c a).before e ≡ true → (image_start ≤ a) × (a < rom_end)
in-rom c a e there = by (nat_lt a image_start) (nat_lt a rom_end) refl refl
  where
    by : (low inside : Bool) → nat_lt a image_start ≡ low → nat_lt a rom_end ≡ inside → (image_start ≤ a) × (a < rom_end)
    by true inside l i = absurd (nothing-there c a e (rw l refl) there)
    by false false l i = absurd (nothing-there c a e (rw (l, i) refl) there)
    by false true l i = (grind (arith, common_steps), grind (arith, common_steps))

-- an instruction, or the undefined use that is found at its start
placed-is : (i : Insn) (r : Answer Place Kind) → ((placed i r).doing ≡ Executes i) ⊎ ((kind : Kind) × ((placed i r).doing ≡ Breaks kind))
placed-is i (Ok place) = inl refl
placed-is i (Err kind) = inr (kind, refl)

placed-some : StatesAreSome → (i : Insn) (r : Answer Place Kind) (mnemonic : Mnemonic) → mnemonic_at i.opcode i.signed ≡ Some mnemonic → 0 < (placed i r).left
placed-some some i (Ok place) mnemonic named = some i place mnemonic named
placed-some some i (Err kind) mnemonic named = omega arith

traps-some : {X : Type 0} (m : Machine X) → 0 < pushing_states m
traps-some m = grind (arith, common_steps)

word-some : (w : Words) → 0 < word_states_of w
word-some w = omega arith

-- a machine that still holds the image
still-between : {X : Type 0} (f : Further X) (image : List ℕ) (m : Machine X) → HoldsImage image m → HasPassed f m (after_activity f m) → IsBetween image (after_activity f m)
still-between f image m holds p = record {
  between = p.between;
  holds = record { whole = p.rom.count ∙ holds.whole; rom = λ at h. p.rom.rom at h ∙ holds.rom at h };
}

ways-are : (image : List ℕ) (notes : Notes) (a : ℕ) → ways_at image notes a ≡ option_map (map (unless_end notes)) (ways_of image notes (found_at image a) a)
unfolding ways_at
ways-are image notes a = refl

module _ {X : Type 0} (decoded : FoundIsDecoded X) (some : StatesAreSome) (f : Further X) (image : List ℕ) (notes : Notes) (from : ℕ) (c : RequestCertificate) where
  -- what is known of a moment at which the pass goes on
  pub record GoesOnThere (m : Machine X) (calls : List ℕ) : Type 0 where
    pub lives : m.ended ≡ None
    pub own : is_own (current m).doing ≡ true
    pub assumed : Assumed notes (current m).doing m.cpu.pc calls (after_activity f m)
    pub after : (after_activity f m).ended ≡ None
    pub on : (is_last (current m).doing calls || is_at_end notes (after_activity f m)) ≡ false

  abbrev pub Goal : Machine X → List ℕ → Activity → Type 0
  Goal m calls doing = IsOnWay image notes from c (after_activity f m) (opened doing m.cpu.pc calls)

  -- ---- at the begin of an instruction

  module _ (m : Machine X) (calls : List ℕ) (holds : HoldsImage image m) (asked : is_past notes from m.cpu.pc ≡ false) (ready : Ready image notes from c m.cpu.pc calls (enabled_in m)) (g : GoesOnThere m calls) where
    abbrev ClosedOf : Decoded → Type 0
    ClosedOf d = AllClosed image notes from c (work_of d) m.cpu.pc (ways_of image notes d m.cpu.pc)

    still : 0 < (current m).left → IsBetween image (after_activity f m)
    still left = still-between f image m holds (own-passes f m g.lives left g.own)

    changes : 0 < (current m).left → may_change (current m).doing (enabled_in m) (enabled_in (after_activity f m)) ≡ true
    changes left = activity-changes f m g.lives left g.own g.after

    executes-goes : (i : Insn) (mnemonic : Mnemonic) → mnemonic_at i.opcode i.signed ≡ Some mnemonic → 0 < (current m).left → (current m).doing ≡ Executes i → AllClosed image notes from c (Some (plan_of mnemonic)) m.cpu.pc (ways_planned image notes (plan_of mnemonic) i m.cpu.pc)
        → work_at image m.cpu.pc ≡ Some (plan_of mnemonic) → Goal m calls (Executes i)
    executes-goes i mnemonic named left is closed work =
        let plan : plan_in i ≡ Some (plan_of mnemonic) = ap (option_map plan_of) named in
        let assumed : Assumed notes (Executes i) m.cpu.pc calls (after_activity f m) = subst (λ (d : Activity). Assumed notes d m.cpu.pc calls (after_activity f m)) is g.assumed in
        let change : may_leave (plan_in i) (enabled_in m) (enabled_in (after_activity f m)) ≡ true = subst (λ (d : Activity). may_change d (enabled_in m) (enabled_in (after_activity f m)) ≡ true) is (changes left) in
        let on : (is_last (Executes i) calls || is_at_end notes (after_activity f m)) ≡ false = subst (λ (d : Activity). (is_last d calls || is_at_end notes (after_activity f m)) ≡ false) is g.on in
        subst (λ (p : Option Plan). IsOnWay image notes from c (after_activity f m) (opened_by p (next_pc i m.cpu.pc) calls)) (sym plan)
        (instruction-goes image notes from c (plan_of mnemonic) i m.cpu.psw_high m.cpu.pc calls (enabled_in m) (after_activity f m) (record {
          is = still left;
          asked = asked;
          left = record { ready = ready; leaves = subst (λ (p : Option Plan). may_leave p (enabled_in m) (enabled_in (after_activity f m)) ≡ true) plan change };
          closed = closed;
          work = work;
          returns = λ is_so back more opens. assumed.returns (ap is_return_plan plan ∙ is_so) back more opens g.after;
          goes = λ is_so targets noted. assumed.goes (ap is_computed_plan plan ∙ is_so) targets noted g.after;
          moves = λ interruptible kind. moves-as f interruptible mnemonic i m named kind g.lives left is g.after;
          lives = g.after;
          follows = lives-not (after_activity f m) g.after (executes-leads f image i m mnemonic named holds.rom g.lives left is);
          on = subst (λ (p : Option Plan). (is_last_work p calls || is_at_end notes (after_activity f m)) ≡ false) plan on;
        }))

    -- the trap of an opcode without an instruction
    traps-go : 0 < (current m).left → (current m).doing ≡ Traps → IsClosedOn image notes from c (Some Trap) m.cpu.pc (Call 14 (image_word image 0x2012) ((m.cpu.pc + 1) % 0x10000)) → Goal m calls Traps
    traps-go left is closed =
        let t : IsTrapped f image (after_activity f m) = lives-not (after_activity f m) g.after (traps-lead f image m holds.rom g.lives left is) in
        let change : may_leave (Some Trap) (enabled_in m) (enabled_in (after_activity f m)) ≡ true = subst (λ (d : Activity). may_change d (enabled_in m) (enabled_in (after_activity f m)) ≡ true) is (changes left) in
        let on : is_at_end notes (after_activity f m) ≡ false = (either-false (is_last (current m).doing calls) (is_at_end notes (after_activity f m)) g.on).1 in
        arrives image notes from c (image_word image 0x2012) (after_activity f m) (((m.cpu.pc + 1) % 0x10000) ∷ calls) (still left) t.going t.pc (sym (at-end notes (after_activity f m) g.after t.going) ∙ on)
        (comes-into image notes from c (Some Trap) m.cpu.pc calls (enabled_in m) (enabled_in (after_activity f m)) (record { ready = ready; leaves = change }) 14 (image_word image 0x2012) ((m.cpu.pc + 1) % 0x10000) closed)

    -- an undefined use that is found at the start ends the run
    breaks-not : (kind : Kind) → 0 < (current m).left → (current m).doing ≡ Breaks kind → ⊥
    breaks-not kind left is =
        let ended : HasEnded (after_activity f m) = breaks-end f kind m g.lives left is in
        let e : Some ended.0 ≡ None = sym ended.1 ∙ g.after in
        cc e

    doing-so : (a : UnderWay) → current m ≡ a → 0 < a.left → 0 < (current m).left
    doing-so a e left = subst (λ (x : UnderWay). 0 < x.left) (sym e) left

    named-goes : (i : Insn) (size : ℕ) (o : Option Mnemonic) → mnemonic_at i.opcode i.signed ≡ o → current m ≡ begins m (says.Insn i size) → found_at image m.cpu.pc ≡ says.Insn i size
        → AllClosed image notes from c (option_map plan_of o) m.cpu.pc (ways_named image notes o i m.cpu.pc) → Goal m calls (current m).doing
    named-goes i size None named so found closed = absurd (cc closed)
    named-goes i size (Some mnemonic) named so found closed =
        let place : Answer Place Kind = place_of i m.cpu (masks_of m.board.units) (byte (scene_of m)) in
        let left : 0 < (current m).left = doing-so (begins m (says.Insn i size)) so (placed-some some i place mnemonic named) in
        let is : (current m).doing ≡ (placed i place).doing = ap (λ (x : UnderWay). x.doing) so in
        let work : work_at image m.cpu.pc ≡ Some (plan_of mnemonic) = ap work_of found ∙ ap (option_map plan_of) named in
        elim (placed-is i place) [
          | inl executes ↦ subst (Goal m calls) (sym (is ∙ executes)) (executes-goes i mnemonic named left (is ∙ executes) closed work)
          | inr broken ↦ absurd (breaks-not broken.0 left (is ∙ broken.1))
        ]

    found-goes : (d : Decoded) → found_at image m.cpu.pc ≡ d → current m ≡ begins m d → ClosedOf d → Goal m calls (current m).doing
    found-goes (says.Insn i size) found so closed = named-goes i size (mnemonic_at i.opcode i.signed) refl so found closed
    found-goes says.Unimplemented found so closed =
        let left : 0 < (current m).left = doing-so (begins m says.Unimplemented) so (traps-some m) in
        let is : (current m).doing ≡ Traps = ap (λ (x : UnderWay). x.doing) so in
        subst (Goal m calls) (sym is) (traps-go left is (first-closed image notes from c (Some Trap) m.cpu.pc (Call 14 (image_word image 0x2012) ((m.cpu.pc + 1) % 0x10000)) [] closed))
    found-goes says.Undefined found so closed =
        let left : (current m).left ≡ 2 = ap (λ (x : UnderWay). x.left) so in
        absurd (breaks-not _ (omega (arith, left)) (ap (λ (x : UnderWay). x.doing) so))
    found-goes says.Short found so closed = absurd (cc closed)

  found-whole : (a : ℕ) (d : Decoded) → AllClosed image notes from c (work_of d) a (ways_of image notes d a) → d ≢ says.Short
  found-whole a d closed = λ short. let e : AllClosed image notes from c (work_of says.Short) a (ways_of image notes says.Short a) = subst (λ x. AllClosed image notes from c (work_of x) a (ways_of image notes x a)) short closed in cc e

  -- what the machine fetches is what stands there
  fetches-so : (m : Machine X) → IsImage image → HoldsImage image m → image_start ≤ m.cpu.pc → m.cpu.pc < rom_end → found_at image m.cpu.pc ≢ says.Short → fetches m ≡ begins m (found_at image m.cpu.pc)
  unfolding fetches
  fetches-so m is holds low high whole = ap (begins m) (decoded image m m.cpu.pc is holds low high whole)

  -- what is asked of an address
  asked-closed : (a : ℕ) (e : Enabled) → is_in (enabled_at c a).before e ≡ true → is_past notes from a ≡ false → is_closed_at image notes from c a ≡ true → AllClosed image notes from c (work_at image a) a (ways_of image notes (found_at image a) a)
  asked-closed a e there asked closed =
      let all : is_closed_on_all c (work_at image a) (enabled_at c a) (ways_at image notes a) ≡ true = rw (not-empty (enabled_at c a).before e there, asked) at closed in
      subst (λ w. is_closed_on_all c (work_at image a) (enabled_at c a) w ≡ true) (ways-are image notes a) all

  begin-goes : (m : Machine X) (calls : List ℕ) → IsImage image → IsOnWay image notes from c m calls → m.going ≡ None → GoesOnThere m calls → ((a : ℕ) → is_closed_at image notes from c a ≡ true) → Goal m calls (current m).doing
  begin-goes m calls is on none g closed =
      let account : (is_past notes from m.cpu.pc ≡ false) × Ready image notes from c m.cpu.pc calls (enabled_in m) = subst (λ (x : Option Going). Account image notes from c x m.cpu.pc calls (enabled_in m)) none on.account in
      let all : AllClosed image notes from c (work_at image m.cpu.pc) m.cpu.pc (ways_of image notes (found_at image m.cpu.pc) m.cpu.pc) = asked-closed m.cpu.pc (enabled_in m) account.1.before account.0 (closed m.cpu.pc) in
      let whole : found_at image m.cpu.pc ≢ says.Short = found-whole m.cpu.pc (found_at image m.cpu.pc) all in
      let rom : (image_start ≤ m.cpu.pc) × (m.cpu.pc < rom_end) = in-rom c m.cpu.pc (enabled_in m) account.1.before in
      let goes : current m ≡ goes_on m m.going = own-goes_on m on.is.between on.free g.own in
      found-goes m calls on.is.holds account.0 account.1 g (found_at image m.cpu.pc) refl (goes ∙ ap (goes_on m) none ∙ fetches-so m is on.is.holds rom.0 rom.1 whole) all

  -- ---- a word of a block move

  word-goes : (m : Machine X) (calls : List ℕ) (i : Insn) (w : Words) → IsOnWay image notes from c m calls → GoesOnThere m calls → current m ≡ record { doing = MovesWord i w; left = word_states_of w } → Account image notes from c (Some (Moving i w)) m.cpu.pc calls (enabled_in m)
      → Goal m calls (MovesWord i w)
  word-goes m calls i w on g so account = by follows follows.goes
    where
      left : 0 < (current m).left
      left = subst (λ (x : UnderWay). 0 < x.left) (sym so) (word-some w)

      is : (current m).doing ≡ MovesWord i w
      is = ap (λ (x : UnderWay). x.doing) so

      still-there : IsBetween image (after_activity f m)
      still-there = still-between f image m on.is.holds (own-passes f m g.lives left g.own)

      follows : IsFollowed (MovesOn i w m.cpu.pc) i (after_activity f m)
      follows = lives-not (after_activity f m) g.after (word-moves f i w m g.lives left is)

      same : unheld (enabled_in m) ≡ enabled_in (after_activity f m)
      same = equal (unheld (enabled_in m)) (enabled_in (after_activity f m)) (subst (λ (d : Activity). may_change d (enabled_in m) (enabled_in (after_activity f m)) ≡ true) is (activity-changes f m g.lives left g.own g.after))

      comes : Comes image notes from c (next_pc i m.cpu.pc) calls (enabled_in (after_activity f m))
      comes = subst (λ (e : Enabled). Comes image notes from c (next_pc i m.cpu.pc) calls e) same account.1

      by : (h : IsFollowed (MovesOn i w m.cpu.pc) i (after_activity f m)) → MovesOn i w m.cpu.pc h.behind (after_activity f m).cpu.pc → IsOnWay image notes from c (after_activity f m) calls
      by h (inl none) =
          let going : (after_activity f m).going ≡ None = h.going ∙ ap (λ (x : After). (next_after i x).going) none.0 in
          let on_there : is_at_end notes (after_activity f m) ≡ false = (either-false (is_last (current m).doing calls) (is_at_end notes (after_activity f m)) g.on).1 in
          arrives image notes from c (next_pc i m.cpu.pc) (after_activity f m) calls still-there going none.1 (sym (at-end notes (after_activity f m) g.after going) ∙ on_there) comes
      by h (inr rest) =
          let going : (after_activity f m).going ≡ Some (Moving i (less_one w)) = h.going ∙ ap (λ (x : After). (next_after i x).going) rest.0 in
          let free : (after_activity f m).held ≡ false = h.held ∙ ap (λ (x : After). (next_after i x).held) rest.0 in
          record {
            is = still-there;
            free = λ held. absurd (let e : false ≡ true = sym free ∙ held in cc e);
            account = subst (λ (x : Option Going). Account image notes from c x (after_activity f m).cpu.pc calls (enabled_in (after_activity f m))) (sym going) (
              λ can enabled. subst (λ a. is_open_at image notes from c a ≡ true) (sym rest.1) (account.0 can (subst (λ (e : Enabled). is_enabled e ≡ true) (sym same) enabled)),
              subst (λ a. Comes image notes from c (next_pc i a) calls (unheld (enabled_in (after_activity f m)))) (sym rest.1) (subst (λ (e : Enabled). Comes image notes from c (next_pc i m.cpu.pc) calls e) (sym (sym (ap unheld same))) account.1),
            );
          }

  moving-goes : (x : Going) (m : Machine X) (calls : List ℕ) → IsOnWay image notes from c m calls → m.going ≡ Some x → GoesOnThere m calls → Account image notes from c (Some x) m.cpu.pc calls (enabled_in m) → Goal m calls (current m).doing
  moving-goes Idling m calls on going g account = absurd account
  moving-goes (Serving number cycle) m calls on going g account = absurd account
  moving-goes (Moving i w) m calls on going g account =
      let so : current m ≡ record { doing = MovesWord i w; left = word_states_of w } = own-goes_on m on.is.between on.free g.own ∙ ap (goes_on m) going in
      subst (Goal m calls) (sym (ap (λ (x : UnderWay). x.doing) so)) (word-goes m calls i w on g so account)

  -- ---- an activity

  pub activity-goes : (m : Machine X) (calls : List ℕ) → IsImage image → IsOnWay image notes from c m calls → GoesOnThere m calls → ((a : ℕ) → is_closed_at image notes from c a ≡ true) → Goal m calls (current m).doing
  activity-goes m calls is on g closed = by m.going refl
    where
      by : (x : Option Going) → m.going ≡ x → Goal m calls (current m).doing
      by None e = begin-goes m calls is on e g closed
      by (Some x) e = moving-goes x m calls on e g (subst (λ (y : Option Going). Account image notes from c y m.cpu.pc calls (enabled_in m)) e on.account)
