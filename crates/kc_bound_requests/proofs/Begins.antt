-- The activity of an instruction that begins at an address with ways on.
use Rattle.std.proofs.Common.{◌≡◌, ℕ, Bool, true, false, ◌+◌, ◌%◌, ◌<◌, ◌≤◌, ◌⊎◌, inl, inr, Option, Result as Answer, Ok, Err, Some, None, List, [], ◌∷◌, refl, sym, ◌∙◌, ap, subst, arith}
use Rattle.std.proofs.lemmas.Grind.{common_steps}
use Rattle.std.specs.Prelude.{Contains, max}
use Rattle.std.specs.Option.{option_map}
use Rattle.kc_base.specs.declared.types.Kind.{Kind}
use Rattle.kc_isa.specs.declared.insn.Insn.{Insn}
use Rattle.kc_isa.specs.declared.insn.Place.{Place}
use Rattle.kc_isa.specs.declared.table.Mnemonic.{Mnemonic}
use Rattle.kc_isa.specs.Names.{mnemonic_at}
use Rattle.kc_isa.specs.Formed.{states_of}
use Rattle.kc_code.specs.declared.reader.Decoded.{Decoded}
use Rattle.kc_code.specs.declared.reader.Decoded.TheVariants as says
use Rattle.kc_exec_spec.specs.declared.cpu.Words.{Words}
use Rattle.kc_exec_spec.specs.declared.plan.Plan.{Plan}
use Rattle.kc_exec_spec.specs.declared.plan.Plan.TheVariants.{Trap}
use Rattle.kc_exec_spec.specs.Plans.{plan_of}
use Rattle.kc_exec_spec.specs.Jumping.{next_pc}
use Rattle.kc_exec_spec.specs.Places.{place_of, planned_place, jump_taken}
use Rattle.kc_extra.specs.Further.{Further}
use Rattle.kc_machine_spec.specs.declared.doing.Activity.{Activity}
use Rattle.kc_machine_spec.specs.declared.doing.Activity.TheVariants.{Executes, Traps, Breaks}
use Rattle.kc_machine_spec.specs.declared.doing.Going.TheVariants.{Moving}
use Rattle.kc_machine_spec.specs.declared.doing.UnderWay.{UnderWay}
use Rattle.kc_machine_spec.specs.Board.{masks_of}
use Rattle.kc_machine_spec.specs.Scene.{byte}
use Rattle.kc_machine_spec.specs.Machine.{Machine, scene_of, current, begins, placed, pushing_states}
use Rattle.kc_bound.specs.declared.notes.Notes.{Notes}
use Rattle.kc_bound.specs.declared.way.Way.{Way}
use Rattle.kc_bound.specs.declared.way.Way.TheVariants.{Call, Out}
use Rattle.kc_bound.specs.Notes.{targets_at, words_at}
use Rattle.kc_bound.specs.Passes.{plan_in, opened_by, opened, is_last_work, is_last, after_activity}
use Rattle.kc_bound.specs.Premises.{is_return_plan, is_computed_plan, is_return, is_computed}
use Rattle.kc_bound.specs.Ways.{ways_of, ways_named, ways_planned, most_states, image_word}
use Rattle.kc_bound.specs.Bounded.{HoldsImage}
use Rattle.kc_bound.specs.Steps.{StatesAreMost, StatesAreSome}
use Rattle.kc_bound.proofs.Follows.{HasEnded, IsTrapped, executes-leads, traps-lead, breaks-end}
use Rattle.kc_bound_requests.specs.declared.enabled.Enabled.{Enabled}
use Rattle.kc_bound_requests.specs.Enabled.{may_leave, may_change}
use Rattle.kc_bound_requests.specs.Closed.{work_of}
use Rattle.kc_bound_requests.proofs.Activity.{moves-as}
use Rattle.kc_bound_requests.proofs.Ways.{AllPass, first-passes, HasWay, Went, way-of, instruction-went}

-- what is assumed of an activity
pub record Assumed {X : Type 0} (notes : Notes) (doing : Activity) (a : ℕ) (calls : List ℕ) (n : Machine X) : Type 0 where
  pub returns : is_return doing ≡ true → (back : ℕ) (more : List ℕ) → calls ≡ back ∷ more → n.ended ≡ None → n.cpu.pc ≡ back
  pub goes : is_computed doing ≡ true → (targets : List ℕ) → targets_at notes a ≡ Some targets → n.ended ≡ None → Contains targets n.cpu.pc
  pub words : (i : Insn) (w : Words) (most : ℕ) → n.going ≡ Some (Moving i w) → words_at notes n.cpu.pc ≡ Some most → w.left ≤ most

pub lives-not : {X : Type 0} {A : Type 0} (n : Machine X) → n.ended ≡ None → HasEnded n ⊎ A → A
lives-not n lives (inl ended) = absurd (let e : Some ended.0 ≡ None = sym ended.1 ∙ lives in cc e)
lives-not n lives (inr a) = a

-- an instruction, or the undefined use that is found at its start
record IsPlaced {X : Type 0} (plan : Plan) (i : Insn) (m : Machine X) (a : UnderWay) : Type 0 where
  pub doing : (a.doing ≡ Executes i) ⊎ ((kind : Kind) × (a.doing ≡ Breaks kind))
  pub most : a.left ≤ most_states plan i (jump_taken plan m.cpu.psw_high)
  pub some : 0 < a.left

two-at-most : (n : ℕ) → 2 ≤ max 2 n
two-at-most n = omega arith

in-max : (k n : ℕ) → k ≤ n → k ≤ max 2 n
in-max k n h = omega (arith, h)

trap-most : {X : Type 0} (m : Machine X) → pushing_states m ≤ 14
trap-most m = grind (arith, common_steps)

traps-some : {X : Type 0} (m : Machine X) → 0 < pushing_states m
traps-some m = grind (arith, common_steps)

module _ {X : Type 0} (most : StatesAreMost) (some : StatesAreSome) where
  placed-by : (mnemonic : Mnemonic) (i : Insn) (m : Machine X) (r : Answer Place Kind) → mnemonic_at i.opcode i.signed ≡ Some mnemonic
      → r ≡ planned_place (plan_of mnemonic) i m.cpu.psw_high (masks_of m.board.units).wsr (byte (scene_of m)) → IsPlaced (plan_of mnemonic) i m (placed i r)
  placed-by mnemonic i m (Ok p) named e =
      let h = most (plan_of mnemonic) i m.cpu.psw_high (masks_of m.board.units).wsr (byte (scene_of m)) p (sym e) in
      record { doing = inl refl; most = subst (λ t. states_of i p ≤ most_states (plan_of mnemonic) i t) h.1 h.0; some = some i p mnemonic named }
  placed-by mnemonic i m (Err kind) named e = record { doing = inr (kind, refl); most = two-at-most _; some = omega arith }

  named-place : (i : Insn) (m : Machine X) (mnemonic : Mnemonic) → mnemonic_at i.opcode i.signed ≡ Some mnemonic
      → place_of i m.cpu (masks_of m.board.units) (byte (scene_of m)) ≡ planned_place (plan_of mnemonic) i m.cpu.psw_high (masks_of m.board.units).wsr (byte (scene_of m))
  unfolding place_of
  named-place i m mnemonic e = rw (e, place_of) refl

  begins-placed : (i : Insn) (size : ℕ) (m : Machine X) (mnemonic : Mnemonic) → mnemonic_at i.opcode i.signed ≡ Some mnemonic → IsPlaced (plan_of mnemonic) i m (begins m (says.Insn i size))
  begins-placed i size m mnemonic named = placed-by mnemonic i m (place_of i m.cpu (masks_of m.board.units) (byte (scene_of m))) named (named-place i m mnemonic named)

module _ {X : Type 0} (most : StatesAreMost) (some : StatesAreSome) (f : Further X) (image : List ℕ) (notes : Notes) (test : Way → Bool) (m : Machine X) (calls : List ℕ) (e : Enabled) where
  -- the way that an activity takes, where this is the work
  pub record Begun (work : Option Plan) : Type 0 where
    pub leaves : (new : Enabled) → may_change (current m).doing e new ≡ true → may_leave work e new ≡ true
    pub some_left : 0 < (current m).left
    pub has : HasWay notes test work m.cpu.pc e (current m).left
    pub went : (after_activity f m).ended ≡ None → is_last (current m).doing calls ≡ false → Went notes test work m.cpu.pc e (current m).left calls (after_activity f m) (opened (current m).doing m.cpu.pc calls)

  -- what is known at its begin
  pub record IsBegun : Type 0 where
    pub holds : HoldsImage image m
    pub lives : m.ended ≡ None
    pub assumed : Assumed notes (current m).doing m.cpu.pc calls (after_activity f m)

  module _ (b : IsBegun) where
    abbrev WentOn : Option Plan → Activity → Type 0
    WentOn work doing = (after_activity f m).ended ≡ None → is_last doing calls ≡ false → Went notes test work m.cpu.pc e (current m).left calls (after_activity f m) (opened doing m.cpu.pc calls)

    executes-went : (i : Insn) (mnemonic : Mnemonic) → mnemonic_at i.opcode i.signed ≡ Some mnemonic → IsPlaced (plan_of mnemonic) i m (current m) → (current m).doing ≡ Executes i
        → AllPass notes test (ways_planned image notes (plan_of mnemonic) i m.cpu.pc) → WentOn (Some (plan_of mnemonic)) (Executes i)
    executes-went i mnemonic named p is pass = λ after on.
        let plan : plan_in i ≡ Some (plan_of mnemonic) = ap (option_map plan_of) named in
        let assumed : Assumed notes (Executes i) m.cpu.pc calls (after_activity f m) = subst (λ (d : Activity). Assumed notes d m.cpu.pc calls (after_activity f m)) is b.assumed in
        subst (λ (q : Option Plan). Went notes test (Some (plan_of mnemonic)) m.cpu.pc e (current m).left calls (after_activity f m) (opened_by q (next_pc i m.cpu.pc) calls)) (sym plan)
        (instruction-went image notes test i m.cpu.psw_high m.cpu.pc e (current m).left (plan_of mnemonic) calls (after_activity f m) (record {
          soon = p.most;
          pass = pass;
          returns = λ is_so back more opens. assumed.returns (ap is_return_plan plan ∙ is_so) back more opens after;
          goes = λ is_so targets noted. assumed.goes (ap is_computed_plan plan ∙ is_so) targets noted after;
          moves = λ interruptible kind. moves-as f interruptible mnemonic i m named kind b.lives p.some is after;
          words = assumed.words;
          follows = lives-not (after_activity f m) after (executes-leads f image i m mnemonic named b.holds.rom b.lives p.some is);
          on = subst (λ (q : Option Plan). is_last_work q calls ≡ false) plan on;
        }))

    -- an undefined use that is found at the start ends the run
    breaks-not : (work : Option Plan) (kind : Kind) → 0 < (current m).left → (current m).doing ≡ Breaks kind → WentOn work (current m).doing
    breaks-not work kind left is = λ after on.
        let ended : HasEnded (after_activity f m) = breaks-end f kind m b.lives left is in
        let no : Some ended.0 ≡ None = sym ended.1 ∙ after in
        absurd (cc no)

    named-begun : (i : Insn) (size : ℕ) (o : Option Mnemonic) → mnemonic_at i.opcode i.signed ≡ o → current m ≡ begins m (says.Insn i size) → AllPass notes test (ways_named image notes o i m.cpu.pc) → Begun (option_map plan_of o)
    named-begun i size None named so pass = absurd pass
    named-begun i size (Some mnemonic) named so pass = record {
      leaves = leaves-by p.doing;
      some_left = p.some;
      has = way-of image notes test i m.cpu.psw_high m.cpu.pc e (current m).left (plan_of mnemonic) p.most pass;
      went = by p.doing;
    }
      where
        p : IsPlaced (plan_of mnemonic) i m (current m)
        p = subst (λ (x : UnderWay). IsPlaced (plan_of mnemonic) i m x) (sym so) (begins-placed most some i size m mnemonic named)

        leaves-by : ((current m).doing ≡ Executes i) ⊎ ((kind : Kind) × ((current m).doing ≡ Breaks kind)) → (new : Enabled) → may_change (current m).doing e new ≡ true → may_leave (Some (plan_of mnemonic)) e new ≡ true
        leaves-by (inl is) new h =
            let one : may_leave (plan_in i) e new ≡ true = subst (λ (d : Activity). may_change d e new ≡ true) is h in
            subst (λ (q : Option Plan). may_leave q e new ≡ true) (ap (option_map plan_of) named) one
        leaves-by (inr broken) new h = absurd (let no : false ≡ true = subst (λ (d : Activity). may_change d e new ≡ true) broken.1 h in cc no)

        by : ((current m).doing ≡ Executes i) ⊎ ((kind : Kind) × ((current m).doing ≡ Breaks kind)) → WentOn (Some (plan_of mnemonic)) (current m).doing
        by (inl is) = subst (WentOn (Some (plan_of mnemonic))) (sym is) (executes-went i mnemonic named p is pass)
        by (inr broken) = breaks-not (Some (plan_of mnemonic)) broken.0 p.some broken.1

    trap-way : Way
    trap-way = Call 14 (image_word image 0x2012) ((m.cpu.pc + 1) % 0x10000)

    traps-went : 0 < (current m).left → (current m).left ≤ 14 → (current m).doing ≡ Traps → AllPass notes test (Some (Call 14 (image_word image 0x2012) ((m.cpu.pc + 1) % 0x10000) ∷ [])) → WentOn (Some Trap) Traps
    traps-went left few is pass = λ after on.
        let t : IsTrapped f image (after_activity f m) = lives-not (after_activity f m) after (traps-lead f image m b.holds.rom b.lives left is) in
        inl (record {
          way = Call 14 (image_word image 0x2012) ((m.cpu.pc + 1) % 0x10000);
          takes = few;
          passes = first-passes notes test (Call 14 (image_word image 0x2012) ((m.cpu.pc + 1) % 0x10000)) [] pass;
          going = t.going;
          leads = (t.pc, refl);
        })

    pub found-begun : (d : Decoded) → current m ≡ begins m d → AllPass notes test (ways_of image notes d m.cpu.pc) → Begun (work_of d)
    found-begun (says.Insn i size) so pass = named-begun i size (mnemonic_at i.opcode i.signed) refl so pass
    found-begun says.Unimplemented so pass =
        let left : 0 < (current m).left = subst (λ (x : UnderWay). 0 < x.left) (sym so) (traps-some m) in
        let few : (current m).left ≤ 14 = subst (λ (x : UnderWay). x.left ≤ 14) (sym so) (trap-most m) in
        let is : (current m).doing ≡ Traps = ap (λ (x : UnderWay). x.doing) so in
        record {
          leaves = λ new h. subst (λ (d : Activity). may_change d e new ≡ true) is h;
          some_left = left;
          has = (Call 14 (image_word image 0x2012) ((m.cpu.pc + 1) % 0x10000), few, first-passes notes test (Call 14 (image_word image 0x2012) ((m.cpu.pc + 1) % 0x10000)) [] pass);
          went = subst (WentOn (Some Trap)) (sym is) (traps-went left few is pass);
        }
    found-begun says.Undefined so pass =
        let left : (current m).left ≡ 2 = ap (λ (x : UnderWay). x.left) so in
        let some_left : 0 < (current m).left = omega (arith, left) in
        let is : (current m).doing ≡ Breaks _ = ap (λ (x : UnderWay). x.doing) so in
        record {
          leaves = λ new h. absurd (let no : false ≡ true = subst (λ (d : Activity). may_change d e new ≡ true) is h in cc no);
          some_left = some_left;
          has = (Out 2, (let few : (current m).left ≤ 2 = omega (arith, left) in few), first-passes notes test (Out 2) [] pass);
          went = breaks-not None _ some_left is;
        }
    found-begun says.Short so pass = absurd pass
