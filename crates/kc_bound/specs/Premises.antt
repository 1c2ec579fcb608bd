-- What is assumed of a pass: that returns come back behind their calls, and what the notes say (this kit's own).
use Rattle.std.specs.Prelude.{◌≡◌, ℕ, zero, suc, Bool, true, false, ◌-◌, ◌==◌, ◌<◌, ◌≤◌, if◌then◌else◌, Option, Some, None, IfSome, Contains, List, [], ◌∷◌}
use Rattle.kc_isa.specs.declared.insn.Insn.{Insn}
use Rattle.kc_exec_spec.specs.declared.cpu.Words.{Words}
use Rattle.kc_exec_spec.specs.declared.plan.Plan.{Plan}
use Rattle.kc_exec_spec.specs.declared.plan.Plan.TheVariants.{Jump}
use Rattle.kc_exec_spec.specs.declared.plan.Route.TheVariants.{Return, Table, Register}
use Rattle.kc_extra.specs.Further.{Further}
use Rattle.kc_machine_spec.specs.declared.doing.Activity.{Activity}
use Rattle.kc_machine_spec.specs.declared.doing.Activity.TheVariants.{Executes}
use Rattle.kc_machine_spec.specs.declared.doing.Going.TheVariants.{Moving}
use Rattle.kc_machine_spec.specs.Machine.{Machine, current}
use Rattle.kc_bound.specs.declared.notes.Loop.{Loop}
use Rattle.kc_bound.specs.declared.notes.Notes.{Notes}
use Rattle.kc_bound.specs.Notes.{is_among, targets_at, words_at, turns_at, turns_at_first}
use Rattle.kc_bound.specs.Passes.{plan_in, begun, moment, calls_at}

abbrev pub is_return_plan : Option Plan → Bool
is_return_plan (Some (Jump Return)) = true
is_return_plan _ = false

abbrev pub is_computed_plan : Option Plan → Bool
is_computed_plan (Some (Jump Table)) = true
is_computed_plan (Some (Jump Register)) = true
is_computed_plan _ = false

-- RET
abbrev pub is_return : Activity → Bool
is_return (Executes insn) = is_return_plan (plan_in insn)
is_return _ = false

-- BR and TIJMP
abbrev pub is_computed : Activity → Bool
is_computed (Executes insn) = is_computed_plan (plan_in insn)
is_computed _ = false

-- How often the head of a loop may still begin, after a begin: as often as the note says where the begin is one of `per`, once less
-- where it is that of the head.
abbrev pub turns_after : Loop → Option ℕ → ℕ → ℕ
turns_after l None turns = turns
turns_after l (Some a) turns = if is_among l.per.items a then l.most else if l.head == a then turns - 1 else turns

module _ {X : Type 0} (f : Further X) where
  -- how often the head of a loop may still begin after so many activities
  unfoldable pub turns_left : Loop → ℕ → Machine X → ℕ
  turns_left l zero m = turns_at_first l
  turns_left l (suc k) m = turns_after l (begun (moment f k m)) (turns_left l k m)

  -- after a RET the program goes on behind its call, where one is open
  abbrev pub ReturnsProperly : ℕ → Machine X → Type 0
  ReturnsProperly n m =
      (k : ℕ) (back : ℕ) (more : List ℕ) → k < n → is_return (current (moment f k m)).doing ≡ true → calls_at f k m ≡ back ∷ more
      → (moment f (suc k) m).ended ≡ None → (moment f (suc k) m).cpu.pc ≡ back

  -- the premises of the notes
  pub record KeepsNotes (notes : Notes) (n : ℕ) (m : Machine X) : Type 0 where
    -- the head of a loop begins only where it still may
    pub loops : (k : ℕ) (l : Loop) → k < n → Contains notes.loops.items l → begun (moment f k m) ≡ Some l.head → 0 < turns_left l k m
    -- a computed jump leads to one of the addresses that its note has
    pub goes : (k : ℕ) (targets : List ℕ) → k < n → is_computed (current (moment f k m)).doing ≡ true → targets_at notes (moment f k m).cpu.pc ≡ Some targets
        → (moment f (suc k) m).ended ≡ None → Contains targets (moment f (suc k) m).cpu.pc
    -- a block move has at most so many words before it
    pub words : (k : ℕ) (insn : Insn) (w : Words) (most : ℕ) → k ≤ n → (moment f k m).going ≡ Some (Moving insn w) → words_at notes (moment f k m).cpu.pc ≡ Some most → w.left ≤ most
