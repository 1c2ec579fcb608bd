-- Which activities begin while a machine goes on, and which of them have finished (this kit's own).
use Rattle.std.specs.Prelude.{ℕ, zero, suc, ◌-◌, List, [], ◌∷◌, ◌++◌, Option, Some, None, length, take}
use Rattle.kc_extra.specs.Further.{Further}
use Rattle.kc_machine_spec.specs.declared.doing.End.{End}
use Rattle.kc_machine_spec.specs.declared.doing.UnderWay.{UnderWay}
use Rattle.kc_machine_spec.specs.Machine.{Machine}
use Rattle.kc_machine_spec.specs.Run.{run_for}
use Rattle.kc_debug.specs.declared.activities.Begun.{Begun}

-- an activity begins in the coming state where none is under way
abbrev pub begins_unless : {X : Type 0} → Option UnderWay → Machine X → List Begun
begins_unless (Some activity) m = []
begins_unless None m = record { at = m.time; pc = m.cpu.pc } ∷ []

abbrev pub beginning : {X : Type 0} → Machine X → List Begun
beginning m = begins_unless m.under_way m

-- nothing begins in a machine that has ended
abbrev pub unless_over : Option End → List Begun → List Begun
unless_over (Some how) begun = []
unless_over None begun = begun

module _ {X : Type 0} (f : Further X) where
  -- the activities that begin in so many states, in order
  unfoldable pub begun_for : ℕ → Machine X → List Begun
  begun_for zero m = []
  begun_for (suc more) m = unless_over m.ended (beginning m ++ begun_for more (run_for f 1 m).machine)

-- those of them that have finished: where one is under way, it is the last that began
abbrev pub finished : Option UnderWay → List Begun → List Begun
finished (Some activity) begun = take (length begun - 1) begun
finished None begun = begun
