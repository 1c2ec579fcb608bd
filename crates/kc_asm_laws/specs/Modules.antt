-- What is known of the module of a text (this kit's own).
use Rattle.std.specs.Prelude.{◌≡◌, ℕ, ◌<◌, ◌^◌, true, List, length, Result, Ok, Err}
use Rattle.kc_source.specs.Faults.{Fault}
use Rattle.kc_obj_module.specs.Object.{Object}
use Rattle.kc_obj_module.specs.Widths.{numbers_fit}
use Rattle.kc_asm.specs.Assembled.{IsModule, IsFirstFault}

-- its numbers have the room of their fields: a line has 32 bits
abbrev pub ModulesFit : Type 0
ModulesFit = (text : List ℕ) (m : Object) → length text < 2 ^ 32 → IsModule text m → numbers_fit m ≡ true

abbrev pub OneModuleOfText : Type 0
OneModuleOfText = (text : List ℕ) (m n : Object) → IsModule text m → IsModule text n → m ≡ n

-- the module of a text, or its first fault
abbrev pub IsAnswer : List ℕ → Result Object Fault → Type 0
IsAnswer text (Ok m) = IsModule text m
IsAnswer text (Err fault) = IsFirstFault text fault

-- a text has one of them at most: where it has a fault, that is its only first one, and there is no module
abbrev pub OneAnswerOfText : Type 0
OneAnswerOfText = (text : List ℕ) (answer other : Result Object Fault) → IsAnswer text answer → IsAnswer text other → answer ≡ other
