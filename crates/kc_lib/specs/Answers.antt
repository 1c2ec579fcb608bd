-- What the calls of a library answer.
use Rattle.std.specs.Prelude.{◌≡◌, ℕ, ◌+◌, ◌<◌, ◌≤◌, Option, Some, None, Result, Ok, Err, List, length}
use Rattle.std.specs.Global.{Vec}
use Rattle.kc_obj_module.specs.Object.{Object}
use Rattle.kc_lib.specs.declared.faults.LibFault.{LibFault}
use Rattle.kc_lib.specs.declared.faults.LibFault.TheVariants.{Duplicate, TooMany, NoMemory}
use Rattle.kc_lib.specs.Names.{doubled}
use Rattle.kc_lib.specs.Format.{library_bytes, IsLibrary}
use Rattle.kc_lib.specs.Taking.{AreTaken}

-- out of memory has no cause here
abbrev pub IsCause : LibFault → Type 0 → Type 0
IsCause NoMemory P = Unit {0}
IsCause _ P = P

-- packing: the bytes where no name is public in two modules, else the first such name
abbrev pub IsPacked : List Object → Result (Vec ℕ) LibFault → Type 0
IsPacked ms (Ok bytes) = (doubled ms ≡ None) × (bytes.items ≡ library_bytes ms)
IsPacked ms (Err (Duplicate name)) = doubled ms ≡ Some name
IsPacked ms (Err NoMemory) = Unit {0}
IsPacked ms (Err _) = ⊥

-- what is packed is a library of the modules, which is read as them
abbrev pub ReportsPacked : List Object → Result (Vec ℕ) LibFault → Type 0
ReportsPacked ms (Ok bytes) = IsLibrary bytes.items ms
ReportsPacked ms (Err fault) = Unit {0}

abbrev pub IsOnce : Option (List ℕ) → Result (Unit {0}) LibFault → Type 0
IsOnce name (Ok done) = name ≡ None
IsOnce name (Err (Duplicate reported)) = name ≡ Some reported
IsOnce name (Err NoMemory) = Unit {0}
IsOnce name (Err _) = ⊥

-- reading: what the bytes say
abbrev pub IsRead : Result (List Object) LibFault → Result (List Object) LibFault → Type 0
IsRead (Ok ms) answer = answer ≡ Ok ms
IsRead (Err fault) answer = IsCause fault (answer ≡ Err fault)

abbrev pub AreRead : Result (Vec Object) LibFault → Result (List Object) LibFault → Type 0
AreRead (Ok ms) answer = answer ≡ Ok ms.items
AreRead (Err fault) answer = IsCause fault (answer ≡ Err fault)

abbrev pub IsMemberRead : Result Object LibFault → Result Object LibFault → Type 0
IsMemberRead (Ok m) answer = answer ≡ Ok m
IsMemberRead (Err fault) answer = IsCause fault (answer ≡ Err fault)

abbrev pub IsChecked : Option LibFault → Result (Unit {0}) LibFault → Type 0
IsChecked fault (Ok done) = fault ≡ None
IsChecked fault (Err reported) = IsCause reported (fault ≡ Some reported)

-- a call gives the library that the bytes are, and a fault only where they are none
abbrev pub ReportsLibrary : List ℕ → Result (List Object) LibFault → Type 0
ReportsLibrary bytes (Ok ms) = IsLibrary bytes ms
ReportsLibrary bytes (Err fault) = IsCause fault ((ms : List Object) → IsLibrary bytes ms → ⊥)

-- taking: the members in order, or that there are too many to be linked
abbrev pub Takes : List Object → List Object → Result (Vec Object) LibFault → Type 0
Takes modules members (Ok taken) = AreTaken modules members taken.items × (length modules + length taken.items ≤ 64)
Takes modules members (Err TooMany) = (taken : List Object) × AreTaken modules members taken × (64 < length modules + length taken)
Takes modules members (Err NoMemory) = Unit {0}
Takes modules members (Err _) = ⊥
