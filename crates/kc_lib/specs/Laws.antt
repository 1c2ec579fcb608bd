-- Laws of libraries, for those who reason about what is read and taken.
use Rattle.std.specs.Prelude.{◌≡◌, ℕ, Some, None, Ok, List}
use Rattle.kc_base.specs.Bytes.{IsBytes}
use Rattle.kc_obj_module.specs.Object.{Object}
use Rattle.kc_lib.specs.Names.{GivenOnce, doubled, IsFirstDouble}
use Rattle.kc_lib.specs.Format.{IsLibrary}
use Rattle.kc_lib.specs.Reading.{read_answer}
use Rattle.kc_lib.specs.Taking.{AreTaken}

-- nothing is read but the format
abbrev pub ReadIsLibrary : Type 0
ReadIsLibrary = (bytes : List ℕ) (ms : List Object) → IsBytes bytes → read_answer bytes ≡ Ok ms → IsLibrary bytes ms

-- what was packed is read again
abbrev pub LibraryIsRead : Type 0
LibraryIsRead = (bytes : List ℕ) (ms : List Object) → IsLibrary bytes ms → read_answer bytes ≡ Ok ms

-- a name that is reported is the first one that is public in a second module, and none is reported where each is given once
pub record ReportsDouble (ms : List Object) : Type 0 where
  pub none : doubled ms ≡ None → GivenOnce ms
  pub once : GivenOnce ms → doubled ms ≡ None
  pub reported : (name : List ℕ) → doubled ms ≡ Some name → IsFirstDouble ms name

abbrev pub DoublesAreReported : Type 0
DoublesAreReported = (ms : List Object) → ReportsDouble ms

-- at most one list is taken
abbrev pub TakenOnce : Type 0
TakenOnce = (modules members taken other : List Object) → AreTaken modules members taken → AreTaken modules members other → taken ≡ other
