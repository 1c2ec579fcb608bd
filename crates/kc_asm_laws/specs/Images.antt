-- The image of texts: their modules, placed and filled; and linked, as its bytes are read (this kit's own).
use Rattle.std.specs.Prelude.{◌≡◌, ℕ, true, Some, Ok, List, length, slice_get}
use Rattle.kc_base.specs.Bytes.{IsBytes}
use Rattle.kc_source_statement.specs.declared.statement.Stmt.{Stmt}
use Rattle.kc_obj_module.specs.Object.{Object}
use Rattle.kc_asm_section.specs.declared.unlinked.UnlinkedModule.{UnlinkedModule}
use Rattle.kc_asm.specs.Assembled.{AreSaid, IsModule}
use Rattle.kc_link_place.specs.declared.ranges.Ranges.{Ranges}
use Rattle.kc_link_place.specs.Ranges.{are_in_bounds}
use Rattle.kc_link_place.specs.Placing.{Places}
use Rattle.kc_link.specs.Placed.{placed}
use Rattle.kc_link.specs.Filled.{IsFilled}
use Rattle.kc_asm.specs.Linked.{AreSources, IsLinked}

-- the modules of texts, each of its own
pub record AreModulesOf (texts : List (List ℕ)) (modules : List Object) : Type 0 where
  pub count : length texts ≡ length modules
  pub of : (i : ℕ) (text : List ℕ) (m : Object) → slice_get texts i ≡ Some text → slice_get modules i ≡ Some m → IsModule text m

-- the image that is filled from the modules of texts, where these are placed
pub record IsFilledOf (texts : List (List ℕ)) (ranges : Ranges) (image : List ℕ) : Type 0 where
  pub modules : List Object
  pub are : AreModulesOf texts modules
  pub places : Places
  pub placed : placed modules ranges ≡ Ok places
  pub filled : IsFilled modules places image

-- bytes that read as what the statements of texts say, where these are placed
pub record IsLinkedOf (texts : List (List ℕ)) (ranges : Ranges) (image : List ℕ) : Type 0 where
  pub bytes : IsBytes image
  pub sources : List (List Stmt)
  pub said : (i : ℕ) (text : List ℕ) (stmts : List Stmt) → slice_get texts i ≡ Some text → slice_get sources i ≡ Some stmts → AreSaid text stmts
  pub count : length texts ≡ length sources
  pub unlinked_modules : List UnlinkedModule
  pub modules : List Object
  pub are : AreSources sources unlinked_modules modules
  pub places : Places
  pub placed : placed modules ranges ≡ Ok places
  pub linked : IsLinked sources unlinked_modules modules places image

-- what is filled is linked
abbrev pub FilledIsLinked : Type 0
FilledIsLinked = (texts : List (List ℕ)) (ranges : Ranges) (image : List ℕ) → IsFilledOf texts ranges image → IsLinkedOf texts ranges image

-- and nothing else is, in ranges within their bounds
abbrev pub LinkedIsFilled : Type 0
LinkedIsFilled =
    (texts : List (List ℕ)) (ranges : Ranges) (image : List ℕ) → are_in_bounds ranges ≡ true → IsLinkedOf texts ranges image → IsFilledOf texts ranges image

-- texts have at most one image
abbrev pub OneImageOfTexts : Type 0
OneImageOfTexts = (texts : List (List ℕ)) (ranges : Ranges) (image other : List ℕ) → IsFilledOf texts ranges image → IsFilledOf texts ranges other → image ≡ other

-- and so at most one that is linked
abbrev pub OneLinkedImageOfTexts : Type 0
OneLinkedImageOfTexts =
    (texts : List (List ℕ)) (ranges : Ranges) (image other : List ℕ) → are_in_bounds ranges ≡ true
    → IsLinkedOf texts ranges image → IsLinkedOf texts ranges other → image ≡ other

-- what is filled from modules of texts are bytes
abbrev pub FilledAreBytes : Type 0
FilledAreBytes =
    (texts : List (List ℕ)) (ms : List Object) (ranges : Ranges) (places : Places) (image : List ℕ)
    → AreModulesOf texts ms → placed ms ranges ≡ Ok places → IsFilled ms places image → IsBytes image
