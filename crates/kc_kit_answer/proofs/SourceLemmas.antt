-- The image of sources.
use Rattle.std.proofs.Common.{◌≡◌, ℕ, zero, suc, ◌≤◌, List, [], ◌∷◌, length, Some, None, Result, Ok, Err, refl, ap, subst}
use Rattle.std.specs.Prelude.{slice_get, true}
use Rattle.std.specs.List.{list_all}
use Rattle.kc_source_statement.specs.declared.statement.Stmt.{Stmt}
use Rattle.kc_asm_check.specs.Checking.{first_fault}
use Rattle.kc_asm_section.specs.declared.unlinked.UnlinkedModule.{UnlinkedModule}
use Rattle.kc_asm_section.specs.ModuleOf.{IsModuleOf, pieces_in}
use Rattle.kc_asm_unlinked_laws.specs.Collecting.{IsUnlinkedModuleOf}
use Rattle.kc_link_place.specs.declared.ranges.Ranges.{Ranges}
use Rattle.kc_link_place.specs.declared.ranges.LinkFault.{LinkFault}
use Rattle.kc_link_place.specs.Placing.{Places}
use Rattle.kc_link.specs.Placed.{placed}
use Rattle.kc_link.specs.Filled.{IsFilled}
use Rattle.kc_asm.specs.Characters.{has_bytes}
use Rattle.kc_asm.specs.Linked.{IsSource, LinkedImage}
use Rattle.kc_obj_module.specs.Object.{Object}
use Rattle.kc_asm.specs.Assembled.{AreSaid}
use Rattle.kc_asm.proofs.Said.{said_well}
use Rattle.kc_source_laws.specs.Read.{SourcesAreReadWell}
use Rattle.kc_kit_files.specs.Response.{Response, Then}
use Rattle.kc_kit_answer.specs.Places.{by_places, Placing}
use Rattle.kc_kit_answer.specs.Run.{AreCollected, IsImageOfTexts, Driven, FilledReported, LinkedReported}
use Rattle.kc_kit_inputs.specs.Sources.{AreModules}
use Rattle.kc_kit_inputs.specs.declared.driving.Driving.{Driving}
use Rattle.kc_kit_inputs.specs.Driving.{GivenFiles, driving_of}
use Rattle.kc_kit_answer.proofs.AnswerSteps.{then-map}

-- ---- the image of sources

source-of : SourcesAreReadWell → (t : List ℕ) (s : List Stmt) (d : UnlinkedModule) (m : Object) → AreSaid t s → list_all has_bytes s ≡ true → first_fault s ≡ None → IsUnlinkedModuleOf s d → length (pieces_in d) ≤ 65536 → IsModuleOf d m → IsSource s d m
source-of read t s d m said characters sound collected few made =
    record { lines = said.0; read = said.2; characters = characters; well = said_well read t s said; sound = sound; collected = collected; few = few; made = made }

counts : (texts : List (List ℕ)) (sources : List (List Stmt)) (unlinked_modules : List UnlinkedModule) (ms : List Object) → AreCollected texts sources unlinked_modules ms → (length sources ≡ length unlinked_modules) × (length sources ≡ length ms)
counts [] [] [] [] a = (refl, refl)
counts (t ∷ texts) (s ∷ sources) (d ∷ unlinked_modules) (m ∷ ms) a = let more = counts texts sources unlinked_modules ms a.6 in (ap suc more.0, ap suc more.1)
counts _ _ _ _ a = absurd a

each : SourcesAreReadWell → (texts : List (List ℕ)) (sources : List (List Stmt)) (unlinked_modules : List UnlinkedModule) (ms : List Object) → AreCollected texts sources unlinked_modules ms →
    (i : ℕ) (stmts : List Stmt) (d : UnlinkedModule) (m : Object) → slice_get sources i ≡ Some stmts → slice_get unlinked_modules i ≡ Some d → slice_get ms i ≡ Some m → IsSource stmts d m
each read (t ∷ texts) (s ∷ sources) (d ∷ unlinked_modules) (m ∷ ms) a zero stmts e n f g h =
    let one : s ≡ stmts = cc in
    let two : d ≡ e = cc in
    let three : m ≡ n = cc in
    let is = source-of read t s d m a.0 a.1 a.2 a.3 a.4 a.5 in
    subst (λ (x : List Stmt). IsSource x e n) one (subst (λ (x : UnlinkedModule). IsSource s x n) two (subst (λ (x : Object). IsSource s d x) three is))
each read (t ∷ texts) (s ∷ sources) (d ∷ unlinked_modules) (m ∷ ms) a (suc i) stmts e n f g h = each read texts sources unlinked_modules ms a.6 i stmts e n f g h
each read [] [] [] [] a i stmts e n f g h = absurd (cc)
each read _ _ _ _ a i stmts e n f g h = absurd a

pub record Behind (texts : List (List ℕ)) (ms : List Object) : Type 0 where
  pub sources : List (List Stmt)
  pub unlinked_modules : List UnlinkedModule
  pub collected : AreCollected texts sources unlinked_modules ms

behind : (texts : List (List ℕ)) (ms : List Object) → AreModules texts ms → Behind texts ms
behind [] [] a = record { sources = []; unlinked_modules = []; collected = tt }
behind (t ∷ texts) (m ∷ ms) a =
    let is = a.0 in
    let more = behind texts ms a.1 in
    record { sources = is.stmts ∷ more.sources; unlinked_modules = is.unlinked ∷ more.unlinked_modules; collected = (is.said, is.characters, is.sound, is.collected, is.few, is.made, more.collected) }
behind [] (m ∷ ms) a = absurd a
behind (t ∷ texts) [] a = absurd a

pub image-of : SourcesAreReadWell → LinkedImage → (texts : List (List ℕ)) (ms : List Object) (ranges : Ranges) (places : Places) (image : List ℕ) → AreModules texts ms → placed ms ranges ≡ Ok places → IsFilled ms places image → IsImageOfTexts texts ms places image
image-of read law texts ms ranges places image made is filled =
    let k = behind texts ms made in
    record {
      sources = k.sources;
      unlinked_modules = k.unlinked_modules;
      collected = k.collected;
      linked = law k.sources k.unlinked_modules ms ranges places image
          (record { unlinked_modules_count = (counts texts k.sources k.unlinked_modules ms k.collected).0; modules_count = (counts texts k.sources k.unlinked_modules ms k.collected).1; of = each read texts k.sources k.unlinked_modules ms k.collected }) is filled;
    }

pub linked-placing : SourcesAreReadWell → LinkedImage → (names : List (List ℕ)) (given : GivenFiles) (ranges : Ranges) (texts : List (List ℕ)) (report : List Object → Places → Driving → List ℕ → Response) (ms : List Object) (r : Response) → AreModules texts ms →
    Placing names ranges (λ ms places. Driven given FilledReported (report ms places) ms places) ms r → Placing names ranges (λ ms places. Driven given (LinkedReported texts) (report ms places) ms places) ms r
linked-placing read law names given ranges texts report ms r made h = by (placed ms ranges) refl h
  where
    by : (x : Result Places LinkFault) → placed ms ranges ≡ x → Then (by_places names ms x) (λ places. Driven given FilledReported (report ms places) ms places) r → Then (by_places names ms x) (λ places. Driven given (LinkedReported texts) (report ms places) ms places) r
    by (Ok places) e k =
        then-map (driving_of given) (λ d. FilledReported (report ms places d) ms places) (λ d. LinkedReported texts (report ms places d) ms places) r
        (λ d f. record { image = f.image; is_filled = f.is_filled; is_image = image-of read law texts ms ranges places f.image made e f.is_filled; reported = f.reported }) k
    by (Err f) e k = k
