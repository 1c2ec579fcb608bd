-- Modules that break a rule of the linker, and the files of those that are linked.
use Rattle.std.proofs.Common.{◌≡◌, ℕ, List, ◌∷◌, Ok, Err, refl, sym, ◌∙◌, ap, subst}
use Rattle.kc_obj_module.specs.Object.{Object}
use Rattle.kc_link_place.specs.declared.ranges.Ranges.{Ranges}
use Rattle.kc_link_place.specs.declared.ranges.LinkFault.{LinkFault}
use Rattle.kc_link_place.specs.declared.ranges.LinkFault.TheVariants as faults
use Rattle.kc_link_place.specs.Placing.{Places, IsCause}
use Rattle.kc_link.specs.Placed.{placed}
use Rattle.kc_kit_files.specs.declared.status.Status.TheVariants as status
use Rattle.kc_kit_files.specs.declared.refusal.Refusal.{Refusal}
use Rattle.kc_kit_files.specs.declared.refusal.Refusal.TheVariants as refusals
use Rattle.kc_kit_files.specs.Response.{Response, Write, write, reports, IsRefused}
use Rattle.kc_kit_files.specs.Writes.{writing_readable}
use Rattle.kc_kit_words.specs.Commands.{Beside}
use Rattle.kc_hex.specs.Spelling.{spelling}
use Rattle.kc_link.specs.Filled.{IsFilled}
use Rattle.kc_kit_answer.specs.Link.{IsMap, LinksTo, map_writes}
use Rattle.kc_kit_files.proofs.ReadLemmas.{refused-widen}
use Rattle.kc_kit_answer.proofs.AnswerSteps.{then-ok, then-err}
use Rattle.kc_kit_messages.specs.Rules.{link_line}
use Rattle.kc_kit_messages.specs.RuleDiagnostics.{link_diagnostic}
use Rattle.kc_kit_answer.specs.Places.{by_places, places_of, Placing}

-- ---- linking

-- a broken rule
pub link-refused : (names : List (List ℕ)) (ms : List Object) (ranges : Ranges) (fault : LinkFault) (refusal : Refusal) →
    IsCause fault (placed ms ranges ≡ Err fault) → IsRefused (λ response. response ≡ reports status.Link (link_line names fault) (link_diagnostic names ms fault)) refusal → (fault ≡ faults.NoMemory → refusal ≡ refusals.NoMemory) →
    IsRefused (λ response. places_of names ms ranges ≡ Err response) refusal
link-refused names ms ranges fault refusal cause line memory = by fault refl cause
  where
    may : Response → Type 0
    may response = places_of names ms ranges ≡ Err response

    reported : placed ms ranges ≡ Err fault → IsRefused may refusal
    reported e = refused-widen (λ response. response ≡ reports status.Link (link_line names fault) (link_diagnostic names ms fault)) may refusal (λ r f. ap (by_places names ms) e ∙ ap Err (sym f)) line

    by : (f : LinkFault) → fault ≡ f → IsCause f (placed ms ranges ≡ Err fault) → IsRefused may refusal
    by faults.NoMemory e c = subst (IsRefused may) (sym (memory e)) tt
    by (faults.Unresolved name) e c = reported c
    by (faults.OverlapName name) e c = reported c
    by (faults.OverlapPlace place) e c = reported c
    by (faults.Capacity kind index) e c = reported c
    by (faults.Range index piece offset) e c = reported c

-- what may be answered at the places of modules
pub placing-ok : (names : List (List ℕ)) (ranges : Ranges) (may : List Object → Places → Response → Type 0) (ms : List Object) (places : Places) (r : Response) → placed ms ranges ≡ Ok places → may ms places r → Placing names ranges may ms r
placing-ok names ranges may ms places r e h = then-ok (places_of names ms ranges) places (may ms) r (ap (by_places names ms) e) h

-- and where a rule is broken
pub placing-refused : (names : List (List ℕ)) (ranges : Ranges) (may : List Object → Places → Response → Type 0) (ms : List Object) (refusal : Refusal) → IsRefused (λ response. places_of names ms ranges ≡ Err response) refusal →
    IsRefused (Placing names ranges may ms) refusal
placing-refused names ranges may ms refusal h =
    refused-widen (λ response. places_of names ms ranges ≡ Err response) (Placing names ranges may ms) refusal (λ r e. then-err (places_of names ms ranges) (may ms) r e) h

-- the files of a linked image
pub linked-files : (names : List (List ℕ)) (out : List ℕ) (beside : Beside) (ranges : Ranges) (ms : List Object) (places : Places) (image bytes : List ℕ) (first second : List Write) →
    placed ms ranges ≡ Ok places → IsFilled ms places image → bytes ≡ spelling image → IsMap beside.lines ms places first → second ≡ map_writes beside.map ms ranges places →
    Placing names ranges (LinksTo out beside ranges) ms (writing_readable (write out bytes ∷ first) second)
linked-files names out beside ranges ms places image bytes first second is filled spelled lines maps =
    let files : LinksTo out beside ranges ms places (writing_readable (write out bytes ∷ first) second) = record {
      image = image;
      is_filled = filled;
      more = first;
      is_map = lines;
      done = λ i. writing_readable (write out (spelled i) ∷ first) (maps i);
    } in
    placing-ok names ranges (LinksTo out beside ranges) ms places (writing_readable (write out bytes ∷ first) second) is files
