-- A law of the answers of `bound`: what is printed of a routine is so of each pass through it, on every machine (this kit's own).
use Rattle.std.specs.Prelude.{◌≡◌, ◌⊎◌, ℕ, suc, ◌+◌, ◌≤◌, Bool, true, false, Option, None, List, [], ◌++◌, codes, Ok}
use Rattle.kc_extra.specs.Further.{Further}
use Rattle.kc_machine_spec.specs.Machine.{Machine}
use Rattle.kc_bound.specs.declared.notes.Notes.{Notes}
use Rattle.kc_bound.specs.declared.certificate.Bound.{Bound}
use Rattle.kc_bound.specs.Bounded.{Bounded, IsPassFrom}
use Rattle.kc_bound.specs.Passes.{moment, is_over}
use Rattle.kc_bound.specs.Reading.{notes_read}
use Rattle.kc_bound_requests.specs.declared.certificate.EnabledSet.{EnabledSet}
use Rattle.kc_bound_requests.specs.Asking.{asks, IsRequested, IsHighest}
use Rattle.kc_bound_requests.specs.Closed.{is_in}
use Rattle.kc_bound_requests.specs.Enabled.{enabled_in}
use Rattle.kc_bound_requests.specs.Entries.{IsEntered}
use Rattle.kc_bound_requests.specs.Gaps.{IsGap, Waits}
use Rattle.kc_bound_requests.specs.Requests.{ServedFrom}
use Rattle.kc_kit_files.specs.declared.status.Status.TheVariants.{Done}
use Rattle.kc_kit_files.specs.Response.{Response}
use Rattle.kc_kit_words.specs.declared.command.Wanted.{Wanted}
use Rattle.kc_kit_words.specs.declared.inputs.Role.{Role}
use Rattle.kc_kit_bound.specs.Texts.{states_line}
use Rattle.kc_kit_bound.specs.Told.{first_of, latency_first, open_text, shut_text, no_shut, entry_states}
use Rattle.kc_kit_inputs.specs.Annotations.{Annotations, annotation_files, annotations_of}
use Rattle.kc_kit_inputs.specs.Hex.{hex_of}
use Rattle.kc_kit_answer.specs.Bound.{place_of, end_of, with_end, BoundAnswer}

-- In the passes from an address that begin with something of a set, no more states go by without interrupts being asked for, and no
-- request waits longer until it is entered or the pass is over. Where it is entered, its routine begins behind the states of an entry.
pub record IsShut {X : Type 0} (f : Further X) (image : List ℕ) (notes : Notes) (from : ℕ) (first : EnabledSet) (most : ℕ) : Type 0 where
  pub gaps : (n i j : ℕ) (m : Machine X) → IsPassFrom f image notes from n m → is_in first (enabled_in m) ≡ true → j ≤ n → IsGap f i j m
      → (moment f j m).time ≤ (moment f i m).time + most
  pub waits : (number i n : ℕ) (m : Machine X) → IsPassFrom f image notes from n m → is_in first (enabled_in m) ≡ true → Waits f number i n m
      → (moment f n m).time ≤ (moment f i m).time + most
  pub begins : (number i n : ℕ) (m : Machine X) → IsPassFrom f image notes from n m → is_in first (enabled_in m) ≡ true → Waits f number i n m → is_over f notes n m ≡ false
      → asks (moment f n m) ≡ true → IsRequested number (moment f n m) → IsHighest number (moment f n m) → (moment f (suc n) m).ended ≡ None
      → IsEntered image number (moment f (suc n) m) × ((moment f (suc n) m).time ≤ (moment f i m).time + (most + entry_states))

-- where that is asked for, and a certificate is found
abbrev pub IsLatencySo : {X : Type 0} → Further X → List ℕ → Notes → ℕ → EnabledSet → Bool → List ℕ → Type 0
IsLatencySo f image notes from first true text = ((most : ℕ) × IsShut f image notes from first most × (text ≡ shut_text from most)) ⊎ (text ≡ no_shut from)
IsLatencySo f image notes from first false text = text ≡ []

-- what is printed of the passes from an address: the most states, the least address where requests may be served, if there is one, and
-- where it is asked for how long interrupts are not asked for; behind that stands what explains it
pub record IsTold {X : Type 0} (f : Further X) (image : List ℕ) (notes : Notes) (from : ℕ) (wanted : Wanted) (text : List ℕ) : Type 0 where
  pub bound : Bound
  pub bounded : Bounded f image notes from bound
  pub least : Option ℕ
  pub served : ServedFrom f image notes from (first_of wanted) least
  pub latency : List ℕ
  pub is_latency : IsLatencySo f image notes from (latency_first wanted from) wanted.latency latency
  pub more : List ℕ
  pub printed : text ≡ states_line (codes "bound") from bound.over ++ open_text least ++ latency ++ more

-- by the files: the image, the notes with the end that a word adds, and the address for which a word stands
pub record IsToldBy {X : Type 0} (f : Further X) (file from : List ℕ) (to : Option (List ℕ)) (inputs : List (Role × List ℕ)) (wanted : Wanted) (text : List ℕ) (more : List (List ℕ)) (printed : List ℕ) : Type 0 where
  pub image : List ℕ
  pub is_image : hex_of file text ≡ Ok image
  pub said : Annotations
  pub is_said : annotations_of (annotation_files inputs more) ≡ Ok said
  pub first : ℕ
  pub is_first : place_of said from ≡ Ok first
  pub last : Option ℕ
  pub is_last : end_of said to ≡ Ok last
  pub notes : Notes
  pub contents : notes_read notes ≡ with_end last said.notes
  pub told : IsTold f image notes first wanted printed

-- an answer of `bound` with the status of what is done
abbrev pub BoundIsTold : Type 0 → Type 0
BoundIsTold X =
    (f : Further X) (file from : List ℕ) (to : Option (List ℕ)) (inputs : List (Role × List ℕ)) (wanted : Wanted) (text : List ℕ) (more : List (List ℕ)) (response : Response)
    → BoundAnswer file from to inputs wanted text more response → response.status ≡ Done → IsToldBy f file from to inputs wanted text more response.text
