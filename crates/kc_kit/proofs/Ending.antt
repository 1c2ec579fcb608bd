-- A text alone that is printed, and nothing is said of it; and the diagnostics of what has ended.
use Rattle.std.proofs.Common.{◌≡◌, ◌∙◌, ℕ, false, List, [], Option, Some, None, refl, ap}
use Rattle.std.specs.Prelude.{is_none, is_some}
use Rattle.kc_kit_files.specs.declared.status.Status.{Status}
use Rattle.kc_kit_files.specs.declared.ended.Ended.{Ended}
use Rattle.kc_kit_files.specs.declared.ended.Said.TheVariants as said
use Rattle.kc_kit_files.specs.Response.{Response}
use Rattle.kc_kit_files.specs.Outside.{Kept, Shown, Responses}
use Rattle.kc_kit_files.specs.Ended.{EndsBy}
use Rattle.kc_kit_files.proofs.EndLemmas.{Ends-widen, ends-by}
use Rattle.kc_kit_words.specs.Commands.{Command}
use Rattle.kc_kit_words.specs.Usage.{noted, usage_of, usage_diagnostic}
use Rattle.kc_kit_words.specs.Words.{command_of}
use Rattle.kc_kit_words.proofs.UsageLemmas.{wrong_where_none}

pub printed : (reported : Response) (may : Response → Type 0) (old : Kept) (before : Shown) (ended : Ended) (given : Status) (new : Kept) (now : Shown) → reported.writes ≡ [] → reported.diagnostic ≡ [] → ended.status ≡ given → ended.said ≡ said.Nothing →
    ((r : Response) → r ≡ reported → may r) → Responses (λ response. response ≡ reported) old before given new now → EndsBy may old before ended.status ended.said new now
printed reported may old before ended given new now none silent e f wide h =
    Ends-widen (λ (response : Response). response ≡ reported) may old before ended.status ended.said new now wide
    (ends-by (λ (response : Response). response ≡ reported) old before ended given new now e f (λ r k. ap (λ (w : Response). w.writes) k ∙ none) (λ r k. ap (λ (w : Response). w.diagnostic) k ∙ silent) h)

-- nothing is wrong in words that are a command
pub nothing-wrong : (words : List (List ℕ)) (command : Command) → command_of words ≡ Some command → usage_diagnostic words ≡ []
nothing-wrong words command e = by (usage_of words) (wrong_where_none words ∙ ap is_none e)
  where
    by : (w : Option (List ℕ)) → is_some w ≡ false → noted w ≡ []
    by None h = refl
    by (Some text) h = absurd (cc)
