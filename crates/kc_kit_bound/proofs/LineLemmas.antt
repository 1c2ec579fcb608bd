-- Lines that stand one behind the other.
use Rattle.std.proofs.Common.{◌≡◌, ℕ, ◌+◌, List, ◌++◌, ap, sym, ◌∙◌}
use Rattle.std.specs.Prelude.{codes}
use Rattle.std.proofs.lemmas.List.{append_assoc}
use Rattle.kc_kit_bound.specs.Texts.{states_line}
use Rattle.kc_kit_bound.specs.Told.{shut_text, entry_states}

pub shut-put : (old one two : List ℕ) (from most a b : ℕ) → a ≡ most → b ≡ most + entry_states → one ≡ old ++ states_line (codes "shut") from a → two ≡ one ++ states_line (codes "latency") from b → two ≡ old ++ shut_text from most
shut-put old one two from most a b e f h k =
    k ∙ ap (λ t. t ++ states_line (codes "latency") from b) h
    ∙ ap (λ s. (old ++ states_line (codes "shut") from a) ++ states_line (codes "latency") from s) f
    ∙ ap (λ s. (old ++ states_line (codes "shut") from s) ++ states_line (codes "latency") from (most + entry_states)) e
    ∙ append_assoc old (states_line (codes "shut") from most) (states_line (codes "latency") from (most + entry_states))
