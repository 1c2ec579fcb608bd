-- A word that is written as two bytes.
use Rattle.std.proofs.Common.{◌≡◌, ℕ, ◌+◌, ◌%◌, ◌/◌, sym, ◌∙◌, ap, subst, Option, Some, None}
use Rattle.std.specs.Prelude.{IfOk}
use Rattle.kc_base.specs.declared.types.Kind.{Kind}
use Rattle.kc_extra.specs.Further.{Further}
use Rattle.kc_block_spec.specs.declared.registers.Window.{Window}
use Rattle.kc_block_spec.specs.Units.{Units}
use Rattle.kc_block_spec.specs.Registers.{words_written, row_at}
use Rattle.kc_block_spec.specs.Accesses.{byte_written, even_word_written, word_written_as}
use Rattle.kc_block_spec.specs.RegisterLaws.{refusal, first_refusal}
use Rattle.kc_block_spec.proofs.Tables.{row_none}
use Rattle.kc_block_spec.proofs.Named.{even_bytes_written_are_asked, if_ok_then}
use Rattle.kc_block_units.specs.Scheduler.{Scheduler, shown_units, IsLeft}
use Rattle.kc_block_sfr.proofs.Outcomes.{weaker}

module _ {X : Type 0} (f : Further X) (agrees : ℕ → ℕ → X → Type 0) (t : ℕ) (w : Window) (u : Units X) (addr n : ℕ) (two : row_at (words_written w) addr ≡ None) where
  asked : refusal (even_word_written f t w u addr n) ≡ first_refusal (refusal (byte_written f t w u addr (n % 256))) (refusal (byte_written f t w u (addr + 1) (n / 256)))
  asked = even_bytes_written_are_asked f t w u addr n (row_none (words_written w) addr two)

  pub refused_low : (kind : Kind) → Some kind ≡ refusal (byte_written f t w u addr (n % 256)) → Some kind ≡ refusal (even_word_written f t w u addr n)
  refused_low kind low = ap (λ r. first_refusal r (refusal (byte_written f t w u (addr + 1) (n / 256)))) low ∙ sym asked

  pub refused_high : (o : Option Kind) → None ≡ refusal (byte_written f t w u addr (n % 256)) → o ≡ refusal (byte_written f t w u (addr + 1) (n / 256)) →
      o ≡ refusal (even_word_written f t w u addr n)
  refused_high o low high = (λ j. first_refusal (low j) (high j)) ∙ sym asked

  -- the low byte leaves deferred units that show the units in which the high byte is written
  pub two_left : (now : ℕ) (mid new : Scheduler X) → IfOk (byte_written f t w u addr (n % 256)) (IsLeft f agrees now mid) →
      IfOk (byte_written f t w (shown_units f mid now) (addr + 1) (n / 256)) (IsLeft f agrees now new) → IfOk (even_word_written f t w u addr n) (IsLeft f agrees now new)
  two_left now mid new low high =
      subst (λ r. IfOk (word_written_as f t w u addr n r) (IsLeft f agrees now new)) (sym two)
      (if_ok_then (IsLeft f agrees now new) (byte_written f t w u addr (n % 256)) (λ v. byte_written f t w v (addr + 1) (n / 256))
      (weaker (IsLeft f agrees now mid) (λ v. IfOk (byte_written f t w v (addr + 1) (n / 256)) (IsLeft f agrees now new)) (byte_written f t w u addr (n % 256))
      (λ v left. subst (λ v. IfOk (byte_written f t w v (addr + 1) (n / 256)) (IsLeft f agrees now new)) left.shows high) low))
