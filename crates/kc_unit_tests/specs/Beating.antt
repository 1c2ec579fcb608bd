-- A metronome, a further unit that is made for tests: it has no register and no data, but does in each thousandth state what
-- that state says. It turns HSO1 and raises request 9 (this kit's own).
use Rattle.std.specs.Prelude.{ℕ, ◌/◌, ◌%◌, ◌==◌, Bool, false, if◌then◌else◌, None, [], ◌∷◌}
use Rattle.kc_extra.specs.declared.outcome.ExtraOut.{ExtraOut}
use Rattle.kc_extra.specs.Further.{Further}
use Rattle.kc_unit_tests.specs.Blinking.{edge_to}

abbrev pub beats : ℕ → Bool
beats t = t % 1000 == 999

-- high after each second beat
abbrev pub beat_of : ℕ → ExtraOut
beat_of t = record {
  raised = record { 0 = if beats t then 512 else 0 };
  moved = if beats t then edge_to 1 ((t / 1000) % 2 == 0) ∷ [] else [];
}

abbrev pub beat_further : {X : Type 0} → Further X
beat_further = record {
  step = λ t levels edges d. d;
  out = λ t levels edges d. beat_of t;
  rest = λ t d. d;
  rest_out = λ t d. beat_of t;
  readable = λ window sfr. false;
  answer = λ window sfr t d. None;
  after_read = λ window sfr t d. d;
  writable = λ window sfr. false;
  after_write = λ window sfr value t d. d;
  started = λ t d. d;
}
