-- What a trace shows of itself, and what texts and records do to it (this kit's own).
use Rattle.std.specs.Prelude.{◌≡◌, ℕ, ◌≤◌, Bool, true, false, List, Option}
use Rattle.kc_base.specs.Causes.{Rose, Grew, GrewByPart}
use Rattle.kc_trace.specs.declared.record.Record.{Record}
use Rattle.kc_trace.specs.declared.trace.Counts.{Counts}
use Rattle.kc_trace.specs.Text.{line_of, text_of}
use Rattle.kc_trace.specs.Counting.{counted_unless, counted_all}

-- what the sink reports as written, how often it has failed, whether it has failed this trace, and what was counted
pub record Out : Type 0 where
  pub written : Option (List ℕ)
  pub faults : ℕ
  pub failed : Bool
  pub counts : Counts

-- The text is written whole, or the sink fails and a prefix of it is written. After a fault nothing more is written.
pub record Puts (old : Out) (text : List ℕ) (new : Out) : Type 0 where
  pub whole : new.failed ≡ false → Grew old.written text new.written
  pub part : GrewByPart old.written text new.written
  pub cause : old.failed ≡ false → new.failed ≡ true → Rose old.faults new.faults
  pub later : old.faults ≤ new.faults
  pub calm : new.failed ≡ false → new.faults ≡ old.faults
  pub stays : old.failed ≡ true → new.failed ≡ true
  pub silent : old.failed ≡ true → new.written ≡ old.written

-- one record is put
pub record IsPut (old : Out) (item : Record) (new : Out) : Type 0 where
  pub line : Puts old (line_of item) new
  pub counts : new.counts ≡ counted_unless old.failed item old.counts

-- these records are put, and counted where the sink does not fail
pub record Prints (old : Out) (records : List Record) (new : Out) : Type 0 where
  pub text : Puts old (text_of records) new
  pub counts : new.failed ≡ false → new.counts ≡ counted_all records old.counts
