-- Texts and records that are put one after the other.
use Rattle.std.specs.Prelude.{ℕ, List, ◌++◌}
use Rattle.kc_trace.specs.declared.record.Record.{Record}
use Rattle.kc_trace.specs.Out.{Out, Puts, Prints}

abbrev pub TextsJoin : Type 0
TextsJoin = (a : Out) (x : List ℕ) (b : Out) (y : List ℕ) (c : Out) → Puts a x b → Puts b y c → Puts a (x ++ y) c

abbrev pub RecordsJoin : Type 0
RecordsJoin = (a : Out) (xs : List Record) (b : Out) (ys : List Record) (c : Out) → Prints a xs b → Prints b ys c → Prints a (xs ++ ys) c
