-- A text is reported byte by byte.
use Rattle.std.proofs.Common.{ℕ, ◌≤◌, ◌<◌, ◌-◌, List, [], ◌∷◌, length, take, drop, get_or, subst, arith}
use Rattle.std.proofs.lemmas.List.{take_all}
use Rattle.kc_trace.specs.Out.{Out, Puts}
use Rattle.kc_trace.proofs.Outs.{Puts-append, Puts-nothing}
use Rattle.kc_kit_files.specs.Shown.{shown_byte, shown}

pub reports-first : (a b end : Out) (bytes : List ℕ) → 1 ≤ length bytes → Puts a (shown_byte (get_or bytes 0 0)) b → Puts b (shown (take (length bytes - 1) (drop 1 bytes))) end → Puts a (shown bytes) end
reports-first a b end [] one first rest = absurd (omega (arith, one))
reports-first a b end (byte ∷ bytes) one first rest = Puts-append a (shown_byte byte) b (shown bytes) end first (subst (λ text. Puts b (shown text) end) (take_all (length (byte ∷ bytes) - 1) bytes (omega arith)) rest)

pub reports-nothing : (a : Out) (bytes : List ℕ) → length bytes < 1 → Puts a (shown bytes) a
reports-nothing a [] none = Puts-nothing a
reports-nothing a (byte ∷ bytes) none = absurd (omega (arith, none))
