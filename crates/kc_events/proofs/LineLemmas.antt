-- The text of a line: it is that of no other line, has no end within it, and is short.
use Rattle.std.proofs.Common.{◌≡◌, ℕ, zero, suc, ◌<◌, ◌≤◌, Bool, true, false, leb, Option, Some, None, List, [], ◌∷◌, ◌++◌, length, refl, sym, ap, subst, ◌∙◌, length-append, arith}
use Rattle.std.specs.Prelude.{codes, decimal}
use Rattle.std.proofs.lemmas.Bool.{leb-true}
use Rattle.std.proofs.lemmas.Fmt.{length-decimal-le}
use Rattle.kc_base.specs.Limits.{max_states, entry_count, transfer_count}
use Rattle.kc_base.specs.declared.types.PtsMode.{PtsMode}
use Rattle.kc_base.specs.declared.types.PtsMode.TheVariants as mode
use Rattle.kc_base.specs.Pins.{pin_name}
use Rattle.kc_base.proofs.Words.{Word, Plain, word-from, plain-word, plain-more}
use Rattle.kc_base.proofs.Numbers.{two-long}
use Rattle.kc_trace.specs.declared.record.Record.{Record}
use Rattle.kc_trace.specs.declared.record.Record.TheVariants.{Pin, Entered, Served, Undef, Stopped, Pc, Psw, Wsr, Registers}
use Rattle.kc_trace.specs.Text.{kind_number, mode_name, end_name, fields_of}
use Rattle.kc_events.specs.declared.line.Line.{Line}
use Rattle.kc_events.specs.declared.line.Line.TheVariants.{Printed, Restarted}
use Rattle.kc_events.specs.Candidates.{restart_with, restart_of}
use Rattle.kc_events.specs.Sound.{IsSound}
use Rattle.kc_events.specs.Lines.{reset_name, line_text, IsSoundLine}
use Rattle.kc_base.proofs.PinLemmas.{each_below}
use Rattle.kc_events.proofs.Spelled.{time-read, behind-time, time-word, two, same_line, plain, kind-small}

-- ---- the end of a life

name-word : (by_watchdog : Bool) → Word (reset_name by_watchdog)
name-word true = word-from (codes "watchdog") refl
name-word false = word-from (codes "reset") refl

restart_text : (at : ℕ) (by_watchdog : Bool) → line_text (Restarted at by_watchdog) ≡ 66 ∷ 32 ∷ (decimal at ++ 32 ∷ reset_name by_watchdog)
restart_text at by_watchdog = ap (λ (t : List ℕ). 66 ∷ 32 ∷ t) (two (decimal at) (reset_name by_watchdog))

name-read : (at : ℕ) (by_watchdog : Bool) → restart_with (Some at) (reset_name by_watchdog) ≡ Some (at, by_watchdog)
name-read at true = refl
name-read at false = refl

pub restart-read : (at : ℕ) (by_watchdog : Bool) → at ≤ max_states → restart_of (line_text (Restarted at by_watchdog)) ≡ Some (at, by_watchdog)
restart-read at by_watchdog early =
    let time = time-read at (reset_name by_watchdog) early in
    let name = behind-time at (reset_name by_watchdog) early in
    ap restart_of (restart_text at by_watchdog) ∙ (λ i. restart_with (time i) (name i)) ∙ name-read at by_watchdog

abbrev pub time_in : Option (ℕ × Bool) → ℕ
time_in None = 0
time_in (Some r) = r.0

abbrev pub origin_in : Option (ℕ × Bool) → Bool
origin_in None = false
origin_in (Some r) = r.1

not_none : (r : ℕ × Bool) → Some r ≡ None → ⊥
not_none r e = absurd cc

-- a text that can be none is none
pub no_restart : (text : List ℕ) → restart_of text ≡ None → (at : ℕ) (by_watchdog : Bool) → at ≤ max_states → line_text (Restarted at by_watchdog) ≡ text → ⊥
no_restart text none at by_watchdog early e =
    not_none (at, by_watchdog) (sym (restart-read at by_watchdog early) ∙ ap restart_of e ∙ none)

-- a text that another one could be is none
pub other_restart : (text : List ℕ) (t : ℕ) (by_other : Bool) → restart_of text ≡ Some (t, by_other) → (line_text (Restarted t by_other) ≡ text → ⊥) →
    (at : ℕ) (by_watchdog : Bool) → at ≤ max_states → line_text (Restarted at by_watchdog) ≡ text → ⊥
other_restart text t by_other is differs at by_watchdog early e =
    let both = sym (restart-read at by_watchdog early) ∙ ap restart_of e ∙ is in
    differs ((λ i. line_text (Restarted (sym (ap time_in both) i) (sym (ap origin_in both) i))) ∙ e)

-- ---- one line

abbrev first : List ℕ → ℕ
first [] = 0
first (c ∷ cs) = c

abbrev is_letter : ℕ → Type 0
is_letter c = c ≡ 66 → ⊥

-- no record begins with the letter of such an end
record_letter : (item : Record) → is_letter (first (fields_of item))
unfolding fields_of
record_letter (Pin at edge) = λ e. absurd (omega (arith, e))
record_letter (Entered at vector back) = λ e. absurd (omega (arith, e))
record_letter (Served at vector m count) = λ e. absurd (omega (arith, e))
record_letter (Undef what) = λ e. absurd (omega (arith, e))
record_letter (Stopped at how) = λ e. absurd (omega (arith, e))
record_letter (Pc value) = λ e. absurd (omega (arith, e))
record_letter (Psw value) = λ e. absurd (omega (arith, e))
record_letter (Wsr value) = λ e. absurd (omega (arith, e))
record_letter (Registers base bytes) = λ e. absurd (omega (arith, e))

pub same_text : (line other : Line) → IsSoundLine line → IsSoundLine other → line_text line ≡ line_text other → line ≡ other
same_text (Printed item) (Printed other) h k e = ap Printed (same_line item other h k e)
same_text (Printed item) (Restarted at by_watchdog) h k e = absurd (record_letter item (ap first (e ∙ restart_text at by_watchdog)))
same_text (Restarted at by_watchdog) (Printed item) h k e = absurd (record_letter item (ap first (sym e ∙ restart_text at by_watchdog)))
same_text (Restarted at by_watchdog) (Restarted t by_other) h k e =
    let both = sym (restart-read at by_watchdog h) ∙ ap restart_of e ∙ restart-read t by_other k in
    (λ i. Restarted (ap time_in both i) (ap origin_in both i))

-- ---- no end of line within it

pub plain_text : (line : Line) → IsSoundLine line → Plain (line_text line)
plain_text (Printed item) h = plain item h
plain_text (Restarted at by_watchdog) h =
    let line = plain-more (decimal at) (reset_name by_watchdog) (time-word at h) (plain-word (reset_name by_watchdog) (name-word by_watchdog)) in
    subst Plain (sym (restart_text at by_watchdog)) (omega arith, (omega arith, line))

-- ---- it is short

number_short : (n : ℕ) → n ≤ max_states → length (decimal n) ≤ 16
number_short n h = length-decimal-le 16 n (omega arith) (omega arith) (omega arith)

pin_short : (pin : ℕ) → pin < 41 → length (pin_name pin) ≤ 6
pin_short pin less = leb-true (length (pin_name pin)) 6 (each_below (λ n. leb (length (pin_name n)) 6) 41 pin refl less)

mode_short : (m : PtsMode) → length (mode_name m) ≤ 6
mode_short mode.Single = omega arith
mode_short mode.Block = omega arith
mode_short mode.Hsi = omega arith
mode_short mode.Hso = omega arith
mode_short mode.Scan = omega arith

end_short : (how : ℕ) → length (end_name how) ≤ 9
end_short zero = omega arith
end_short (suc zero) = omega arith
end_short (suc (suc zero)) = omega arith
end_short (suc (suc (suc n))) = omega arith

name_short : (by_watchdog : Bool) → length (reset_name by_watchdog) ≤ 8
name_short true = omega arith
name_short false = omega arith

fields_short : (item : Record) → IsSound item → length (fields_of item) ≤ 255
unfolding fields_of
fields_short (Pin at edge) h = simp length-append (omega (arith, number_short at h.1, pin_short edge.pin.0 h.0))
fields_short (Entered at vector back) h = let few : vector < entry_count = h.1.1 in simp length-append (omega (arith, number_short at h.1.0, number_short vector (omega (arith, few))))
fields_short (Served at vector m count) h =
    let few : vector < transfer_count = h.1.1 in
    let least : count < 256 = h.1.2 in
    simp length-append (omega (arith, number_short at h.1.0, number_short vector (omega (arith, few)), mode_short m, number_short count (omega (arith, least))))
fields_short (Undef what) h = simp length-append (omega (arith, number_short what.at h.1.0, number_short (kind_number what.kind) (omega (arith, kind-small what.kind))))
fields_short (Stopped at how) h = simp length-append (omega (arith, number_short at h.1, end_short how))
fields_short (Pc value) h = omega arith
fields_short (Psw value) h = omega arith
fields_short (Wsr value) h = omega arith
fields_short (Registers base bytes) h = simp length-append (omega (arith, two-long bytes, h.1.0))

pub short_text : (line : Line) → IsSoundLine line → length (line_text line) ≤ 255
short_text (Printed item) h = fields_short item h
short_text (Restarted at by_watchdog) h = simp length-append (omega (arith, number_short at h, name_short by_watchdog))
