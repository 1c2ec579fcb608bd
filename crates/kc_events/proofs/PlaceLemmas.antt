-- Where the next line stands, by what a reader keeps.
use Rattle.std.proofs.Common.{◌≡◌, ℕ, ◌<◌, ◌==◌, Bool, true, false, not, ◌&&◌, cond, inl, inr, List, refl, sym, ap, ◌∙◌}
use Rattle.std.proofs.lemmas.Bool.{cases_Bool, cases_lt, ne_eqb, and_parts}
use Rattle.kc_base.specs.declared.types.Edge.{Edge}
use Rattle.kc_base.specs.declared.types.Level.{Level}
use Rattle.kc_base.specs.declared.types.Level.TheVariants.{Low}
use Rattle.kc_base.specs.Levels.{level_of}
use Rattle.kc_base.specs.Pins.{IsPin, is_printed, pin_facts}
use Rattle.kc_base.proofs.PinLemmas.{no_facts}
use Rattle.kc_trace.specs.declared.life.Signal.{Signal}
use Rattle.kc_trace.specs.declared.life.Signal.TheVariants.{Output}
use Rattle.kc_trace.specs.declared.levels.Levels.{Levels}
use Rattle.kc_trace.specs.Signals.{pin_of, same_signal, starts_high, start_level}
use Rattle.kc_trace.specs.Tables.{level_in}
use Rattle.kc_events.specs.declared.line.Line.{Line}
use Rattle.kc_events.specs.Lines.{IsSoundLine, line_text}
use Rattle.kc_trace.specs.declared.record.Record.TheVariants.{Pin}
use Rattle.kc_events.specs.declared.reader.Stage.{Stage}
use Rattle.kc_events.specs.declared.reader.Stage.TheVariants.{Living, Broken, Over}
use Rattle.kc_events.specs.Grammar.{Place, MayFollow, may_follow, may_print, is_in_order, same_level, moved_to}
use Rattle.kc_events.specs.Printed.{printed_levels}
use Rattle.kc_events.proofs.LineLemmas.{same_text}

apart : true ≡ false → ⊥
apart e = absurd cc

abbrev pub output : ℕ → Signal
output pin = Output (record { 0 = pin })

pub out_small : (pin : ℕ) → is_printed pin ≡ true → pin < 41
unfolding pin_facts
out_small pin is = elim (cases_lt pin 41) [
  | inl less ↦ less
  | inr past ↦ absurd (apart (sym is ∙ rw (no_facts pin past) refl))
]

pub out_low : (pin : ℕ) → is_printed pin ≡ false → starts_high (output pin) ≡ false
out_low pin none = rw none refl

level_if : (levels : Levels) → ((signal : Signal) → IsPin (pin_of signal) → level_in levels signal ≡ start_level signal) → (pin : ℕ) (b : Bool) → is_printed pin ≡ b → cond b (level_in levels (output pin)) Low ≡ start_level (output pin)
level_if levels start pin true is = start (output pin) (out_small pin is)
level_if levels start pin false none = ap level_of (sym (out_low pin none))

pub printed_start : (levels : Levels) → ((signal : Signal) → IsPin (pin_of signal) → level_in levels signal ≡ start_level signal) → printed_levels levels ≡ (λ pin. start_level (output pin))
printed_start levels start = λ i pin. level_if levels start pin (is_printed pin) refl i

pub printed_moved : (old new : Levels) (pin : ℕ) (level : Level) → is_printed pin ≡ true →
    ((signal : Signal) → level_in new signal ≡ cond (same_signal signal (output pin)) level (level_in old signal)) → printed_levels new ≡ moved_to pin level (printed_levels old)
printed_moved old new pin level is set = λ i other. at other i
  where
    at : (other : ℕ) → printed_levels new other ≡ moved_to pin level (printed_levels old) other
    at other = elim (cases_Bool (is_printed other)) [
      | inl there ↦ rw there (set (output other))
      | inr none ↦
          let differs : (other == pin) ≡ false = ne_eqb other pin (λ same. apart (sym is ∙ ap is_printed (sym same) ∙ none)) in
          rw (none, differs) refl
    ]

-- the edge of a pin that may be printed is that of an output
pub pin_prints : (p : Place) (stage : Stage) (at : ℕ) (edge : Edge) → may_print p stage (Pin at edge) ≡ true → is_printed edge.pin.0 ≡ true
pin_prints p Living at edge h =
    let edge_is = (and_parts (is_in_order p at) (is_printed edge.pin.0 && not (same_level edge.level (p.levels edge.pin.0))) h).1 in
    (and_parts (is_printed edge.pin.0) (not (same_level edge.level (p.levels edge.pin.0))) edge_is).0
pin_prints p (Broken t) at edge h = absurd (apart (sym h))
pin_prints p (Over n) at edge h = absurd (apart (sym h))

-- a line of this text may not come, and no other one has it
pub unfit : (p : Place) (line : Line) (text : List ℕ) → IsSoundLine line → line_text line ≡ text → may_follow p line ≡ false → (other : Line) → MayFollow p other → line_text other ≡ text → ⊥
unfit p line text sound is none other fits same =
    let one : line ≡ other = same_text line other sound fits.sound (is ∙ sym same) in
    apart (sym fits.fits ∙ ap (may_follow p) (sym one) ∙ none)
