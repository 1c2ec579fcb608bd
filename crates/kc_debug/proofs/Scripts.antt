-- Commands one after the other.
use Rattle.std.proofs.Common.{◌≡◌, ℕ, List, [], ◌∷◌, ◌++◌, refl, sym, ap, subst, ◌∙◌, append_assoc, append-nil, flat_map}
use Rattle.circular_buffer.specs.Buffer.{keep_last}
use Rattle.kc_extra.specs.Further.{Further}
use Rattle.kc_debug_script.specs.declared.command.Command.{Command}
use Rattle.kc_debug_script.specs.declared.command.Command.TheVariants.{Step, Go, Break, Registers, Show, Write, History, Quit}
use Rattle.kc_debug_script.specs.declared.line_map.MapEntry.{MapEntry}
use Rattle.kc_debug.specs.Activities.{begun_for}
use Rattle.kc_debug.specs.Lines.{activity_line}
use Rattle.kc_debug.specs.Stops.{states_of_activities, states_of_run}
use Rattle.kc_debug.specs.Transcript.{Debugged, gone_for, after_command, debugged}
use Rattle.kc_debug.proofs.Last.{last-append, last-same, last-finished}

-- what is kept of a script so far
abbrev pub kept_of : {X : Type 0} → Debugged X → Debugged X
kept_of d = record d { begun = keep_last 33 d.begun; text = [] }

-- a command does the same over what is kept
pub record Alike {X : Type 0} (d k l : Debugged X) : Type 0 where
  pub machine : k.machine ≡ l.machine
  pub breaks : k.breaks ≡ l.breaks
  pub begun : keep_last 33 k.begun ≡ keep_last 33 l.begun
  pub text : l.text ≡ d.text ++ k.text

-- a command that is not the end of the script
abbrev pub GoesOn : Command → Type 0
GoesOn Quit = ⊥
GoesOn _ = Unit {0}

module _ {X : Type 0} (f : Further X) (entries : List MapEntry) where
  gone-alike : (n : ℕ) (d : Debugged X) → Alike d (gone_for f n (kept_of d)) (gone_for f n d)
  gone-alike n d = record { machine = refl; breaks = refl; begun = last-append 33 d.begun (begun_for f n d.machine); text = refl }

  pub alike : (c : Command) (d : Debugged X) → Alike d (after_command f entries c (kept_of d)) (after_command f entries c d)
  alike (Step count) d = gone-alike (states_of_activities f count d.machine) d
  alike (Go until) d = gone-alike (states_of_run f d.breaks until d.machine) d
  alike (Break addr) d = record { machine = refl; breaks = refl; begun = last-same 33 d.begun; text = sym (append-nil d.text) }
  alike Registers d = record { machine = refl; breaks = refl; begun = last-same 33 d.begun; text = refl }
  alike (Show from count) d = record { machine = refl; breaks = refl; begun = last-same 33 d.begun; text = refl }
  alike (Write addr value) d = record { machine = refl; breaks = refl; begun = last-same 33 d.begun; text = sym (append-nil d.text) }
  alike History d = record {
    machine = refl;
    breaks = refl;
    begun = last-same 33 d.begun;
    text = ap (λ xs. d.text ++ flat_map (activity_line entries) xs) (sym (last-finished d.machine.under_way d.begun));
  }
  alike Quit d = record { machine = refl; breaks = refl; begun = last-same 33 d.begun; text = sym (append-nil d.text) }

  -- ---- a script

  pub debugged-nil : (d : Debugged X) → debugged f entries [] d ≡ d
  unfolding debugged
  debugged-nil d = refl

  pub debugged-quit : (commands : List Command) (d : Debugged X) → debugged f entries (Quit ∷ commands) d ≡ d
  unfolding debugged
  debugged-quit commands d = refl

  pub debugged-more : (c : Command) (commands : List Command) (d : Debugged X) → GoesOn c → debugged f entries (c ∷ commands) d ≡ debugged f entries commands (after_command f entries c d)
  unfolding debugged
  debugged-more (Step count) commands d h = refl
  debugged-more (Go until) commands d h = refl
  debugged-more (Break addr) commands d h = refl
  debugged-more Registers commands d h = refl
  debugged-more (Show from count) commands d h = refl
  debugged-more (Write addr value) commands d h = refl
  debugged-more History commands d h = refl
  debugged-more Quit commands d h = absurd h

  -- what commands print comes behind what was printed
  pub debugged-text : (commands : List Command) (d : Debugged X) → (more : List ℕ) × ((debugged f entries commands d).text ≡ d.text ++ more)
  debugged-text [] d = ([], ap (λ (e : Debugged X). e.text) (debugged-nil d) ∙ sym (append-nil d.text))
  debugged-text (c ∷ commands) d = by_command c refl (debugged-text commands (after_command f entries c d))
    where
      by_goes : GoesOn c → (more : List ℕ) × ((debugged f entries commands (after_command f entries c d)).text ≡ (after_command f entries c d).text ++ more) →
          (more : List ℕ) × ((debugged f entries (c ∷ commands) d).text ≡ d.text ++ more)
      by_goes goes rest =
          let k : Debugged X = after_command f entries c (kept_of d) in (
            k.text ++ rest.0,
            ap (λ (e : Debugged X). e.text) (debugged-more c commands d goes) ∙ rest.1 ∙ ap (λ xs. xs ++ rest.0) (alike c d).text ∙ append_assoc d.text k.text rest.0,
          )

      by_command : (e : Command) → c ≡ e → (more : List ℕ) × ((debugged f entries commands (after_command f entries c d)).text ≡ (after_command f entries c d).text ++ more) →
          (more : List ℕ) × ((debugged f entries (c ∷ commands) d).text ≡ d.text ++ more)
      by_command Quit is rest =
          ([], ap (λ x. (debugged f entries (x ∷ commands) d).text) is ∙ ap (λ (e : Debugged X). e.text) (debugged-quit commands d) ∙ sym (append-nil d.text))
      by_command (Step count) is rest = by_goes (subst GoesOn (sym is) tt) rest
      by_command (Go until) is rest = by_goes (subst GoesOn (sym is) tt) rest
      by_command (Break addr) is rest = by_goes (subst GoesOn (sym is) tt) rest
      by_command Registers is rest = by_goes (subst GoesOn (sym is) tt) rest
      by_command (Show from count) is rest = by_goes (subst GoesOn (sym is) tt) rest
      by_command (Write addr value) is rest = by_goes (subst GoesOn (sym is) tt) rest
      by_command History is rest = by_goes (subst GoesOn (sym is) tt) rest
