-- Levels where nothing is wired.
use Rattle.std.proofs.Common.{◌≡◌, ℕ, true, ◌==◌, sym, ◌∙◌, ap, refl, length}
use Rattle.std.specs.Prelude.{bit_or}
use Rattle.std.proofs.lemmas.Bool.{eq-eqb}
use Rattle.kc_stim.specs.Drives.{Drives}
use Rattle.kc_block_spec.specs.Levels.{follows, stimulated_before, wired}
use Rattle.kc_block_units.specs.Scheduler.{Scheduler, levels_ahead, AreHeld}
use Rattle.kc_block_units.proofs.InputMasks.{no_wires}

no_output : (d : Drives) (outs : ℕ) → (length d.wires == 0) ≡ true → wired d outs ≡ 0
no_output d outs empty = sym (no_wires d (λ o. follows o outs) refl empty)

-- no input waits for its output
pub nothing_differs : {X : Type 0} (h : Scheduler X) (now : ℕ) → AreHeld h.drives h.board_registers.levels now → (length h.drives.wires == 0) ≡ true →
    (levels_ahead h now == h.board_registers.levels) ≡ true
nothing_differs h now held empty =
    let ahead : levels_ahead h now ≡ bit_or (stimulated_before h.drives now) 0 = ap (λ w. bit_or (stimulated_before h.drives now) w) (no_output h.drives _ empty) in
    let levels : h.board_registers.levels ≡ bit_or (stimulated_before h.drives now) 0 = held.are ∙ ap (λ w. bit_or (stimulated_before h.drives now) w) (no_output h.drives held.outs empty) in
    eq-eqb _ _ (ahead ∙ sym levels)
