-- A run of a board that goes on after a reset, with the watchdog (this kit's own).
use Rattle.std.specs.Prelude.{ℕ, List, length, map, Option, Some, None}
use Rattle.std.specs.List.{range_with_len}
use Rattle.kc_cycles.specs.Life.{Life}
use Rattle.kc_cycles.specs.Lives.{lives_of, lives_text, last_end, text_before}
use Rattle.kc_cycles.specs.Making.{deadline_of}
use Rattle.kc_kit_files.specs.Response.{Response}
use Rattle.kc_kit_words.specs.declared.extent.Extent.{Extent}
use Rattle.kc_kit_inputs.specs.declared.driving.Driving.{Driving}
use Rattle.kc_kit_running.specs.Running.{ends_with, run_response, run_of}
use Rattle.kc_kit_running.specs.Sources.{FileLines}
use Rattle.kc_kit_running.specs.Watched.{WatchedUnit, watched_further, watched_for}

-- the lives of a board: at most so many, in so many states
abbrev pub board_lives : ℕ → ℕ → Driving → List ℕ → List (Life WatchedUnit)
board_lives most states driving image = lives_of watched_further deadline_of image driving.stimuli (watched_for driving.values driving.stimuli) states most

-- How the last life ends, and the text of all. Each life makes its machine anew: before each, memory may be wanted, and then the
-- text of those before it is printed, with the line after each.
abbrev pub lives_response : {X : Type 0} → FileLines → List (Life X) → Response
lives_response lines lives = ends_with lines (last_end lives) (lives_text lives) (map (λ n. text_before n lives) (range_with_len 0 (length lives)))

-- ---- a run, with lives where their number is reported

abbrev pub response_over : FileLines → Option ℕ → ℕ → Driving → List ℕ → Response
response_over lines None states driving image = run_response lines (run_of states driving image)
response_over lines (Some most) states driving image = lives_response lines (board_lives most states driving image)

-- the response of a board that is run so far, whose image comes from these lines
abbrev pub board_response : FileLines → Extent → Driving → List ℕ → Response
board_response lines extent driving image = response_over lines extent.lives extent.states driving image
