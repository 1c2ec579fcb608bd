-- A run behind which is written where its states went, with its statistics, and which lines of the sources have run (this kit's own).
use Rattle.std.specs.Prelude.{ℕ, ◌+◌, List, [], ◌∷◌, ◌++◌, length, map, flat_map, codes, decimal, Option, Some, None}
use Rattle.std.specs.List.{range_with_len}
use Rattle.kc_extra.specs.Further.{Further}
use Rattle.kc_stim.specs.Drives.{driven_from}
use Rattle.kc_machine_spec.specs.declared.doing.End.{End}
use Rattle.kc_machine_spec.specs.Machine.{Machine, start}
use Rattle.kc_machine_spec.specs.Run.{end_of}
use Rattle.kc_machine_spec.specs.Text.{trace_of}
use Rattle.kc_cycles.specs.Life.{Life}
use Rattle.kc_cycles.specs.Lives.{last_end, lives_text, text_before}
use Rattle.kc_profile.specs.declared.sight.Sight.{Sight}
use Rattle.kc_profile.specs.declared.statistics_text.Scope.{Scope}
use Rattle.kc_profile.specs.declared.statistics_text.Scope.TheVariants as scope
use Rattle.kc_profile.specs.declared.spot.Spot.{Spot}
use Rattle.kc_profile.specs.Spots.{spots_for}
use Rattle.kc_profile.specs.Sights.{history}
use Rattle.kc_profile.specs.Tally.{Tally, tally_of}
use Rattle.kc_profile.specs.Text.{profile_text}
use Rattle.kc_profile.specs.StatisticsText.{statistics_text}
use Rattle.kc_profile.specs.Statistics.{Statistics, statistics_of, statistics_of_lives}
use Rattle.kc_profile.specs.Cover.{cover_text}
use Rattle.kc_profile.specs.declared.source.Source.{Source}
use Rattle.kc_debug_script.specs.declared.line_map.MapEntry.{MapEntry}
use Rattle.kc_kit_files.specs.Response.{Response, Write, write}
use Rattle.kc_kit_words.specs.Commands.{Behind}
use Rattle.kc_kit_words.specs.declared.extent.Extent.{Extent}
use Rattle.kc_kit_inputs.specs.declared.driving.Driving.{Driving}
use Rattle.kc_kit_running.specs.declared.accounts.Lines.{Lines}
use Rattle.kc_kit_running.specs.Fitted.{fitted_further}
use Rattle.kc_kit_running.specs.Lives.{board_lives}
use Rattle.kc_kit_running.specs.Running.{machine_of, run_of, said_of, status_of}
use Rattle.kc_kit_running.specs.Sources.{FileLines, lines_in, no_lines}
use Rattle.kc_kit_running.specs.Watched.{WatchedUnit, watched_further, watched_for}

-- what is known of the sources of an image: the entries of its line map, the instructions of each source, and the line of each address
pub record Known : Type 0 where
  pub entries : List MapEntry
  pub sources : List Source
  pub lines : FileLines

abbrev pub known : Lines → Known
known lines = record { entries = lines.entries.items; sources = lines.sources.items; lines = lines_in lines.linked }

-- nothing is known of a hex file
abbrev pub none_known : Known
none_known = record { entries = []; sources = []; lines = no_lines }

-- the texts of a profile and of a tracefile
pub record Texts : Type 0 where
  pub profile : List ℕ
  pub cover : List ℕ

-- the files that are asked for
abbrev pub write_of : Option (List ℕ) → List ℕ → List Write
write_of None text = []
write_of (Some name) text = write name text ∷ []

abbrev pub writes_of : Behind → Texts → List Write
writes_of behind texts = write_of behind.profile texts.profile ++ write_of behind.cover texts.cover

-- where states went, and the statistics besides
abbrev pub counted_text : Scope → List MapEntry → Tally → Statistics → List ℕ
counted_text s entries tally statistics = profile_text tally entries ++ statistics_text s statistics

-- ---- one life: the first so many states of a machine, of which what they have shown comes the last first

pub record Counted : Type 0 where
  pub spots : List Spot
  pub sights : List Sight

abbrev pub counted_for : {X : Type 0} → Further X → ℕ → Machine X → Counted
counted_for f states m = record { spots = spots_for f states m; sights = history f states m }

abbrev pub life_text : Known → ℕ → Counted → List ℕ
life_text k life c = counted_text scope.Life k.entries (tally_of c.spots) (statistics_of life c.sights)

abbrev pub run_texts : Known → Counted → Texts
run_texts k c = record { profile = life_text k 1 c; cover = cover_text None (statistics_of 1 c.sights) k.sources }

-- ---- several lives: each under its heading, and the sums behind them

abbrev pub heading : List ℕ → ℕ → List ℕ
heading word number = word ++ decimal number ++ codes "\n"

unfoldable pub lives_profile : Known → ℕ → List Counted → List ℕ
lives_profile k life [] = []
lives_profile k life (c ∷ more) = (heading (codes "life ") life ++ life_text k life c) ++ lives_profile k (life + 1) more

unfoldable pub lives_cover : Known → ℕ → List Counted → List ℕ
lives_cover k life [] = []
lives_cover k life (c ∷ more) = cover_text (Some life) (statistics_of life c.sights) k.sources ++ lives_cover k (life + 1) more

abbrev pub sums_text : Known → List Counted → List ℕ
sums_text k lives =
    heading (codes "lives ") (length lives)
    ++ counted_text scope.Lives k.entries (tally_of (flat_map (λ (c : Counted). c.spots) lives)) (statistics_of_lives 1 (map (λ (c : Counted). c.sights) lives))

abbrev pub lives_texts : Known → List Counted → Texts
lives_texts k lives = record { profile = lives_profile k 1 lives ++ sums_text k lives; cover = lives_cover k 1 lives }

-- what each life of a board counts, by the state at which it begins
unfoldable pub counted_from : Driving → List ℕ → ℕ → List (Life WatchedUnit) → List Counted
counted_from driving image from [] = []
counted_from driving image from (life ∷ more) =
    counted_for watched_further life.ran.machine.time (start image (driven_from from driving.stimuli) (watched_for driving.values driving.stimuli from))
    ∷ counted_from driving image (from + life.ran.machine.time) more

-- ---- a run that is counted: how it ends, its text, where memory may be wanted in that, and the texts behind it

pub record Run : Type 0 where
  pub how : End
  pub text : List ℕ
  pub pauses : List (List ℕ)
  pub texts : Texts

abbrev pub once : ℕ → Known → Driving → List ℕ → Run
once states k driving image =
    let ran = run_of states driving image in
    record { how = end_of ran.machine; text = trace_of ran; pauses = []; texts = run_texts k (counted_for fitted_further states (machine_of driving image)) }

-- each life makes its machine anew, and puts its texts behind those before
abbrev pub over_lives : List (Life WatchedUnit) → Known → Driving → List ℕ → Run
over_lives lives k driving image = record {
  how = last_end lives;
  text = lives_text lives;
  pauses = map (λ n. text_before n lives) (range_with_len 0 (length lives));
  texts = lives_texts k (counted_from driving image 0 lives);
}

abbrev pub run_over : Option ℕ → ℕ → Known → Driving → List ℕ → Run
run_over None states k driving image = once states k driving image
run_over (Some most) states k driving image = over_lives (board_lives most states driving image) k driving image

-- memory may be wanted before the text, in it, and behind it, for the texts, the files and what is said
abbrev pub pauses_of : Run → List (List ℕ)
pauses_of run = [] ∷ (run.pauses ++ run.text ∷ [])

-- the response: the text is that of the run without files, and behind it the files are written
abbrev pub profiled : Behind → Known → Run → Response
profiled behind k run = record {
  status = status_of run.how;
  text = run.text;
  pauses = pauses_of run;
  writes = writes_of behind run.texts;
  diagnostic = said_of k.lines run.how;
}

abbrev pub profile_response : Extent → Behind → Known → Driving → List ℕ → Response
profile_response extent behind k driving image = profiled behind k (run_over extent.lives extent.states k driving image)
