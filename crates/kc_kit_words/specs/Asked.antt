-- What a read command asks for, and what a read option sets (this kit's own).
use Rattle.std.specs.Prelude.{◌≡◌, ℕ, ◌≤◌, ◌<◌, true, map, length, string_bytes, Option, IfSome}
use Rattle.std.specs.Option.{option_map}
use Rattle.kc_base.specs.Limits.{image_start}
use Rattle.kc_link_place.specs.declared.ranges.Ranges.{Ranges}
use Rattle.kc_link_place.specs.Ranges.{are_in_bounds}
use Rattle.kc_kit_words.specs.declared.command.Behind.{Behind as ReadBehind}
use Rattle.kc_kit_words.specs.declared.command.Beside.{Beside as ReadBeside}
use Rattle.kc_kit_words.specs.declared.command.Command.{Command as Read}
use Rattle.kc_kit_words.specs.declared.command.Command.TheVariants as read
use Rattle.kc_kit_words.specs.declared.extent.Extent.{Extent}
use Rattle.kc_kit_words.specs.Inputs.{inputs_in}
use Rattle.kc_kit_words.specs.Values.{max_states, max_lives}
use Rattle.kc_kit_words.specs.Commands.{Behind, Beside, Command, Helps, HelpsOn, ReportsVersion, Runs, Profiles, Assembles, Packs, Links, RunsHex, ProfilesHex, Lists, Debugs, Generates, Dumps, Checks, Bounds, Explains}

-- the names of the files that are written beside a hex file
abbrev pub beside_in : ReadBeside → Beside
beside_in beside = record { lines = option_map (λ l. l.now) beside.lines; map = option_map (λ m. m.now) beside.map }

-- the names of the files that are written behind a run
abbrev pub behind_in : ReadBehind → Behind
behind_in behind = record { profile = option_map (λ p. p.now) behind.profile; cover = option_map (λ c. c.now) behind.cover }

abbrev pub asked : Read → Command
asked read.Help = Helps
asked (read.HelpOn help) = HelpsOn help.verb.now
asked read.Version = ReportsVersion
asked (read.Profile run) = Profiles (map string_bytes run.files.now) (inputs_in run.inputs) run.extent run.placing (behind_in run.behind)
asked (read.Run run) = Runs (map string_bytes run.files.now) (inputs_in run.inputs) run.extent run.placing
asked (read.Assemble assemble) = Assembles assemble.file.now assemble.out.now (option_map (λ l. l.now) assemble.list)
asked (read.Pack pack) = Packs (map string_bytes pack.files.now) pack.out.now
asked (read.Link link) = Links (map string_bytes link.files.now) (inputs_in link.inputs) link.out.now (beside_in link.beside) link.placing
asked (read.ProfileHex run) = ProfilesHex run.file.now (inputs_in run.inputs) run.extent run.out.now
asked (read.RunHex run) = RunsHex run.file.now (inputs_in run.inputs) run.extent
asked (read.List list) = Lists list.file.now list.first list.last
asked (read.Debug debug) = Debugs debug.file.now debug.script.now (inputs_in debug.inputs) debug.lives
asked (read.Generate generate) = Generates generate.number
asked (read.Dump dump) = Dumps dump.trace.now (inputs_in dump.inputs) dump.out.now dump.clock
asked (read.Check check) = Checks check.trace.now check.rules.now (inputs_in check.inputs) check.clock
asked (read.Bound bound) = Bounds bound.file.now bound.from.now (option_map (λ t. t.now) bound.to) (inputs_in bound.inputs) bound.wanted
asked (read.Explain explain) = Explains explain.code.now

-- 1 to 64 files
pub record AreFew (count : ℕ) : Type 0 where
  pub some : 0 < count
  pub few : count ≤ 64

-- 1 to 64 files, and ranges within their bounds
pub record AreLinkable (count : ℕ) (placing : Ranges) : Type 0 where
  pub some : 0 < count
  pub few : count ≤ 64
  pub bounds : are_in_bounds placing ≡ true

-- state times and lives within their limits
pub record IsBounded (extent : Extent) : Type 0 where
  pub states : extent.states ≤ max_states
  pub some : IfSome extent.lives (λ n. 1 ≤ n)
  pub few : IfSome extent.lives (λ n. n ≤ max_lives)

-- lives within their limits, where an option gives their number
pub record AreLives (lives : Option ℕ) : Type 0 where
  pub some : IfSome lives (λ n. 1 ≤ n)
  pub few : IfSome lives (λ n. n ≤ max_lives)

-- a run is within its limits, files may be linked, addresses are in order, an oscillator goes
abbrev pub IsWithin : Read → Type 0
IsWithin (read.Profile run) = IsBounded run.extent × AreLinkable (length run.files.now) run.placing
IsWithin (read.Run run) = IsBounded run.extent × AreLinkable (length run.files.now) run.placing
IsWithin (read.Pack pack) = AreFew (length pack.files.now)
IsWithin (read.Link link) = AreLinkable (length link.files.now) link.placing
IsWithin (read.ProfileHex run) = IsBounded run.extent
IsWithin (read.RunHex run) = IsBounded run.extent
IsWithin (read.List list) = (image_start ≤ list.first) × (list.first ≤ list.last)
IsWithin (read.Debug debug) = AreLives debug.lives
IsWithin (read.Dump dump) = 1 ≤ dump.clock
IsWithin (read.Check check) = 1 ≤ check.clock
IsWithin _ = Unit {0}
