-- What follows from an answer: its status, the files that it writes, and its causes.
use Rattle.std.proofs.Common.{◌≡◌, ◌≢◌, ◌⊎◌, inl, inr, ℕ, ◌+◌, ◌≤◌, Bool, true, false, cond, List, [], ◌∷◌, ◌++◌, length, map, take, drop, fold, Option, Some, None, Result, Ok, Err, refl, sym, ◌∙◌, ap, subst, arith}
use Rattle.std.proofs.lemmas.List.{map-append}
use Rattle.std.specs.Prelude.{nat_lt, IsSomeAnd, codes}
use Rattle.std.specs.Result.{IsOk}
use Rattle.std.specs.Option.{option_to_list}
use Rattle.kc_base.specs.Held.{Holding, Reported}
use Rattle.kc_base.specs.Causes.{Rose}
use Rattle.kc_kit_messages.specs.Codes.{all_codes}
use Rattle.kc_kit_messages.specs.Meanings.{Said, is_among, said_of, IsAnswer}
use Rattle.kc_kit_messages.proofs.Distinct.{meaning-is}
use Rattle.kc_machine_spec.specs.declared.doing.End.{End}
use Rattle.kc_machine_spec.specs.declared.doing.End.TheVariants as end
use Rattle.kc_machine_spec.specs.Run.{end_of}
use Rattle.kc_cycles.specs.Lives.{last_end}
use Rattle.kc_stim.specs.declared.fault.StimFault.{StimFault}
use Rattle.kc_stim.specs.Drives.{Drives}
use Rattle.kc_convert.specs.declared.sample.Sample.{Sample}
use Rattle.kc_convert.specs.Reading as values
use Rattle.kc_stim.specs.Reading.{nothing, with_item, first_fault, items_of}
use Rattle.kc_obj_module.specs.Object.{Object}
use Rattle.kc_obj_module.specs.Spelling as objects
use Rattle.kc_obj_fields.specs.declared.faults.Fault.{Fault}
use Rattle.kc_obj.specs.Reading.{answer_of}
use Rattle.kc_link_place.specs.declared.ranges.Ranges.{Ranges}
use Rattle.kc_link_place.specs.declared.ranges.LinkFault.{LinkFault}
use Rattle.kc_link_place.specs.Placing.{Places}
use Rattle.kc_link.specs.Placed.{placed}
use Rattle.kc_hex.specs.Records.{image_of}
use Rattle.kc_hex.specs.Spelling.{spelling}
use Rattle.kc_kit_files.specs.declared.status.Status.{Status}
use Rattle.kc_kit_files.specs.declared.status.Status.TheVariants as status
use Rattle.kc_kit_files.specs.Response.{Response, Write, write, says, reports, before, joined, Then}
use Rattle.kc_kit_files.specs.Writes.{first_long, unless_long, writing_readable, AreReadable}
use Rattle.kc_base.specs.Limits.{file_limit}
use Rattle.kc_kit_files.specs.Reads.{read_of, reads_of, text_of, long_response, missing_response, Holds, FailedRead}
use Rattle.kc_kit_files.specs.Outside.{Kept, Shown, OthersStay, Wrote, WroteByPart, SinkFailed, WriteFailed, IsGiven, Responses}
use Rattle.kc_kit_files.proofs.LongLemmas.{written-all}
use Rattle.kc_kit_files.proofs.ResponseLemmas.{given-of}
use Rattle.kc_debug_script.specs.LineMap as maps
use Rattle.kc_debug_script.specs.Script as scripts
use Rattle.kc_lib.specs.declared.faults.LibFault.{LibFault}
use Rattle.kc_lib.specs.declared.faults.LibFault.TheVariants as faults
use Rattle.kc_lib.specs.Reading.{read_answer}
use Rattle.kc_lib.specs.Format.{library_bytes}
use Rattle.kc_lib.specs.Names.{doubled}
use Rattle.kc_kit_words.specs.declared.extent.Extent.{Extent}
use Rattle.kc_kit_words.specs.declared.inputs.Role.{Role}
use Rattle.kc_kit_words.specs.declared.inputs.Role.TheVariants as role
use Rattle.kc_lib.specs.Taking.{AreTaken}
use Rattle.kc_kit_words.specs.declared.command.Wanted.{Wanted}
use Rattle.kc_kit_words.specs.Commands.{Behind, Beside, Command, Helps, HelpsOn, ReportsVersion, Runs, Profiles, Assembles, Packs, Links, RunsHex, ProfilesHex, Lists, Debugs, Generates, Dumps, Checks, Bounds, Explains, names_of, names_read, names_written, names_beside, names_behind, names_whole}
use Rattle.kc_kit_words.specs.Words.{placing_of}
use Rattle.kc_kit_inputs.specs.declared.driving.Driving.{Driving}
use Rattle.kc_kit_inputs.specs.Analog.{by_bad_line, values_of}
use Rattle.kc_kit_inputs.specs.Driving.{GivenFiles, given_for, with_drives, driving_of}
use Rattle.kc_kit_inputs.specs.Hex.{by_image, hex_of}
use Rattle.kc_kit_inputs.specs.Inputs.{input_for}
use Rattle.kc_kit_inputs.specs.Library.{fault_response, by_library, library_of}
use Rattle.kc_kit_inputs.specs.Library as libraries
use Rattle.kc_kit_inputs.specs.Lines.{coded}
use Rattle.kc_kit_inputs.specs.Responses.{source_response, line_response, byte_response}
use Rattle.kc_kit_inputs.specs.Objects.{modules_of, by_object, object_of}
use Rattle.kc_kit_inputs.specs.Scripts.{by_lines, script_of, lines_of}
use Rattle.kc_asm.specs.Assembled.{IsFaultless}
use Rattle.kc_kit_inputs.specs.Sources.{AnyDiagnostic, AreModules, ReportsFault, ReportsFirst, AreFaultless}
use Rattle.kc_stim.specs.Faults.{place_of}
use Rattle.kc_kit_inputs.specs.Stimuli.{by_fault, drives_of}
use Rattle.kc_kit_inputs.specs.Stimuli as stimulus
use Rattle.kc_kit_answer.specs.Accepting.{Accepting, IsOneText, AreTwoTexts, reported}
use Rattle.kc_kit_answer.specs.Answer.{OneText, TwoTexts, Parted, CommandAnswer, MayAnswer, IsAccepted, AsksForNoAddress, IsUsage, EndsAccepted, StaysBut}
use Rattle.kc_kit_answer.specs.Bound.{BoundAnswer, AreBoundable}
use Rattle.kc_kit_answer.proofs.BoundLemmas.{IsFound, BoundEnds, bound-ends, bound-done}
use Rattle.kc_kit_answer.specs.Assemble.{AreListings, AssembleAnswer, IsAssemblable}
use Rattle.kc_kit_running.specs.Scripted.{debugged_by, debugged_in_lives, debugger_response, end_in}
use Rattle.kc_kit_answer.specs.Debug.{debug_response, DebugAnswer, IsDebuggable}
use Rattle.kc_kit_answer.specs.Dump.{Dumped, DumpAnswer, IsDumpable}
use Rattle.kc_kit_answer.specs.Check.{Checked, CheckAnswer, CheckTexts, TraceThen, AreCheckable, IsTraceHeld}
use Rattle.kc_kit_verdict.specs.Runs.{broken_in, status_by}
use Rattle.kc_rules.specs.declared.rule.Rule.{Rule}
use Rattle.kc_rules.specs.Lines.{Book, book_of}
use Rattle.kc_events.specs.declared.line.Line.{Line}
use Rattle.kc_events.specs.Lives.{lives_of}
use Rattle.kc_events.proofs.OneReading.{one_reading}
use Rattle.kc_kit_inputs.specs.Responses.{unkept_response}
use Rattle.kc_kit_inputs.specs.Rules.{by_book, rules_of}
use Rattle.kc_kit_inputs.specs.Runs.{IsRunText}
use Rattle.kc_kit_answer.specs.Explain.{explained_by, explained}
use Rattle.kc_kit_running.specs.Counted.{summary_of}
use Rattle.kc_kit_answer.specs.Generate.{made_names, made_texts, made_given}
use Rattle.kc_kit_answer.specs.Hex.{HexReported, RunHexAnswer, ListingOf, ListAnswer}
use Rattle.kc_kit_messages.specs.Rules.{link_line, member_words}
use Rattle.kc_kit_messages.specs.RuleDiagnostics.{link_diagnostic}
use Rattle.kc_kit_answer.specs.Link.{IsMap, map_writes, LinksTo, Taking, Completed, LinkAnswer, IsReadableMap, ArePlaceable, IsLinkable}
use Rattle.kc_kit_answer.proofs.HexLengths.{hex-short}
use Rattle.kc_kit_answer.specs.Pack.{packed, PackAnswer}
use Rattle.kc_kit_answer.specs.Places.{by_places, places_of, Placing}
use Rattle.kc_debug_script.specs.declared.command.Command.{Command as ScriptCommand}
use Rattle.kc_debug_script.specs.declared.line_map.MapEntry.{MapEntry}
use Rattle.kc_kit_running.specs.Profiled.{Known, none_known, profile_response, run_over, write_of}
use Rattle.kc_kit_running.specs.Sources.{FileLines, lines_of_files, no_lines}
use Rattle.kc_kit_answer.specs.Profile.{DrivenWithLines, LinkedWithLines, LinesReported, ProfileAnswer, ProfileHexAnswer}
use Rattle.kc_kit_answer.specs.Run.{Driven, LinkedReported, RunReported, RunAnswer}
use Rattle.kc_kit_running.specs.Lives.{board_lives, response_over, board_response}
use Rattle.kc_kit_running.specs.Running.{status_of, run_of}

-- ---- steps

-- what holds of each refusal and of each answer with the value
pub then-all : {A : Type 0} (P : Response → Type 0) (x : Result A Response) (may : A → Response → Type 0) (r : Response) → ((e : Response) → x ≡ Err e → P e) → ((a : A) → x ≡ Ok a → may a r → P r) → Then x may r → P r
then-all P (Ok a) may r f g h = g a refl h
then-all P (Err e) may r f g h = subst P (sym h) (f e refl)

joined-err : {A : Type 0} (x : Result A Response) (others : Result (List A) Response) (e : Response) → joined x others ≡ Err e → (x ≡ Err e) ⊎ (others ≡ Err e)
joined-err (Err r) others e h = inl (ap Err (let same : r ≡ e = cc in same))
joined-err (Ok a) (Err r) e h = inr (ap Err (let same : r ≡ e = cc in same))
joined-err (Ok a) (Ok more) e h = absurd (cc)

-- ---- statuses other than those of usage and of faults outside

abbrev pub is_reported : Status → Bool
is_reported status.Done = true
is_reported status.Missing = true
is_reported status.Source = true
is_reported status.Input = true
is_reported status.Link = true
is_reported status.Undefined = true
is_reported status.Broken = true
is_reported _ = false

-- such a status, and no file, or files of these names
pub record IsSound (names : List (List ℕ)) (r : Response) : Type 0 where
  pub reported : is_reported r.status ≡ true
  pub named : (r.writes ≡ []) ⊎ (map (λ (w : Write). w.name) r.writes ≡ names)

sound-says : (names : List (List ℕ)) (s : Status) (t : List ℕ) → is_reported s ≡ true → IsSound names (says s t)
sound-says names s t h = record { reported = h; named = inl refl }

-- a refusal, whatever is said of it in words
sound-err : (names : List (List ℕ)) (r e : Response) → is_reported r.status ≡ true → r.writes ≡ [] → r ≡ e → IsSound names e
sound-err names r e h none k = subst (IsSound names) k (record { reported = h; named = inl none })

ok-err : {A : Type 0} (P : Type 0) (a : A) (e : Response) → Ok a ≡ Err e → P
ok-err P a e h = absurd (cc)

sound-read : (names : List (List ℕ)) (name : List ℕ) (content : Option (List ℕ)) (e : Response) → read_of name content ≡ Err e → IsSound names e
sound-read names name None e h = sound-err names (missing_response name) e refl refl (let k : missing_response name ≡ e = cc in k)
sound-read names name (Some bytes) e h = by (nat_lt 1048576 (length bytes)) h
  where
    by : (b : Bool) → cond b (Err (long_response name)) (Ok bytes) ≡ Err e → IsSound names e
    by true k = sound-err names (long_response name) e refl refl (let f : long_response name ≡ e = cc in f)
    by false k = ok-err (IsSound names e) bytes e k

sound-reads : (ns : List (List ℕ)) (names : List (List ℕ)) (contents : List (Option (List ℕ))) (e : Response) → reads_of names contents ≡ Err e → IsSound ns e
sound-reads ns [] contents e h = ok-err (IsSound ns e) [] e h
sound-reads ns (n ∷ names) [] e h = ok-err (IsSound ns e) [] e h
sound-reads ns (n ∷ names) (c ∷ contents) e h = either (joined-err (read_of n c) (reads_of names contents) e h) (sound-reads ns names contents e)
  where
    either : (read_of n c ≡ Err e) ⊎ (reads_of names contents ≡ Err e) → (reads_of names contents ≡ Err e → IsSound ns e) → IsSound ns e
    either (inl k) f = sound-read ns n c e k
    either (inr k) f = f k

sound-object : (ns : List (List ℕ)) (name : List ℕ) (x : Result Object Fault) (e : Response) → by_object name x ≡ Err e → IsSound ns e
sound-object ns name (Ok m) e h = ok-err (IsSound ns e) m e h
sound-object ns name (Err fault) e h =
    let reported = byte_response name fault.at (coded (codes "O") fault.code) in
    sound-err ns reported e refl refl (let k : reported ≡ e = cc in k)

sound-modules : (ns : List (List ℕ)) (names texts : List (List ℕ)) (e : Response) → modules_of object_of names texts ≡ Err e → IsSound ns e
sound-modules ns [] texts e h = ok-err (IsSound ns e) [] e h
sound-modules ns (n ∷ names) [] e h = ok-err (IsSound ns e) [] e h
sound-modules ns (n ∷ names) (t ∷ texts) e h = either (joined-err (object_of n t) (modules_of object_of names texts) e h) (sound-modules ns names texts e)
  where
    either : (object_of n t ≡ Err e) ⊎ (modules_of object_of names texts ≡ Err e) → (modules_of object_of names texts ≡ Err e → IsSound ns e) → IsSound ns e
    either (inl k) f = sound-object ns n (answer_of t) e k
    either (inr k) f = f k

sound-places : (ns names : List (List ℕ)) (ms : List Object) (x : Result Places LinkFault) (e : Response) → by_places names ms x ≡ Err e → IsSound ns e
sound-places ns names ms (Ok places) e h = ok-err (IsSound ns e) places e h
sound-places ns names ms (Err fault) e h =
    let reported = reports status.Link (link_line names fault) (link_diagnostic names ms fault) in
    sound-err ns reported e refl refl (let k : reported ≡ e = cc in k)

sound-hex : (ns : List (List ℕ)) (name text : List ℕ) (x : Result (List ℕ) (ℕ × ℕ)) (e : Response) → by_image name text x ≡ Err e → IsSound ns e
sound-hex ns name text (Ok image) e h = ok-err (IsSound ns e) image e h
sound-hex ns name text (Err fault) e h =
    let reported = line_response name text fault.0 (coded (codes "H") fault.1) in
    sound-err ns reported e refl refl (let k : reported ≡ e = cc in k)

reported-end : (how : End) → is_reported (status_of how) ≡ true
reported-end end.Spent = refl
reported-end end.Powerdown = refl
reported-end end.Reset = refl
reported-end (end.Undefined what access) = refl

sound-run : (ns : List (List ℕ)) (extent : Extent) (lines : FileLines) (driving : Driving) (image : List ℕ) → IsSound ns (board_response lines extent driving image)
sound-run ns extent lines driving image = by extent.lives
  where
    by : (lives : Option ℕ) → IsSound ns (response_over lines lives extent.states driving image)
    by None = record { reported = reported-end (end_of (run_of extent.states driving image).machine); named = inl refl }
    by (Some most) = record { reported = reported-end (last_end (board_lives most extent.states driving image)); named = inl refl }

sound-summary : (ns : List (List ℕ)) (number : ℕ) (driving : Driving) (image : List ℕ) → IsSound ns (summary_of number driving image)
sound-summary ns number driving image = record { reported = reported-end (end_of (run_of 1000000 driving image).machine); named = inl refl }

sound-stimuli : (ns : List (List ℕ)) (name text : List ℕ) (x : Option StimFault) (e : Response) → by_fault name text x ≡ Err e → IsSound ns e
sound-stimuli ns name text None e h = ok-err (IsSound ns e) (fold with_item nothing (items_of text)) e h
sound-stimuli ns name text (Some fault) e h = sound-at (place_of fault) (let k : stimulus.response_at name text (place_of fault) ≡ e = cc in k)
  where
    sound-at : (place : Option (ℕ × List ℕ)) → stimulus.response_at name text place ≡ e → IsSound ns e
    sound-at None k = sound-err ns (stimulus.response_at name text None) e refl refl k
    sound-at (Some p) k = sound-err ns (stimulus.response_at name text (Some p)) e refl refl k

sound-drives : (ns : List (List ℕ)) (stimuli : Option (List ℕ × List ℕ)) (e : Response) → drives_of stimuli ≡ Err e → IsSound ns e
sound-drives ns None e h = ok-err (IsSound ns e) nothing e h
sound-drives ns (Some file) e h = sound-stimuli ns file.0 file.1 (first_fault 0 nothing (items_of file.1)) e h

sound-values : (ns : List (List ℕ)) (name text : List ℕ) (x : Option ℕ) (e : Response) → by_bad_line name text x ≡ Err e → IsSound ns e
sound-values ns name text None e h = ok-err (IsSound ns e) (fold values.with_item [] (values.items_of text)) e h
sound-values ns name text (Some line) e h =
    let reported = line_response name text line (codes "BADANALOG") in
    sound-err ns reported e refl refl (let k : reported ≡ e = cc in k)

sound-analog : (ns : List (List ℕ)) (analog : Option (List ℕ × List ℕ)) (e : Response) → values_of analog ≡ Err e → IsSound ns e
sound-analog ns None e h = let none : List Sample = [] in ok-err (IsSound ns e) none e h
sound-analog ns (Some file) e h = sound-values ns file.0 file.1 (values.first_bad 0 [] (values.items_of file.1)) e h

sound-driving : (ns : List (List ℕ)) (given : GivenFiles) (e : Response) → driving_of given ≡ Err e → IsSound ns e
sound-driving ns given e h = by (drives_of given.stimuli) refl (values_of given.analog) refl h
  where
    by : (x : Result Drives Response) → drives_of given.stimuli ≡ x → (y : Result (List Sample) Response) → values_of given.analog ≡ y → with_drives x y ≡ Err e → IsSound ns e
    by (Err r) f y g k = sound-drives ns given.stimuli e (f ∙ (let l : Err r ≡ Err e = cc in l))
    by (Ok drives) f (Err r) g k = sound-analog ns given.analog e (g ∙ (let l : Err r ≡ Err e = cc in l))
    by (Ok drives) f (Ok values) g k = absurd (cc)

sound-library : (ns : List (List ℕ)) (name : List ℕ) (x : Result (List Object) LibFault) (e : Response) → by_library name x ≡ Err e → IsSound ns e
sound-library ns name (Ok members) e h = ok-err (IsSound ns e) members e h
sound-library ns name (Err fault) e h = sound-at (libraries.place_of fault) (let k : libraries.response_at name (libraries.place_of fault) ≡ e = cc in k)
  where
    sound-at : (place : Option (ℕ × ℕ)) → libraries.response_at name place ≡ e → IsSound ns e
    sound-at None k = sound-err ns (libraries.response_at name None) e refl refl k
    sound-at (Some p) k = sound-err ns (libraries.response_at name (Some p)) e refl refl k

sound-lines-of : {A : Type 0} (ns : List (List ℕ)) (code name text : List ℕ) (x : Result (List A) ℕ) (e : Response) → by_lines code name text x ≡ Err e → IsSound ns e
sound-lines-of ns code name text (Ok said) e h = ok-err (IsSound ns e) said e h
sound-lines-of ns code name text (Err line) e h = sound-err ns (line_response name text line code) e refl refl (let k : line_response name text line code ≡ e = cc in k)

sound-script : (ns : List (List ℕ)) (script : List ℕ × List ℕ) (e : Response) → script_of script.0 script.1 ≡ Err e → IsSound ns e
sound-script ns script e h = sound-lines-of ns (codes "BADCOMMAND") script.0 script.1 (scripts.script_of script.1) e h

sound-source-lines : (ns : List (List ℕ)) (lines : Option (List ℕ × List ℕ)) (e : Response) → lines_of lines ≡ Err e → IsSound ns e
sound-source-lines ns None e h = ok-err (IsSound ns e) [] e h
sound-source-lines ns (Some file) e h = sound-lines-of ns (codes "BADMAP") file.0 file.1 (maps.map_of file.1) e h

sound-reported : {A : Type 0} (ns : List (List ℕ)) (x : Result A Response) (report : A → Response) → ((e : Response) → x ≡ Err e → IsSound ns e) → ((a : A) → IsSound ns (report a)) → IsSound ns (reported x report)
sound-reported ns (Ok a) report f g = g a
sound-reported ns (Err e) report f g = f e refl

sound-debugger : (ns : List (List ℕ)) (lives : Option ℕ) (entries : List MapEntry) (commands : List ScriptCommand) (driving : Driving) (image : List ℕ) → IsSound ns (debugger_response lives entries commands driving image)
sound-debugger ns None entries commands driving image = record { reported = reported-end (end_of (debugged_by entries commands driving image).machine); named = inl refl }
sound-debugger ns (Some most) entries commands driving image = record { reported = reported-end (end_in (debugged_in_lives most entries commands driving image)); named = inl refl }

sound-debug : (ns : List (List ℕ)) (script : List ℕ × List ℕ) (lines : Option (List ℕ × List ℕ)) (lives : Option ℕ) (driving : Driving) (image : List ℕ) → IsSound ns (debug_response script lines lives driving image)
sound-debug ns script lines lives driving image =
    sound-reported ns (script_of script.0 script.1) _ (sound-script ns script)
    (λ commands. sound-reported ns (lines_of lines) _ (sound-source-lines ns lines) (λ entries. sound-debugger ns lives entries commands driving image))

sound-fault : (ns : List (List ℕ)) (name text : List ℕ) (r : Response) → ReportsFault AnyDiagnostic name text r → IsSound ns r
sound-fault ns name text r h = sound-err ns (source_response name h.0 h.1 h.3.0) r refl refl (sym h.3.2)

sound-first : (ns names texts : List (List ℕ)) (r : Response) → ReportsFirst AnyDiagnostic names texts r → IsSound ns r
sound-first ns [] texts r h = absurd h
sound-first ns (n ∷ names) [] r h = absurd h
sound-first ns (n ∷ names) (t ∷ texts) r (inl h) = sound-fault ns n t r h
sound-first ns (n ∷ names) (t ∷ texts) r (inr h) = sound-first ns names texts r h.1

sound-sources : (ns names : List (List ℕ)) (given : GivenFiles) (ranges : Ranges) (texts : List (List ℕ)) (report : FileLines → Driving → List ℕ → Response) (r : Response) →
    ((lines : FileLines) (driving : Driving) (image : List ℕ) → IsSound ns (report lines driving image)) → RunReported AnyDiagnostic names given ranges texts report r → IsSound ns r
sound-sources ns names given ranges texts report r f (Ok ms, made, h) =
    then-all (IsSound ns) (places_of names ms ranges) (λ places. Driven given (LinkedReported texts) (report (lines_of_files names ms places)) ms places) r (sound-places ns names ms (placed ms ranges))
    (λ places e k. then-all (IsSound ns) (driving_of given) (λ d. LinkedReported texts (report (lines_of_files names ms places) d) ms places) r (sound-driving ns given)
    (λ d g l. subst (IsSound ns) (sym l.reported) (f (lines_of_files names ms places) d l.image)) k) h
sound-sources ns names given ranges texts report r f (Err e, reported, h) = subst (IsSound ns) (sym h) (sound-first ns names texts e reported)

names-behind : (p c : Option (List ℕ)) (profile cover : List ℕ) → map (λ (w : Write). w.name) (write_of p profile ++ write_of c cover) ≡ option_to_list p ++ option_to_list c
names-behind None None profile cover = refl
names-behind None (Some c) profile cover = refl
names-behind (Some p) None profile cover = refl
names-behind (Some p) (Some c) profile cover = refl

sound-profile : (extent : Extent) (behind : Behind) (k : Known) (driving : Driving) (image : List ℕ) → IsSound (names_behind behind) (profile_response extent behind k driving image)
sound-profile extent behind k driving image = record { reported = reported-end (run_over extent.lives extent.states k driving image).how; named = inr (names-behind behind.profile behind.cover _ _) }

sound-lines : (ns names : List (List ℕ)) (given : GivenFiles) (ranges : Ranges) (texts : List (List ℕ)) (report : Known → Driving → List ℕ → Response) (r : Response) →
    ((k : Known) (driving : Driving) (image : List ℕ) → IsSound ns (report k driving image)) → LinesReported AnyDiagnostic names given ranges texts report r → IsSound ns r
sound-lines ns names given ranges texts report r f (Ok ms, made, h) =
    then-all (IsSound ns) (places_of names ms ranges) (DrivenWithLines given (LinkedWithLines names texts) report ms) r (sound-places ns names ms (placed ms ranges))
    (λ places e k. then-all (IsSound ns) (driving_of given) (λ d. LinkedWithLines names texts (λ known. report known d) ms places) r (sound-driving ns given)
    (λ d g l. subst (IsSound ns) (sym l.reported) (f l.known d l.image)) k) h
sound-lines ns names given ranges texts report r f (Err e, reported, h) = subst (IsSound ns) (sym h) (sound-first ns names texts e reported)

sound-hex-reported : (ns : List (List ℕ)) (name : List ℕ) (given : GivenFiles) (text : List ℕ) (report : Driving → List ℕ → Response) (r : Response) →
    ((driving : Driving) (image : List ℕ) → IsSound ns (report driving image)) → HexReported name given text report r → IsSound ns r
sound-hex-reported ns name given text report r f h =
    then-all (IsSound ns) (hex_of name text) (λ image. Then (driving_of given) (λ driving response. response ≡ report driving image)) r (sound-hex ns name text (image_of text))
    (λ image e k. then-all (IsSound ns) (driving_of given) (λ driving response. response ≡ report driving image) r (sound-driving ns given) (λ d g l. subst (IsSound ns) (sym l) (f d image)) k) h

abbrev names_in : List Write → List (List ℕ)
names_in writes = map (λ (w : Write). w.name) writes

-- files that are written under these names, or none where one is too long
sound-writing : (ns : List (List ℕ)) (readable others : List Write) → names_in (readable ++ others) ≡ ns → IsSound ns (writing_readable readable others)
sound-writing ns readable others e = by (first_long readable)
  where
    by : (long : Option (List ℕ)) → IsSound ns (unless_long long (readable ++ others))
    by None = record { reported = refl; named = inr e }
    by (Some name) = record { reported = refl; named = inl refl }

-- the listing is written under the name that asks for it

listing-names : (list : Option (List ℕ)) (text : List ℕ) (m : Object) (writes : List Write) → AreListings list text m writes → names_in writes ≡ option_to_list list
listing-names None text m writes h = ap names_in h
listing-names (Some name) text m writes h = ap names_in h.2

sound-object-of : (name out : List ℕ) (list : Option (List ℕ)) (text : List ℕ) (r : Response) → AssembleAnswer AnyDiagnostic name out list text r → IsSound (out ∷ option_to_list list) r
sound-object-of name out list text r (Ok m, made, h) =
    subst (IsSound (out ∷ option_to_list list)) (sym h.2)
    (sound-writing (out ∷ option_to_list list) (write out (objects.spelling m) ∷ []) h.0 (ap (λ ns. out ∷ ns) (listing-names list text m h.0 h.1)))
sound-object-of name out list text r (Err e, reported, h) = subst (IsSound (out ∷ option_to_list list)) (sym h) (sound-fault (out ∷ option_to_list list) name text e reported)

sound-one : (ns : List (List ℕ)) (may : List ℕ → Response → Type 0) (texts : List (List ℕ)) (r : Response) → ((t : List ℕ) → may t r → IsSound ns r) → OneText may texts r → IsSound ns r
sound-one ns may (t ∷ []) r f h = f t h
sound-one ns may [] r f h = absurd h
sound-one ns may (t ∷ u ∷ texts) r f h = absurd h

sound-two : (ns : List (List ℕ)) (may : List ℕ → List ℕ → Response → Type 0) (texts : List (List ℕ)) (r : Response) → ((t u : List ℕ) → may t u r → IsSound ns r) → TwoTexts may texts r → IsSound ns r
sound-two ns may (t ∷ u ∷ []) r f h = f t u h
sound-two ns may [] r f h = absurd h
sound-two ns may (t ∷ []) r f h = absurd h
sound-two ns may (t ∷ u ∷ v ∷ texts) r f h = absurd h

sound-links : (out : List ℕ) (beside : Beside) (ranges : Ranges) (ms : List Object) (places : Places) (r : Response) → LinksTo out beside ranges ms places r → IsSound (out ∷ names_beside beside) r
sound-links out beside ranges ms places r h =
    subst (IsSound (out ∷ names_beside beside)) (sym h.done)
    (sound-writing (out ∷ names_beside beside) (write out (spelling h.image) ∷ h.more) (map_writes beside.map ms ranges places)
    (ap (λ l. out ∷ l) (map-append (λ (w : Write). w.name) h.more (map_writes beside.map ms ranges places)
    ∙ (ap (λ l. l ++ names_in (map_writes beside.map ms ranges places)) (by beside.lines h.is_map) ∙ ap (λ l. option_to_list beside.lines ++ l) (named beside.map)))))
  where
    by : (lines : Option (List ℕ)) → IsMap lines ms places h.more → map (λ (w : Write). w.name) h.more ≡ option_to_list lines
    by None k = ap (map (λ (w : Write). w.name)) k
    by (Some name) k = ap (map (λ (w : Write). w.name)) k.2

    named : (m : Option (List ℕ)) → map (λ (w : Write). w.name) (map_writes m ms ranges places) ≡ option_to_list m
    named None = refl
    named (Some name) = refl

sound-taking : (ns names : List (List ℕ)) (library : List ℕ) (may : List (List ℕ) → List Object → Response → Type 0) (ms members : List Object) (r : Response) →
    ((files : List (List ℕ)) (all : List Object) → may files all r → IsSound ns r) → Taking names library may ms members r → IsSound ns r
sound-taking ns names library may ms members r f (Ok taken, is, h) = f (names ++ member_words library taken) (ms ++ taken) h
sound-taking ns names library may ms members r f (Err e, is, h) = sound-err ns (fault_response library faults.TooMany) r refl refl (sym (h ∙ is.3))

sound-completed : (ns names : List (List ℕ)) (library : Option (List ℕ × List ℕ)) (may : List (List ℕ) → List Object → Response → Type 0) (ms : List Object) (r : Response) →
    ((files : List (List ℕ)) (all : List Object) → may files all r → IsSound ns r) → Completed names library may ms r → IsSound ns r
sound-completed ns names None may ms r f h = f names ms h
sound-completed ns names (Some library) may ms r f h =
    then-all (IsSound ns) (library_of library.0 library.1) (Taking names library.0 may ms) r (sound-library ns library.0 (read_answer library.1)) (λ members e k. sound-taking ns names library.0 may ms members r f k) h

sound-link : (names : List (List ℕ)) (library : Option (List ℕ × List ℕ)) (out : List ℕ) (beside : Beside) (ranges : Ranges) (texts : List (List ℕ)) (r : Response) →
    Then (modules_of object_of names texts) (Completed names library (λ files. Placing files ranges (LinksTo out beside ranges))) r → IsSound (out ∷ names_beside beside) r
sound-link names library out beside ranges texts r h =
    let ns = out ∷ names_beside beside in
    then-all (IsSound ns) (modules_of object_of names texts) (Completed names library (λ files. Placing files ranges (LinksTo out beside ranges))) r (sound-modules ns names texts)
    (λ ms e k. sound-completed ns names library (λ files. Placing files ranges (LinksTo out beside ranges)) ms r
    (λ files all l. then-all (IsSound ns) (places_of files all ranges) (LinksTo out beside ranges all) r (sound-places ns files all (placed all ranges)) (λ places f m. sound-links out beside ranges all places r m) l) k) h

sound-packed : (names : List (List ℕ)) (out : List ℕ) (ms : List Object) (double : Option (List ℕ)) → IsSound (out ∷ []) (packed names out ms double)
sound-packed names out ms None = sound-writing (out ∷ []) (write out (library_bytes ms) ∷ []) [] refl
sound-packed names out ms (Some name) = record { reported = refl; named = inl refl }

sound-pack : (names : List (List ℕ)) (out : List ℕ) (texts : List (List ℕ)) (r : Response) → PackAnswer names out texts r → IsSound (out ∷ []) r
sound-pack names out texts r h =
    then-all (IsSound (out ∷ [])) (modules_of object_of names texts) (λ ms response. response ≡ packed names out ms (doubled ms)) r (sound-modules (out ∷ []) names texts)
    (λ ms e k. subst (IsSound (out ∷ [])) (sym k) (sound-packed names out ms (doubled ms))) h

-- a trace that is checked

sound-text : (ns : List (List ℕ)) (name : List ℕ) (content : Option (List ℕ)) (e : Response) → text_of name content ≡ Err e → IsSound ns e
sound-text ns name None e h = sound-err ns (missing_response name) e refl refl (let k : missing_response name ≡ e = cc in k)
sound-text ns name (Some text) e h = ok-err (IsSound ns e) text e h

sound-book : (ns : List (List ℕ)) (name text : List ℕ) (x : Result Book ℕ) (e : Response) → by_book name text x ≡ Err e → IsSound ns e
sound-book ns name text (Ok book) e h = ok-err (IsSound ns e) book e h
sound-book ns name text (Err line) e h =
    let reported = line_response name text line (codes "BADRULE") in
    sound-err ns reported e refl refl (let k : reported ≡ e = cc in k)

reported-verdict : (broken : List Rule) → is_reported (status_by broken) ≡ true
reported-verdict [] = refl
reported-verdict (rule ∷ rules) = refl

sound-checked : (trace printed rules text : List ℕ) (book : Book) (drives : Drives) (r : Response) → Checked trace printed rules text book drives r → IsSound [] r
sound-checked trace printed rules text book drives r (Ok lines, is, h) =
    subst (IsSound []) (sym h) (record { reported = reported-verdict (broken_in book (lives_of drives lines)); named = inl refl })
sound-checked trace printed rules text book drives r (Err e, is, h) = sound-err [] (unkept_response trace is.0 (codes "BADTRACE")) r refl refl (sym (h ∙ is.2))

sound-check : (trace rules : List ℕ) (inputs : List (Role × List ℕ)) (clock : ℕ) (printed text : List ℕ) (more : List (List ℕ)) (r : Response) → CheckAnswer trace rules inputs clock printed text more r → IsSound [] r
sound-check trace rules inputs clock printed text more r h =
    let stimuli = (given_for inputs more).stimuli in
    then-all (IsSound []) (rules_of rules clock text) (λ book. Then (drives_of stimuli) (Checked trace printed rules text book)) r (sound-book [] rules text (book_of clock text))
    (λ book e k. then-all (IsSound []) (drives_of stimuli) (Checked trace printed rules text book) r (sound-drives [] stimuli) (λ drives f l. sound-checked trace printed rules text book drives r l) k) h

sound-check-texts : (trace rules : List ℕ) (inputs : List (Role × List ℕ)) (clock : ℕ) (printed : List ℕ) (texts : List (List ℕ)) (r : Response) → CheckTexts trace rules inputs clock printed texts r → IsSound [] r
sound-check-texts trace rules inputs clock printed (text ∷ more) r h = sound-check trace rules inputs clock printed text more r h
sound-check-texts trace rules inputs clock printed [] r h = absurd h

sound-trace : (ns : List (List ℕ)) (trace : List ℕ) (may : List ℕ → Response → Type 0) (contents : List (Option (List ℕ))) (r : Response) → ((printed : List ℕ) → may printed r → IsSound ns r) → TraceThen trace may contents r → IsSound ns r
sound-trace ns trace may (content ∷ []) r f h = then-all (IsSound ns) (text_of trace content) may r (sound-text ns trace content) (λ printed e k. f printed k) h
sound-trace ns trace may [] r f h = absurd h
sound-trace ns trace may (content ∷ other ∷ contents) r f h = absurd h

-- a trace that is written as a dump

sound-dumped : (trace out : List ℕ) (clock : ℕ) (printed : List ℕ) (driving : Driving) (r : Response) → Dumped trace out clock printed driving r → IsSound (out ∷ []) r
sound-dumped trace out clock printed driving r (Ok lines, is, h) = subst (IsSound (out ∷ [])) (sym h) (record { reported = refl; named = inr refl })
sound-dumped trace out clock printed driving r (Err e, is, h) = sound-err (out ∷ []) (unkept_response trace is.0 (codes "BADTRACE")) r refl refl (sym (h ∙ is.2))

sound-dump : (trace : List ℕ) (inputs : List (Role × List ℕ)) (out : List ℕ) (clock : ℕ) (printed : List ℕ) (texts : List (List ℕ)) (r : Response) → DumpAnswer trace inputs out clock printed texts r → IsSound (out ∷ []) r
sound-dump trace inputs out clock printed texts r h =
    then-all (IsSound (out ∷ [])) (driving_of (given_for inputs texts)) (Dumped trace out clock printed) r (sound-driving (out ∷ []) (given_for inputs texts))
    (λ driving e k. sound-dumped trace out clock printed driving r k) h

sound-explained : (ns : List (List ℕ)) (code : List ℕ) (row : Option Said) → IsSound ns (explained_by code row)
sound-explained ns code (Some row) = sound-says ns status.Done _ refl
sound-explained ns code None = record { reported = refl; named = inl refl }

-- `bound` may be answered as words are that are no command; every other command is not

abbrev pub IsOther : Command → Type 0
IsOther (Bounds file from to inputs wanted) = ⊥
IsOther _ = Unit {0}

-- the words of a bound
pub record IsBounds (c : Command) : Type 0 where
  pub file : List ℕ
  pub from : List ℕ
  pub to : Option (List ℕ)
  pub inputs : List (Role × List ℕ)
  pub wanted : Wanted
  pub is : c ≡ Bounds file from to inputs wanted

bounds-or-other : (c : Command) → IsOther c ⊎ IsBounds c
bounds-or-other Helps = inl tt
bounds-or-other (HelpsOn verb) = inl tt
bounds-or-other ReportsVersion = inl tt
bounds-or-other (Runs files inputs extent placing) = inl tt
bounds-or-other (Profiles files inputs extent placing behind) = inl tt
bounds-or-other (ProfilesHex file inputs extent out) = inl tt
bounds-or-other (Assembles file out list) = inl tt
bounds-or-other (Packs files out) = inl tt
bounds-or-other (Links files inputs out beside placing) = inl tt
bounds-or-other (RunsHex file inputs extent) = inl tt
bounds-or-other (Lists file first last) = inl tt
bounds-or-other (Debugs file script inputs lives) = inl tt
bounds-or-other (Generates number) = inl tt
bounds-or-other (Dumps trace inputs out clock) = inl tt
bounds-or-other (Checks trace rules inputs clock) = inl tt
bounds-or-other (Bounds file from to inputs wanted) = inr (record { file = file; from = from; to = to; inputs = inputs; wanted = wanted; is = refl })
bounds-or-other (Explains code) = inl tt

pub sound-command : (c : Command) → IsOther c → (contents : List (Option (List ℕ))) (r : Response) → CommandAnswer AnyDiagnostic (Some c) contents r → IsSound (names_written (Some c)) r
sound-command Helps o contents r h = subst (IsSound []) (sym h) (sound-says [] status.Done _ refl)
sound-command (HelpsOn verb) o contents r h = subst (IsSound []) (sym h) (sound-says [] status.Done _ refl)
sound-command ReportsVersion o contents r h = subst (IsSound []) (sym h) (sound-says [] status.Done _ refl)
sound-command (Runs files inputs extent placing) o contents r h =
    let names = files ++ names_of inputs in
    then-all (IsSound []) (reads_of names contents) (Parted (length files) (RunAnswer AnyDiagnostic files inputs extent placing)) r (sound-reads [] names contents)
    (λ texts e k. sound-sources [] files (given_for inputs (drop (length files) texts)) placing (take (length files) texts) (λ lines. board_response lines extent) r
    (sound-run [] extent) k) h
sound-command (Profiles files inputs extent placing behind) o contents r h =
    let ns = names_behind behind in
    let names = files ++ names_of inputs in
    then-all (IsSound ns) (reads_of names contents) (Parted (length files) (ProfileAnswer AnyDiagnostic files inputs extent placing behind)) r (sound-reads ns names contents)
    (λ texts e k. sound-lines ns files (given_for inputs (drop (length files) texts)) placing (take (length files) texts) (profile_response extent behind) r (sound-profile extent behind) k) h
sound-command (ProfilesHex file inputs extent out) o contents r h =
    let ns = out ∷ [] in
    let names = file ∷ names_of inputs in
    then-all (IsSound ns) (reads_of names contents) (Parted 1 (λ texts more. OneText (λ text. ProfileHexAnswer file inputs extent out text more) texts)) r (sound-reads ns names contents)
    (λ texts e k. sound-one ns (λ text. ProfileHexAnswer file inputs extent out text (drop 1 texts)) (take 1 texts) r
    (λ t l. sound-hex-reported ns file (given_for inputs (drop 1 texts)) t (profile_response extent (record { profile = Some out; cover = None }) none_known) r (sound-profile extent (record { profile = Some out; cover = None }) none_known) l) k) h
sound-command (Assembles file out list) o contents r h =
    let ns = out ∷ option_to_list list in
    then-all (IsSound ns) (reads_of (file ∷ []) contents) (OneText (AssembleAnswer AnyDiagnostic file out list)) r (sound-reads ns (file ∷ []) contents)
    (λ texts e k. sound-one ns (AssembleAnswer AnyDiagnostic file out list) texts r (λ t l. sound-object-of file out list t r l) k) h
sound-command (Packs files out) o contents r h =
    then-all (IsSound (out ∷ [])) (reads_of files contents) (PackAnswer files out) r (sound-reads (out ∷ []) files contents) (λ texts e k. sound-pack files out texts r k) h
sound-command (Links files inputs out beside placing) o contents r h =
    let ns = out ∷ names_beside beside in
    let names = files ++ names_of inputs in
    then-all (IsSound ns) (reads_of names contents) (Parted (length files) (LinkAnswer files inputs out beside placing)) r (sound-reads ns names contents)
    (λ texts e k. sound-link files (input_for role.Library inputs (drop (length files) texts)) out beside placing (take (length files) texts) r k) h
sound-command (RunsHex file inputs extent) o contents r h =
    let names = file ∷ names_of inputs in
    then-all (IsSound []) (reads_of names contents) (Parted 1 (λ texts more. OneText (λ text. RunHexAnswer file inputs extent text more) texts)) r (sound-reads [] names contents)
    (λ texts e k. sound-one [] (λ text. RunHexAnswer file inputs extent text (drop 1 texts)) (take 1 texts) r
    (λ t l. sound-hex-reported [] file (given_for inputs (drop 1 texts)) t (board_response no_lines extent) r (sound-run [] extent no_lines) l) k) h
sound-command (Lists file first last) o contents r h =
    then-all (IsSound []) (reads_of (file ∷ []) contents) (OneText (ListAnswer file first last)) r (sound-reads [] (file ∷ []) contents)
    (λ texts e k. sound-one [] (ListAnswer file first last) texts r
    (λ t l. then-all (IsSound []) (hex_of file t) (ListingOf first last) r (sound-hex [] file t (image_of t)) (λ image f m. subst (IsSound []) (sym m) (sound-says [] status.Done _ refl)) l) k) h
sound-command (Debugs file script inputs lives) o contents r h =
    let names = file ∷ script ∷ names_of inputs in
    then-all (IsSound []) (reads_of names contents) (Parted 2 (λ texts more. TwoTexts (λ text commands. DebugAnswer file script inputs lives text commands more) texts)) r (sound-reads [] names contents)
    (λ texts e k. sound-two [] (λ text commands. DebugAnswer file script inputs lives text commands (drop 2 texts)) (take 2 texts) r
    (λ t u l. sound-hex-reported [] file (given_for inputs (drop 2 texts)) t (debug_response (script, u) (input_for role.Lines inputs (drop 2 texts)) lives) r
    (λ driving image. sound-debug [] (script, u) (input_for role.Lines inputs (drop 2 texts)) lives driving image) l) k) h
sound-command (Generates number) o contents r h = sound-sources [] made_names (made_given number) (placing_of []) (made_texts number) (λ lines. summary_of number) r (λ lines. sound-summary [] number) h
sound-command (Dumps trace inputs out clock) o contents r h =
    let names = names_of inputs in
    then-all (IsSound (out ∷ [])) (reads_of names contents) (λ texts. TraceThen trace (λ printed. DumpAnswer trace inputs out clock printed texts) (drop (length names) contents)) r (sound-reads (out ∷ []) names contents)
    (λ texts e k. sound-trace (out ∷ []) trace (λ printed. DumpAnswer trace inputs out clock printed texts) (drop (length names) contents) r (λ printed l. sound-dump trace inputs out clock printed texts r l) k) h
sound-command (Checks trace rules inputs clock) o contents r h =
    let names = names_whole rules inputs in
    then-all (IsSound []) (reads_of names contents) (λ texts. TraceThen trace (λ printed. CheckTexts trace rules inputs clock printed texts) (drop (length names) contents)) r (sound-reads [] names contents)
    (λ texts e k. sound-trace [] trace (λ printed. CheckTexts trace rules inputs clock printed texts) (drop (length names) contents) r (λ printed l. sound-check-texts trace rules inputs clock printed texts r l) k) h
sound-command (Bounds file from to inputs wanted) o contents r h = absurd o
sound-command (Explains code) o contents r h = subst (IsSound []) (sym h) (sound-explained [] code (said_of code))

-- what `bound` answers: no file is written, and the status is another one, or that of usage where it asks for no address of the ROM
record IsBoundSound (asks : Type 0) (r : Response) : Type 0 where
  pub none : r.writes ≡ []
  pub reported : (is_reported r.status ≡ true) ⊎ ((r.status ≡ status.Usage) × asks)

none-of-sound : (r : Response) → IsSound [] r → r.writes ≡ []
none-of-sound r s = by r.writes s.named
  where
    by : (ws : List Write) → (ws ≡ []) ⊎ (map (λ (w : Write). w.name) ws ≡ []) → ws ≡ []
    by ws (inl e) = e
    by [] (inr e) = refl
    by (w ∷ ws) (inr e) = absurd (cc)

bound-of-sound : (asks : Type 0) (r : Response) → IsSound [] r → IsBoundSound asks r
bound-of-sound asks r s = record { none = none-of-sound r s; reported = inl s.reported }

found-reported : (s : Status) → IsFound s → is_reported s ≡ true
found-reported s (inl e) = ap is_reported e
found-reported s (inr e) = ap is_reported e

bound-of-ends : (unknown asks : Type 0) (r : Response) → (unknown → asks) → BoundEnds unknown r → IsBoundSound asks r
bound-of-ends unknown asks r f h = record { none = h.0; reported = by h.1 }
  where
    by : (r.status ≡ status.Input) ⊎ (((r.status ≡ status.Usage) × unknown) ⊎ IsFound r.status) → (is_reported r.status ≡ true) ⊎ ((r.status ≡ status.Usage) × asks)
    by (inl e) = inl (ap is_reported e)
    by (inr (inl u)) = inr (u.0, f u.1)
    by (inr (inr is)) = inl (found-reported r.status is)

sound-bound : (file from : List ℕ) (to : Option (List ℕ)) (inputs : List (Role × List ℕ)) (wanted : Wanted) (contents : List (Option (List ℕ))) (r : Response) →
    CommandAnswer AnyDiagnostic (Some (Bounds file from to inputs wanted)) contents r → IsBoundSound (AsksForNoAddress file from to inputs contents) r
sound-bound file from to inputs wanted contents r h = by (reads_of (file ∷ names_of inputs) contents) refl h
  where
    by : (x : Result (List (List ℕ)) Response) → reads_of (file ∷ names_of inputs) contents ≡ x → Then x (Parted 1 (λ texts more. OneText (λ text. BoundAnswer file from to inputs wanted text more) texts)) r →
        IsBoundSound (AsksForNoAddress file from to inputs contents) r
    by (Ok texts) f k =
        bound-of-ends (AreBoundable false from to inputs (take 1 texts) (drop 1 texts)) _ r
        (λ u. subst (Accepting (λ texts. AreBoundable false from to inputs (take 1 texts) (drop 1 texts))) (sym f) u) (bound-ends file from to inputs wanted (drop 1 texts) r (take 1 texts) k)
    by (Err e) f k = bound-of-sound _ r (subst (IsSound []) (sym k) (sound-reads [] (file ∷ names_of inputs) contents e f))

bound-command : (c : Command) (is : IsBounds c) (contents : List (Option (List ℕ))) (r : Response) → CommandAnswer AnyDiagnostic (Some c) contents r → IsBoundSound (AsksForNoAddress is.file is.from is.to is.inputs contents) r
bound-command c is contents r h =
    sound-bound is.file is.from is.to is.inputs is.wanted contents r (subst (λ d. CommandAnswer AnyDiagnostic (Some d) contents r) is.is h)

-- a read that has failed
failed-says : (names : List (List ℕ)) (contents : List (Option (List ℕ))) (rose : Type 0) (r : Response) → FailedRead names contents rose r → rose × (r.status ≡ status.ReadFault) × (r.writes ≡ [])
failed-says [] contents rose r h = absurd h
failed-says (n ∷ names) [] rose r h = absurd h
failed-says (n ∷ names) (c ∷ contents) rose r (inl h) = (h.0, ap (λ (k : Response). k.status) h.1, ap (λ (k : Response). k.writes) h.1)
failed-says (n ∷ names) (c ∷ contents) rose r (inr h) = failed-says names contents rose r h.1

-- ---- what may be answered to a command

-- the status of usage
pub may-usage : (c : Option Command) (reported : Option Holding) (rose : Type 0) (r : Response) → MayAnswer AnyDiagnostic c reported rose r → r.status ≡ status.Usage → IsUsage c reported
may-usage None reported rose r h e = tt
may-usage (Some c) reported rose r (contents, holds, inl h) e = by (bounds-or-other c)
  where
    no-usage : (P : Type 0) → is_reported r.status ≡ true → P
    no-usage P s = absurd (let f : is_reported status.Usage ≡ true = subst (λ k. is_reported k ≡ true) e s in let g : false ≡ true = f in cc)

    asks : (is : IsBounds c) → (is_reported r.status ≡ true) ⊎ ((r.status ≡ status.Usage) × AsksForNoAddress is.file is.from is.to is.inputs contents) → IsUsage (Some (Bounds is.file is.from is.to is.inputs is.wanted)) reported
    asks is (inl s) = no-usage _ s
    asks is (inr u) = (contents, subst (λ d. Holds reported (names_read (Some d)) contents) is.is holds, u.1)

    by : IsOther c ⊎ IsBounds c → IsUsage (Some c) reported
    by (inl o) = no-usage _ (sound-command c o contents r h).reported
    by (inr is) = subst (λ d. IsUsage (Some d) reported) (sym is.is) (asks is (bound-command c is contents r h).reported)
may-usage (Some c) reported rose r (contents, holds, inr h) e = absurd (let s = (failed-says (names_read (Some c)) contents rose r h).1 in let g : status.Usage ≡ status.ReadFault = sym e ∙ s in cc)

pub may-read : (c : Option Command) (reported : Option Holding) (rose : Type 0) (r : Response) → MayAnswer AnyDiagnostic c reported rose r → r.status ≡ status.ReadFault → rose
may-read None reported rose r (contents, holds, inl h) e = absurd (let g : status.Usage ≡ status.ReadFault = sym (ap (λ (k : Response). k.status) h) ∙ e in cc)
may-read None reported rose r (contents, holds, inr h) e = (failed-says [] contents rose r h).0
may-read (Some c) reported rose r (contents, holds, inl h) e = by (bounds-or-other c)
  where
    no-fault-read : is_reported r.status ≡ true → rose
    no-fault-read s = absurd (let f : is_reported status.ReadFault ≡ true = subst (λ k. is_reported k ≡ true) e s in let g : false ≡ true = f in cc)

    of-bound : (is : IsBounds c) → (is_reported r.status ≡ true) ⊎ ((r.status ≡ status.Usage) × AsksForNoAddress is.file is.from is.to is.inputs contents) → rose
    of-bound is (inl s) = no-fault-read s
    of-bound is (inr u) = absurd (let g : status.ReadFault ≡ status.Usage = sym e ∙ u.0 in cc)

    by : IsOther c ⊎ IsBounds c → rose
    by (inl o) = no-fault-read (sound-command c o contents r h).reported
    by (inr is) = of-bound is (bound-command c is contents r h).reported
may-read (Some c) reported rose r (contents, holds, inr h) e = (failed-says (names_read (Some c)) contents rose r h).0

abbrev pub AreNamed : List (List ℕ) → Response → Type 0
AreNamed names r = (r.writes ≡ []) ⊎ (map (λ (w : Write). w.name) r.writes ≡ names)

pub may-named : (c : Option Command) (reported : Option Holding) (rose : Type 0) (r : Response) → MayAnswer AnyDiagnostic c reported rose r → AreNamed (names_written c) r
may-named None reported rose r (contents, holds, inl h) = inl (ap (λ (k : Response). k.writes) h)
may-named None reported rose r (contents, holds, inr h) = inl (failed-says [] contents rose r h).2
may-named (Some c) reported rose r (contents, holds, inl h) = by (bounds-or-other c)
  where
    by : IsOther c ⊎ IsBounds c → AreNamed (names_written (Some c)) r
    by (inl o) = (sound-command c o contents r h).named
    by (inr is) = inl (bound-command c is contents r h).none
may-named (Some c) reported rose r (contents, holds, inr h) = inl (failed-says (names_read (Some c)) contents rose r h).2

-- ---- what is written

no_writes : (r : Response) → AreNamed [] r → r.writes ≡ []
no_writes r (inl e) = e
no_writes r (inr e) = by r.writes e
  where
    by : (ws : List Write) → map (λ (w : Write). w.name) ws ≡ [] → ws ≡ []
    by [] h = refl
    by (w ∷ ws) h = absurd (cc)

part-of_none : (old new : Kept) (ws : List Write) → ws ≡ [] → WroteByPart old ws new → ⊥
part-of_none old new [] e h = h
part-of_none old new (w ∷ ws) e h = absurd (cc)

wrote-none : (old new : Kept) (ws : List Write) → ws ≡ [] → Wrote old ws new → new ≡ old
wrote-none old new [] e h = h
wrote-none old new (w ∷ ws) e h = absurd (cc)

-- how the files are after a response with each status
pub record Ends (may : Response → Type 0) (old new : Kept) : Type 0 where
  pub how : (new ≡ old) ⊎ ((r : Response) × may r × (Wrote old r.writes new ⊎ WroteByPart old r.writes new))

pub ends-of : (may : Response → Type 0) (old : Kept) (before : Shown) (given : Status) (new : Kept) (now : Shown) → Responses may old before given new now → Ends may old new
ends-of may old before given new now h = by given h
  where
    whole : (s : Status) → IsGiven may s old before new now → Ends may old new
    whole s k = record { how = inr (k.response, k.is_answer, inl k.files) }

    wanted : (new ≡ old) ⊎ ((response : Response) × may response × WroteByPart old response.writes new) → (new ≡ old) ⊎ ((r : Response) × may r × (Wrote old r.writes new ⊎ WroteByPart old r.writes new))
    wanted (inl e) = inl e
    wanted (inr k) = inr (k.0, k.1, inr k.2)

    by : (s : Status) → Responses may old before s new now → Ends may old new
    by status.NoMemory k = record { how = wanted k.files }
    by status.WriteFault (inl k) = record { how = inl k.files }
    by status.WriteFault (inr k) = record { how = inr (k.response, k.is_answer, inr k.files) }
    by status.Done k = whole status.Done k
    by status.Usage k = whole status.Usage k
    by status.Missing k = whole status.Missing k
    by status.Source k = whole status.Source k
    by status.Input k = whole status.Input k
    by status.Link k = whole status.Link k
    by status.Undefined k = whole status.Undefined k
    by status.Broken k = whole status.Broken k
    by status.ReadFault k = whole status.ReadFault k

-- without a file that is written the files stay as they were
pub ends-same : (may : Response → Type 0) (old new : Kept) (names : List (List ℕ)) → ((r : Response) → may r → AreNamed names r) → names ≡ [] → Ends may old new → new ≡ old
ends-same may old new names named e h = by h.how
  where
    none : (r : Response) → may r → r.writes ≡ []
    none r m = no_writes r (subst (λ ns. AreNamed ns r) e (named r m))

    by : (new ≡ old) ⊎ ((r : Response) × may r × (Wrote old r.writes new ⊎ WroteByPart old r.writes new)) → new ≡ old
    by (inl k) = k
    by (inr (r, m, inl k)) = wrote-none old new r.writes (none r m) k
    by (inr (r, m, inr k)) = absurd (part-of_none old new r.writes (none r m) k)

-- no other name changes
stays-after : (name : List ℕ) (names : List (List ℕ)) (before mid : Holding) (now : Option Holding) → ((other : List ℕ) → other ≢ name → mid other ≡ before other) → StaysBut names mid now → StaysBut (name ∷ names) before now
stays-after name names before mid None f h = absurd h
stays-after name names before mid (Some now) f h = λ other none. h other none.1 ∙ f other none.0

one-stays : (before : Option Holding) (held : Holding) (w : Write) (now : Option Holding) → before ≡ Some held → OthersStay before w.name now → IsSomeAnd now (λ now. (other : List ℕ) → other ≢ w.name → now other ≡ held other)
one-stays before held w now e h = subst (λ b. OthersStay b w.name now) e h

pub wrote-stays : (ws : List Write) (old new : Kept) (before : Holding) → old.held ≡ Some before → Wrote old ws new → StaysBut (map (λ (w : Write). w.name) ws) before new.held
wrote-stays [] old new before e h = subst (λ n. StaysBut [] before n) (sym (ap (λ (k : Kept). k.held) h ∙ e)) (λ name none. refl)
wrote-stays (w ∷ ws) old new before e (mid, one, rest) = by mid.held refl (one-stays old.held before w mid.held e one.1) (λ m f. wrote-stays ws mid new m f rest)
  where
    by : (h : Option Holding) → mid.held ≡ h → IsSomeAnd h (λ now. (other : List ℕ) → other ≢ w.name → now other ≡ before other)
        → ((m : Holding) → mid.held ≡ Some m → StaysBut (map (λ (w : Write). w.name) ws) m new.held) → StaysBut (w.name ∷ map (λ (w : Write). w.name) ws) before new.held
    by None f k rest = absurd k
    by (Some m) f k rest = stays-after w.name (map (λ (w : Write). w.name) ws) before m new.held k (rest m f)

stays-more : (name : List ℕ) (names : List (List ℕ)) (before : Holding) (now : Option Holding) → IsSomeAnd now (λ now. (other : List ℕ) → other ≢ name → now other ≡ before other) → StaysBut (name ∷ names) before now
stays-more name names before None h = absurd h
stays-more name names before (Some now) h = λ other none. h other none.0

pub part-stays : (ws : List Write) (old new : Kept) (before : Holding) → old.held ≡ Some before → WroteByPart old ws new → StaysBut (map (λ (w : Write). w.name) ws) before new.held
part-stays [] old new before e h = absurd h
part-stays (w ∷ ws) old new before e (inl h) = stays-more w.name (map (λ (w : Write). w.name) ws) before new.held (one-stays old.held before w new.held e h)
part-stays (w ∷ ws) old new before e (inr (mid, one, rest)) = by mid.held refl (one-stays old.held before w mid.held e one.1) (λ m f. part-stays ws mid new m f rest)
  where
    by : (h : Option Holding) → mid.held ≡ h → IsSomeAnd h (λ now. (other : List ℕ) → other ≢ w.name → now other ≡ before other)
        → ((m : Holding) → mid.held ≡ Some m → StaysBut (map (λ (w : Write). w.name) ws) m new.held) → StaysBut (w.name ∷ map (λ (w : Write). w.name) ws) before new.held
    by None f k rest = absurd k
    by (Some m) f k rest = stays-after w.name (map (λ (w : Write). w.name) ws) before m new.held k (rest m f)

stays-wide : (names : List (List ℕ)) (before : Holding) (now : Option Holding) → StaysBut [] before now → StaysBut names before now
stays-wide names before None h = absurd h
stays-wide names before (Some now) h = λ name none. h name tt

pub ends-stay : (may : Response → Type 0) (old new : Kept) (names : List (List ℕ)) → ((r : Response) → may r → AreNamed names r) → Ends may old new → Reported old.held (λ before. StaysBut names before new.held)
ends-stay may old new names named h = reported old.held refl
  where
    same : (before : Holding) → old.held ≡ Some before → new ≡ old → StaysBut names before new.held
    same before e k = subst (λ n. StaysBut names before n) (sym (ap (λ (k : Kept). k.held) k ∙ e)) (λ name none. refl)

    of_names : (before : Holding) (ws : List Write) → (ws ≡ []) ⊎ (map (λ (w : Write). w.name) ws ≡ names) → StaysBut (map (λ (w : Write). w.name) ws) before new.held → StaysBut names before new.held
    of_names before ws (inl e) k = stays-wide names before new.held (subst (λ (l : List Write). StaysBut (map (λ (w : Write). w.name) l) before new.held) e k)
    of_names before ws (inr e) k = subst (λ l. StaysBut l before new.held) e k

    by : (before : Holding) → old.held ≡ Some before → (new ≡ old) ⊎ ((r : Response) × may r × (Wrote old r.writes new ⊎ WroteByPart old r.writes new)) → StaysBut names before new.held
    by before e (inl k) = same before e k
    by before e (inr (r, m, inl k)) = of_names before r.writes (named r m) (wrote-stays r.writes old new before e k)
    by before e (inr (r, m, inr k)) = of_names before r.writes (named r m) (part-stays r.writes old new before e k)

    reported : (o : Option Holding) → old.held ≡ o → Reported o (λ before. StaysBut names before new.held)
    reported None e = tt
    reported (Some before) e = by before e h.how

-- ---- faults outside

pub fault-of : (may : Response → Type 0) (old : Kept) (before : Shown) (given : Status) (new : Kept) (now : Shown) (names : List (List ℕ)) → ((r : Response) → may r → AreNamed names r) →
    Responses may old before given new now → given ≡ status.WriteFault → Rose before.faults now.faults ⊎ ((names ≢ []) × Rose old.faults new.faults)
fault-of may old before given new now names named h e = by (subst (λ s. Responses may old before s new now) e h)
  where
    by : SinkFailed may old before new now ⊎ WriteFailed may old before new now → Rose before.faults now.faults ⊎ ((names ≢ []) × Rose old.faults new.faults)
    by (inl k) = inl k.cause
    by (inr k) = inr (λ none. part-of_none old new k.response.writes (no_writes k.response (subst (λ ns. AreNamed ns k.response) none (named k.response k.is_answer))) k.files, k.cause)

pub status-of : (may : Response → Type 0) (old : Kept) (before : Shown) (given : Status) (new : Kept) (now : Shown) → given ≢ status.WriteFault → given ≢ status.NoMemory → Responses may old before given new now → (r : Response) × may r × (given ≡ r.status)
status-of may old before given new now f g h = let k = given-of may given old before new now f g h in (k.response, k.is_answer, k.status)

-- ---- what is accepted is done

abbrev pub IsDone : Status → Type 0
IsDone given = (given ≡ status.Done) ⊎ (given ≡ status.Undefined)

done-end : (how : End) → IsDone (status_of how)
done-end end.Spent = inl refl
done-end end.Powerdown = inl refl
done-end end.Reset = inl refl
done-end (end.Undefined what access) = inr refl

done-then : {A : Type 0} (x : Result A Response) (may : A → Response → Type 0) (r : Response) → ((a : A) → may a r → IsDone r.status) → IsOk x → Then x may r → IsDone r.status
done-then (Ok a) may r f ok h = f a h
done-then (Err e) may r f ok h = absurd (let k : false ≡ true = ok in cc)

accepted-then : {A : Type 0} (accepts : A → Type 0) (may : A → Response → Type 0) (x : Result A Response) (r : Response) → ((a : A) → accepts a → may a r → IsDone r.status) → Accepting accepts x → Then x may r → IsDone r.status
accepted-then accepts may (Ok a) r f ok h = f a ok h
accepted-then accepts may (Err e) r f ok h = absurd ok

-- files that are written, none of them too long
done-writing : (readable others : List Write) (r : Response) → AreReadable readable → r ≡ writing_readable readable others → IsDone r.status
done-writing readable others r h e = inl (ap (λ (k : Response). k.status) (e ∙ written-all readable others h))

-- a response that is said, where its status is this
done-reported : (r reported : Response) → r ≡ reported → IsDone reported.status → IsDone r.status
done-reported r reported e h = subst (λ (k : Response). IsDone k.status) (sym e) h

done-run : (extent : Extent) (lines : FileLines) (driving : Driving) (image : List ℕ) → IsDone (board_response lines extent driving image).status
done-run extent lines driving image = by extent.lives
  where
    by : (lives : Option ℕ) → IsDone (response_over lines lives extent.states driving image).status
    by None = done-end (end_of (run_of extent.states driving image).machine)
    by (Some most) = done-end (last_end (board_lives most extent.states driving image))

no-fault : (name text : List ℕ) (r : Response) → IsFaultless text → ReportsFault AnyDiagnostic name text r → ⊥
no-fault name text r none h = none h.0 h.1 h.2

none-first : (names texts : List (List ℕ)) (r : Response) → AreFaultless texts → ReportsFirst AnyDiagnostic names texts r → ⊥
none-first [] texts r none h = h
none-first (n ∷ names) [] r none h = h
none-first (n ∷ names) (t ∷ texts) r none (inl h) = no-fault n t r none.0 h
none-first (n ∷ names) (t ∷ texts) r none (inr h) = none-first names texts r none.1 h.1

done-sources : (names : List (List ℕ)) (given : GivenFiles) (ranges : Ranges) (texts : List (List ℕ)) (report : FileLines → Driving → List ℕ → Response) (r : Response) → ((lines : FileLines) (driving : Driving) (image : List ℕ) → IsDone (report lines driving image).status) →
    AreFaultless texts → ((ms : List Object) → AreModules texts ms → IsOk (places_of names ms ranges)) → IsOk (driving_of given) → RunReported AnyDiagnostic names given ranges texts report r → IsDone r.status
done-sources names given ranges texts report r f a b c (Ok ms, made, h) =
    done-then (places_of names ms ranges) (λ places. Driven given (LinkedReported texts) (report (lines_of_files names ms places)) ms places) r
    (λ places k. done-then (driving_of given) (λ d. LinkedReported texts (report (lines_of_files names ms places) d) ms places) r
    (λ d l. done-reported r (report (lines_of_files names ms places) d l.image) l.reported (f (lines_of_files names ms places) d l.image)) c k) (b ms made) h
done-sources names given ranges texts report r f a b c (Err e, reported, h) = absurd (none-first names texts e a reported)

done-profile : (extent : Extent) (behind : Behind) (k : Known) (driving : Driving) (image : List ℕ) → IsDone (profile_response extent behind k driving image).status
done-profile extent behind k driving image = done-end (run_over extent.lives extent.states k driving image).how

done-lines : (names : List (List ℕ)) (given : GivenFiles) (ranges : Ranges) (texts : List (List ℕ)) (report : Known → Driving → List ℕ → Response) (r : Response) → ((k : Known) (driving : Driving) (image : List ℕ) → IsDone (report k driving image).status) →
    AreFaultless texts → ((ms : List Object) → AreModules texts ms → IsOk (places_of names ms ranges)) → IsOk (driving_of given) → LinesReported AnyDiagnostic names given ranges texts report r → IsDone r.status
done-lines names given ranges texts report r f a b c (Ok ms, made, h) =
    done-then (places_of names ms ranges) (DrivenWithLines given (LinkedWithLines names texts) report ms) r
    (λ places k. done-then (driving_of given) (λ d. LinkedWithLines names texts (λ known. report known d) ms places) r
    (λ d l. done-reported r (report l.known d l.image) l.reported (f l.known d l.image)) c k) (b ms made) h
done-lines names given ranges texts report r f a b c (Err e, reported, h) = absurd (none-first names texts e a reported)

done-object : (name out : List ℕ) (list : Option (List ℕ)) (text : List ℕ) (r : Response) → IsAssemblable text → AssembleAnswer AnyDiagnostic name out list text r → IsDone r.status
done-object name out list text r is (Ok m, made, h) = done-writing (write out (objects.spelling m) ∷ []) h.0 r (is.readable m made, tt) h.2
done-object name out list text r is (Err e, reported, h) = absurd (no-fault name text e is.sound reported)

done-objects : (name out : List ℕ) (list : Option (List ℕ)) (texts : List (List ℕ)) (r : Response) → IsOneText IsAssemblable texts → OneText (AssembleAnswer AnyDiagnostic name out list) texts r → IsDone r.status
done-objects name out list (t ∷ []) r a h = done-object name out list t r a h
done-objects name out list [] r a h = absurd h
done-objects name out list (t ∷ u ∷ texts) r a h = absurd h

done-hex : (name text : List ℕ) (may : List ℕ → Response → Type 0) (x : Result (List ℕ) (ℕ × ℕ)) (r : Response) → ((image : List ℕ) → may image r → IsDone r.status) → IsOk x → Then (by_image name text x) may r → IsDone r.status
done-hex name text may (Ok image) r f a h = f image h
done-hex name text may (Err fault) r f a h = absurd (let e : false ≡ true = a in cc)

done-one : (name : List ℕ) (may : List ℕ → Response → Type 0) (texts : List (List ℕ)) (r : Response) → ((image : List ℕ) → may image r → IsDone r.status) →
    IsOneText (λ text. IsOk (image_of text)) texts → OneText (λ text. Then (hex_of name text) may) texts r → IsDone r.status
done-one name may (t ∷ []) r f a h = done-hex name t may (image_of t) r f a h
done-one name may [] r f a h = absurd h
done-one name may (t ∷ u ∷ texts) r f a h = absurd h

done-two : (accepts : List ℕ → List ℕ → Type 0) (may : List ℕ → List ℕ → Response → Type 0) (texts : List (List ℕ)) (r : Response) → ((t u : List ℕ) → accepts t u → may t u r → IsDone r.status) →
    AreTwoTexts accepts texts → TwoTexts may texts r → IsDone r.status
done-two accepts may (t ∷ u ∷ []) r f a h = f t u a h
done-two accepts may [] r f a h = absurd h
done-two accepts may (t ∷ []) r f a h = absurd h
done-two accepts may (t ∷ u ∷ v ∷ texts) r f a h = absurd h

done-step : {A : Type 0} (x : Result A Response) (report : A → Response) → IsOk x → ((a : A) → IsDone (report a).status) → IsDone (reported x report).status
done-step (Ok a) report ok f = f a
done-step (Err e) report ok f = absurd (let k : false ≡ true = ok in cc)

done-debugger : (lives : Option ℕ) (entries : List MapEntry) (commands : List ScriptCommand) (driving : Driving) (image : List ℕ) → IsDone (debugger_response lives entries commands driving image).status
done-debugger None entries commands driving image = done-end (end_of (debugged_by entries commands driving image).machine)
done-debugger (Some most) entries commands driving image = done-end (end_in (debugged_in_lives most entries commands driving image))

done-debug : (file script : List ℕ) (inputs : List (Role × List ℕ)) (lives : Option ℕ) (text commands : List ℕ) (texts : List (List ℕ)) (r : Response) →
    IsDebuggable script inputs text commands texts → DebugAnswer file script inputs lives text commands texts r → IsDone r.status
done-debug file script inputs lives text commands texts r a h =
    let given = given_for inputs texts in
    let lines = input_for role.Lines inputs texts in
    done-hex file text (λ image. Then (driving_of given) (λ driving response. response ≡ debug_response (script, commands) lines lives driving image)) (image_of text) r
    (λ image k. done-then (driving_of given) (λ driving response. response ≡ debug_response (script, commands) lines lives driving image) r
    (λ d m. done-reported r (debug_response (script, commands) lines lives d image) m
    (done-step (script_of script commands) _ a.script_read (λ cs. done-step (lines_of lines) _ a.lines (λ entries. done-debugger lives entries cs d image)))) a.driving k) a.image h

-- the hex file and the line map
readable-files : (out : List ℕ) (lines : Option (List ℕ)) (ms : List Object) (places : Places) (image : List ℕ) (more : List Write) → IsReadableMap lines ms places → IsMap lines ms places more →
    AreReadable (write out (spelling image) ∷ more)
readable-files out None ms places image more a h = (hex-short image, subst AreReadable (sym h) tt)
readable-files out (Some name) ms places image more a h = (hex-short image, subst AreReadable (sym h.2) (a h.0 h.1, tt))

done-placed : (files : List (List ℕ)) (out : List ℕ) (beside : Beside) (ranges : Ranges) (ms : List Object) (r : Response) → ArePlaceable files beside.lines ranges ms → Placing files ranges (LinksTo out beside ranges) ms r → IsDone r.status
done-placed files out beside ranges ms r a h =
    accepted-then (IsReadableMap beside.lines ms) (LinksTo out beside ranges ms) (places_of files ms ranges) r
    (λ places b k. done-writing (write out (spelling k.image) ∷ k.more) (map_writes beside.map ms ranges places) r (readable-files out beside.lines ms places k.image k.more b k.is_map) k.done) a h

done-taking : (names : List (List ℕ)) (library out : List ℕ) (beside : Beside) (ranges : Ranges) (ms members : List Object) (r : Response) →
    ((taken : List Object) → AreTaken ms members taken → (length ms + length taken ≤ 64) × ArePlaceable (names ++ member_words library taken) beside.lines ranges (ms ++ taken)) →
    Taking names library (λ files. Placing files ranges (LinksTo out beside ranges)) ms members r → IsDone r.status
done-taking names library out beside ranges ms members r a (Ok taken, is, h) = done-placed (names ++ member_words library taken) out beside ranges (ms ++ taken) r (a taken is.0).1 h
done-taking names library out beside ranges ms members r a (Err e, is, h) = absurd (omega (arith, (a is.0 is.1).0, is.2))

done-completed : (names : List (List ℕ)) (library : Option (List ℕ × List ℕ)) (out : List ℕ) (beside : Beside) (ranges : Ranges) (ms : List Object) (r : Response) →
    IsLinkable names library beside.lines ranges ms → Completed names library (λ files. Placing files ranges (LinksTo out beside ranges)) ms r → IsDone r.status
done-completed names None out beside ranges ms r a h = done-placed names out beside ranges ms r a h
done-completed names (Some library) out beside ranges ms r a h =
    accepted-then _ (Taking names library.0 (λ files. Placing files ranges (LinksTo out beside ranges)) ms) (library_of library.0 library.1) r
    (λ members b k. done-taking names library.0 out beside ranges ms members r b k) a h

done-packed : (names : List (List ℕ)) (out : List ℕ) (ms : List Object) (double : Option (List ℕ)) → double ≡ None → length (library_bytes ms) ≤ file_limit → IsDone (packed names out ms double).status
done-packed names out ms None e short = done-writing (write out (library_bytes ms) ∷ []) [] (packed names out ms None) (short, tt) refl
done-packed names out ms (Some name) e short = absurd (cc)

done-explained : (code : List ℕ) (row : Option Said) → IsAnswer all_codes code row → is_among code all_codes ≡ true → IsDone (explained_by code row).status
done-explained code (Some row) is a = inl refl
done-explained code None is a = absurd (let e : false ≡ true = sym is ∙ a in cc)

-- a trace of a run that is written as a dump: no line of it is wrong

done-dumped : (trace out : List ℕ) (clock : ℕ) (printed : List ℕ) (driving : Driving) (r : Response) → ((lines : List Line) × IsRunText printed lines) → Dumped trace out clock printed driving r → IsDone r.status
done-dumped trace out clock printed driving r run (Ok lines, is, h) = inl (ap (λ (k : Response). k.status) h)
done-dumped trace out clock printed driving r run (Err e, is, h) =
    let same : Ok run.0 ≡ Err is.0 = one_reading printed (Ok run.0) (Err is.0) (run.1.spelled, run.1.run) is.1 in
    absurd (cc)

done-dump : (trace : List ℕ) (inputs : List (Role × List ℕ)) (out : List ℕ) (clock : ℕ) (printed : List ℕ) (texts : List (List ℕ)) (r : Response) →
    IsDumpable inputs printed texts → DumpAnswer trace inputs out clock printed texts r → IsDone r.status
done-dump trace inputs out clock printed texts r a h =
    done-then (driving_of (given_for inputs texts)) (Dumped trace out clock printed) r (λ driving k. done-dumped trace out clock printed driving r a.1 k) a.0 h

-- a trace of a run that is checked: no line of it is wrong

abbrev IsVerdictStatus : Status → Type 0
IsVerdictStatus given = (given ≡ status.Done) ⊎ (given ≡ status.Broken)

done-verdict : (broken : List Rule) → IsVerdictStatus (status_by broken)
done-verdict [] = inl refl
done-verdict (rule ∷ rules) = inr refl

done-checked : (trace printed rules text : List ℕ) (book : Book) (drives : Drives) (r : Response) → ((lines : List Line) × IsRunText printed lines) → Checked trace printed rules text book drives r → IsVerdictStatus r.status
done-checked trace printed rules text book drives r run (Ok lines, is, h) =
    subst IsVerdictStatus (sym (ap (λ (k : Response). k.status) h)) (done-verdict (broken_in book (lives_of drives lines)))
done-checked trace printed rules text book drives r run (Err e, is, h) =
    let same : Ok run.0 ≡ Err is.0 = one_reading printed (Ok run.0) (Err is.0) (run.1.spelled, run.1.run) is.1 in
    absurd (cc)

-- a step that is accepted
verdict-then : {A : Type 0} (x : Result A Response) (may : A → Response → Type 0) (r : Response) → ((a : A) → may a r → IsVerdictStatus r.status) → IsOk x → Then x may r → IsVerdictStatus r.status
verdict-then (Ok a) may r f ok h = f a h
verdict-then (Err e) may r f ok h = absurd (let k : false ≡ true = ok in cc)

read-book : (name text : List ℕ) (x : Result Book ℕ) → IsOk x → IsOk (by_book name text x)
read-book name text (Ok book) h = h
read-book name text (Err line) h = absurd (let k : false ≡ true = h in cc)

done-check : (trace rules : List ℕ) (inputs : List (Role × List ℕ)) (clock : ℕ) (printed : List ℕ) (texts : List (List ℕ)) (r : Response) →
    AreCheckable inputs clock printed texts → CheckTexts trace rules inputs clock printed texts r → IsVerdictStatus r.status
done-check trace rules inputs clock printed [] r a h = absurd a
done-check trace rules inputs clock printed (text ∷ more) r a h =
    let stimuli = (given_for inputs more).stimuli in
    verdict-then (rules_of rules clock text) (λ book. Then (drives_of stimuli) (Checked trace printed rules text book)) r
    (λ book k. verdict-then (drives_of stimuli) (Checked trace printed rules text book) r (λ drives l. done-checked trace printed rules text book drives r a.2 l) a.1 k)
    (read-book rules text (book_of clock text) a.0) h

done-trace : (P : Status → Type 0) (trace : List ℕ) (accepts : List ℕ → Type 0) (may : List ℕ → Response → Type 0) (contents : List (Option (List ℕ))) (r : Response) →
    ((printed : List ℕ) → accepts printed → may printed r → P r.status) → IsTraceHeld trace accepts contents → TraceThen trace may contents r → P r.status
done-trace P trace accepts may [] r f a h = absurd a
done-trace P trace accepts may (None ∷ []) r f a h = absurd a
done-trace P trace accepts may (Some printed ∷ []) r f a h = f printed a h
done-trace P trace accepts may (content ∷ other ∷ contents) r f a h = absurd a

accepted-check : {A : Type 0} (accepts : A → Type 0) (may : A → Response → Type 0) (x : Result A Response) (r : Response) → ((a : A) → accepts a → may a r → IsVerdictStatus r.status) → Accepting accepts x → Then x may r → IsVerdictStatus r.status
accepted-check accepts may (Ok a) r f ok h = f a ok h
accepted-check accepts may (Err e) r f ok h = absurd ok

-- how a command ends that is accepted, where nothing outside fails
abbrev pub IsDoneBy : Option Command → Status → Type 0
IsDoneBy (Some (Checks trace rules inputs clock)) given = IsVerdictStatus given
IsDoneBy (Some (Bounds file from to inputs wanted)) given = IsVerdictStatus given
IsDoneBy _ given = IsDone given

pub done-command : (c : Option Command) (contents : List (Option (List ℕ))) (r : Response) → IsAccepted c contents → CommandAnswer AnyDiagnostic c contents r → IsDoneBy c r.status
done-command None contents r a h = absurd a
done-command (Some Helps) contents r a h = inl (ap (λ (k : Response). k.status) h)
done-command (Some (HelpsOn verb)) contents r a h = inl (ap (λ (k : Response). k.status) h)
done-command (Some ReportsVersion) contents r a h = inl (ap (λ (k : Response). k.status) h)
done-command (Some (Runs files inputs extent placing)) contents r a h =
    accepted-then _ (Parted (length files) (RunAnswer AnyDiagnostic files inputs extent placing)) (reads_of (files ++ names_of inputs) contents) r
    (λ texts b k. done-sources files (given_for inputs (drop (length files) texts)) placing (take (length files) texts) (λ lines. board_response lines extent) r
    (done-run extent) b.0 b.1 b.2 k) a h
done-command (Some (Profiles files inputs extent placing behind)) contents r a h =
    accepted-then _ (Parted (length files) (ProfileAnswer AnyDiagnostic files inputs extent placing behind)) (reads_of (files ++ names_of inputs) contents) r
    (λ texts b k. done-lines files (given_for inputs (drop (length files) texts)) placing (take (length files) texts) (profile_response extent behind) r (done-profile extent behind) b.0 b.1 b.2 k) a h
done-command (Some (ProfilesHex file inputs extent out)) contents r a h =
    accepted-then _ (Parted 1 (λ texts more. OneText (λ text. ProfileHexAnswer file inputs extent out text more) texts)) (reads_of (file ∷ names_of inputs) contents) r
    (λ texts b k. done-one file (λ image. Then (driving_of (given_for inputs (drop 1 texts))) (λ driving response. response ≡ profile_response extent (record { profile = Some out; cover = None }) none_known driving image)) (take 1 texts) r
    (λ image l. done-then (driving_of (given_for inputs (drop 1 texts))) (λ driving response. response ≡ profile_response extent (record { profile = Some out; cover = None }) none_known driving image) r
    (λ d m. done-reported r (profile_response extent (record { profile = Some out; cover = None }) none_known d image) m (done-profile extent (record { profile = Some out; cover = None }) none_known d image)) b.1 l) b.0 k) a h
done-command (Some (Assembles file out list)) contents r a h =
    accepted-then _ (OneText (AssembleAnswer AnyDiagnostic file out list)) (reads_of (file ∷ []) contents) r (λ texts b k. done-objects file out list texts r b k) a h
done-command (Some (Packs files out)) contents r a h =
    accepted-then _ (PackAnswer files out) (reads_of files contents) r
    (λ texts b k. accepted-then _ (λ ms response. response ≡ packed files out ms (doubled ms)) (modules_of object_of files texts) r (λ ms c l. done-reported r (packed files out ms (doubled ms)) l (done-packed files out ms (doubled ms) c.0 c.1)) b k) a h
done-command (Some (Links files inputs out beside placing)) contents r a h =
    accepted-then _ (Parted (length files) (LinkAnswer files inputs out beside placing)) (reads_of (files ++ names_of inputs) contents) r
    (λ texts b k. accepted-then _ (Completed files (input_for role.Library inputs (drop (length files) texts)) (λ names. Placing names placing (LinksTo out beside placing))) (modules_of object_of files (take (length files) texts)) r
    (λ ms c l. done-completed files (input_for role.Library inputs (drop (length files) texts)) out beside placing ms r c l) b k) a h
done-command (Some (RunsHex file inputs extent)) contents r a h =
    accepted-then _ (Parted 1 (λ texts more. OneText (λ text. RunHexAnswer file inputs extent text more) texts)) (reads_of (file ∷ names_of inputs) contents) r
    (λ texts b k. done-one file (λ image. Then (driving_of (given_for inputs (drop 1 texts))) (λ driving response. response ≡ board_response no_lines extent driving image)) (take 1 texts) r
    (λ image l. done-then (driving_of (given_for inputs (drop 1 texts))) (λ driving response. response ≡ board_response no_lines extent driving image) r
    (λ d m. done-reported r (board_response no_lines extent d image) m (done-run extent no_lines d image)) b.1 l) b.0 k) a h
done-command (Some (Lists file first last)) contents r a h =
    accepted-then _ (OneText (ListAnswer file first last)) (reads_of (file ∷ []) contents) r
    (λ texts b k. done-one file (ListingOf first last) texts r (λ image l. inl (ap (λ (k : Response). k.status) l)) b k) a h
done-command (Some (Debugs file script inputs lives)) contents r a h =
    accepted-then _ (Parted 2 (λ texts more. TwoTexts (λ text commands. DebugAnswer file script inputs lives text commands more) texts)) (reads_of (file ∷ script ∷ names_of inputs) contents) r
    (λ texts b k. done-two (λ text commands. IsDebuggable script inputs text commands (drop 2 texts)) (λ text commands. DebugAnswer file script inputs lives text commands (drop 2 texts)) (take 2 texts) r
    (λ t u c l. done-debug file script inputs lives t u (drop 2 texts) r c l) b k) a h
done-command (Some (Generates number)) contents r a h =
    done-sources made_names (made_given number) (placing_of []) (made_texts number) (λ lines. summary_of number) r
    (λ lines driving image. done-end (end_of (run_of 1000000 driving image).machine)) a.sources a.modules a.driving h
done-command (Some (Dumps trace inputs out clock)) contents r a h =
    let names = names_of inputs in
    let held = drop (length names) contents in
    accepted-then (λ texts. IsTraceHeld trace (λ printed. IsDumpable inputs printed texts) held) (λ texts. TraceThen trace (λ printed. DumpAnswer trace inputs out clock printed texts) held) (reads_of names contents) r
    (λ texts b k. done-trace IsDone trace (λ printed. IsDumpable inputs printed texts) (λ printed. DumpAnswer trace inputs out clock printed texts) held r (λ printed c l. done-dump trace inputs out clock printed texts r c l) b k) a h
done-command (Some (Checks trace rules inputs clock)) contents r a h =
    let names = names_whole rules inputs in
    let held = drop (length names) contents in
    accepted-check (λ texts. IsTraceHeld trace (λ printed. AreCheckable inputs clock printed texts) held) (λ texts. TraceThen trace (λ printed. CheckTexts trace rules inputs clock printed texts) held) (reads_of names contents) r
    (λ texts b k. done-trace IsVerdictStatus trace (λ printed. AreCheckable inputs clock printed texts) (λ printed. CheckTexts trace rules inputs clock printed texts) held r (λ printed c l. done-check trace rules inputs clock printed texts r c l) b k) a h
done-command (Some (Bounds file from to inputs wanted)) contents r a h =
    accepted-check (λ texts. AreBoundable true from to inputs (take 1 texts) (drop 1 texts)) (Parted 1 (λ texts more. OneText (λ text. BoundAnswer file from to inputs wanted text more) texts)) (reads_of (file ∷ names_of inputs) contents) r
    (λ texts b k. bound-done file from to inputs wanted (drop 1 texts) r (take 1 texts) b k) a h
done-command (Some (Explains code)) contents r a h = done-reported r (explained code) h (done-explained code (said_of code) (meaning-is code) a)

-- how it ends then is how the command may end, and so where memory ran out

abbrev EndsOther : Status → Type 0
EndsOther given = (given ≡ status.Done) ⊎ ((given ≡ status.Undefined) ⊎ (given ≡ status.NoMemory))

ends-other : (given : Status) → IsDone given ⊎ (given ≡ status.NoMemory) → EndsOther given
ends-other given (inl (inl e)) = inl e
ends-other given (inl (inr e)) = inr (inl e)
ends-other given (inr e) = inr (inr e)

ends-check : (given : Status) → IsVerdictStatus given ⊎ (given ≡ status.NoMemory) → (given ≡ status.Done) ⊎ ((given ≡ status.Broken) ⊎ (given ≡ status.NoMemory))
ends-check given (inl (inl e)) = inl e
ends-check given (inl (inr e)) = inr (inl e)
ends-check given (inr e) = inr (inr e)

ends-by : (c : Option Command) (given : Status) → IsDoneBy c given ⊎ (given ≡ status.NoMemory) → EndsAccepted c given
ends-by None given h = ends-other given h
ends-by (Some Helps) given h = ends-other given h
ends-by (Some (HelpsOn verb)) given h = ends-other given h
ends-by (Some ReportsVersion) given h = ends-other given h
ends-by (Some (Runs files inputs extent placing)) given h = ends-other given h
ends-by (Some (Profiles files inputs extent placing behind)) given h = ends-other given h
ends-by (Some (ProfilesHex file inputs extent out)) given h = ends-other given h
ends-by (Some (Assembles file out list)) given h = ends-other given h
ends-by (Some (Packs files out)) given h = ends-other given h
ends-by (Some (Links files inputs out beside placing)) given h = ends-other given h
ends-by (Some (RunsHex file inputs extent)) given h = ends-other given h
ends-by (Some (Lists file first last)) given h = ends-other given h
ends-by (Some (Debugs file script inputs lives)) given h = ends-other given h
ends-by (Some (Generates number)) given h = ends-other given h
ends-by (Some (Dumps trace inputs out clock)) given h = ends-other given h
ends-by (Some (Checks trace rules inputs clock)) given h = ends-check given h
ends-by (Some (Bounds file from to inputs wanted)) given h = ends-check given h
ends-by (Some (Explains code)) given h = ends-other given h

-- a response without a fault outside is done, or because memory ran out
pub done-of : (c : Option Command) (reported : Option Holding) (rose : Type 0) (old : Kept) (before : Shown) (given : Status) (new : Kept) (now : Shown) →
    Responses (MayAnswer AnyDiagnostic c reported rose) old before given new now →
    Reported reported (λ held. IsAccepted c (map held (names_read c)) → ¬ rose → ¬ Rose before.faults now.faults → ¬ Rose old.faults new.faults → EndsAccepted c given)
done-of c None rose old before given new now h = tt
done-of c (Some held) rose old before given new now h = λ accepted read sink write. by given refl accepted read sink write
  where
    answer : (r : Response) → given ≡ r.status → IsAccepted c (map held (names_read c)) → ¬ rose → MayAnswer AnyDiagnostic c (Some held) rose r → EndsAccepted c given
    answer r e accepted read (contents, holds, inl k) = ends-by c given (inl (subst (λ s. IsDoneBy c s) (sym e) (done-command c contents r (subst (IsAccepted c) (sym holds) accepted) k)))
    answer r e accepted read (contents, holds, inr k) = absurd (read (failed-says (names_read c) contents rose r k).0)

    faults : SinkFailed (MayAnswer AnyDiagnostic c (Some held) rose) old before new now ⊎ WriteFailed (MayAnswer AnyDiagnostic c (Some held) rose) old before new now → ¬ Rose before.faults now.faults → ¬ Rose old.faults new.faults → ⊥
    faults (inl k) sink write = sink k.cause
    faults (inr k) sink write = write k.cause

    whole : (s : Status) → given ≡ s → s ≢ status.WriteFault → s ≢ status.NoMemory → IsAccepted c (map held (names_read c)) → ¬ rose → EndsAccepted c given
    whole s e f g accepted read =
        let k = status-of (MayAnswer AnyDiagnostic c (Some held) rose) old before s new now f g (subst (λ t. Responses (MayAnswer AnyDiagnostic c (Some held) rose) old before t new now) e h) in
        answer k.0 (e ∙ k.2) accepted read k.1

    by : (s : Status) → given ≡ s → IsAccepted c (map held (names_read c)) → ¬ rose → ¬ Rose before.faults now.faults → ¬ Rose old.faults new.faults → EndsAccepted c given
    by status.NoMemory e a read sink write = ends-by c given (inr e)
    by status.WriteFault e a read sink write = absurd (faults (subst (λ t. Responses (MayAnswer AnyDiagnostic c (Some held) rose) old before t new now) e h) sink write)
    by status.Done e a read sink write = whole status.Done e (λ k. cc) (λ k. cc) a read
    by status.Undefined e a read sink write = whole status.Undefined e (λ k. cc) (λ k. cc) a read
    by status.Broken e a read sink write = whole status.Broken e (λ k. cc) (λ k. cc) a read
    by status.Usage e a read sink write = whole status.Usage e (λ k. cc) (λ k. cc) a read
    by status.Missing e a read sink write = whole status.Missing e (λ k. cc) (λ k. cc) a read
    by status.Source e a read sink write = whole status.Source e (λ k. cc) (λ k. cc) a read
    by status.Input e a read sink write = whole status.Input e (λ k. cc) (λ k. cc) a read
    by status.Link e a read sink write = whole status.Link e (λ k. cc) (λ k. cc) a read
    by status.ReadFault e a read sink write = whole status.ReadFault e (λ k. cc) (λ k. cc) a read
