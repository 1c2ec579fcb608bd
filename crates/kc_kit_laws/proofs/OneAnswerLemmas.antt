-- A command has one answer and one diagnostic: each step gives one thing, by the laws of texts, images, line maps, instructions and libraries.
use Rattle.std.specs.Prelude.{codes}
use Rattle.std.proofs.Common.{◌≡◌, inl, inr, ℕ, List, [], ◌∷◌, ◌++◌, length, take, drop, Option, Some, None, Result, Ok, Err, refl, sym, ◌∙◌, ap, subst, arith}
use Rattle.kc_source.specs.Faults.{Fault}
use Rattle.kc_code.specs.Listing.{listing}
use Rattle.kc_stim.specs.Drives.{Drives}
use Rattle.kc_rules.specs.Lines.{Book}
use Rattle.kc_events.specs.declared.line.Line.{Line}
use Rattle.kc_events.specs.Lives.{lives_of}
use Rattle.kc_events.proofs.OneReading.{one_reading as one_run}
use Rattle.kc_obj_module.specs.Object.{Object}
use Rattle.kc_obj_module.specs.Spelling as objects
use Rattle.kc_lib.specs.Laws.{TakenOnce}
use Rattle.kc_lib.specs.Names.{doubled}
use Rattle.kc_hex.specs.Spelling.{spelling}
use Rattle.kc_link_place.specs.declared.ranges.Ranges.{Ranges}
use Rattle.kc_link_place.specs.Placing.{Places}
use Rattle.kc_link.specs.Laws.{OneImage}
use Rattle.kc_link.specs.declared.lines.LineAt.{LineAt}
use Rattle.kc_link.specs.Linked.{OneLineMap}
use Rattle.kc_asm.specs.Assembled.{IsModule}
use Rattle.kc_asm_origin.specs.Symbol.{symbol_of}
use Rattle.kc_asm_laws.specs.OneOrigin.{OneOrigin}
use Rattle.kc_asm_laws.specs.Modules.{OneAnswerOfText}
use Rattle.kc_asm_laws.specs.Laws.{OneInstructions, OneListing}
use Rattle.kc_kit_files.specs.declared.status.Status.TheVariants as status
use Rattle.kc_kit_files.specs.Response.{Response, Write, write, says, done_writing, Then}
use Rattle.kc_kit_files.specs.Writes.{writing_readable}
use Rattle.kc_kit_files.specs.Reads.{reads_of, text_of}
use Rattle.kc_kit_words.specs.declared.inputs.Role.{Role}
use Rattle.kc_kit_words.specs.declared.inputs.Role.TheVariants as role
use Rattle.kc_kit_words.specs.declared.extent.Extent.{Extent}
use Rattle.kc_kit_words.specs.Commands.{Behind, Beside, Command, Helps, HelpsOn, ReportsVersion, Runs, Profiles, Assembles, Packs, Links, RunsHex, ProfilesHex, Lists, Debugs, Generates, Dumps, Checks, Bounds, Explains, names_of, names_whole}
use Rattle.kc_kit_words.specs.Words.{placing_of}
use Rattle.kc_kit_inputs.specs.Hex.{hex_of}
use Rattle.kc_kit_inputs.specs.declared.driving.Driving.{Driving}
use Rattle.kc_kit_inputs.specs.Driving.{GivenFiles, given_for, driving_of}
use Rattle.kc_kit_inputs.specs.Inputs.{input_for}
use Rattle.kc_kit_inputs.specs.Library.{library_of, TakenAre}
use Rattle.kc_kit_inputs.specs.Responses.{source_response}
use Rattle.kc_kit_inputs.specs.Objects.{modules_of, object_of}
use Rattle.kc_kit_inputs.specs.FaultDiagnostics.{IsFaultDiagnostic}
use Rattle.kc_kit_inputs.specs.Lines.{coded}
use Rattle.kc_kit_inputs.specs.Sources.{DiagnosticRule, AnyDiagnostic, Reports, ReportsFault, SourceIs, AreModules, ReportsFirst, SourcesAre}
use Rattle.kc_kit_inputs.specs.Responses.{unkept_response}
use Rattle.kc_kit_inputs.specs.Rules.{rules_of}
use Rattle.kc_kit_inputs.specs.Runs.{RunIs}
use Rattle.kc_kit_inputs.specs.Stimuli.{drives_of}
use Rattle.kc_kit_verdict.specs.Runs.{count_lives, verdict_response}
use Rattle.kc_kit_answer.specs.Answer.{OneText, TwoTexts, Parted, CommandAnswer}
use Rattle.kc_kit_answer.specs.Assemble.{AreListings, WritesObject, AssembleAnswer}
use Rattle.kc_kit_answer.specs.Debug.{DebugAnswer, debug_response}
use Rattle.kc_kit_answer.specs.Check.{Checked, CheckAnswer, CheckTexts, TraceThen}
use Rattle.kc_kit_answer.specs.Dump.{dump_for, WritesDump, Dumped, DumpAnswer}
use Rattle.kc_kit_running.specs.Counted.{summary_of}
use Rattle.kc_kit_answer.specs.Generate.{made_names, made_texts, made_given}
use Rattle.kc_kit_answer.specs.Hex.{HexReported, RunHexAnswer, ListAnswer, ListingOf}
use Rattle.kc_kit_messages.specs.Rules.{member_words}
use Rattle.kc_kit_messages.specs.Subjects.{source_diagnostic, body_diagnostic}
use Rattle.kc_kit_answer.specs.Lines.{map_text}
use Rattle.kc_kit_answer.specs.Link.{IsMap, map_writes, LinksTo, Taking, Completed, LinkAnswer}
use Rattle.kc_kit_answer.specs.Pack.{packed, PackAnswer}
use Rattle.kc_kit_answer.specs.Places.{places_of, Placing}
use Rattle.kc_kit_running.specs.Profiled.{Known, none_known, profile_response}
use Rattle.kc_kit_running.specs.Sources.{FileLines, lines_of_files, no_lines}
use Rattle.kc_kit_answer.specs.Profile.{AreLines, DrivenWithLines, LinkedWithLines, LinesReported, ProfileAnswer, ProfileHexAnswer}
use Rattle.kc_kit_answer.specs.Run.{LinkedReported, Driven, RunReported, RunAnswer}
use Rattle.kc_kit_running.specs.Lives.{board_response}
use Rattle.kc_kit_laws.specs.OneAnswer.{silent, HasOneAnswer, OneAnswer, OneDiagnostic}
use Rattle.kc_kit_laws.proofs.KnownLemmas.{AgreesOnKnown, profile_agrees, same_known}

-- ---- steps

-- at most one response may be given
abbrev IsOne : (Response → Type 0) → Type 0
IsOne may = (r s : Response) → may r → may s → r ≡ s

one_reported : (reported : Response) → IsOne (λ r. r ≡ reported)
one_reported reported r s h k = h ∙ sym k

one_then : {A : Type 0} (x : Result A Response) (may : A → Response → Type 0) → ((a : A) → IsOne (may a)) → IsOne (Then x may)
one_then (Ok a) may one r s h k = one a r s h k
one_then (Err e) may one r s h k = h ∙ sym k

-- the same where a step may give one thing alone
one_given : {A : Type 0} (Gives : Result A Response → Type 0) (may : A → Response → Type 0) → ((x y : Result A Response) → Gives x → Gives y → x ≡ y) → ((a : A) → IsOne (may a))
    → IsOne (λ r. (x : Result A Response) × Gives x × Then x may r)
one_given {A} Gives may same one r s h k = one_then h.0 may one r s h.2 (subst (λ (x : Result A Response). Then x may s) (sym (same h.0 k.0 h.1 k.1)) k.2)

one_text : (may : List ℕ → Response → Type 0) → ((text : List ℕ) → IsOne (may text)) → (texts : List (List ℕ)) → IsOne (OneText may texts)
one_text may one [] r s h k = absurd h
one_text may one (t ∷ []) r s h k = one t r s h k
one_text may one (t ∷ u ∷ ts) r s h k = absurd h

one_two : (may : List ℕ → List ℕ → Response → Type 0) → ((text other : List ℕ) → IsOne (may text other)) → (texts : List (List ℕ)) → IsOne (TwoTexts may texts)
one_two may one [] r s h k = absurd h
one_two may one (t ∷ []) r s h k = absurd h
one_two may one (t ∷ u ∷ []) r s h k = one t u r s h k
one_two may one (t ∷ u ∷ v ∷ ts) r s h k = absurd h

one_placing : (names : List (List ℕ)) (ranges : Ranges) (may : List Object → Places → Response → Type 0) → ((ms : List Object) (places : Places) → IsOne (may ms places)) → (ms : List Object) → IsOne (Placing names ranges may ms)
one_placing names ranges may one ms = one_then (places_of names ms ranges) (may ms) (one ms)

-- the laws that this stands on
pub record Laws : Type 0 where
  pub texts : OneAnswerOfText
  pub images : OneImage
  pub maps : OneLineMap
  pub taken : TakenOnce
  pub listings : OneListing
  pub instructions : OneInstructions

-- ---- sources

of_ok : (m n : Object) (x y : Result Object Fault) → x ≡ Ok m → y ≡ Ok n → x ≡ y → m ≡ n
of_ok m n x y e f g = cc (e, f, g)

of_err : (d e : Fault) (x y : Result Object Fault) → x ≡ Err d → y ≡ Err e → x ≡ y → d ≡ e
of_err d e x y f g h = cc (f, g, h)

ok_or_err : (m : Object) (d : Fault) (x y : Result Object Fault) → x ≡ Ok m → y ≡ Err d → x ≡ y → ⊥
ok_or_err m d x y e f g = cc (e, f, g)

module _ (law : OneAnswerOfText) where
  one_module : (text : List ℕ) (m n : Object) → IsModule text m → IsModule text n → m ≡ n
  one_module text m n h k = of_ok m n (Ok m) (Ok n) refl refl (law text (Ok m) (Ok n) h k)

  one_modules : (texts : List (List ℕ)) (ms ns : List Object) → AreModules texts ms → AreModules texts ns → ms ≡ ns
  one_modules [] [] [] h k = refl
  one_modules [] [] (n ∷ ns) h k = absurd k
  one_modules [] (m ∷ ms) ns h k = absurd h
  one_modules (t ∷ ts) [] ns h k = absurd h
  one_modules (t ∷ ts) (m ∷ ms) [] h k = absurd k
  one_modules (t ∷ ts) (m ∷ ms) (n ∷ ns) h k =
      let first : m ≡ n = one_module t m n h.0 k.0 in
      let rest : ms ≡ ns = one_modules ts ms ns h.1 k.1 in
      (λ i. first i ∷ rest i)

-- ---- images and line maps

module _ (images : OneImage) where
  one_linked : (texts : List (List ℕ)) (report : List ℕ → Response) (ms : List Object) (places : Places) → IsOne (LinkedReported texts report ms places)
  one_linked texts report ms places r s h k = h.reported ∙ (ap report (images ms places h.image k.image h.is_filled k.is_filled) ∙ sym k.reported)

  one_driven : (texts : List (List ℕ)) (given : GivenFiles) (report : Driving → List ℕ → Response) (ms : List Object) (places : Places) → IsOne (Driven given (LinkedReported texts) report ms places)
  one_driven texts given report ms places = one_then (driving_of given) (λ driving. LinkedReported texts (report driving) ms places) (λ driving. one_linked texts (report driving) ms places)

  one_linked_lines : OneLineMap → OneInstructions → (names texts : List (List ℕ)) (report : Known → List ℕ → Response) → AgreesOnKnown report → (ms : List Object) (places : Places) → IsOne (LinkedWithLines names texts report ms places)
  one_linked_lines maps law names texts report agrees ms places r s h k =
      let image : h.image ≡ k.image = images ms places h.image k.image h.is_filled k.is_filled in
      let there : AreLines names texts k.image ms places h.known = subst (λ (bytes : List ℕ). AreLines names texts bytes ms places h.known) image h.are_lines in
      h.reported ∙ (ap (report h.known) image ∙ (agrees k.image h.known k.known (same_known maps law names texts k.image ms places h.known k.known there k.are_lines) ∙ sym k.reported))

  one_driven_lines : OneLineMap → OneInstructions → (names texts : List (List ℕ)) (given : GivenFiles) (report : Known → Driving → List ℕ → Response) → ((driving : Driving) → AgreesOnKnown (λ known. report known driving)) → (ms : List Object) (places : Places) →
      IsOne (DrivenWithLines given (LinkedWithLines names texts) report ms places)
  one_driven_lines maps law names texts given report agrees ms places =
      one_then (driving_of given) (λ driving. LinkedWithLines names texts (λ known. report known driving) ms places) (λ driving. one_linked_lines maps law names texts (λ known. report known driving) (agrees driving) ms places)

  one_map : OneLineMap → (lines : Option (List ℕ)) (ms : List Object) (places : Places) (ws us : List Write) → IsMap lines ms places ws → IsMap lines ms places us → ws ≡ us
  one_map maps None ms places ws us h k = h ∙ sym k
  one_map maps (Some name) ms places ws us h k =
      let same : h.0 ≡ k.0 = maps ms places h.0 k.0 h.1 k.1 in
      h.2 ∙ (ap (λ (entries : List LineAt). write name (map_text entries) ∷ []) same ∙ sym k.2)

  one_links : OneLineMap → (out : List ℕ) (beside : Beside) (ranges : Ranges) (ms : List Object) (places : Places) → IsOne (LinksTo out beside ranges ms places)
  one_links maps out beside ranges ms places r s h k =
      let image : h.image ≡ k.image = images ms places h.image k.image h.is_filled k.is_filled in
      let more : h.more ≡ k.more = one_map maps beside.lines ms places h.more k.more h.is_map k.is_map in
      let maps = map_writes beside.map ms ranges places in
      let both : writing_readable (write out (spelling h.image) ∷ h.more) maps ≡ writing_readable (write out (spelling k.image) ∷ k.more) maps = λ i. writing_readable (write out (spelling (image i)) ∷ more i) maps in
      h.done ∙ (both ∙ sym k.done)

-- ---- traces

of_run : (lines others : List Line) (x y : Result (List Line) ℕ) → x ≡ Ok lines → y ≡ Ok others → x ≡ y → lines ≡ others
of_run lines others x y e f g = cc (e, f, g)

of_wrong : (line other : ℕ) (x y : Result (List Line) ℕ) → x ≡ Err line → y ≡ Err other → x ≡ y → line ≡ other
of_wrong line other x y e f g = cc (e, f, g)

run_or_wrong : (lines : List Line) (line : ℕ) (x y : Result (List Line) ℕ) → x ≡ Ok lines → y ≡ Err line → x ≡ y → ⊥
run_or_wrong lines line x y e f g = cc (e, f, g)

one_run_of : (name text : List ℕ) (x y : Result (List Line) Response) → RunIs name text x → RunIs name text y → x ≡ y
one_run_of name text (Ok lines) (Ok others) h k =
    (let same : lines ≡ others = of_run lines others (Ok lines) (Ok others) refl refl (one_run text (Ok lines) (Ok others) (h.spelled, h.run) (k.spelled, k.run)) in λ i. Ok (same i))
one_run_of name text (Ok lines) (Err r) h k = absurd (run_or_wrong lines k.0 (Ok lines) (Err k.0) refl refl (one_run text (Ok lines) (Err k.0) (h.spelled, h.run) k.1))
one_run_of name text (Err r) (Ok lines) h k = absurd (run_or_wrong lines h.0 (Ok lines) (Err h.0) refl refl (one_run text (Ok lines) (Err h.0) (k.spelled, k.run) h.1))
one_run_of name text (Err r) (Err s) h k =
    (let line : h.0 ≡ k.0 = of_wrong h.0 k.0 (Err h.0) (Err k.0) refl refl (one_run text (Err h.0) (Err k.0) h.1 k.1) in
    let same : r ≡ s = h.2 ∙ (ap (λ number. unkept_response name number (codes "BADTRACE")) line ∙ sym k.2) in λ i. Err (same i))

one_checked : (trace printed rules text : List ℕ) (book : Book) (drives : Drives) → IsOne (Checked trace printed rules text book drives)
one_checked trace printed rules text book drives =
    one_given (RunIs trace printed) (λ lines response. response ≡ verdict_response rules text book (count_lives lines) (lives_of drives lines)) (one_run_of trace printed)
    (λ lines. one_reported (verdict_response rules text book (count_lives lines) (lives_of drives lines)))

one_dumped : (trace out : List ℕ) (clock : ℕ) (printed : List ℕ) (driving : Driving) → IsOne (Dumped trace out clock printed driving)
one_dumped trace out clock printed driving =
    one_given (RunIs trace printed) (WritesDump out clock driving) (one_run_of trace printed) (λ lines. one_reported (done_writing (write out (dump_for clock driving lines) ∷ [])))

one_dump : (trace : List ℕ) (inputs : List (Role × List ℕ)) (out : List ℕ) (clock : ℕ) (printed : List ℕ) (texts : List (List ℕ)) → IsOne (DumpAnswer trace inputs out clock printed texts)
one_dump trace inputs out clock printed texts = one_then (driving_of (given_for inputs texts)) (Dumped trace out clock printed) (one_dumped trace out clock printed)

one_check : (trace rules : List ℕ) (inputs : List (Role × List ℕ)) (clock : ℕ) (printed text : List ℕ) (more : List (List ℕ)) → IsOne (CheckAnswer trace rules inputs clock printed text more)
one_check trace rules inputs clock printed text more =
    let stimuli = (given_for inputs more).stimuli in
    one_then (rules_of rules clock text) (λ book. Then (drives_of stimuli) (Checked trace printed rules text book))
    (λ book. one_then (drives_of stimuli) (Checked trace printed rules text book) (λ drives. one_checked trace printed rules text book drives))

one_check_texts : (trace rules : List ℕ) (inputs : List (Role × List ℕ)) (clock : ℕ) (printed : List ℕ) (texts : List (List ℕ)) → IsOne (CheckTexts trace rules inputs clock printed texts)
one_check_texts trace rules inputs clock printed [] r s h k = absurd h
one_check_texts trace rules inputs clock printed (text ∷ more) r s h k = one_check trace rules inputs clock printed text more r s h k

one_trace_then : (trace : List ℕ) (may : List ℕ → Response → Type 0) → ((printed : List ℕ) → IsOne (may printed)) → (contents : List (Option (List ℕ))) → IsOne (TraceThen trace may contents)
one_trace_then trace may one [] r s h k = absurd h
one_trace_then trace may one (content ∷ []) r s h k = one_then (text_of trace content) may one r s h k
one_trace_then trace may one (content ∷ other ∷ contents) r s h k = absurd h

-- ---- members of a library

too_many : TakenOnce → (name : List ℕ) (ms members taken : List Object) (r : Response) → TakenAre name ms members (Ok taken) → TakenAre name ms members (Err r) → ⊥
too_many law name ms members taken r h k =
    let count : length taken ≡ length k.0 = ap (λ (xs : List Object). length xs) (law ms members taken k.0 h.0 k.1) in
    let few = h.1 in
    let many = k.2 in
    omega (arith, count, few, many)

one_taken : TakenOnce → (name : List ℕ) (ms members : List Object) (x y : Result (List Object) Response) → TakenAre name ms members x → TakenAre name ms members y → x ≡ y
one_taken law name ms members (Ok t) (Ok u) h k = (let same : t ≡ u = law ms members t u h.0 k.0 in λ i. Ok (same i))
one_taken law name ms members (Ok t) (Err r) h k = absurd (too_many law name ms members t r h k)
one_taken law name ms members (Err r) (Ok t) h k = absurd (too_many law name ms members t r k h)
one_taken law name ms members (Err r) (Err s) h k = (let same : r ≡ s = h.3 ∙ sym k.3 in λ i. Err (same i))

-- what goes on with modules and names of their files gives one thing
abbrev EachOne : (List (List ℕ) → List Object → Response → Type 0) → Type 0
EachOne may = (names : List (List ℕ)) (ms : List Object) → IsOne (may names ms)

one_completed : TakenOnce → (names : List (List ℕ)) (library : Option (List ℕ × List ℕ)) (may : List (List ℕ) → List Object → Response → Type 0) → EachOne may → (ms : List Object) → IsOne (Completed names library may ms)
one_completed law names None may one ms = one names ms
one_completed law names (Some library) may one ms =
    one_then (library_of library.0 library.1) (Taking names library.0 may ms)
    (λ members. one_given (TakenAre library.0 ms members) (λ taken. may (names ++ member_words library.0 taken) (ms ++ taken)) (one_taken law library.0 ms members) (λ taken. one (names ++ member_words library.0 taken) (ms ++ taken)))

-- ---- commands

module _ (laws : Laws) where
  one_listed : (list : Option (List ℕ)) (text : List ℕ) (m : Object) (ws vs : List Write) → AreListings list text m ws → AreListings list text m vs → ws ≡ vs
  one_listed None text m ws vs h k = h ∙ sym k
  one_listed (Some name) text m ws vs h k = h.2 ∙ (ap (λ l. write name l ∷ []) (laws.listings text m h.0 k.0 h.1 k.1) ∙ sym k.2)

  one_object : (out : List ℕ) (list : Option (List ℕ)) (text : List ℕ) (m : Object) → IsOne (WritesObject out list text m)
  one_object out list text m r s h k =
      h.2 ∙ (ap (writing_readable (write out (objects.spelling m) ∷ [])) (one_listed list text m h.0 k.0 h.1 k.1) ∙ sym k.2)

  one_link : (files : List (List ℕ)) (inputs : List (Role × List ℕ)) (out : List ℕ) (beside : Beside) (ranges : Ranges) (texts more : List (List ℕ)) → IsOne (LinkAnswer files inputs out beside ranges texts more)
  one_link files inputs out beside ranges texts more =
      one_then (modules_of object_of files texts) (Completed files (input_for role.Library inputs more) (λ names. Placing names ranges (LinksTo out beside ranges)))
      (one_completed laws.taken files (input_for role.Library inputs more) (λ names. Placing names ranges (LinksTo out beside ranges)) (λ names. one_placing names ranges (LinksTo out beside ranges) (one_links laws.images laws.maps out beside ranges)))

  one_hex : (file : List ℕ) (given : GivenFiles) (text : List ℕ) (report : Driving → List ℕ → Response) → IsOne (HexReported file given text report)
  one_hex file given text report =
      one_then (hex_of file text) (λ image. Then (driving_of given) (λ driving response. response ≡ report driving image))
      (λ image. one_then (driving_of given) (λ driving response. response ≡ report driving image) (λ driving. one_reported (report driving image)))

-- ---- sources that may be refused, by a rule of diagnostics and a relation of responses that holds of diagnostics of one fault

module _
    (IsDiagnostic : DiagnosticRule) (Same : Response → Response → Type 0) (whole : (r : Response) → Same r r)
    (noted : (name text : List ℕ) (line code : ℕ) (n m : List ℕ) → IsDiagnostic name text line code n → IsDiagnostic name text line code m → Same (source_response name line code n) (source_response name line code m))
    (laws : Laws) where
  -- at most one response may be given, but for the relation
  abbrev AreOne : (Response → Type 0) → Type 0
  AreOne may = (r s : Response) → may r → may s → Same r s

  equal : (r s : Response) → r ≡ s → Same r s
  equal r s e = subst (Same r) e (whole r)

  moved : (d e r s : Response) → r ≡ d → s ≡ e → Same d e → Same r s
  moved d e r s f g h = subst (λ (x : Response). Same x s) (sym f) (subst (Same d) (sym g) h)

  then_one : {A : Type 0} (x : Result A Response) (may : A → Response → Type 0) → ((a : A) → AreOne (may a)) → AreOne (Then x may)
  then_one (Ok a) may one r s h k = one a r s h k
  then_one (Err e) may one r s h k = equal r s (h ∙ sym k)

  reported_once : (name text : List ℕ) (f g : Fault) (r s : Response) → f ≡ g → Reports IsDiagnostic name text f.0 f.1 r → Reports IsDiagnostic name text g.0 g.1 s → Same r s
  reported_once name text f g r s e h k =
      let there : Reports IsDiagnostic name text g.0 g.1 r = subst (λ (d : Fault). Reports IsDiagnostic name text d.0 d.1 r) e h in
      moved (source_response name g.0 g.1 there.0) (source_response name g.0 g.1 k.0) r s there.2 k.2 (noted name text g.0 g.1 there.0 k.0 there.1 k.1)

  fault_once : (name text : List ℕ) → AreOne (ReportsFault IsDiagnostic name text)
  fault_once name text r s h k =
      reported_once name text (h.0, h.1) (k.0, k.1) r s
      (of_err (h.0, h.1) (k.0, k.1) (Err (h.0, h.1)) (Err (k.0, k.1)) refl refl (laws.texts text (Err (h.0, h.1)) (Err (k.0, k.1)) h.2 k.2)) h.3 k.3

  no_fault : (name text : List ℕ) (m : Object) (r : Response) → IsModule text m → ReportsFault IsDiagnostic name text r → ⊥
  no_fault name text m r h k = ok_or_err m (k.0, k.1) (Ok m) (Err (k.0, k.1)) refl refl (laws.texts text (Ok m) (Err (k.0, k.1)) h k.2)

  no_first : (names texts : List (List ℕ)) (ms : List Object) (r : Response) → AreModules texts ms → ReportsFirst IsDiagnostic names texts r → ⊥
  no_first [] texts ms r h k = absurd k
  no_first (name ∷ names) [] ms r h k = absurd k
  no_first (name ∷ names) (t ∷ ts) [] r h k = absurd h
  no_first (name ∷ names) (t ∷ ts) (m ∷ ms) r h (inl k) = no_fault name t m r h.0 k
  no_first (name ∷ names) (t ∷ ts) (m ∷ ms) r h (inr k) = no_first names ts ms r h.1 k.1

  first_once : (names texts : List (List ℕ)) → AreOne (ReportsFirst IsDiagnostic names texts)
  first_once [] texts r s h k = absurd h
  first_once (name ∷ names) [] r s h k = absurd h
  first_once (name ∷ names) (t ∷ ts) r s (inl h) (inl k) = fault_once name t r s h k
  first_once (name ∷ names) (t ∷ ts) r s (inl h) (inr k) = absurd (no_fault name t k.0.0 r k.0.1 h)
  first_once (name ∷ names) (t ∷ ts) r s (inr h) (inl k) = absurd (no_fault name t h.0.0 s h.0.1 k)
  first_once (name ∷ names) (t ∷ ts) r s (inr h) (inr k) = first_once names ts r s h.1 k.1

  -- what goes on with the module of a source, and with those of sources
  source_once : (name text : List ℕ) (may : Object → Response → Type 0) → ((m : Object) → IsOne (may m)) → AreOne (λ r. (x : Result Object Response) × SourceIs IsDiagnostic name text x × Then x may r)
  source_once name text may one r s (Ok m, made, h) (Ok n, other, k) = equal r s (one m r s h (subst (λ (o : Object). may o s) (one_module laws.texts text n m other made) k))
  source_once name text may one r s (Ok m, made, h) (Err e, reported, k) = absurd (no_fault name text m e made reported)
  source_once name text may one r s (Err d, reported, h) (Ok n, made, k) = absurd (no_fault name text n d made reported)
  source_once name text may one r s (Err d, reported, h) (Err e, other, k) = moved d e r s h k (fault_once name text d e reported other)

  sources_once : (names texts : List (List ℕ)) (may : List Object → Response → Type 0) → ((ms : List Object) → IsOne (may ms)) → AreOne (λ r. (x : Result (List Object) Response) × SourcesAre IsDiagnostic names texts x × Then x may r)
  sources_once names texts may one r s (Ok ms, made, h) (Ok ns, other, k) = equal r s (one ms r s h (subst (λ (os : List Object). may os s) (one_modules laws.texts texts ns ms other made) k))
  sources_once names texts may one r s (Ok ms, made, h) (Err e, reported, k) = absurd (no_first names texts ms e made reported)
  sources_once names texts may one r s (Err d, reported, h) (Ok ns, made, k) = absurd (no_first names texts ns d made reported)
  sources_once names texts may one r s (Err d, reported, h) (Err e, other, k) = moved d e r s h k (first_once names texts d e reported other)

  reported_sources : (names : List (List ℕ)) (given : GivenFiles) (ranges : Ranges) (texts : List (List ℕ)) (report : FileLines → Driving → List ℕ → Response) → AreOne (RunReported IsDiagnostic names given ranges texts report)
  reported_sources names given ranges texts report =
      sources_once names texts (Placing names ranges (λ ms places. Driven given (LinkedReported texts) (report (lines_of_files names ms places)) ms places))
      (one_placing names ranges (λ ms places. Driven given (LinkedReported texts) (report (lines_of_files names ms places)) ms places) (λ ms places. one_driven laws.images texts given (report (lines_of_files names ms places)) ms places))

  reported_lines : (names : List (List ℕ)) (given : GivenFiles) (ranges : Ranges) (texts : List (List ℕ)) (extent : Extent) (behind : Behind) → AreOne (LinesReported IsDiagnostic names given ranges texts (profile_response extent behind))
  reported_lines names given ranges texts extent behind =
      sources_once names texts (Placing names ranges (DrivenWithLines given (LinkedWithLines names texts) (profile_response extent behind)))
      (one_placing names ranges (DrivenWithLines given (LinkedWithLines names texts) (profile_response extent behind))
      (one_driven_lines laws.images laws.maps laws.instructions names texts given (profile_response extent behind) (λ driving. profile_agrees extent behind driving)))

  assembled : (file out : List ℕ) (list : Option (List ℕ)) (texts : List (List ℕ)) → AreOne (OneText (AssembleAnswer IsDiagnostic file out list) texts)
  assembled file out list [] r s h k = absurd h
  assembled file out list (t ∷ []) r s h k = source_once file t (WritesObject out list t) (one_object laws out list t) r s h k
  assembled file out list (t ∷ u ∷ texts) r s h k = absurd h

  answers : (command : Option Command) (contents : List (Option (List ℕ))) → HasOneAnswer command → AreOne (CommandAnswer IsDiagnostic command contents)
  answers None contents one r s h k = equal r s (h ∙ sym k)
  answers (Some Helps) contents one r s h k = equal r s (h ∙ sym k)
  answers (Some (HelpsOn verb)) contents one r s h k = equal r s (h ∙ sym k)
  answers (Some ReportsVersion) contents one r s h k = equal r s (h ∙ sym k)
  answers (Some (Runs files inputs extent ranges)) contents one r s h k =
      then_one (reads_of (files ++ names_of inputs) contents) (Parted (length files) (RunAnswer IsDiagnostic files inputs extent ranges))
      (λ texts. reported_sources files (given_for inputs (drop (length files) texts)) ranges (take (length files) texts) (λ lines. board_response lines extent)) r s h k
  answers (Some (Profiles files inputs extent ranges behind)) contents one r s h k =
      then_one (reads_of (files ++ names_of inputs) contents) (Parted (length files) (ProfileAnswer IsDiagnostic files inputs extent ranges behind))
      (λ texts. reported_lines files (given_for inputs (drop (length files) texts)) ranges (take (length files) texts) extent behind) r s h k
  answers (Some (ProfilesHex file inputs extent out)) contents one r s h k = equal r s
      (one_then (reads_of (file ∷ names_of inputs) contents) (Parted 1 (λ texts more. OneText (λ text. ProfileHexAnswer file inputs extent out text more) texts))
      (λ texts. one_text (λ text. ProfileHexAnswer file inputs extent out text (drop 1 texts))
      (λ text. one_hex laws file (given_for inputs (drop 1 texts)) text (profile_response extent (record { profile = Some out; cover = None }) none_known)) (take 1 texts)) r s h k)
  answers (Some (Assembles file out list)) contents one r s h k = then_one (reads_of (file ∷ []) contents) (OneText (AssembleAnswer IsDiagnostic file out list)) (assembled file out list) r s h k
  answers (Some (Packs files out)) contents one r s h k = equal r s
      (one_then (reads_of files contents) (PackAnswer files out)
      (λ texts. one_then (modules_of object_of files texts) (λ ms response. response ≡ packed files out ms (doubled ms)) (λ ms. one_reported (packed files out ms (doubled ms)))) r s h k)
  answers (Some (Links files inputs out beside ranges)) contents one r s h k = equal r s
      (one_then (reads_of (files ++ names_of inputs) contents) (Parted (length files) (LinkAnswer files inputs out beside ranges))
      (λ texts. one_link laws files inputs out beside ranges (take (length files) texts) (drop (length files) texts)) r s h k)
  answers (Some (RunsHex file inputs extent)) contents one r s h k = equal r s
      (one_then (reads_of (file ∷ names_of inputs) contents) (Parted 1 (λ texts more. OneText (λ text. RunHexAnswer file inputs extent text more) texts))
      (λ texts. one_text (λ text. RunHexAnswer file inputs extent text (drop 1 texts))
      (λ text. one_hex laws file (given_for inputs (drop 1 texts)) text (board_response no_lines extent)) (take 1 texts)) r s h k)
  answers (Some (Lists file first last)) contents one r s h k = equal r s
      (one_then (reads_of (file ∷ []) contents) (OneText (ListAnswer file first last))
      (one_text (ListAnswer file first last) (λ text. one_then (hex_of file text) (ListingOf first last) (λ image. one_reported (says status.Done (listing image first last))))) r s h k)
  answers (Some (Debugs file script inputs lives)) contents one r s h k = equal r s
      (one_then (reads_of (file ∷ script ∷ names_of inputs) contents) (Parted 2 (λ texts more. TwoTexts (λ text commands. DebugAnswer file script inputs lives text commands more) texts))
      (λ texts. one_two (λ text commands. DebugAnswer file script inputs lives text commands (drop 2 texts))
      (λ text commands. one_hex laws file (given_for inputs (drop 2 texts)) text (debug_response (script, commands) (input_for role.Lines inputs (drop 2 texts)) lives)) (take 2 texts)) r s h k)
  answers (Some (Generates number)) contents one r s h k = reported_sources made_names (made_given number) (placing_of []) (made_texts number) (λ lines. summary_of number) r s h k
  answers (Some (Dumps trace inputs out clock)) contents one r s h k =
      let held = drop (length (names_of inputs)) contents in
      equal r s (one_then (reads_of (names_of inputs) contents) (λ texts. TraceThen trace (λ printed. DumpAnswer trace inputs out clock printed texts) held)
      (λ texts. one_trace_then trace (λ printed. DumpAnswer trace inputs out clock printed texts) (λ printed. one_dump trace inputs out clock printed texts) held) r s h k)
  answers (Some (Checks trace rules inputs clock)) contents one r s h k =
      let held = drop (length (names_whole rules inputs)) contents in
      equal r s (one_then (reads_of (names_whole rules inputs) contents) (λ texts. TraceThen trace (λ printed. CheckTexts trace rules inputs clock printed texts) held)
      (λ texts. one_trace_then trace (λ printed. CheckTexts trace rules inputs clock printed texts) (λ printed. one_check_texts trace rules inputs clock printed texts) held) r s h k)
  answers (Some (Bounds file from to inputs wanted)) contents one r s h k = absurd one
  answers (Some (Explains code)) contents one r s h k = equal r s (h ∙ sym k)

-- ---- the whole

pub one_answer : Laws → OneAnswer
one_answer laws = λ command contents r s one h k. answers AnyDiagnostic (λ r s. silent r ≡ silent s) (λ r. refl) (λ name text line code n m h k. refl) laws command contents one r s h k

one_fault_diagnostic : OneOrigin → (name text : List ℕ) (line code : ℕ) (n m : List ℕ) → IsFaultDiagnostic name text line code n → IsFaultDiagnostic name text line code m → source_response name line code n ≡ source_response name line code m
one_fault_diagnostic law name text line code n m h k =
    let lead = source_diagnostic name text line (coded (codes "E") code) code (symbol_of text line code) in
    ap (source_response name line code) (h.2 ∙ (ap (λ (c : Option ℕ). lead ++ body_diagnostic name text c) (law text line code h.0 k.0 h.1 k.1) ∙ sym k.2))

pub one_diagnostic : Laws → OneOrigin → OneDiagnostic
one_diagnostic laws law = λ command contents r s one h k. answers IsFaultDiagnostic (λ r s. r ≡ s) (λ r. refl) (one_fault_diagnostic law) laws command contents one r s h k
