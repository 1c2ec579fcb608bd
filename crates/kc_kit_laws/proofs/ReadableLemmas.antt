-- What is written for commands to read is short enough, or nothing is written.
use Rattle.std.proofs.Common.{◌≡◌, ◌≢◌, inl, inr, ℕ, ◌≤◌, Bool, true, false, cond, List, [], ◌∷◌, ◌++◌, length, take, drop, map, Option, Some, None, Result, Ok, Err, refl, sym, ◌∙◌, ap, subst, arith}
use Rattle.std.specs.Prelude.{nat_lt, codes}
use Rattle.std.specs.Option.{option_to_list}
use Rattle.std.proofs.lemmas.Bool.Decides.{nat_tests}
use Rattle.kc_obj_module.specs.Object.{Object}
use Rattle.kc_obj_module.specs.Spelling as objects
use Rattle.kc_obj_fields.specs.declared.faults.Fault.{Fault}
use Rattle.kc_obj.specs.Reading.{answer_of}
use Rattle.kc_lib.specs.declared.faults.LibFault.{LibFault}
use Rattle.kc_lib.specs.declared.faults.LibFault.TheVariants as faults
use Rattle.kc_lib.specs.Format.{library_bytes}
use Rattle.kc_lib.specs.Names.{doubled}
use Rattle.kc_lib.specs.Reading.{read_answer}
use Rattle.kc_hex.specs.Spelling.{spelling}
use Rattle.kc_link_place.specs.declared.ranges.Ranges.{Ranges}
use Rattle.kc_link_place.specs.declared.ranges.LinkFault.{LinkFault}
use Rattle.kc_link_place.specs.Placing.{Places}
use Rattle.kc_link.specs.Placed.{placed}
use Rattle.kc_kit_files.specs.declared.status.Status.TheVariants as status
use Rattle.kc_kit_files.specs.Reads.{file_limit, read_of, reads_of, long_response, missing_response}
use Rattle.kc_kit_files.specs.Response.{Response, Write, write, reports, joined, Then}
use Rattle.kc_kit_files.specs.Writes.{first_long, unless_long, writing_readable, AreReadable}
use Rattle.kc_kit_files.proofs.LongLemmas.{readable-of}
use Rattle.kc_kit_words.specs.declared.inputs.Role.TheVariants as role
use Rattle.kc_kit_words.specs.Commands.{Beside, Helps, HelpsOn, ReportsVersion, Runs, Profiles, Assembles, Packs, Links, RunsHex, ProfilesHex, Lists, Debugs, Generates, Dumps, Checks, Bounds, Explains, names_of}
use Rattle.kc_kit_inputs.specs.Inputs.{input_for}
use Rattle.kc_kit_inputs.specs.Library as libraries
use Rattle.kc_kit_inputs.specs.Library.{by_library, library_of, fault_response}
use Rattle.kc_kit_inputs.specs.Lines.{coded}
use Rattle.kc_kit_inputs.specs.Objects.{modules_of, by_object, object_of}
use Rattle.kc_kit_inputs.specs.Responses.{source_response, byte_response}
use Rattle.kc_kit_inputs.specs.Sources.{AnyDiagnostic, ReportsFault}
use Rattle.kc_kit_messages.specs.Rules.{link_line, member_words}
use Rattle.kc_kit_messages.specs.RuleDiagnostics.{link_diagnostic}
use Rattle.kc_kit_answer.specs.Answer.{OneText, Parted}
use Rattle.kc_kit_answer.specs.Assemble.{AssembleAnswer}
use Rattle.kc_kit_answer.specs.Link.{IsMap, map_writes, LinksTo, Taking, Completed, LinkAnswer}
use Rattle.kc_kit_answer.specs.Pack.{packed, PackAnswer}
use Rattle.kc_kit_answer.specs.Places.{by_places, places_of, Placing}
use Rattle.kc_kit_laws.specs.Readable.{AreReadAgain, IsReadable, WrittenIsReadable}

-- ---- what is written

read_again : (name bytes : List ℕ) → length bytes ≤ file_limit → read_of name (Some bytes) ≡ Ok bytes
read_again name bytes h =
    let short : nat_lt file_limit (length bytes) ≡ false = grind (arith, nat_tests, h) in
    ap (λ (b : Bool). cond b (Err (long_response name)) (Ok bytes)) short

are_read : (ws : List Write) → AreReadable ws → AreReadAgain ws
are_read [] h = tt
are_read (w ∷ ws) h = (read_again w.name w.bytes h.0, are_read ws h.1)

input_not_done : status.Input ≢ status.Done
input_not_done e = cc

link_not_done : status.Link ≢ status.Done
link_not_done e = cc

written : (names : List (List ℕ)) (readable others : List Write) (r : Response) → map (λ (w : Write). w.name) readable ≡ names → r ≡ writing_readable readable others → IsReadable names r
written names readable others r named e = by (first_long readable) refl e
  where
    by : (long : Option (List ℕ)) → first_long readable ≡ long → r ≡ unless_long long (readable ++ others) → IsReadable names r
    by None f k = inl (readable, others, ap (λ (w : Response). w.writes) k, named, are_read readable (readable-of readable f))
    by (Some name) f k = inr (λ d. input_not_done (sym (ap (λ (w : Response). w.status) k) ∙ d), ap (λ (w : Response). w.writes) k)

-- a command that writes no file for commands to read
of_none : (r : Response) → IsReadable [] r
of_none r = let none : List Write = [] in inl (none, r.writes, refl, refl, tt)

-- ---- steps, for files of some names

module _ (ns : List (List ℕ)) where
  refused : (r e : Response) → r.status ≢ status.Done → r.writes ≡ [] → r ≡ e → IsReadable ns e
  refused r e other none k = subst (IsReadable ns) k (inr (other, none))

  -- with the status of an input, and of a rule of linking
  of_input : (line diagnostic : List ℕ) (e : Response) → reports status.Input line diagnostic ≡ e → IsReadable ns e
  of_input line diagnostic e k = refused (reports status.Input line diagnostic) e input_not_done refl k

  of_link : (line diagnostic : List ℕ) (e : Response) → reports status.Link line diagnostic ≡ e → IsReadable ns e
  of_link line diagnostic e k = refused (reports status.Link line diagnostic) e link_not_done refl k

  then_all : {A : Type 0} (x : Result A Response) (may : A → Response → Type 0) (r : Response) → ((e : Response) → x ≡ Err e → IsReadable ns e) → ((a : A) → may a r → IsReadable ns r) → Then x may r → IsReadable ns r
  then_all (Ok a) may r f g h = g a h
  then_all (Err e) may r f g h = subst (IsReadable ns) (sym h) (f e refl)

  ok_err : {A : Type 0} (a : A) (e : Response) → Ok a ≡ Err e → IsReadable ns e
  ok_err a e h = absurd (cc)

  joined_err : {A : Type 0} (x : Result A Response) (others : Result (List A) Response) (e : Response) → joined x others ≡ Err e → (x ≡ Err e → IsReadable ns e) → (others ≡ Err e → IsReadable ns e) → IsReadable ns e
  joined_err (Err r) others e h f g = f (ap Err (let same : r ≡ e = cc in same))
  joined_err (Ok a) (Err r) e h f g = g (ap Err (let same : r ≡ e = cc in same))
  joined_err (Ok a) (Ok more) e h f g = absurd (cc)

  -- ---- files that are read

  of_read : (name : List ℕ) (content : Option (List ℕ)) (e : Response) → read_of name content ≡ Err e → IsReadable ns e
  of_read name None e h = refused (missing_response name) e (λ d. let f : status.Missing ≡ status.Done = d in cc) refl (let k : missing_response name ≡ e = cc in k)
  of_read name (Some bytes) e h = by (nat_lt file_limit (length bytes)) h
    where
      by : (b : Bool) → cond b (Err (long_response name)) (Ok bytes) ≡ Err e → IsReadable ns e
      by true k = refused (long_response name) e input_not_done refl (let f : long_response name ≡ e = cc in f)
      by false k = ok_err bytes e k

  of_reads : (names : List (List ℕ)) (contents : List (Option (List ℕ))) (e : Response) → reads_of names contents ≡ Err e → IsReadable ns e
  of_reads [] contents e h = ok_err [] e h
  of_reads (n ∷ names) [] e h = ok_err [] e h
  of_reads (n ∷ names) (c ∷ contents) e h = joined_err (read_of n c) (reads_of names contents) e h (of_read n c e) (of_reads names contents e)

  -- ---- sources, objects, libraries and places

  of_fault : (name text : List ℕ) (r : Response) → ReportsFault AnyDiagnostic name text r → IsReadable ns r
  of_fault name text r h = refused (source_response name h.0 h.1 h.3.0) r (λ d. let f : status.Source ≡ status.Done = d in cc) refl (sym h.3.2)

  of_object : (name : List ℕ) (x : Result Object Fault) (e : Response) → by_object name x ≡ Err e → IsReadable ns e
  of_object name (Ok m) e h = ok_err m e h
  of_object name (Err fault) e h =
      let reported = byte_response name fault.at (coded (codes "O") fault.code) in
      refused reported e input_not_done refl (let k : reported ≡ e = cc in k)

  of_modules : (names texts : List (List ℕ)) (e : Response) → modules_of object_of names texts ≡ Err e → IsReadable ns e
  of_modules [] texts e h = ok_err [] e h
  of_modules (n ∷ names) [] e h = ok_err [] e h
  of_modules (n ∷ names) (t ∷ texts) e h = joined_err (object_of n t) (modules_of object_of names texts) e h (of_object n (answer_of t) e) (of_modules names texts e)

  of_place : (name : List ℕ) (place : Option (ℕ × ℕ)) (e : Response) → libraries.response_at name place ≡ e → IsReadable ns e
  of_place name None e k = refused (libraries.response_at name None) e input_not_done refl k
  of_place name (Some p) e k = refused (libraries.response_at name (Some p)) e input_not_done refl k

  of_library : (name : List ℕ) (x : Result (List Object) LibFault) (e : Response) → by_library name x ≡ Err e → IsReadable ns e
  of_library name (Ok members) e h = ok_err members e h
  of_library name (Err fault) e h = of_place name (libraries.place_of fault) e (let k : libraries.response_at name (libraries.place_of fault) ≡ e = cc in k)

  of_places : (names : List (List ℕ)) (ms : List Object) (x : Result Places LinkFault) (e : Response) → by_places names ms x ≡ Err e → IsReadable ns e
  of_places names ms (Ok places) e h = ok_err places e h
  of_places names ms (Err fault) e h =
      let reported = reports status.Link (link_line names fault) (link_diagnostic names ms fault) in
      refused reported e link_not_done refl (let k : reported ≡ e = cc in k)

  -- what goes on with modules, and with the members that they take
  abbrev GoesOn : (List (List ℕ) → List Object → Response → Type 0) → Response → Type 0
  GoesOn may r = (files : List (List ℕ)) (all : List Object) → may files all r → IsReadable ns r

  of_taking : (names : List (List ℕ)) (library : List ℕ) (may : List (List ℕ) → List Object → Response → Type 0) (ms members : List Object) (r : Response) → GoesOn may r → Taking names library may ms members r → IsReadable ns r
  of_taking names library may ms members r f (Ok taken, is, h) = f (names ++ member_words library taken) (ms ++ taken) h
  of_taking names library may ms members r f (Err e, is, h) = of_place library (libraries.place_of faults.TooMany) r (sym (h ∙ is.3))

  of_completed : (names : List (List ℕ)) (library : Option (List ℕ × List ℕ)) (may : List (List ℕ) → List Object → Response → Type 0) (ms : List Object) (r : Response) → GoesOn may r → Completed names library may ms r → IsReadable ns r
  of_completed names None may ms r f h = f names ms h
  of_completed names (Some library) may ms r f h =
      then_all (library_of library.0 library.1) (Taking names library.0 may ms) r (of_library library.0 (read_answer library.1)) (λ members k. of_taking names library.0 may ms members r f k) h

-- ---- the commands

of_assembled : (name out : List ℕ) (list : Option (List ℕ)) (texts : List (List ℕ)) (r : Response) → OneText (AssembleAnswer AnyDiagnostic name out list) texts r → IsReadable (out ∷ []) r
of_assembled name out list [] r h = absurd h
of_assembled name out list (t ∷ []) r (Ok m, made, h) = written (out ∷ []) (write out (objects.spelling m) ∷ []) h.0 r refl h.2
of_assembled name out list (t ∷ []) r (Err e, reported, h) = subst (IsReadable (out ∷ [])) (sym h) (of_fault (out ∷ []) name t e reported)
of_assembled name out list (t ∷ u ∷ texts) r h = absurd h

of_packed : (names : List (List ℕ)) (out : List ℕ) (ms : List Object) (double : Option (List ℕ)) (r : Response) → r ≡ packed names out ms double → IsReadable (out ∷ []) r
of_packed names out ms None r h = written (out ∷ []) (write out (library_bytes ms) ∷ []) [] r refl h
of_packed names out ms (Some name) r h = of_link (out ∷ []) _ _ r (sym h)

of_pack : (names : List (List ℕ)) (out : List ℕ) (texts : List (List ℕ)) (r : Response) → PackAnswer names out texts r → IsReadable (out ∷ []) r
of_pack names out texts r h =
    then_all (out ∷ []) (modules_of object_of names texts) (λ ms response. response ≡ packed names out ms (doubled ms)) r (of_modules (out ∷ []) names texts) (λ ms k. of_packed names out ms (doubled ms) r k) h

map_named : (lines : Option (List ℕ)) (ms : List Object) (places : Places) (ws : List Write) → IsMap lines ms places ws → map (λ (w : Write). w.name) ws ≡ option_to_list lines
map_named None ms places ws h = ap (map (λ (w : Write). w.name)) h
map_named (Some name) ms places ws h = ap (map (λ (w : Write). w.name)) h.2

of_links : (out : List ℕ) (beside : Beside) (ranges : Ranges) (ms : List Object) (places : Places) (r : Response) → LinksTo out beside ranges ms places r → IsReadable (out ∷ option_to_list beside.lines) r
of_links out beside ranges ms places r h =
    written (out ∷ option_to_list beside.lines) (write out (spelling h.image) ∷ h.more) (map_writes beside.map ms ranges places) r (ap (λ ns. out ∷ ns) (map_named beside.lines ms places h.more h.is_map)) h.done

of_linked : (names : List (List ℕ)) (library : Option (List ℕ × List ℕ)) (out : List ℕ) (beside : Beside) (ranges : Ranges) (texts : List (List ℕ)) (r : Response) →
    Then (modules_of object_of names texts) (Completed names library (λ files. Placing files ranges (LinksTo out beside ranges))) r → IsReadable (out ∷ option_to_list beside.lines) r
of_linked names library out beside ranges texts r h =
    let ns = out ∷ option_to_list beside.lines in
    then_all ns (modules_of object_of names texts) (Completed names library (λ files. Placing files ranges (LinksTo out beside ranges))) r (of_modules ns names texts)
    (λ ms k. of_completed ns names library (λ files. Placing files ranges (LinksTo out beside ranges)) ms r
    (λ files all l. then_all ns (places_of files all ranges) (LinksTo out beside ranges all) r (of_places ns files all (placed all ranges)) (λ places m. of_links out beside ranges all places r m) l) k) h

pub written_is_readable : WrittenIsReadable
written_is_readable None contents r h = of_none r
written_is_readable (Some Helps) contents r h = of_none r
written_is_readable (Some (HelpsOn verb)) contents r h = of_none r
written_is_readable (Some ReportsVersion) contents r h = of_none r
written_is_readable (Some (Runs files inputs extent placing)) contents r h = of_none r
written_is_readable (Some (Profiles files inputs extent placing behind)) contents r h = of_none r
written_is_readable (Some (ProfilesHex file inputs extent out)) contents r h = of_none r
written_is_readable (Some (Assembles file out list)) contents r h =
    then_all (out ∷ []) (reads_of (file ∷ []) contents) (OneText (AssembleAnswer AnyDiagnostic file out list)) r (of_reads (out ∷ []) (file ∷ []) contents) (λ texts k. of_assembled file out list texts r k) h
written_is_readable (Some (Packs files out)) contents r h =
    then_all (out ∷ []) (reads_of files contents) (PackAnswer files out) r (of_reads (out ∷ []) files contents) (λ texts k. of_pack files out texts r k) h
written_is_readable (Some (Links files inputs out beside placing)) contents r h =
    let ns = out ∷ option_to_list beside.lines in
    then_all ns (reads_of (files ++ names_of inputs) contents) (Parted (length files) (LinkAnswer files inputs out beside placing)) r (of_reads ns (files ++ names_of inputs) contents)
    (λ texts k. of_linked files (input_for role.Library inputs (drop (length files) texts)) out beside placing (take (length files) texts) r k) h
written_is_readable (Some (RunsHex file inputs extent)) contents r h = of_none r
written_is_readable (Some (Lists file first last)) contents r h = of_none r
written_is_readable (Some (Debugs file script inputs lives)) contents r h = of_none r
written_is_readable (Some (Generates number)) contents r h = of_none r
written_is_readable (Some (Dumps trace inputs out clock)) contents r h = of_none r
written_is_readable (Some (Checks trace rules inputs clock)) contents r h = of_none r
written_is_readable (Some (Bounds file from to inputs wanted)) contents r h = of_none r
written_is_readable (Some (Explains code)) contents r h = of_none r
