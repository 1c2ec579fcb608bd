-- How `bound` ends, by what its files hold.
use Rattle.std.proofs.Common.{◌≡◌, ◌⊎◌, inl, inr, ℕ, Bool, true, false, List, [], ◌∷◌, Option, Some, None, Result, Ok, Err, refl, sym, ◌∙◌, ap, subst}
use Rattle.std.specs.Prelude.{◌&&◌, is_some, codes}
use Rattle.std.specs.Option.{option_map, option_map_or}
use Rattle.std.specs.Result.{IsOk}
use Rattle.kc_addresses.specs.declared.names.Name.{Name}
use Rattle.kc_addresses.specs.Names.{names_of}
use Rattle.kc_debug_script.specs.declared.line_map.MapEntry.{MapEntry}
use Rattle.kc_debug_script.specs.LineMap as maps
use Rattle.kc_hex.specs.Records.{image_of}
use Rattle.kc_bound.specs.Reading.{NotesRead, no_notes, notes_of, address_of}
use Rattle.kc_kit_files.specs.declared.status.Status.{Status}
use Rattle.kc_kit_files.specs.declared.status.Status.TheVariants as status
use Rattle.kc_kit_files.specs.declared.refusal.Refusal.{Refusal}
use Rattle.kc_kit_files.specs.Response.{Response, reports, Then, IsRefused}
use Rattle.kc_kit_files.proofs.ReadLemmas.{refused-widen}
use Rattle.kc_kit_words.specs.declared.command.Bound.{Bound}
use Rattle.kc_kit_words.specs.declared.command.Wanted.{Wanted}
use Rattle.kc_kit_words.specs.declared.inputs.Role.{Role}
use Rattle.kc_kit_inputs.specs.Annotations.{AnnotationFiles, Annotations, names_in, by_notes, notes_in, with_notes, with_lines, with_names, annotations_of, annotation_files, address_in}
use Rattle.kc_kit_inputs.specs.Hex.{by_image, hex_of}
use Rattle.kc_kit_inputs.specs.Lines.{coded}
use Rattle.kc_kit_inputs.specs.Responses.{line_response}
use Rattle.kc_kit_inputs.specs.Scripts.{by_lines, lines_of}
use Rattle.kc_kit_answer.specs.Accepting.{Accepting}
use Rattle.kc_kit_answer.specs.Answer.{OneText}
use Rattle.kc_kit_answer.specs.Bound.{unknown_diagnostic, by_address, place_of, maybe_end, end_of, report_status, with_end, IsReported, PassesAnswer, BoundAnswer, are_addresses, AreBoundable}
use Rattle.kc_kit_answer.specs.Jobs.{IsPrepared}
use Rattle.kc_kit_answer.specs.Lines.{usage_line}
use Rattle.kc_kit_answer.specs.declared.job.Job.{Job}
use Rattle.kc_kit_answer.proofs.AnswerSteps.{then-ok, then-err, prepared-widen}

-- the word for an address at which a pass ends too
abbrev pub end_word : Bound → Option (List ℕ)
end_word bound = option_map (λ t. t.now) bound.to

-- ---- inputs with a fault

abbrev IsInput : Response → Type 0
IsInput r = (r.writes ≡ []) × (r.status ≡ status.Input)

of-line : (name text : List ℕ) (line : ℕ) (code : List ℕ) (e : Response) → line_response name text line code ≡ e → IsInput e
of-line name text line code e k = (sym (ap (λ (r : Response). r.writes) k), sym (ap (λ (r : Response). r.status) k))

ok-err : {A : Type 0} (P : Type 0) (a : A) (e : Response) → Ok a ≡ Err e → P
ok-err P a e h = absurd (cc)

of-lines : {A : Type 0} (code name text : List ℕ) (x : Result (List A) ℕ) (e : Response) → by_lines code name text x ≡ Err e → IsInput e
of-lines code name text (Ok said) e h = ok-err (IsInput e) said e h
of-lines code name text (Err line) e h = of-line name text line code e (let k : line_response name text line code ≡ e = cc in k)

of-names : (file : Option (List ℕ × List ℕ)) (e : Response) → names_in file ≡ Err e → IsInput e
of-names None e h = let none : List Name = [] in ok-err (IsInput e) none e h
of-names (Some file) e h = of-lines (codes "BADNAMES") file.0 file.1 (names_of file.1) e h

of-line-map : (file : Option (List ℕ × List ℕ)) (e : Response) → lines_of file ≡ Err e → IsInput e
of-line-map None e h = let none : List MapEntry = [] in ok-err (IsInput e) none e h
of-line-map (Some file) e h = of-lines (codes "BADMAP") file.0 file.1 (maps.map_of file.1) e h

of-notes-text : (name text : List ℕ) (x : Result NotesRead ℕ) (e : Response) → by_notes name text x ≡ Err e → IsInput e
of-notes-text name text (Ok said) e h = ok-err (IsInput e) said e h
of-notes-text name text (Err line) e h = of-line name text line (codes "BADNOTE") e (let k : line_response name text line (codes "BADNOTE") ≡ e = cc in k)

of-notes : (names : List Name) (lines : List MapEntry) (file : Option (List ℕ × List ℕ)) (e : Response) → notes_in names lines file ≡ Err e → IsInput e
of-notes names lines None e h = ok-err (IsInput e) no_notes e h
of-notes names lines (Some file) e h = of-notes-text file.0 file.1 (notes_of (address_of names lines) file.1) e h

pub of-annotations : (files : AnnotationFiles) (e : Response) → annotations_of files ≡ Err e → IsInput e
of-annotations files e h = by-names (names_in files.map) refl h
  where
    by-notes : (names : List Name) (lines : List MapEntry) (x : Result NotesRead Response) → notes_in names lines files.notes ≡ x → with_notes names lines x ≡ Err e → IsInput e
    by-notes names lines (Ok said) f k = absurd (cc)
    by-notes names lines (Err r) f k = of-notes names lines files.notes e (f ∙ (let l : Err r ≡ Err e = cc in l))

    by-lines : (names : List Name) (x : Result (List MapEntry) Response) → lines_of files.lines ≡ x → with_lines files names x ≡ Err e → IsInput e
    by-lines names (Ok lines) f k = by-notes names lines (notes_in names lines files.notes) refl k
    by-lines names (Err r) f k = of-line-map files.lines e (f ∙ (let l : Err r ≡ Err e = cc in l))

    by-names : (x : Result (List Name) Response) → names_in files.map ≡ x → with_names files x ≡ Err e → IsInput e
    by-names (Ok names) f k = by-lines names (lines_of files.lines) refl k
    by-names (Err r) f k = of-names files.map e (f ∙ (let l : Err r ≡ Err e = cc in l))

-- ---- passes

abbrev pub IsFound : Status → Type 0
IsFound given = (given ≡ status.Done) ⊎ (given ≡ status.Broken)

-- no address of the ROM, or a report
abbrev PassesEnd : Type 0 → Response → Type 0
PassesEnd unknown r = (r.writes ≡ []) × (((r.status ≡ status.Usage) × unknown) ⊎ IsFound r.status)

of-unknown : (unknown : Type 0) (word : List ℕ) (r : Response) → unknown → r ≡ reports status.Usage usage_line (unknown_diagnostic word) → PassesEnd unknown r
of-unknown unknown word r u h = (ap (λ (k : Response). k.writes) h, inl (ap (λ (k : Response). k.status) h, u))

of-report : (unknown : Type 0) (image : List ℕ) (said : NotesRead) (lines : List MapEntry) (first : ℕ) (wanted : Wanted) (r : Response) → IsReported image said lines first wanted r → PassesEnd unknown r
of-report unknown image said lines first wanted r h = (ap (λ (k : Response). k.writes) h.answered, inr (by h.is_bound (ap (λ (k : Response). k.status) h.answered)))
  where
    by : (b : Bool) → r.status ≡ report_status b → IsFound r.status
    by true e = inl e
    by false e = inr e

of-end : (from : List ℕ) (to : Option (List ℕ)) (wanted : Wanted) (image : List ℕ) (a : Annotations) (first : ℕ) (r : Response) → address_in a from ≡ Some first →
    Then (end_of a to) (λ last. IsReported image (with_end last a.notes) a.lines first wanted) r → PassesEnd (are_addresses from to a ≡ false) r
of-end from None wanted image a first r e h = of-report _ image (with_end None a.notes) a.lines first wanted r h
of-end from (Some word) wanted image a first r e h = by (address_in a word) refl h
  where
    by : (x : Option ℕ) → address_in a word ≡ x → Then (maybe_end (by_address word x)) (λ last. IsReported image (with_end last a.notes) a.lines first wanted) r → PassesEnd (are_addresses from (Some word) a ≡ false) r
    by None f k = of-unknown _ word r (ap (λ y. is_some (address_in a from) && is_some y) f ∙ ap (λ y. is_some y && false) e) k
    by (Some last) f k = of-report _ image (with_end (Some last) a.notes) a.lines first wanted r k

passes-end : (from : List ℕ) (to : Option (List ℕ)) (wanted : Wanted) (image : List ℕ) (a : Annotations) (r : Response) → PassesAnswer from to wanted image a r → PassesEnd (are_addresses from to a ≡ false) r
passes-end from to wanted image a r h = by (address_in a from) refl h
  where
    by : (x : Option ℕ) → address_in a from ≡ x → Then (by_address from x) (λ first. Then (end_of a to) (λ last. IsReported image (with_end last a.notes) a.lines first wanted)) r → PassesEnd (are_addresses from to a ≡ false) r
    by None e k = of-unknown _ from r (ap (λ y. is_some y && option_map_or (λ word. is_some (address_in a word)) to true) e) k
    by (Some first) e k = of-end from to wanted image a first r e k

-- ---- the whole

-- a fault of an input, no address of the ROM, or a report
abbrev pub BoundEnds : Type 0 → Response → Type 0
BoundEnds unknown r = (r.writes ≡ []) × ((r.status ≡ status.Input) ⊎ (((r.status ≡ status.Usage) × unknown) ⊎ IsFound r.status))

refused : (unknown : Type 0) (r e : Response) → IsInput e → r ≡ e → BoundEnds unknown r
refused unknown r e is h = (ap (λ (k : Response). k.writes) h ∙ is.0, inl (ap (λ (k : Response). k.status) h ∙ is.1))

passed : (unknown wide : Type 0) (r : Response) → (unknown → wide) → PassesEnd unknown r → BoundEnds wide r
passed unknown wide r f (none, inl u) = (none, inr (inl (u.0, f u.1)))
passed unknown wide r f (none, inr is) = (none, inr (inr is))

module _ (file from : List ℕ) (to : Option (List ℕ)) (inputs : List (Role × List ℕ)) (wanted : Wanted) (more : List (List ℕ)) (r : Response) where
  abbrev files : AnnotationFiles
  files = annotation_files inputs more

  text-ends : (text : List ℕ) → BoundAnswer file from to inputs wanted text more r → BoundEnds (AreBoundable false from to inputs (text ∷ []) more) r
  text-ends text h = by-image (image_of text) refl h
    where
      by-annotations : (image : List ℕ) → IsOk (image_of text) → (x : Result Annotations Response) → annotations_of files ≡ x → Then x (PassesAnswer from to wanted image) r → BoundEnds (AreBoundable false from to inputs (text ∷ []) more) r
      by-annotations image ok (Ok a) f k =
          passed (are_addresses from to a ≡ false) _ r (λ none. (ok, subst (Accepting (λ a. are_addresses from to a ≡ false)) (sym f) none)) (passes-end from to wanted image a r k)
      by-annotations image ok (Err e) f k = refused _ r e (of-annotations files e f) k

      by-image : (x : Result (List ℕ) (ℕ × ℕ)) → image_of text ≡ x → Then (by_image file text x) (λ image. Then (annotations_of files) (PassesAnswer from to wanted image)) r → BoundEnds (AreBoundable false from to inputs (text ∷ []) more) r
      by-image (Ok image) f k = by-annotations image (subst (λ (y : Result (List ℕ) (ℕ × ℕ)). IsOk y) (sym f) refl) (annotations_of files) refl k
      by-image (Err fault) f k =
          refused _ r (line_response file text fault.0 (coded (codes "H") fault.1)) (refl, refl) k

  pub bound-ends : (texts : List (List ℕ)) → OneText (λ text. BoundAnswer file from to inputs wanted text more) texts r → BoundEnds (AreBoundable false from to inputs texts more) r
  bound-ends [] h = absurd h
  bound-ends (text ∷ []) h = text-ends text h
  bound-ends (text ∷ other ∷ texts) h = absurd h

  -- with addresses of the ROM
  found : (a : Annotations) → are_addresses from to a ≡ true → PassesEnd (are_addresses from to a ≡ false) r → IsFound r.status
  found a known (none, inl u) = absurd (let e : true ≡ false = sym known ∙ u.1 in cc)
  found a known (none, inr is) = is

  text-done : (text : List ℕ) → AreBoundable true from to inputs (text ∷ []) more → BoundAnswer file from to inputs wanted text more r → IsFound r.status
  text-done text accepted h = by-image (image_of text) accepted.0 h
    where
      by-annotations : (image : List ℕ) (x : Result Annotations Response) → Accepting (λ a. are_addresses from to a ≡ true) x → Then x (PassesAnswer from to wanted image) r → IsFound r.status
      by-annotations image (Ok a) known k = found a known (passes-end from to wanted image a r k)
      by-annotations image (Err e) known k = absurd known

      by-image : (x : Result (List ℕ) (ℕ × ℕ)) → IsOk x → Then (by_image file text x) (λ image. Then (annotations_of files) (PassesAnswer from to wanted image)) r → IsFound r.status
      by-image (Ok image) ok k = by-annotations image (annotations_of files) accepted.1 k
      by-image (Err fault) ok k = absurd (let e : false ≡ true = ok in cc)

  pub bound-done : (texts : List (List ℕ)) → AreBoundable true from to inputs texts more → OneText (λ text. BoundAnswer file from to inputs wanted text more) texts r → IsFound r.status
  bound-done [] accepted h = absurd h
  bound-done (text ∷ []) accepted h = text-done text accepted h
  bound-done (text ∷ other ∷ texts) accepted h = absurd h

-- ---- what is prepared

module _ (file from : List ℕ) (to : Option (List ℕ)) (inputs : List (Role × List ℕ)) (wanted : Wanted) (text : List ℕ) (more : List (List ℕ)) where
  abbrev Answers : Response → Type 0
  Answers = BoundAnswer file from to inputs wanted text more

  pub image-refused : (refusal : Refusal) → IsRefused (λ response. hex_of file text ≡ Err response) refusal → IsRefused Answers refusal
  image-refused refusal h =
      refused-widen (λ response. hex_of file text ≡ Err response) Answers refusal (λ r e. then-err (hex_of file text) (λ image. Then (annotations_of (annotation_files inputs more)) (PassesAnswer from to wanted image)) r e) h

  pub annotations-refused : (image : List ℕ) (refusal : Refusal) → hex_of file text ≡ Ok image → IsRefused (λ response. annotations_of (annotation_files inputs more) ≡ Err response) refusal → IsRefused Answers refusal
  annotations-refused image refusal e h =
      refused-widen (λ response. annotations_of (annotation_files inputs more) ≡ Err response) Answers refusal
      (λ r f. then-ok (hex_of file text) image (λ image. Then (annotations_of (annotation_files inputs more)) (PassesAnswer from to wanted image)) r e (then-err (annotations_of (annotation_files inputs more)) (PassesAnswer from to wanted image) r f)) h

  pub passes-prepared : (image : List ℕ) (a : Annotations) (p : Result Job Refusal) → hex_of file text ≡ Ok image → annotations_of (annotation_files inputs more) ≡ Ok a → IsPrepared (PassesAnswer from to wanted image a) p → IsPrepared Answers p
  passes-prepared image a p e f h =
      prepared-widen (PassesAnswer from to wanted image a) Answers p
      (λ r k. then-ok (hex_of file text) image (λ image. Then (annotations_of (annotation_files inputs more)) (PassesAnswer from to wanted image)) r e (then-ok (annotations_of (annotation_files inputs more)) a (PassesAnswer from to wanted image) r f k)) h

module _ (from : List ℕ) (to : Option (List ℕ)) (wanted : Wanted) (image : List ℕ) (a : Annotations) where
  abbrev Behind : ℕ → Response → Type 0
  Behind first = Then (end_of a to) (λ last. IsReported image (with_end last a.notes) a.lines first wanted)

  pub from-refused : (refusal : Refusal) → IsRefused (λ response. place_of a from ≡ Err response) refusal → IsRefused (PassesAnswer from to wanted image a) refusal
  from-refused refusal h = refused-widen (λ response. place_of a from ≡ Err response) (PassesAnswer from to wanted image a) refusal (λ r e. then-err (place_of a from) Behind r e) h

  pub end-refused : (first : ℕ) (refusal : Refusal) → place_of a from ≡ Ok first → IsRefused (λ response. end_of a to ≡ Err response) refusal → IsRefused (PassesAnswer from to wanted image a) refusal
  end-refused first refusal e h =
      refused-widen (λ response. end_of a to ≡ Err response) (PassesAnswer from to wanted image a) refusal
      (λ r f. then-ok (place_of a from) first Behind r e (then-err (end_of a to) (λ last. IsReported image (with_end last a.notes) a.lines first wanted) r f)) h

  pub report-prepared : (first : ℕ) (last : Option ℕ) (said : NotesRead) (p : Result Job Refusal) → place_of a from ≡ Ok first → end_of a to ≡ Ok last → said ≡ with_end last a.notes → IsPrepared (IsReported image said a.lines first wanted) p →
      IsPrepared (PassesAnswer from to wanted image a) p
  report-prepared first last said p e f same h =
      prepared-widen (IsReported image said a.lines first wanted) (PassesAnswer from to wanted image a) p
      (λ r k. then-ok (place_of a from) first Behind r e (then-ok (end_of a to) last (λ last. IsReported image (with_end last a.notes) a.lines first wanted) r f (subst (λ s. IsReported image s a.lines first wanted r) same k))) h
