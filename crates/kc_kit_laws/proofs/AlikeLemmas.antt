-- Objects that are linked and run, as sources are.
use Rattle.std.proofs.Common.{◌≡◌, ◌≢◌, ℕ, zero, suc, ◌<◌, ◌^◌, Bool, true, List, [], ◌∷◌, length, map, Option, Some, None, Result, Ok, Err, refl, sym, ◌∙◌, ap, subst, arith}
use Rattle.std.specs.Prelude.{nat_lt, slice_get, slice_index}
use Rattle.std.specs.List.{list_all, range_with_len}
use Rattle.std.proofs.lemmas.Bool.{and_parts, and_from}
use Rattle.std.proofs.lemmas.Bool.Decides.{nat_tests}
use Rattle.kc_base.specs.Bytes.{IsBytes}
use Rattle.kc_obj_module.specs.Object.{Object}
use Rattle.kc_obj_module.specs.Spelling.{spelling}
use Rattle.kc_obj_fields.specs.declared.faults.Fault.{Fault}
use Rattle.kc_obj.specs.Reading.{answer_of}
use Rattle.kc_obj_module.specs.Widths.{numbers_fit}
use Rattle.kc_obj.specs.Law.{SpelledIsDecoded}
use Rattle.kc_link_place.specs.declared.ranges.LinkFault.{LinkFault}
use Rattle.kc_link_place.specs.Placing.{Places}
use Rattle.kc_link.specs.Placed.{placed}
use Rattle.kc_hex.specs.Law.{WrittenIsRead}
use Rattle.kc_hex.specs.Records.{image_of}
use Rattle.kc_hex.specs.Spelling as records
use Rattle.kc_asm.specs.Linked.{LinkedImage}
use Rattle.kc_source_laws.specs.Read.{SourcesAreReadWell}
use Rattle.kc_asm.specs.Assembled.{IsModule}
use Rattle.kc_asm_laws.specs.Modules.{ModulesFit}
use Rattle.kc_asm_laws.specs.Images.{AreModulesOf, FilledAreBytes}
use Rattle.kc_kit_files.specs.declared.status.Status.TheVariants as status
use Rattle.kc_kit_files.specs.Response.{Response, Write, write, done_writing, before, joined, Then}
use Rattle.kc_kit_files.specs.Writes.{AreReadable}
use Rattle.kc_kit_files.proofs.LongLemmas.{written-all}
use Rattle.kc_kit_inputs.specs.Hex.{by_image}
use Rattle.kc_kit_inputs.specs.declared.driving.Driving.{Driving}
use Rattle.kc_kit_inputs.specs.Driving.{GivenFiles, given_for, driving_of}
use Rattle.kc_kit_inputs.specs.Objects.{modules_of, by_object, object_of}
use Rattle.kc_kit_inputs.specs.Sources.{AreModules}
use Rattle.kc_kit_answer.specs.Link.{Completed, LinksTo}
use Rattle.kc_kit_answer.specs.Places.{by_places, places_of, Placing}
use Rattle.kc_kit_answer.specs.Run.{Driven, IsImageOfTexts, LinkedReported}
use Rattle.kc_machine_spec.specs.declared.doing.End.{End}
use Rattle.kc_machine_spec.specs.declared.doing.End.TheVariants as end
use Rattle.kc_machine_spec.specs.Run.{end_of}
use Rattle.kc_machine_spec.specs.Text.{trace_of}
use Rattle.kc_cycles.specs.Lives.{last_end, lives_text, text_before}
use Rattle.kc_kit_words.specs.declared.extent.Extent.{Extent}
use Rattle.kc_kit_running.specs.Lives.{board_lives, board_response, response_over}
use Rattle.kc_kit_running.specs.Running.{ends_with, run_of, status_of}
use Rattle.kc_kit_running.specs.Sources.{FileLines, lines_of_files, no_lines}
use Rattle.kc_kit_answer.proofs.HexLengths.{hex-short}
use Rattle.kc_kit_answer.proofs.AnswerSteps.{then-ok, then-map}
use Rattle.kc_kit_answer.proofs.SourceLemmas.{image-of}
use Rattle.kc_kit_laws.specs.Alike.{hex_alone, IsAlike, RunsAlike}
use Rattle.kc_kit_laws.specs.OneAnswer.{silent}

objects-read : SpelledIsDecoded → (objects texts : List (List ℕ)) (ms : List Object) → AreModules texts ms → list_all numbers_fit ms ≡ true → length objects ≡ length ms → modules_of object_of objects (map spelling ms) ≡ Ok ms
objects-read law [] [] [] a fit n = refl
objects-read law (o ∷ objects) (t ∷ texts) (m ∷ ms) a fit n =
    let parts = and_parts (numbers_fit m) (list_all numbers_fit ms) fit in
    let one : answer_of (spelling m) ≡ Ok m = law (spelling m) m (record { sound = a.0.made.rules; numbers = parts.0; spelled = refl }) in
    let more : modules_of object_of objects (map spelling ms) ≡ Ok ms = objects-read law objects texts ms a.1 parts.1 (omega (arith, n)) in
    ap (λ (x : Result Object Fault). joined (by_object o x) (modules_of object_of objects (map spelling ms))) one ∙ ap (before m) more
objects-read law objects [] (m ∷ ms) a fit n = absurd a
objects-read law objects (t ∷ texts) [] a fit n = absurd a
objects-read law [] (t ∷ texts) (m ∷ ms) a fit n = absurd (omega (arith, n))
objects-read law (o ∷ objects) [] [] a fit n = absurd (omega (arith, n))

abbrev first_bytes : List Write → List ℕ
first_bytes [] = []
first_bytes (w ∷ ws) = w.bytes

-- ---- what is known of the modules of texts

abbrev is-short : List ℕ → Bool
is-short t = nat_lt (length t) (2 ^ 32)

short : (t : List ℕ) → is-short t ≡ true → length t < 2 ^ 32
short t h = grind (arith, nat_tests, h)

all-fit : ModulesFit → (texts : List (List ℕ)) (ms : List Object) → AreModules texts ms → list_all is-short texts ≡ true → list_all numbers_fit ms ≡ true
all-fit law [] [] a h = refl
all-fit law (t ∷ texts) (m ∷ ms) a h =
    let parts = and_parts (is-short t) (list_all is-short texts) h in
    and_from (numbers_fit m) (list_all numbers_fit ms) (law t m (short t parts.0) a.0) (all-fit law texts ms a.1 parts.1)
all-fit law [] (m ∷ ms) a h = absurd a
all-fit law (t ∷ texts) [] a h = absurd a

as-many : (texts : List (List ℕ)) (ms : List Object) → AreModules texts ms → length texts ≡ length ms
as-many [] [] a = refl
as-many (t ∷ texts) (m ∷ ms) a = ap suc (as-many texts ms a.1)
as-many [] (m ∷ ms) a = absurd a
as-many (t ∷ texts) [] a = absurd a

each-is : (texts : List (List ℕ)) (ms : List Object) → AreModules texts ms → (i : ℕ) (text : List ℕ) (m : Object) → slice_get texts i ≡ Some text → slice_get ms i ≡ Some m → IsModule text m
each-is (t ∷ texts) (n ∷ ms) a zero text m e f =
    let one : t ≡ text = cc e in
    let two : n ≡ m = cc f in
    subst (λ (x : List ℕ). IsModule x m) one (subst (λ (x : Object). IsModule t x) two a.0)
each-is (t ∷ texts) (n ∷ ms) a (suc i) text m e f = each-is texts ms a.1 i text m e f
each-is [] [] a i text m e f = absurd (cc e)
each-is [] (n ∷ ms) a i text m e f = absurd a
each-is (t ∷ texts) [] a i text m e f = absurd a

of-texts : (texts : List (List ℕ)) (ms : List Object) → AreModules texts ms → AreModulesOf texts ms
of-texts texts ms a = record { count = as-many texts ms a; of = each-is texts ms a }

byte-at : (bs : List ℕ) (k : ℕ) → IsBytes bs → slice_index bs k < 256
byte-at [] k h = omega arith
byte-at (b ∷ bs) zero h = h.0
byte-at (b ∷ bs) (suc k) h = byte-at bs k h.1

-- ---- a run whose lines are known says more of an undefined use, and nothing else

ends-alike : (lines : FileLines) (how : End) (text : List ℕ) (pauses : List (List ℕ)) → status_of how ≢ status.Undefined → ends_with lines how text pauses ≡ ends_with no_lines how text pauses
ends-alike lines end.Spent text pauses un = refl
ends-alike lines end.Powerdown text pauses un = refl
ends-alike lines end.Reset text pauses un = refl
ends-alike lines (end.Undefined what access) text pauses un = absurd (un refl)

board-silent : (lines : FileLines) (lives : Option ℕ) (states : ℕ) (driving : Driving) (image : List ℕ) → silent (response_over lines lives states driving image) ≡ silent (response_over no_lines lives states driving image)
board-silent lines None states driving image = refl
board-silent lines (Some most) states driving image = refl

board-alike : (lines : FileLines) (lives : Option ℕ) (states : ℕ) (driving : Driving) (image : List ℕ) → (response_over no_lines lives states driving image).status ≢ status.Undefined →
    response_over lines lives states driving image ≡ response_over no_lines lives states driving image
board-alike lines None states driving image un = let ran = run_of states driving image in ends-alike lines (end_of ran.machine) (trace_of ran) [] un
board-alike lines (Some most) states driving image un =
    let lives = board_lives most states driving image in
    ends-alike lines (last_end lives) (lives_text lives) (map (λ n. text_before n lives) (range_with_len 0 (length lives))) un

-- what is answered with lines of sources, where this is answered without
driven-alike : (x : Result Driving Response) (lines : FileLines) (extent : Extent) (image : List ℕ) (response : Response) → Then x (λ driving response. response ≡ board_response no_lines extent driving image) response →
    (other : Response) × Then x (λ driving response. response ≡ board_response lines extent driving image) other × (silent other ≡ silent response) × (response.status ≢ status.Undefined → other ≡ response)
driven-alike (Ok d) lines extent image response h = (
  board_response lines extent d image,
  refl,
  board-silent lines extent.lives extent.states d image ∙ ap silent (sym h),
  λ un. board-alike lines extent.lives extent.states d image (λ e. un (ap (λ (r : Response). r.status) h ∙ e)) ∙ sym h,
)
driven-alike (Err e) lines extent image response h = (response, h, refl, λ un. refl)

pub alike : ModulesFit → FilledAreBytes → SourcesAreReadWell → LinkedImage → SpelledIsDecoded → WrittenIsRead → RunsAlike
alike fits bytes well linked spelled read names objects texts ms inputs input_texts ranges extent file hex response made small count l h =
    by (placed ms ranges) refl
    (subst (λ (x : Result (List Object) Response). Then x (Completed objects None (λ files. Placing files ranges (LinksTo file hex_alone ranges))) (done_writing (write file hex ∷ []))) (objects-read spelled objects texts ms made (all-fit fits texts ms made small) count) l)
  where
    given : GivenFiles
    given = given_for inputs input_texts

    by : (x : Result Places LinkFault) → placed ms ranges ≡ x → Then (by_places objects ms x) (LinksTo file hex_alone ranges ms) (done_writing (write file hex ∷ [])) → IsAlike names inputs extent ranges texts input_texts response
    by (Ok places) e k =
        let written = k.done ∙ written-all (write file (records.spelling k.image) ∷ k.more) [] (hex-short k.image, subst AreReadable (sym k.is_map) tt) in
        let same : hex ≡ records.spelling k.image = ap (λ (r : Response). first_bytes r.writes) written in
        let image : image_of hex ≡ Ok k.image = ap image_of same ∙ read k.image (record { len = k.is_filled.long; bytes = λ i. byte-at k.image i (bytes texts ms ranges places k.image (of-texts texts ms made) e k.is_filled) }) in
        let lines : FileLines = lines_of_files names ms places in
        let linked : IsImageOfTexts texts ms places k.image = image-of well linked texts ms ranges places k.image made e k.is_filled in
        let driven : Then (driving_of given) (λ driving response. response ≡ board_response no_lines extent driving k.image) response =
        subst (λ (x : Result (List ℕ) (ℕ × ℕ)). Then (by_image file hex x) (λ image. Then (driving_of given) (λ driving response. response ≡ board_response no_lines extent driving image)) response) image h in
        let other = driven-alike (driving_of given) lines extent k.image response driven in (
          other.0,
          (
            Ok ms,
            made,
            then-ok (places_of names ms ranges) places (λ places. Driven given (LinkedReported texts) (board_response (lines_of_files names ms places) extent) ms places) other.0 (ap (by_places names ms) e)
                (then-map (driving_of given) (λ driving response. response ≡ board_response lines extent driving k.image) (λ driving. LinkedReported texts (board_response lines extent driving) ms places) other.0
                (λ d reported. record { image = k.image; is_filled = k.is_filled; is_image = linked; reported = reported }) other.1),
          ),
          other.2,
          other.3,
        )
    by (Err f) e k = absurd (let g : status.Done ≡ status.Link = ap (λ (r : Response). r.status) k in cc)
