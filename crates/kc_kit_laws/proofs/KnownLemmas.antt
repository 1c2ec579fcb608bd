-- What is known of the lines of sources is one, as far as a response depends on it.
use Rattle.std.proofs.Common.{◌≡◌, ℕ, suc, ◌+◌, ◌<◌, ◌==◌, Bool, true, false, List, [], ◌∷◌, ◌++◌, length, map, get_or, Option, Some, None, refl, sym, ◌∙◌, ap, arith}
use Rattle.std.specs.Prelude.{flat_map, codes, if◌then◌else◌}
use Rattle.std.specs.List.{filter, range_with_len}
use Rattle.std.specs.List.Sorted.{IsNonDecreasingBy}
use Rattle.std.proofs.lemmas.Bool.Decides.{nat_tests}
use Rattle.kc_obj_module.specs.Object.{Object}
use Rattle.kc_link_place.specs.BaseLists.{BaseLists, bases_in}
use Rattle.kc_link_place.specs.Placing.{Places, bases_from}
use Rattle.kc_link.specs.Linked.{OneLineMap}
use Rattle.kc_asm_laws.specs.Laws.{OneInstructions}
use Rattle.kc_asm_list.specs.declared.spot.Spot.{Spot}
use Rattle.kc_profile.specs.Statistics.{Statistics, statistics_of, statistics_of_lives}
use Rattle.kc_profile.specs.declared.source.Instruction.{Instruction}
use Rattle.kc_profile.specs.declared.source.Source.{Source}
use Rattle.kc_profile.specs.Cover.{test_line, jumps_text, sums_of_ways, all_ways, lines_text, lines_of, cover_text}
use Rattle.kc_kit_files.specs.Response.{Response}
use Rattle.kc_kit_words.specs.Commands.{Behind}
use Rattle.kc_kit_words.specs.declared.extent.Extent.{Extent}
use Rattle.kc_kit_inputs.specs.declared.driving.Driving.{Driving}
use Rattle.kc_kit_running.specs.Lives.{board_lives}
use Rattle.kc_machine_spec.specs.Run.{end_of}
use Rattle.kc_machine_spec.specs.Text.{trace_of}
use Rattle.kc_cycles.specs.Lives.{last_end, lives_text, text_before}
use Rattle.kc_profile.specs.declared.statistics_text.Scope.TheVariants as scope
use Rattle.kc_profile.specs.Tally.{tally_of}
use Rattle.kc_kit_running.specs.Fitted.{fitted_further}
use Rattle.kc_kit_running.specs.Running.{machine_of, run_of, said_of, status_of}
use Rattle.kc_kit_running.specs.Profiled.{Counted, Known, counted_for, counted_from, counted_text, heading, lives_cover, lives_profile, pauses_of, profile_response, run_over, writes_of}
use Rattle.kc_kit_answer.specs.Cover.{AreOf, AreSources, code_base, instructions_of, is_on}
use Rattle.kc_kit_answer.specs.Profile.{AreLines, map_entry}

-- ---- lists by rising line whose instructions of each line are the same are the same

-- behind a line there is none of it
none_on : (n : ℕ) (xs : List Instruction) → ((j : ℕ) (d : Instruction) → j < length xs → n < (get_or xs j d).line) → filter (is_on n) xs ≡ []
none_on n [] f = refl
none_on n (x ∷ xs) f =
    let behind : n < x.line = f 0 x (omega arith) in
    let other : (x.line == n) ≡ false = grind (arith, nat_tests) in
    ap (λ b. if b then x ∷ filter (is_on n) xs else filter (is_on n) xs) other ∙ none_on n xs (λ j d lt. f (suc j) d (omega (arith, lt)))

rest_rises : (x : Instruction) (xs : List Instruction) → IsNonDecreasingBy (λ (i : Instruction). i.line) (x ∷ xs) → IsNonDecreasingBy (λ (i : Instruction). i.line) xs
rest_rises x xs r = λ i j d le lt. r (suc i) (suc j) d (omega (arith, le)) (omega (arith, lt))

first_on : (n : ℕ) (x : Instruction) (xs : List Instruction) → x.line ≡ n → filter (is_on n) (x ∷ xs) ≡ x ∷ filter (is_on n) xs
first_on n x xs e =
    let here : (x.line == n) ≡ true = grind (arith, nat_tests) in
    ap (λ b. if b then x ∷ filter (is_on n) xs else filter (is_on n) xs) here

later_on : (n : ℕ) (x : Instruction) (xs : List Instruction) → (x.line == n) ≡ false → filter (is_on n) (x ∷ xs) ≡ filter (is_on n) xs
later_on n x xs e = ap (λ b. if b then x ∷ filter (is_on n) xs else filter (is_on n) xs) e

-- the first of one list is not before the first of the other
not_before : (x y : Instruction) (xs ys : List Instruction) → IsNonDecreasingBy (λ (i : Instruction). i.line) (y ∷ ys) → filter (is_on x.line) (x ∷ xs) ≡ filter (is_on x.line) (y ∷ ys) → x.line < y.line → ⊥
not_before x y xs ys r e lt =
    let none : filter (is_on x.line) (y ∷ ys) ≡ [] = none_on x.line (y ∷ ys) (λ j d few. let up = r 0 j d (omega arith) few in omega (arith, up, lt)) in
    let one : x ∷ filter (is_on x.line) xs ≡ [] = sym (first_on x.line x xs refl) ∙ e ∙ none in
    cc one

same_first : (x y : Instruction) (xs ys : List Instruction) → x ∷ xs ≡ y ∷ ys → x ≡ y
same_first x y xs ys e = cc e

same_rest : (x y : Instruction) (xs ys : List Instruction) → x ∷ xs ≡ y ∷ ys → xs ≡ ys
same_rest x y xs ys e = cc e

one_by_line : (xs ys : List Instruction) → IsNonDecreasingBy (λ (i : Instruction). i.line) xs → IsNonDecreasingBy (λ (i : Instruction). i.line) ys → ((n : ℕ) → filter (is_on n) xs ≡ filter (is_on n) ys) → xs ≡ ys
one_by_line [] [] r q f = refl
one_by_line [] (y ∷ ys) r q f = absurd (let e : [] ≡ y ∷ filter (is_on y.line) ys = f y.line ∙ first_on y.line y ys refl in cc e)
one_by_line (x ∷ xs) [] r q f = absurd (let e : x ∷ filter (is_on x.line) xs ≡ [] = sym (first_on x.line x xs refl) ∙ f x.line in cc e)
one_by_line (x ∷ xs) (y ∷ ys) r q f =
    let low : x.line < y.line → ⊥ = not_before x y xs ys q (f x.line) in
    let high : y.line < x.line → ⊥ = not_before y x ys xs r (sym (f y.line)) in
    let same : y.line ≡ x.line = omega (arith, low, high) in
    let both : x ∷ filter (is_on x.line) xs ≡ y ∷ filter (is_on x.line) ys = sym (first_on x.line x xs refl) ∙ f x.line ∙ first_on x.line y ys same in
    let first : x ≡ y = same_first x y (filter (is_on x.line) xs) (filter (is_on x.line) ys) both in
    let rest : xs ≡ ys = one_by_line xs ys (rest_rises x xs r) (rest_rises y ys q) (λ n. by_line n (x.line == n) refl) in
    λ i. first i ∷ rest i
  where
    by_line : (n : ℕ) (b : Bool) → (x.line == n) ≡ b → filter (is_on n) xs ≡ filter (is_on n) ys
    by_line n true e =
        let here : x.line ≡ n = grind (arith, nat_tests) in
        let low : x.line < y.line → ⊥ = not_before x y xs ys q (f x.line) in
        let high : y.line < x.line → ⊥ = not_before y x ys xs r (sym (f y.line)) in
        let there : y.line ≡ n = omega (arith, low, high, here) in
        same_rest x y (filter (is_on n) xs) (filter (is_on n) ys) (sym (first_on n x xs here) ∙ f n ∙ first_on n y ys there)
    by_line n false e =
        let low : x.line < y.line → ⊥ = not_before x y xs ys q (f x.line) in
        let high : y.line < x.line → ⊥ = not_before y x ys xs r (sym (f y.line)) in
        let same : x.line ≡ y.line = omega (arith, low, high) in
        let other : (y.line == n) ≡ false = ap (λ k. k == n) (sym same) ∙ e in
        sym (later_on n x xs e) ∙ f n ∙ later_on n y ys other

-- ---- the sources

one_of : OneInstructions → (text image : List ℕ) (m : Object) (bases : BaseLists) (xs ys : List Instruction) → AreOf text image m bases xs → AreOf text image m bases ys → xs ≡ ys
one_of law text image m bases xs ys h k =
    let at : Spot → List Instruction = instructions_of image (code_base m.segments (bases_in bases)) in
    let spots : h.spots ≡ k.spots = law text h.spots k.spots h.are_own k.are_own in
    one_by_line xs ys h.by_line.rises k.by_line.rises (λ n. h.by_line.same n ∙ ap (λ ss. filter (is_on n) (flat_map at ss)) spots ∙ sym (k.by_line.same n))

-- the text of a source, by its name and its instructions
text_by : Option ℕ → Statistics → List ℕ → List Instruction → List ℕ
text_by life t name instructions =
    test_line life ++ (codes "SF:" ++ name ++ codes "\n") ++ jumps_text t 0 0 instructions ++ sums_of_ways (all_ways t instructions) ++ lines_text (lines_of t 0 instructions) ++ codes "end_of_record\n"

one_cover : OneInstructions → (names texts : List (List ℕ)) (image : List ℕ) (ms : List Object) (bases : List BaseLists) (xs ys : List Source) → AreSources names texts image ms bases xs → AreSources names texts image ms bases ys →
    (life : Option ℕ) (t : Statistics) → cover_text life t xs ≡ cover_text life t ys
unfolding AreSources text_by
one_cover law [] texts image ms bases xs ys h k life t = ap (cover_text life t) (h ∙ sym k)
one_cover law (name ∷ names) [] image ms bases xs ys h k life t = absurd h
one_cover law (name ∷ names) (text ∷ texts) image [] bases xs ys h k life t = absurd h
one_cover law (name ∷ names) (text ∷ texts) image (m ∷ ms) [] xs ys h k life t = absurd h
one_cover law (name ∷ names) (text ∷ texts) image (m ∷ ms) (b ∷ bases) [] ys h k life t = absurd h
one_cover law (name ∷ names) (text ∷ texts) image (m ∷ ms) (b ∷ bases) (x ∷ xs) [] h k life t = absurd k
one_cover law (name ∷ names) (text ∷ texts) image (m ∷ ms) (b ∷ bases) (x ∷ xs) (y ∷ ys) h k life t =
    let named : x.name.now ≡ y.name.now = h.0.named ∙ sym k.0.named in
    let own : x.instructions.items ≡ y.instructions.items = one_of law text image m b x.instructions.items y.instructions.items h.0.instructions k.0.instructions in
    let rest : cover_text life t xs ≡ cover_text life t ys = one_cover law names texts image ms bases xs ys h.1 k.1 life t in
    λ i. text_by life t (named i) (own i) ++ rest i

-- ---- what is known

pub record SameKnown (h k : Known) : Type 0 where
  pub entries : h.entries ≡ k.entries
  pub lines : h.lines ≡ k.lines
  pub cover : (life : Option ℕ) (t : Statistics) → cover_text life t h.sources ≡ cover_text life t k.sources

pub same_known : OneLineMap → OneInstructions → (names texts : List (List ℕ)) (image : List ℕ) (ms : List Object) (places : Places) (h k : Known) → AreLines names texts image ms places h → AreLines names texts image ms places k → SameKnown h k
same_known maps law names texts image ms places h k a b = record {
  entries = a.entries.2 ∙ ap (map map_entry) (maps ms places a.entries.0 b.entries.0 a.entries.1 b.entries.1) ∙ sym b.entries.2;
  lines = a.lines ∙ sym b.lines;
  cover = one_cover law names texts image ms (bases_from ms places 0 ms) h.sources k.sources a.sources b.sources;
}

-- a response depends on no more
abbrev pub AgreesOnKnown : (Known → List ℕ → Response) → Type 0
AgreesOnKnown report = (image : List ℕ) (h k : Known) → SameKnown h k → report h image ≡ report k image

one_profile : (h k : Known) → SameKnown h k → (life : ℕ) (counted : List Counted) → lives_profile h life counted ≡ lives_profile k life counted
unfolding lives_profile
one_profile h k same life [] = refl
one_profile h k same life (c ∷ more) =
    λ i. (heading (codes "life ") life ++ counted_text scope.Life (same.entries i) (tally_of c.spots) (statistics_of life c.sights)) ++ one_profile h k same (life + 1) more i

one_lives_cover : (h k : Known) → SameKnown h k → (life : ℕ) (counted : List Counted) → lives_cover h life counted ≡ lives_cover k life counted
unfolding lives_cover
one_lives_cover h k same life [] = refl
one_lives_cover h k same life (c ∷ more) = λ i. same.cover (Some life) (statistics_of life c.sights) i ++ one_lives_cover h k same (life + 1) more i

-- a run with what is written behind it
one_run_over : (h k : Known) → SameKnown h k → (lives : Option ℕ) (states : ℕ) (driving : Driving) (image : List ℕ) → run_over lives states h driving image ≡ run_over lives states k driving image
one_run_over h k same None states driving image =
    let ran = run_of states driving image in
    let c = counted_for fitted_further states (machine_of driving image) in
    λ i. record {
      how = end_of ran.machine;
      text = trace_of ran;
      pauses = [];
      texts = record { profile = counted_text scope.Life (same.entries i) (tally_of c.spots) (statistics_of 1 c.sights); cover = same.cover None (statistics_of 1 c.sights) i };
    }
one_run_over h k same (Some most) states driving image =
    let lives = board_lives most states driving image in
    let counted = counted_from driving image 0 lives in
    λ i. record {
      how = last_end lives;
      text = lives_text lives;
      pauses = map (λ n. text_before n lives) (range_with_len 0 (length lives));
      texts = record {
        profile =
            one_profile h k same 1 counted i
            ++ (heading (codes "lives ") (length counted)
            ++ counted_text scope.Lives (same.entries i) (tally_of (flat_map (λ (c : Counted). c.spots) counted)) (statistics_of_lives 1 (map (λ (c : Counted). c.sights) counted)));
        cover = one_lives_cover h k same 1 counted i;
      };
    }

pub profile_agrees : (extent : Extent) (behind : Behind) (driving : Driving) → AgreesOnKnown (λ known image. profile_response extent behind known driving image)
profile_agrees extent behind driving image h k same =
    let run = one_run_over h k same extent.lives extent.states driving image in
    λ i. record {
      status = status_of (run i).how;
      text = (run i).text;
      pauses = pauses_of (run i);
      writes = writes_of behind (run i).texts;
      diagnostic = said_of (same.lines i) (run i).how;
    }
