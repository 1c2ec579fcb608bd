-- Plain lines stand in no call and no repetition.
use Rattle.std.proofs.Common.{◌≡◌, ℕ, suc, ◌+◌, ◌-◌, ◌<◌, true, false, ◌==◌, List, [], ◌∷◌, ◌++◌, length, map, Some, Ok, refl, sym, ap, ◌∙◌, append_assoc, arith, length-append}
use Rattle.std.specs.List.{list_all}
use Rattle.std.specs.FinMap as fm
use Rattle.kc_lex.specs.declared.token.Line.{Line}
use Rattle.kc_expr.specs.Names.{NameMap}
use Rattle.kc_macro_body.specs.declared.words.Word.TheVariants as words
use Rattle.kc_macro_body.specs.Words.{word_of}
use Rattle.kc_macro.specs.Operands.{noted}
use Rattle.kc_macro.specs.Steps.{Ended, Counted, ended, emitted, step}
use Rattle.kc_macro.specs.Expansion.{place}
use Rattle.kc_macro.specs.Plain.{is_plain}
use Rattle.kc_macro.proofs.Plain.{before, none_called, other_is, plain_out, end_out, some_left, counted_some, and_both}
use Rattle.kc_asm_list.specs.Depths.{Reported, so_far, depth_ahead, reported, run, run_out}
use Rattle.kc_asm_list.specs.Laws.{PlainLinesStandAtNone}
use Rattle.kc_asm_list.proofs.Course.{reaches_start, reaches_active, run_settled, run_counted, depths_are}

more_lines : (done : List Line) (l : Line) → (length (done ++ l ∷ []) == length done) ≡ false
more_lines done l = let more = length-append done (l ∷ []) in grind arith

-- a line of the source's own text came out
reported_none : (t : Reported) (l : Line) → depth_ahead t.state.ahead ≡ 0 → reported t (t.state.done ++ l ∷ []) ≡ t.depths ++ 0 ∷ []
reported_none t l none = rw (more_lines t.state.done l, none) refl

stays : (lines : List Line) (end : Line) (rest done : List Line) (ds : List ℕ) (values : NameMap) (left last : ℕ) → list_all is_plain lines ≡ true → word_of end.tokens ≡ words.End → length lines < left
    → run_out (so_far (before done (lines ++ end ∷ rest) values left last) ds) ≡ Some (Ok (ds ++ map (λ l. 0) (lines ++ end ∷ [])))
stays [] end rest done ds values left last h e few =
    let s = before done (end ∷ rest) values left last in
    let t = so_far s ds in
    let here = before done rest values left last in
    let one : step s ≡ Ended (done ++ end ∷ []) =
    end_out here end.number end.tokens none_called e ∙ ap ended (counted_some end.number (emitted end.number end.tokens here) (some_left left 0 few)) in
    run_settled t ∙ reaches_active t t (Ended (done ++ end ∷ [])) (reaches_start t) (sym one) tt (run left) ∙ ap (λ (es : List ℕ). Some (Ok es)) (reported_none t end refl)
stays (l ∷ lines) end rest done ds values left last h e few =
    let both = and_both (is_plain l) (list_all is_plain lines) h in
    let s = before done (l ∷ (lines ++ end ∷ rest)) values left last in
    let t = so_far s ds in
    let here = before done (lines ++ end ∷ rest) values left last in
    let u = before (done ++ l ∷ []) (lines ++ end ∷ rest) (noted l.tokens values) (left - 1) last in
    let one : step s ≡ Counted u =
    plain_out here l.number l.tokens none_called (other_is (word_of l.tokens) both.0) ∙ counted_some l.number (emitted l.number l.tokens (record here { values = noted l.tokens values })) (some_left left (suc (length lines)) few) in
    let less : suc (left - 1) ≡ left = omega arith in
    sym (run_counted t (so_far u (reported t u.done)) (reaches_active t t (Counted u) (reaches_start t) (sym one) tt) less)
    ∙ ap (λ (es : List ℕ). run_out (so_far u es)) (reported_none t l refl)
    ∙ stays lines end rest (done ++ l ∷ []) (ds ++ 0 ∷ []) (noted l.tokens values) (left - 1) last both.1 e (omega arith)
    ∙ ap (λ (es : List ℕ). Some (Ok es)) (append_assoc ds (0 ∷ []) (map (λ l. 0) (lines ++ end ∷ [])))

pub plain_lines_stand_at_none : PlainLinesStandAtNone
plain_lines_stand_at_none lines end rest h e few =
    depths_are (lines ++ end ∷ rest) (before [] (lines ++ end ∷ rest) (fm.insert fm.empty (36 ∷ []) place) 65535 (length (lines ++ end ∷ rest) + 1)) [] refl refl
    ∙ stays lines end rest [] [] (fm.insert fm.empty (36 ∷ []) place) 65535 (length (lines ++ end ∷ rest) + 1) h e few
