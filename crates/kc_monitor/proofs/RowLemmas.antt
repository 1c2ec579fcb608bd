-- Marks, one after the other, and what happens, one after the other.
use Rattle.std.proofs.Common.{◌≡◌, ℕ, zero, suc, ◌+◌, ◌<◌, Bool, List, [], ◌∷◌, ◌++◌, length, get_or, set, take, drop, refl, sym, ap, subst, ◌∙◌, arith, add-one, drop-cons}
use Rattle.std.proofs.lemmas.List.{take_more, take_more_set}
use Rattle.kc_base.specs.declared.types.Level.{Level}
use Rattle.kc_trace.specs.declared.life.Signal.{Signal}
use Rattle.kc_trace.specs.declared.life.What.{What}
use Rattle.kc_rules.specs.declared.mark.Mark.{Mark}
use Rattle.kc_monitor.specs.Marked.{Hit}
use Rattle.kc_monitor.specs.Seens.{hit_at, is_marked}
use Rattle.kc_monitor.specs.Rows.{row, hists_after, seen_now, seens_in, hists_over}
use Rattle.kc_monitor.specs.Watching.{AllThree}
use Rattle.kc_monitor.proofs.StepLemmas.{three_push}

-- ---- three lists

pub three_at : {A B C : Type 0} (R : A → B → C → Type 0) (xs : List A) (ys : List B) (zs : List C) (i : ℕ) (a : A) (b : B) (c : C) → AllThree R xs ys zs → i < length xs →
    R (get_or xs i a) (get_or ys i b) (get_or zs i c)
unfolding AllThree
three_at R [] ys zs i a b c all less = absurd (omega arith)
three_at R (x ∷ xs) [] zs i a b c all less = absurd all
three_at R (x ∷ xs) (y ∷ ys) [] i a b c all less = absurd all
three_at R (x ∷ xs) (y ∷ ys) (z ∷ zs) zero a b c all less = all.0
three_at R (x ∷ xs) (y ∷ ys) (z ∷ zs) (suc i) a b c all less = three_at R xs ys zs i a b c all.1 (omega arith)

pub three_second : {A B C : Type 0} (R : A → B → C → Type 0) (xs : List A) (ys : List B) (zs : List C) → AllThree R xs ys zs → length ys ≡ length xs
unfolding AllThree
three_second R [] [] zs all = refl
three_second R [] (y ∷ ys) zs all = absurd all
three_second R (x ∷ xs) [] zs all = absurd all
three_second R (x ∷ xs) (y ∷ ys) [] all = absurd all
three_second R (x ∷ xs) (y ∷ ys) (z ∷ zs) all = ap suc (three_second R xs ys zs all.1)

pub three_third : {A B C : Type 0} (R : A → B → C → Type 0) (xs : List A) (ys : List B) (zs : List C) → AllThree R xs ys zs → length zs ≡ length xs
unfolding AllThree
three_third R [] [] [] all = refl
three_third R [] [] (z ∷ zs) all = absurd all
three_third R [] (y ∷ ys) zs all = absurd all
three_third R (x ∷ xs) [] zs all = absurd all
three_third R (x ∷ xs) (y ∷ ys) [] all = absurd all
three_third R (x ∷ xs) (y ∷ ys) (z ∷ zs) all = ap suc (three_third R xs ys zs all.1)

pub three_set : {A B C : Type 0} (R : A → B → C → Type 0) (xs : List A) (ys : List B) (zs : List C) (i : ℕ) (x : A) (y : B) (v : C) → i < length xs → i < length ys → i < length zs →
    x ≡ get_or xs i x → y ≡ get_or ys i y → R x y v → AllThree R (take i xs) (take i ys) (take i zs) →
    AllThree R (take (i + 1) xs) (take (i + 1) ys) (take (i + 1) (set zs i v))
three_set R xs ys zs i x y v in_xs in_ys in_zs is_x is_y here all =
    let pushed = three_push R (take i xs) (take i ys) (take i zs) x y v all here in
    let xs_more : take i xs ++ x ∷ [] ≡ take (i + 1) xs = ap (λ w. take i xs ++ w ∷ []) is_x ∙ sym (take_more xs i x in_xs) in
    let ys_more : take i ys ++ y ∷ [] ≡ take (i + 1) ys = ap (λ w. take i ys ++ w ∷ []) is_y ∙ sym (take_more ys i y in_ys) in
    let zs_more : take i zs ++ v ∷ [] ≡ take (i + 1) (set zs i v) = sym (take_more_set zs i v in_zs) in
    subst (λ w. AllThree R w (take (i + 1) ys) (take (i + 1) (set zs i v))) xs_more
    (subst (λ w. AllThree R (take i xs ++ x ∷ []) w (take (i + 1) (set zs i v))) ys_more
    (subst (λ w. AllThree R (take i xs ++ x ∷ []) (take i ys ++ y ∷ []) w) zs_more pushed))

-- ---- a row, mark by mark

pub row_cons : (levels : Signal → Level) (at : ℕ) (what : What) (m : Mark) (marks : List Mark) (h : List Hit) (hists : List (List Hit)) (has : List Bool) →
    row levels at what (m ∷ marks) (h ∷ hists) has ≡ row levels at what marks hists (has ++ is_marked m.form (hit_at levels m.form at what has) h ∷ [])
unfolding row
row_cons levels at what m marks h hists has = refl

pub row_none : (levels : Signal → Level) (at : ℕ) (what : What) (hists : List (List Hit)) (has : List Bool) → row levels at what [] hists has ≡ has
unfolding row
row_none levels at what hists has = refl

pub hists_cons : (levels : Signal → Level) (at : ℕ) (what : What) (m : Mark) (marks : List Mark) (h : List Hit) (hists : List (List Hit)) (has : List Bool) →
    hists_after levels at what (m ∷ marks) (h ∷ hists) has
    ≡ (hit_at levels m.form at what has ∷ h) ∷ hists_after levels at what marks hists (has ++ is_marked m.form (hit_at levels m.form at what has) h ∷ [])
unfolding hists_after
hists_cons levels at what m marks h hists has = refl

pub hists_length : (levels : Signal → Level) (at : ℕ) (what : What) (marks : List Mark) (hists : List (List Hit)) (has : List Bool) → length hists ≡ length marks →
    length (hists_after levels at what marks hists has) ≡ length marks
unfolding hists_after
hists_length levels at what [] hists has same = refl
hists_length levels at what (m ∷ marks) [] has same = absurd (omega arith)
hists_length levels at what (m ∷ marks) (h ∷ hists) has same =
    ap suc (hists_length levels at what marks hists (has ++ is_marked m.form (hit_at levels m.form at what has) h ∷ []) (omega arith))

-- the next mark
pub row_next : (levels : Signal → Level) (at : ℕ) (what : What) (marks : List Mark) (hists : List (List Hit)) (has : List Bool) (i : ℕ) (m : Mark) (d : List Hit) →
    i < length marks → i < length hists → m ≡ get_or marks i m →
    row levels at what (drop i marks) (drop i hists) has
    ≡ row levels at what (drop (i + 1) marks) (drop (i + 1) hists) (has ++ is_marked m.form (hit_at levels m.form at what has) (get_or hists i d) ∷ [])
row_next levels at what marks hists has i m d in_marks in_hists is =
    let h = get_or hists i d in
    let marks_are : drop i marks ≡ m ∷ drop (i + 1) marks = drop-cons marks i m in_marks ∙ (λ j. sym is j ∷ drop (sym (add-one i) j) marks) in
    let hists_are : drop i hists ≡ h ∷ drop (i + 1) hists = drop-cons hists i d in_hists ∙ (λ j. h ∷ drop (sym (add-one i) j) hists) in
    (λ j. row levels at what (marks_are j) (hists_are j) has) ∙ row_cons levels at what m (drop (i + 1) marks) h (drop (i + 1) hists) has

pub hists_next : (levels : Signal → Level) (at : ℕ) (what : What) (marks : List Mark) (hists all : List (List Hit)) (has : List Bool) (i : ℕ) (m : Mark) (d e : List Hit) →
    i < length marks → i < length hists → i < length all → m ≡ get_or marks i m → drop i all ≡ hists_after levels at what (drop i marks) (drop i hists) has →
    (get_or all i e ≡ hit_at levels m.form at what has ∷ get_or hists i d)
    × (drop (i + 1) all ≡ hists_after levels at what (drop (i + 1) marks) (drop (i + 1) hists) (has ++ is_marked m.form (hit_at levels m.form at what has) (get_or hists i d) ∷ []))
hists_next levels at what marks hists all has i m d e in_marks in_hists in_all is rest =
    let h = get_or hists i d in
    let marks_are : drop i marks ≡ m ∷ drop (i + 1) marks = drop-cons marks i m in_marks ∙ (λ j. sym is j ∷ drop (sym (add-one i) j) marks) in
    let hists_are : drop i hists ≡ h ∷ drop (i + 1) hists = drop-cons hists i d in_hists ∙ (λ j. h ∷ drop (sym (add-one i) j) hists) in
    let more = has ++ is_marked m.form (hit_at levels m.form at what has) h ∷ [] in
    let both : get_or all i e ∷ drop (i + 1) all ≡ (hit_at levels m.form at what has ∷ h) ∷ hists_after levels at what (drop (i + 1) marks) (drop (i + 1) hists) more =
    (λ j. get_or all i e ∷ drop (add-one i j) all) ∙ sym (drop-cons all i e in_all) ∙ rest
    ∙ (λ j. hists_after levels at what (marks_are j) (hists_are j) has) ∙ hists_cons levels at what m (drop (i + 1) marks) h (drop (i + 1) hists) has in
    let head : get_or all i e ≡ hit_at levels m.form at what has ∷ h = cc in
    let tail : drop (i + 1) all ≡ hists_after levels at what (drop (i + 1) marks) (drop (i + 1) hists) more = cc in
    (head, tail)

-- ---- what happens, one after the other

pub seens_push : (levels : Signal → Level) (at : ℕ) (marks : List Mark) (hists : List (List Hit)) (whats : List What) (w : What) →
    seens_in levels at marks hists (whats ++ w ∷ []) ≡ seens_in levels at marks hists whats ++ seen_now levels at marks (hists_over levels at marks hists whats) w ∷ []
unfolding seens_in hists_over
seens_push levels at marks hists [] w = refl
seens_push levels at marks hists (x ∷ whats) w =
    ap (λ ss. seen_now levels at marks hists x ∷ ss) (seens_push levels at marks (hists_after levels at x marks hists []) whats w)

pub hists_push : (levels : Signal → Level) (at : ℕ) (marks : List Mark) (hists : List (List Hit)) (whats : List What) (w : What) →
    hists_over levels at marks hists (whats ++ w ∷ []) ≡ hists_after levels at w marks (hists_over levels at marks hists whats) []
unfolding hists_over
hists_push levels at marks hists [] w = refl
hists_push levels at marks hists (x ∷ whats) w = hists_push levels at marks (hists_after levels at x marks hists []) whats w

pub seens_none : (levels : Signal → Level) (at : ℕ) (marks : List Mark) (hists : List (List Hit)) → seens_in levels at marks hists [] ≡ []
unfolding seens_in
seens_none levels at marks hists = refl

pub hists_none : (levels : Signal → Level) (at : ℕ) (marks : List Mark) (hists : List (List Hit)) → hists_over levels at marks hists [] ≡ hists
unfolding hists_over
hists_none levels at marks hists = refl
