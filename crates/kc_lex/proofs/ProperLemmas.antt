-- Proper lexemes are read as they are written, and what is read is proper.
use Rattle.std.proofs.Common.{◌≡◌, ℕ, Bool, true, false, cond, not, ◌&&◌, ◌||◌, eqb, List, [], ◌∷◌, ◌++◌, Some, None, refl, sym, ap, ◌∙◌, append_assoc}
use Rattle.std.specs.Option.{option_map}
use Rattle.std.specs.List.{list_any, list_all}
use Rattle.std.proofs.lemmas.Bool.{eqb-true}
use Rattle.std.proofs.lemmas.List.{append-nil}
use Rattle.kc_base.specs.TextLines.{begins_with}
use Rattle.kc_lex.specs.Chars.{is_text_char, is_word_char, is_blank, is_sign, signs}
use Rattle.kc_lex.specs.Lexemes.{Lexeme, Blank, Word, Quoted, Mark, Comment, Open, closed, with_char, with_lexeme, with_string, after_string, outside_at, outside, inside, at_quote, lexemes, doubled, all_written, is_proper, begins_with_word, begins_with_string, is_end, may_precede, all_proper}
use Rattle.kc_lex.proofs.LexemeLemmas.{not_word, word_at}
use Rattle.kc_lex.proofs.ScanLemmas.{ended}

both : (a b : Bool) → (a && b) ≡ true → (a ≡ true) × (b ≡ true)
both true b e = (refl, e)
both false b e = absurd cc

joined : (a b : Bool) → a ≡ true → b ≡ true → (a && b) ≡ true
joined a b x y = rw x y

not_true : (b : Bool) → not b ≡ true → b ≡ false
not_true true e = absurd cc
not_true false e = refl

-- ---- blanks and signs are no other characters

abbrev is_other : ℕ → Bool
is_other c = not (eqb c 59) && (not (eqb c 39) && not (is_word_char c))

record Other (c : ℕ) : Type 0 where
  no_comment : eqb c 59 ≡ false
  no_quote : eqb c 39 ≡ false
  no_word : is_word_char c ≡ false

other : (c : ℕ) → is_other c ≡ true → Other c
other c h =
    let one = both (not (eqb c 59)) (not (eqb c 39) && not (is_word_char c)) h in
    let two = both (not (eqb c 39)) (not (is_word_char c)) one.1 in
    record { no_comment = not_true (eqb c 59) one.0; no_quote = not_true (eqb c 39) two.0; no_word = not_true (is_word_char c) two.1 }

one_of : (p : ℕ → Bool) (c : ℕ) (cs : List ℕ) → list_any (λ s. eqb c s) cs ≡ true → list_all p cs ≡ true → p c ≡ true
one_of p c [] h all = absurd cc
one_of p c (s ∷ cs) h all =
    let parts = both (p s) (list_all p cs) all in
    elim (eqb c s) as (λ b. eqb c s ≡ b → (b || list_any (λ s. eqb c s) cs) ≡ true → p c ≡ true) [
      | true ↦ λ e _. ap p (eqb-true c s e) ∙ parts.0
      | false ↦ λ e rest. one_of p c cs rest parts.1
    ] refl h

blank_other : (c : ℕ) → is_blank c ≡ true → Other c
blank_other c h =
    other c (elim (eqb c 32) as (λ b. eqb c 32 ≡ b → (b || eqb c 9) ≡ true → is_other c ≡ true) [
      | true ↦ λ e _. ap is_other (eqb-true c 32 e)
      | false ↦ λ e rest. ap is_other (eqb-true c 9 rest)
    ] refl h)

sign_other : (c : ℕ) → is_sign c ≡ true → Other c
sign_other c h = other c (one_of is_other c signs h refl)

no_blank : (c : ℕ) → is_sign c ≡ true → is_blank c ≡ false
no_blank c h = not_true (is_blank c) (one_of (λ c. not (is_blank c)) c signs h refl)

-- ---- proper lexemes are read

-- the word that is open at the beginning, and the lexemes behind it
abbrev opened : List Lexeme → List ℕ × List Lexeme
opened [] = ([], [])
opened (Word w ∷ xs) = (w, xs)
opened (Blank c ∷ xs) = ([], Blank c ∷ xs)
opened (Quoted cs ∷ xs) = ([], Quoted cs ∷ xs)
opened (Mark c ∷ xs) = ([], Mark c ∷ xs)
opened (Comment cs ∷ xs) = ([], Comment cs ∷ xs)

no_word_open : (xs : List Lexeme) → begins_with_word xs ≡ false → opened xs ≡ ([], xs)
no_word_open [] h = refl
no_word_open (Word w ∷ xs) h = absurd cc
no_word_open (Blank c ∷ xs) h = refl
no_word_open (Quoted cs ∷ xs) h = refl
no_word_open (Mark c ∷ xs) h = refl
no_word_open (Comment cs ∷ xs) h = refl

first_proper : (x : Lexeme) (xs : List Lexeme) → all_proper (x ∷ xs) ≡ true → (is_proper x ≡ true) × (may_precede x xs ≡ true) × (all_proper xs ≡ true)
unfolding all_proper
first_proper x xs h =
    let one = both (is_proper x) (may_precede x xs && all_proper xs) h in
    let two = both (may_precede x xs) (all_proper xs) one.1 in
    (one.0, two.0, two.1)

shut : (xs : List Lexeme) → all_proper xs ≡ true → closed (opened xs).0 (opened xs).1 ≡ xs
shut [] h = refl
shut (Word [] ∷ xs) h = absurd (let p = (first_proper (Word []) xs h).0 in let e : false ≡ true = p in cc)
shut (Word (c ∷ w) ∷ xs) h = refl
shut (Blank c ∷ xs) h = refl
shut (Quoted cs ∷ xs) h = refl
shut (Mark c ∷ xs) h = refl
shut (Comment cs ∷ xs) h = refl

word_run : (w s : List ℕ) (xs : List Lexeme) → list_all is_word_char w ≡ true → outside s ≡ Some ([], xs) → outside (w ++ s) ≡ Some (w, xs)
unfolding outside
word_run [] s xs h e = e
word_run (c ∷ w) s xs h e =
    let parts = both (is_word_char c) (list_all is_word_char w) h in
    word_at c (w ++ s) (outside (w ++ s)) (inside (w ++ s)) parts.0 ∙ ap (with_char c) (word_run w s xs parts.1 e)

string_run : (cs s : List ℕ) (xs : List Lexeme) → list_all is_text_char cs ≡ true → at_quote s ≡ Some ([], xs) → inside (doubled cs ++ 39 ∷ s) ≡ Some (cs, xs)
unfolding inside at_quote
string_run [] s xs h e = e
string_run (c ∷ cs) s xs h e =
    let parts = both (is_text_char c) (list_all is_text_char cs) h in
    let rest = string_run cs s xs parts.1 e in
    elim (eqb c 39) as (λ b. eqb c 39 ≡ b → inside (cond b (39 ∷ 39 ∷ doubled cs) (c ∷ doubled cs) ++ 39 ∷ s) ≡ Some (c ∷ cs, xs)) [
      | true ↦ λ y. ap (with_char 39) rest ∙ ap (λ (d : ℕ). Some (d ∷ cs, xs)) (sym (eqb-true c 39 y))
      | false ↦ λ y. rw (y, parts.0) (ap (with_char c) rest)
    ] refl

no_quote_first : (xs : List Lexeme) → all_proper xs ≡ true → begins_with_string xs ≡ false → begins_with 39 (all_written xs) ≡ false
no_quote_first [] h e = refl
no_quote_first (Word [] ∷ xs) h e = absurd (let p = (first_proper (Word []) xs h).0 in let e : false ≡ true = p in cc)
no_quote_first (Word (c ∷ w) ∷ xs) h e = not_word c 39 refl (both (is_word_char c) (list_all is_word_char w) (first_proper (Word (c ∷ w)) xs h).0).0
no_quote_first (Blank c ∷ xs) h e = (blank_other c (first_proper (Blank c) xs h).0).no_quote
no_quote_first (Quoted cs ∷ xs) h e = absurd cc
no_quote_first (Mark c ∷ xs) h e = (sign_other c (first_proper (Mark c) xs h).0).no_quote
no_quote_first (Comment cs ∷ xs) h e = refl

blank_read : (c : ℕ) (s : List ℕ) (xs : List Lexeme) → is_blank c ≡ true → all_proper xs ≡ true → outside s ≡ Some (opened xs) → outside (c ∷ s) ≡ Some ([], Blank c ∷ xs)
unfolding outside
blank_read c s xs h p e = let o = blank_other c h in rw (o.no_comment, o.no_quote, o.no_word, h) (ap (with_lexeme (Blank c)) e ∙ ap (λ (v : List Lexeme). Some ([], Blank c ∷ v)) (shut xs p))

mark_read : (c : ℕ) (s : List ℕ) (xs : List Lexeme) → is_sign c ≡ true → all_proper xs ≡ true → outside s ≡ Some (opened xs) → outside (c ∷ s) ≡ Some ([], Mark c ∷ xs)
unfolding outside
mark_read c s xs h p e = let o = sign_other c h in rw (o.no_comment, o.no_quote, o.no_word, no_blank c h, h) (ap (with_lexeme (Mark c)) e ∙ ap (λ (v : List Lexeme). Some ([], Mark c ∷ v)) (shut xs p))

quoted_read : (cs s : List ℕ) (xs : List Lexeme) → list_all is_text_char cs ≡ true → all_proper xs ≡ true → begins_with 39 s ≡ false → outside s ≡ Some (opened xs) → outside (39 ∷ ((doubled cs ++ 39 ∷ []) ++ s)) ≡ Some ([], Quoted cs ∷ xs)
unfolding outside
quoted_read cs s xs h p q e =
    let behind : at_quote s ≡ Some ([], xs) = ended s q ∙ ap after_string e ∙ ap (λ (v : List Lexeme). Some ([], v)) (shut xs p) in
    ap (λ (t : List ℕ). with_string (inside t)) (append_assoc (doubled cs) (39 ∷ []) s) ∙ ap with_string (string_run cs s xs h behind)

comment_read : (cs : List ℕ) (xs : List Lexeme) → is_end xs ≡ true → outside (59 ∷ (cs ++ all_written xs)) ≡ Some ([], Comment cs ∷ xs)
unfolding outside
comment_read cs [] h = ap (λ (t : List ℕ). Some ([], Comment t ∷ [])) (append-nil cs)
comment_read cs (x ∷ xs) h = absurd cc

word_chars : (w : List ℕ) → is_proper (Word w) ≡ true → list_all is_word_char w ≡ true
word_chars [] h = refl
word_chars (c ∷ w) h = h

all_read : (xs : List Lexeme) → all_proper xs ≡ true → outside (all_written xs) ≡ Some (opened xs)
unfolding outside
all_read [] h = refl
all_read (Word w ∷ xs) h =
    let p = first_proper (Word w) xs h in
    let rest : outside (all_written xs) ≡ Some ([], xs) = all_read xs p.2 ∙ ap (λ (o : List ℕ × List Lexeme). Some o) (no_word_open xs (not_true (begins_with_word xs) p.1)) in
    word_run w (all_written xs) xs (word_chars w p.0) rest
all_read (Blank c ∷ xs) h = let p = first_proper (Blank c) xs h in blank_read c (all_written xs) xs p.0 p.2 (all_read xs p.2)
all_read (Quoted cs ∷ xs) h =
    let p = first_proper (Quoted cs) xs h in
    quoted_read cs (all_written xs) xs p.0 p.2 (no_quote_first xs p.2 (not_true (begins_with_string xs) p.1)) (all_read xs p.2)
all_read (Mark c ∷ xs) h = let p = first_proper (Mark c) xs h in mark_read c (all_written xs) xs p.0 p.2 (all_read xs p.2)
all_read (Comment cs ∷ xs) h = let p = first_proper (Comment cs) xs h in comment_read cs xs p.1

pub proper_read : (xs : List Lexeme) → all_proper xs ≡ true → lexemes (all_written xs) ≡ Some xs
proper_read xs h = ap (option_map (λ p. closed p.0 p.1)) (all_read xs h) ∙ ap (λ (v : List Lexeme). Some v) (shut xs h)

-- ---- what is read is proper

abbrev Outside : Open → Type 0
Outside None = Unit {0}
Outside (Some p) = (list_all is_word_char p.0 ≡ true) × (all_proper p.1 ≡ true) × (begins_with_word p.1 ≡ false)

abbrev Inside : Open → Type 0
Inside None = Unit {0}
Inside (Some p) = (list_all is_text_char p.0 ≡ true) × (all_proper p.1 ≡ true) × (begins_with_string p.1 ≡ false)

-- an open word is closed to proper lexemes
closed_proper : (w : List ℕ) (xs : List Lexeme) → list_all is_word_char w ≡ true → all_proper xs ≡ true → begins_with_word xs ≡ false → all_proper (closed w xs) ≡ true
unfolding all_proper
closed_proper [] xs h p n = p
closed_proper (c ∷ w) xs h p n = rw (h, n) p

behind : (x : Lexeme) (o : Open) → is_proper x ≡ true → ((xs : List Lexeme) → may_precede x xs ≡ true) → ((xs : List Lexeme) → begins_with_word (x ∷ xs) ≡ false) → Outside o → Outside (with_lexeme x o)
unfolding all_proper
behind x None h m ns o = tt
behind x (Some p) h m ns o = (refl, joined (is_proper x) (may_precede x (closed p.0 p.1) && all_proper (closed p.0 p.1)) h (joined (may_precede x (closed p.0 p.1)) (all_proper (closed p.0 p.1)) (m (closed p.0 p.1)) (closed_proper p.0 p.1 o.0 o.1 o.2)), ns (closed p.0 p.1))

word_behind : (c : ℕ) (o : Open) → is_word_char c ≡ true → Outside o → Outside (with_char c o)
word_behind c None h o = tt
word_behind c (Some p) h o = (joined (is_word_char c) (list_all is_word_char p.0) h o.0, o.1, o.2)

string_behind : (o : Open) → Inside o → Outside (with_string o)
unfolding all_proper
string_behind None o = tt
string_behind (Some p) o = (refl, joined (list_all is_text_char p.0) (not (begins_with_string p.1) && all_proper p.1) o.0 (joined (not (begins_with_string p.1)) (all_proper p.1) (ap not o.2) o.1), refl)

comment_behind : (cs : List ℕ) → Outside (Some ([], Comment cs ∷ []))
unfolding all_proper
comment_behind cs = (refl, refl, refl)

out_arms : (c : ℕ) (cs : List ℕ) (o i : Open) (b1 b2 b3 b4 b5 : Bool) → is_word_char c ≡ b3 → is_blank c ≡ b4 → is_sign c ≡ b5 → Outside o → Inside i
    → Outside (cond b1 (Some ([], Comment cs ∷ [])) (cond b2 (with_string i) (cond b3 (with_char c o) (cond b4 (with_lexeme (Blank c) o) (cond b5 (with_lexeme (Mark c) o) None)))))
out_arms c cs o i true b2 b3 b4 b5 e3 e4 e5 out in_string = comment_behind cs
out_arms c cs o i false true b3 b4 b5 e3 e4 e5 out in_string = string_behind i in_string
out_arms c cs o i false false true b4 b5 e3 e4 e5 out in_string = word_behind c o e3 out
out_arms c cs o i false false false true b5 e3 e4 e5 out in_string = behind (Blank c) o e4 (λ xs. refl) (λ xs. refl) out
out_arms c cs o i false false false false true e3 e4 e5 out in_string = behind (Mark c) o e5 (λ xs. refl) (λ xs. refl) out
out_arms c cs o i false false false false false e3 e4 e5 out in_string = tt

out_at : (c : ℕ) (cs : List ℕ) (o i : Open) → Outside o → Inside i → Outside (outside_at c cs o i)
out_at c cs o i out in_string = out_arms c cs o i (eqb c 59) (eqb c 39) (is_word_char c) (is_blank c) (is_sign c) refl refl refl out in_string

text_inside : (c : ℕ) (o : Open) → is_text_char c ≡ true → Inside o → Inside (with_char c o)
text_inside c None h o = tt
text_inside c (Some p) h o = (joined (is_text_char c) (list_all is_text_char p.0) h o.0, o.1, o.2)

-- no string begins where a character other than a quote stands
after_lexeme : (x : Lexeme) (o : Open) → ((xs : List Lexeme) → begins_with_string (x ∷ xs) ≡ false) → Outside (with_lexeme x o) → Inside (after_string (with_lexeme x o))
after_lexeme x None n h = tt
after_lexeme x (Some p) n h = (refl, h.1, n (closed p.0 p.1))

after_word : (c : ℕ) (o : Open) → Outside (with_char c o) → Inside (after_string (with_char c o))
after_word c None h = tt
after_word c (Some p) h = (refl, closed_proper (c ∷ p.0) p.1 h.0 h.1 h.2, refl)

in_arms : (c : ℕ) (cs : List ℕ) (o i : Open) (b1 b2 b3 b4 b5 : Bool) → b2 ≡ false → is_word_char c ≡ b3 → is_blank c ≡ b4 → is_sign c ≡ b5 → Outside o
    → Inside (after_string (cond b1 (Some ([], Comment cs ∷ [])) (cond b2 (with_string i) (cond b3 (with_char c o) (cond b4 (with_lexeme (Blank c) o) (cond b5 (with_lexeme (Mark c) o) None))))))
in_arms c cs o i true b2 b3 b4 b5 e2 e3 e4 e5 out = let h = comment_behind cs in (refl, h.1, refl)
in_arms c cs o i false true b3 b4 b5 e2 e3 e4 e5 out = absurd cc
in_arms c cs o i false false true b4 b5 e2 e3 e4 e5 out = after_word c o (word_behind c o e3 out)
in_arms c cs o i false false false true b5 e2 e3 e4 e5 out = after_lexeme (Blank c) o (λ xs. refl) (behind (Blank c) o e4 (λ xs. refl) (λ xs. refl) out)
in_arms c cs o i false false false false true e2 e3 e4 e5 out = after_lexeme (Mark c) o (λ xs. refl) (behind (Mark c) o e5 (λ xs. refl) (λ xs. refl) out)
in_arms c cs o i false false false false false e2 e3 e4 e5 out = tt

in_at : (c : ℕ) (cs : List ℕ) (o i : Open) → eqb c 39 ≡ false → Outside o → Inside (after_string (outside_at c cs o i))
in_at c cs o i e out = in_arms c cs o i (eqb c 59) (eqb c 39) (is_word_char c) (is_blank c) (is_sign c) e refl refl refl out

nothing_proper : Outside (Some ([], []))
unfolding all_proper
nothing_proper = (refl, refl, refl)

nothing_inside : Inside (Some ([], []))
unfolding all_proper
nothing_inside = (refl, refl, refl)

mutual
  unfolding outside inside at_quote

  out_proper : (s : List ℕ) → Outside (outside s)
  out_proper [] = nothing_proper
  out_proper (c ∷ cs) = out_at c cs (outside cs) (inside cs) (out_proper cs) (in_proper cs)

  in_proper : (s : List ℕ) → Inside (inside s)
  in_proper [] = tt
  in_proper (c ∷ cs) =
      elim (eqb c 39) as (λ b. Inside (cond b (at_quote cs) (cond (is_text_char c) (with_char c (inside cs)) None))) [
        | true ↦ quote_proper cs
        | false ↦ elim (is_text_char c) as (λ b. is_text_char c ≡ b → Inside (cond b (with_char c (inside cs)) None)) [ true ↦ λ e. text_inside c (inside cs) e (in_proper cs) | false ↦ λ e. tt ] refl
      ]

  quote_proper : (s : List ℕ) → Inside (at_quote s)
  quote_proper [] = nothing_inside
  quote_proper (c ∷ cs) =
      elim (eqb c 39) as (λ b. eqb c 39 ≡ b → Inside (cond b (with_char 39 (inside cs)) (after_string (outside_at c cs (outside cs) (inside cs))))) [
        | true ↦ λ e. text_inside 39 (inside cs) refl (in_proper cs)
        | false ↦ λ e. in_at c cs (outside cs) (inside cs) e (out_proper cs)
      ] refl

of_outside : (o : Open) (xs : List Lexeme) → Outside o → option_map (λ p. closed p.0 p.1) o ≡ Some xs → all_proper xs ≡ true
of_outside None xs h e = absurd cc
of_outside (Some p) xs h e = let same : closed p.0 p.1 ≡ xs = cc in ap all_proper (sym same) ∙ closed_proper p.0 p.1 h.0 h.1 h.2

pub read_proper : (line : List ℕ) (xs : List Lexeme) → lexemes line ≡ Some xs → all_proper xs ≡ true
read_proper line xs e = of_outside (outside line) xs (out_proper line) e
