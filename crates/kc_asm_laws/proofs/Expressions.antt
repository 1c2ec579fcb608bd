-- Expressions over answers with own bases, and over the answers of a layout.
use Rattle.std.proofs.Common.{◌≡◌, ℕ, ◌+◌, ◌-◌, ◌%◌, ◌<◌, Bool, true, false, cond, ◌&&◌, List, [], ◌∷◌, Option, Some, None, refl, sym, ap, subst, ◌∙◌, arith}
use Rattle.std.specs.Prelude.{◌==◌, nat_lt, Ok, Err}
use Rattle.std.proofs.lemmas.Bool.{and_parts, eqb-true}
use Rattle.std.proofs.lemmas.Bool.Decides.{nat_tests}
use Rattle.kc_lex.specs.declared.fault.SourceCode.TheVariants as code
use Rattle.kc_expr.specs.declared.values.Base.{Base}
use Rattle.kc_expr.specs.declared.values.Base.TheVariants.{Fixed, Absolute, Piece, External}
use Rattle.kc_expr.specs.declared.values.Tag.{Tag}
use Rattle.kc_expr.specs.declared.values.Tag.TheVariants.{Memory}
use Rattle.kc_expr.specs.declared.values.Value.{Value}
use Rattle.kc_expr.specs.declared.values.NoValue.{NoValue}
use Rattle.kc_expr.specs.declared.values.NoValue.TheVariants.{Fault}
use Rattle.kc_expr.specs.declared.expr.Unary.{Unary}
use Rattle.kc_expr.specs.declared.expr.Binary.{Binary}
use Rattle.kc_expr.specs.declared.expr.Binary.TheVariants.{Plus, Minus}
use Rattle.kc_expr.specs.Tree.{Tree, Number, Chars, Name, Here, One, Two}
use Rattle.kc_expr.specs.Meaning.{Answer, plain, is_fixed, same_base, unary_number, binary_number, chars_answer, divided, moved, moved_to, distance, on_one, on_two, unary_answer, is_division, divides_by_zero, binary_answer, here, answer_by}
use Rattle.kc_asm.specs.Characters.{are_bytes}
use Rattle.kc_asm.proofs.Words.{IsWordAnswer, answer_word}

-- ---- what a value with own bases reports of the value in a layout, where statements have these places

-- a value so many bytes behind a place
pub record IsBehind (start : Value) (n : ℕ) (w : Value) : Type 0 where
  pub moves : is_fixed w.base ≡ false
  pub base : w.base ≡ start.base
  pub number : w.number ≡ (start.number + n) % 65536

-- a value of this base and this number
pub record IsSame (b : Base) (n : ℕ) (w : Value) : Type 0 where
  pub base : w.base ≡ b
  pub number : w.number ≡ n

abbrev pub Reports : (ℕ → Value) → Base → ℕ → Value → Type 0
Reports place Fixed n w = IsSame Fixed n w
Reports place Absolute n w = IsSame Absolute n w
Reports place (Piece k) n w = IsBehind (place k) n w
Reports place (External e) n w = IsSame (External e) n w

abbrev pub DeterminesValue : (ℕ → Value) → Value → Answer → Type 0
DeterminesValue place v (Ok w) = Reports place v.base v.number w
DeterminesValue place v (Err fault) = ⊥

-- a fault with own bases reports nothing
abbrev pub DeterminesAnswer : (ℕ → Value) → Answer → Answer → Type 0
DeterminesAnswer place (Ok v) b = DeterminesValue place v b
DeterminesAnswer place (Err fault) b = Unit {0}

-- a value of this base and this tag
abbrev at : Base → Tag → ℕ → Value
at b t n = record { base = b; tag = t; number = n }

same_value : (b : Base) (n : ℕ) (w : Value) → IsSame b n w → at b w.tag n ≡ w
same_value b n w same = λ i. at (sym same.base i) w.tag (sym same.number i)

-- ---- numbers

added : (p n m w : ℕ) → w ≡ (p + n) % 65536 → (w + m) % 65536 ≡ (p + (n + m) % 65536) % 65536
added p n m w e = omega (arith, e)

subtracted : (p n m w : ℕ) → m < 65536 → w ≡ (p + n) % 65536 → (w + 65536 - m) % 65536 ≡ (p + (n + 65536 - m) % 65536) % 65536
subtracted p n m w h e = omega (arith, e)

between : (p n m w x : ℕ) → m < 65536 → w ≡ (p + n) % 65536 → x ≡ (p + m) % 65536 → (w + 65536 - x) % 65536 ≡ (n + 65536 - m) % 65536
between p n m w x h e f = omega (arith, e, f)

-- ---- bases

equal_numbers : (n : ℕ) → (n == n) ≡ true
equal_numbers n = grind (arith, nat_tests)

own_base : (b : Base) → is_fixed b ≡ false → same_base b b ≡ true
own_base Fixed h = absurd cc
own_base Absolute h = refl
own_base (Piece n) h = equal_numbers n
own_base (External n) h = equal_numbers n

module _ (place : ℕ → Value) where
  same_fixed : (b : Base) (n : ℕ) (w : Value) → Reports place b n w → is_fixed w.base ≡ is_fixed b
  same_fixed Fixed n w t = ap is_fixed t.base
  same_fixed Absolute n w t = ap is_fixed t.base
  same_fixed (Piece k) n w t = t.moves
  same_fixed (External e) n w t = ap is_fixed t.base

  fixed_number : (b : Base) (n : ℕ) (w : Value) → Reports place b n w → is_fixed b ≡ true → n ≡ w.number
  fixed_number Fixed n w t h = sym t.number
  fixed_number Absolute n w t h = absurd cc
  fixed_number (Piece k) n w t h = absurd cc
  fixed_number (External e) n w t h = absurd cc

  -- ---- one operand

  one_reports : (op : Unary) (b : Base) (t : Tag) (n : ℕ) (w : Value) → Reports place b n w → DeterminesAnswer place (on_one op (at b t n)) (on_one op w)
  unfolding on_one
  one_reports op Fixed t n w same =
      subst (λ (u : Value). DeterminesAnswer place (Ok (plain (unary_number op n))) (on_one op u)) (same_value Fixed n w same) (record { base = refl; number = refl })
  one_reports op Absolute t n w same = tt
  one_reports op (Piece k) t n w same = tt
  one_reports op (External e) t n w same = tt

  unary_reports : (op : Unary) (a b : Answer) → DeterminesAnswer place a b → DeterminesAnswer place (unary_answer op a) (unary_answer op b)
  unary_reports op (Ok v) (Ok w) h = one_reports op v.base v.tag v.number w h
  unary_reports op (Ok v) (Err e) h = absurd h
  unary_reports op (Err e) b h = tt

  -- ---- a place that is moved

  plus_reports : (b : Base) (n m : ℕ) (w : Value) → Reports place b n w → Reports place b ((n + m) % 65536) (at w.base w.tag ((w.number + m) % 65536))
  plus_reports Fixed n m w h = record { base = h.base; number = ap (λ k. (k + m) % 65536) h.number }
  plus_reports Absolute n m w h = record { base = h.base; number = ap (λ k. (k + m) % 65536) h.number }
  plus_reports (Piece k) n m w h = record { moves = h.moves; base = h.base; number = added (place k).number n m w.number h.number }
  plus_reports (External e) n m w h = record { base = h.base; number = ap (λ k. (k + m) % 65536) h.number }

  minus_reports : (b : Base) (n m : ℕ) (w : Value) → m < 65536 → Reports place b n w → Reports place b ((n + 65536 - m) % 65536) (at w.base w.tag ((w.number + 65536 - m) % 65536))
  minus_reports Fixed n m w less h = record { base = h.base; number = ap (λ k. (k + 65536 - m) % 65536) h.number }
  minus_reports Absolute n m w less h = record { base = h.base; number = ap (λ k. (k + 65536 - m) % 65536) h.number }
  minus_reports (Piece k) n m w less h = record { moves = h.moves; base = h.base; number = subtracted (place k).number n m w.number less h.number }
  minus_reports (External e) n m w less h = record { base = h.base; number = ap (λ k. (k + 65536 - m) % 65536) h.number }

  moved_reports : (op : Binary) (b : Base) (t : Tag) (n m : ℕ) (w : Value) → m < 65536 → Reports place b n w → DeterminesAnswer place (moved op (at b t n) m) (moved op w m)
  moved_reports Plus b t n m w less h = plus_reports b n m w h
  moved_reports Minus b t n m w less h = minus_reports b n m w less h
  moved_reports op b t n m w less h = tt

  moved_to_reports : (op : Binary) (b : Base) (t : Tag) (n m : ℕ) (w : Value) → Reports place b n w → DeterminesAnswer place (moved_to op (at b t n) m) (moved_to op w m)
  moved_to_reports Plus b t n m w h = plus_reports b n m w h
  moved_to_reports op b t n m w h = tt

  -- ---- two places

  if_reports : (s : Bool) (v : Value) (a : Answer) → (s ≡ true → DeterminesAnswer place (Ok v) a) → DeterminesAnswer place (cond s (Ok v) (Err (Fault code.NotRelocatable))) a
  if_reports true v a h = h refl
  if_reports false v a h = tt

  -- two places of one base in the layout
  distance_is : (k : ℕ) (w x : Value) → is_fixed w.base ≡ false → x.base ≡ w.base → (w.number + 65536 - x.number) % 65536 ≡ k
      → DeterminesAnswer place (Ok (at Absolute Memory k)) (distance Minus w x)
  distance_is k w x moves same number =
      let v = at Absolute Memory ((w.number + 65536 - x.number) % 65536) in
      let test : same_base w.base x.base ≡ true = ap (same_base w.base) same ∙ own_base w.base moves in
      subst (λ (a : Answer). DeterminesAnswer place (Ok (at Absolute Memory k)) a) (ap (λ s. cond s (Ok v) (Err (Fault code.NotRelocatable))) (sym test)) (record { base = refl; number = number })

  apart_reports : (b c : Base) (t u : Tag) (n m : ℕ) (w x : Value) → is_fixed b ≡ false → is_fixed c ≡ false → m < 65536 → Reports place b n w → Reports place c m x
      → DeterminesAnswer place (distance Minus (at b t n) (at c u m)) (distance Minus w x)
  apart_reports Fixed c t u n m w x first second less h g = absurd cc
  apart_reports Absolute Fixed t u n m w x first second less h g = absurd cc
  apart_reports Absolute Absolute t u n m w x first second less h g =
      distance_is ((n + 65536 - m) % 65536) w x (ap is_fixed h.base) (g.base ∙ sym h.base) (λ i. (h.number i + 65536 - g.number i) % 65536)
  apart_reports Absolute (Piece j) t u n m w x first second less h g = tt
  apart_reports Absolute (External f) t u n m w x first second less h g = tt
  apart_reports (Piece k) Fixed t u n m w x first second less h g = absurd cc
  apart_reports (Piece k) Absolute t u n m w x first second less h g = tt
  apart_reports (Piece k) (Piece j) t u n m w x first second less h g =
      if_reports (k == j) (at Absolute Memory ((n + 65536 - m) % 65536)) (distance Minus w x) (λ e.
      let same : j ≡ k = sym (eqb-true k j e) in
      distance_is ((n + 65536 - m) % 65536) w x h.moves (g.base ∙ ap (λ i. (place i).base) same ∙ sym h.base)
      (between (place k).number n m w.number x.number less h.number (g.number ∙ ap (λ i. ((place i).number + m) % 65536) same)))
  apart_reports (Piece k) (External f) t u n m w x first second less h g = tt
  apart_reports (External e) Fixed t u n m w x first second less h g = absurd cc
  apart_reports (External e) Absolute t u n m w x first second less h g = tt
  apart_reports (External e) (Piece j) t u n m w x first second less h g = tt
  apart_reports (External e) (External f) t u n m w x first second less h g =
      if_reports (e == f) (at Absolute Memory ((n + 65536 - m) % 65536)) (distance Minus w x) (λ s.
      distance_is ((n + 65536 - m) % 65536) w x (ap is_fixed h.base) (g.base ∙ ap External (sym (eqb-true e f s)) ∙ sym h.base) (λ i. (h.number i + 65536 - g.number i) % 65536))

  distance_reports : (op : Binary) (b c : Base) (t u : Tag) (n m : ℕ) (w x : Value) → is_fixed b ≡ false → is_fixed c ≡ false → m < 65536 → Reports place b n w → Reports place c m x
      → DeterminesAnswer place (distance op (at b t n) (at c u m)) (distance op w x)
  distance_reports Minus b c t u n m w x first second less h g = apart_reports b c t u n m w x first second less h g
  distance_reports op b c t u n m w x first second less h g = tt

  -- ---- two operands

  number_reports : (o : Option ℕ) → DeterminesAnswer place (divided o) (divided o)
  number_reports None = tt
  number_reports (Some n) = record { base = refl; number = refl }

  two_by : (p q : Bool) (op : Binary) (b c : Base) (t u : Tag) (n m : ℕ) (w x : Value) → is_fixed b ≡ p → is_fixed c ≡ q → m < 65536 → Reports place b n w → Reports place c m x
      → DeterminesAnswer place
      (cond p (cond q (divided (binary_number op n m)) (moved_to op (at c u m) n)) (cond q (moved op (at b t n) m) (distance op (at b t n) (at c u m))))
      (cond p (cond q (divided (binary_number op w.number x.number)) (moved_to op x w.number)) (cond q (moved op w x.number) (distance op w x)))
  two_by true true op b c t u n m w x first second less h g =
      subst (λ (a : Answer). DeterminesAnswer place (divided (binary_number op n m)) a)
      (λ i. divided (binary_number op (fixed_number b n w h first i) (fixed_number c m x g second i))) (number_reports (binary_number op n m))
  two_by true false op b c t u n m w x first second less h g =
      subst (λ (k : ℕ). DeterminesAnswer place (moved_to op (at c u m) n) (moved_to op x k)) (fixed_number b n w h first) (moved_to_reports op c u m n x g)
  two_by false true op b c t u n m w x first second less h g =
      subst (λ (k : ℕ). DeterminesAnswer place (moved op (at b t n) m) (moved op w k)) (fixed_number c m x g second) (moved_reports op b t n m w less h)
  two_by false false op b c t u n m w x first second less h g = distance_reports op b c t u n m w x first second less h g

  two_reports : (op : Binary) (b c : Base) (t u : Tag) (n m : ℕ) (w x : Value) → m < 65536 → Reports place b n w → Reports place c m x
      → DeterminesAnswer place (on_two op (at b t n) (at c u m)) (on_two op w x)
  unfolding on_two
  two_reports op b c t u n m w x less h g =
      let first : is_fixed b ≡ is_fixed w.base = sym (same_fixed b n w h) in
      let second : is_fixed c ≡ is_fixed x.base = sym (same_fixed c m x g) in
      subst (λ (a : Answer). DeterminesAnswer place (on_two op (at b t n) (at c u m)) a)
      (λ i. cond (first i) (cond (second i) (divided (binary_number op w.number x.number)) (moved_to op x w.number)) (cond (second i) (moved op w x.number) (distance op w x)))
      (two_by (is_fixed b) (is_fixed c) op b c t u n m w x refl refl less h g)

  -- ---- a division by zero

  zero_by : (x y : Bool) (m n : ℕ) → (y ≡ true → m ≡ n) → (x && y && (m == 0)) ≡ (x && y && (n == 0))
  zero_by true true m n same = ap (λ k. k == 0) (same refl)
  zero_by true false m n same = refl
  zero_by false true m n same = refl
  zero_by false false m n same = refl

  same_zero : (op : Binary) (b : Base) (t : Tag) (n : ℕ) (w : Value) → Reports place b n w → divides_by_zero op (Ok (at b t n)) ≡ divides_by_zero op (Ok w)
  same_zero op b t n w h =
      zero_by (is_division op) (is_fixed b) n w.number (fixed_number b n w h) ∙ ap (λ f. is_division op && f && (w.number == 0)) (sym (same_fixed b n w h))

  quotient_reports : (s : Bool) (a b : Answer) → DeterminesAnswer place a b → DeterminesAnswer place (cond s (Err (Fault code.DivisionByZero)) a) (cond s (Err (Fault code.DivisionByZero)) b)
  quotient_reports true a b h = tt
  quotient_reports false a b h = h

  fault_reports : (s : Bool) (e f : NoValue) (a : Answer) → DeterminesAnswer place (cond s (Err e) (Err f)) a
  fault_reports true e f a = tt
  fault_reports false e f a = tt

  binary_reports : (op : Binary) (a c b d : Answer) → IsWordAnswer b → DeterminesAnswer place a c → DeterminesAnswer place b d → DeterminesAnswer place (binary_answer op a b) (binary_answer op c d)
  unfolding binary_answer
  binary_reports op (Ok v) (Ok w) (Ok u) (Ok x) less h g =
      subst (λ (s : Bool). DeterminesAnswer place (binary_answer op (Ok v) (Ok u)) (cond s (Err (Fault code.DivisionByZero)) (on_two op w x))) (same_zero op u.base u.tag u.number x g)
      (quotient_reports (divides_by_zero op (Ok u)) (on_two op v u) (on_two op w x) (two_reports op v.base u.base v.tag u.tag v.number u.number w x less h g))
  binary_reports op (Ok v) (Ok w) (Ok u) (Err f) less h g = absurd g
  binary_reports op (Ok v) (Ok w) (Err e) d less h g = tt
  binary_reports op (Ok v) (Err f) b d less h g = absurd h
  binary_reports op (Err e) c (Ok u) d less h g = fault_reports (divides_by_zero op (Ok u)) _ _ (binary_answer op c d)
  binary_reports op (Err e) c (Err f) d less h g = tt

  -- ---- the whole expression

  literal_reports : (s : Bool) (n : ℕ) (f : NoValue) → DeterminesAnswer place (cond s (Ok (plain n)) (Err f)) (cond s (Ok (plain n)) (Err f))
  literal_reports true n f = record { base = refl; number = refl }
  literal_reports false n f = tt

  chars_report : (cs : List ℕ) → DeterminesAnswer place (chars_answer cs) (chars_answer cs)
  chars_report [] = tt
  chars_report (a ∷ []) = record { base = refl; number = refl }
  chars_report (a ∷ b ∷ []) = record { base = refl; number = refl }
  chars_report (a ∷ b ∷ c ∷ cs) = tt

  pub answer_reports : (own look : List ℕ → Answer) → ((q : List ℕ) → IsWordAnswer (own q)) → ((q : List ℕ) → DeterminesAnswer place (own q) (look q))
      → (x : Tree) → are_bytes x ≡ true → DeterminesAnswer place (answer_by own x) (answer_by look x)
  unfolding answer_by are_bytes
  answer_reports own look words names (Number n) e = literal_reports (nat_lt n 65536) n (Fault code.BadNumber)
  answer_reports own look words names (Chars cs) e = chars_report cs
  answer_reports own look words names (Name n) e = names n
  answer_reports own look words names Here e = names here
  answer_reports own look words names (One op x) e = unary_reports op (answer_by own x) (answer_by look x) (answer_reports own look words names x e)
  answer_reports own look words names (Two op a b) e =
      let s = and_parts (are_bytes a) (are_bytes b) e in
      binary_reports op (answer_by own a) (answer_by look a) (answer_by own b) (answer_by look b) (answer_word own words b s.1)
      (answer_reports own look words names a s.0) (answer_reports own look words names b s.1)
