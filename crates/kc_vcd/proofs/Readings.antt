-- What a reader knows behind the changes of a dump.
use Rattle.std.proofs.Common.{◌≡◌, ℕ, ◌*◌, ◌^◌, ◌<◌, ◌≤◌, Bool, true, false, cond, eqb, Option, Some, List, [], ◌∷◌, ◌++◌, codes, decimal, refl, sym, ap, ◌∙◌, append_assoc, arith}
use Rattle.std.proofs.lemmas.Bool.{eqb-true}
use Rattle.std.proofs.Math.Nat.{mul-le-mul_left}
use Rattle.kc_base.specs.Fields.{decimal_value}
use Rattle.kc_base.specs.TextLines.{text_lines}
use Rattle.kc_base.specs.declared.types.Level.{Level}
use Rattle.kc_base.specs.declared.types.Level.TheVariants.{Low, High}
use Rattle.kc_base.proofs.Words.{Word, Plain, plain-word, plain_line, no_lines}
use Rattle.kc_base.proofs.Numbers.{word-decimal, value-decimal}
use Rattle.kc_trace.specs.Text.{level_digit}
use Rattle.kc_vcd.specs.declared.change.Change.{Change}
use Rattle.kc_vcd.specs.declared.change.Change.TheVariants.{Moves, Takes, Happens, Unseen}
use Rattle.kc_vcd.specs.declared.variable.Variable.TheVariants.{Wire, Analog}
use Rattle.kc_vcd.specs.Variables.{code_of}
use Rattle.kc_vcd.specs.Changes.{Timed}
use Rattle.kc_vcd.specs.Dump.{digits, significant, change_text, stamp, texts}
use Rattle.kc_vcd.specs.Reader.{time_by, is_up_to, is_now, read_up_to, read_at}
use Rattle.kc_vcd.specs.Laws.{IsKnownChange, AreKnown}

-- ---- the lines of a time, or up to one

abbrev pub read_if : {A : Type 0} → (Option ℕ → Bool) → (List ℕ → A → A) → Option ℕ → A → List (List ℕ) → A
read_if wanted by time a [] = a
read_if wanted by time a (line ∷ lines) = read_if wanted by (time_by time line) (cond (wanted (time_by time line)) (by line a) a) lines

pub up_to-if : {A : Type 0} (by : List ℕ → A → A) (last : ℕ) (time : Option ℕ) (a : A) (lines : List (List ℕ)) → read_up_to by last time a lines ≡ read_if (is_up_to last) by time a lines
unfolding read_up_to
up_to-if by last time a [] = refl
up_to-if by last time a (line ∷ lines) = up_to-if by last (time_by time line) (cond (is_up_to last (time_by time line)) (by line a) a) lines

pub at-if : {A : Type 0} (by : List ℕ → A → A) (at : ℕ) (time : Option ℕ) (a : A) (lines : List (List ℕ)) → read_at by at time a lines ≡ read_if (is_now at) by time a lines
unfolding read_at
at-if by at time a [] = refl
at-if by at time a (line ∷ lines) = at-if by at (time_by time line) (cond (is_now at (time_by time line)) (by line a) a) lines

-- ---- the line of a change

abbrev pub value_text : ℕ → ℕ → List ℕ
value_text channel value = 98 ∷ (significant (digits value) ++ 32 ∷ code_of (Analog channel) ∷ [])

abbrev pub lines_by : Change → List (List ℕ)
lines_by (Moves signal level) = (level_digit level ∷ code_of (Wire signal) ∷ []) ∷ []
lines_by (Takes channel value) = value_text channel value ∷ []
lines_by (Happens v) = (49 ∷ code_of v ∷ []) ∷ []
lines_by Unseen = []

abbrev Digits : List ℕ → Type 0
Digits [] = Unit {0}
Digits (d ∷ ds) = (48 ≤ d) × Digits ds

significant_digits : (ds : List ℕ) → Digits ds → Digits (significant ds)
unfolding significant
significant_digits [] h = h
significant_digits (d ∷ []) h = h
significant_digits (d ∷ e ∷ more) h = by_test (eqb d 48) (significant_digits (e ∷ more) h.1)
  where
    by_test : (b : Bool) → Digits (significant (e ∷ more)) → Digits (cond b (significant (e ∷ more)) (d ∷ e ∷ more))
    by_test true rest = rest
    by_test false rest = h

digits_are : (value : ℕ) → Digits (digits value)
digits_are value = (omega arith, (omega arith, (omega arith, (omega arith, (omega arith, (omega arith, (omega arith, (omega arith, (omega arith, (omega arith, tt))))))))))

digits_word : (ds : List ℕ) → Digits ds → Word ds
digits_word [] h = tt
digits_word (d ∷ ds) h = let more : 48 ≤ d = h.0 in (omega arith, digits_word ds h.1)

pub value_word : (value : ℕ) → Word (significant (digits value))
value_word value = digits_word (significant (digits value)) (significant_digits (digits value) (digits_are value))

pub plain_both : (xs ys : List ℕ) → Plain xs → Plain ys → Plain (xs ++ ys)
plain_both [] ys h k = k
plain_both (x ∷ xs) ys h k = (h.0, plain_both xs ys h.1 k)

digit_plain : (level : Level) → 13 < level_digit level
digit_plain Low = omega arith
digit_plain High = omega arith

value_line_is : (ds : List ℕ) (c : ℕ) (more : List ℕ) → ((98 ∷ ds) ++ codes " " ++ (c ∷ 10 ∷ [])) ++ more ≡ (98 ∷ (ds ++ 32 ∷ c ∷ [])) ++ 10 ∷ more
value_line_is ds c more = ap (λ (t : List ℕ). 98 ∷ t) (by ds)
  where
    by : (ds : List ℕ) → (ds ++ (32 ∷ []) ++ (c ∷ 10 ∷ [])) ++ more ≡ (ds ++ 32 ∷ c ∷ []) ++ 10 ∷ more
    by [] = refl
    by (d ∷ ds) = ap (λ (t : List ℕ). d ∷ t) (by ds)

pub change_lines : (c : Change) (more : List ℕ) → IsKnownChange c → text_lines (change_text c ++ more) ≡ lines_by c ++ text_lines more
change_lines (Moves signal level) more known = plain_line (level_digit level ∷ code_of (Wire signal) ∷ []) more (digit_plain level, (omega arith, tt))
change_lines (Takes channel value) more known =
    let ds = significant (digits value) in
    ap text_lines (value_line_is ds (code_of (Analog channel)) more)
    ∙ plain_line (value_text channel value) more (omega arith, plain_both ds (32 ∷ code_of (Analog channel) ∷ []) (plain-word ds (value_word value)) (omega arith, (omega arith, tt)))
change_lines (Happens v) more known = plain_line (49 ∷ code_of v ∷ []) more (omega arith, (omega arith, tt))
change_lines Unseen more known = refl

-- ---- a reader, by what changes do to what it knows

pub record Reads {A : Type 0} (by : List ℕ → A → A) (effect : Change → A → A) : Type 0 where
  pub stamps : (ds : List ℕ) (a : A) → by (35 ∷ ds) a ≡ a
  pub words : (x y : ℕ) (ds : List ℕ) (a : A) → by (36 ∷ x ∷ y ∷ ds) a ≡ a
  pub levels : (c : Change) (line : List ℕ) (a : A) → IsKnownChange c → lines_by c ≡ line ∷ [] → by line a ≡ effect c a
  pub unseen : (a : A) → effect Unseen a ≡ a

-- what is known behind changes of which these are read
abbrev pub applied : {A : Type 0} → (ℕ → Bool) → (Change → A → A) → A → List Timed → A
applied wanted effect a [] = a
applied wanted effect a (c ∷ changes) = applied wanted effect (cond (wanted c.at) (effect c.change a) a) changes

pub applied-append : {A : Type 0} (wanted : ℕ → Bool) (effect : Change → A → A) (a : A) (xs ys : List Timed) → applied wanted effect a (xs ++ ys) ≡ applied wanted effect (applied wanted effect a xs) ys
applied-append wanted effect a [] ys = refl
applied-append wanted effect a (x ∷ xs) ys = applied-append wanted effect (cond (wanted x.at) (effect x.change a) a) xs ys

texts-none : (length before : ℕ) → texts length before [] ≡ []
unfolding texts
texts-none length before = refl

texts-cons : (length before : ℕ) (c : Timed) (changes : List Timed) → texts length before (c ∷ changes) ≡ (stamp length before c.at ++ change_text c.change) ++ texts length c.at changes
unfolding texts
texts-cons length before c changes = refl

module _ {A : Type 0} (wanted : Option ℕ → Bool) (by : List ℕ → A → A) (effect : Change → A → A) (is : Reads by effect) (m : ℕ) (few : m ≤ 2000000000000) where
  abbrev pub reads : ℕ → A → List ℕ → A
  reads at a text = read_if wanted by (Some (m * at)) a (text_lines text)

  stamp_line : (at : ℕ) (more : List ℕ) → at < 2 ^ 64 → text_lines ((codes "#" ++ decimal (m * at) ++ codes "\n") ++ more) ≡ (35 ∷ decimal (m * at)) ∷ text_lines more
  stamp_line at more early =
      let product : at * m ≤ at * 2000000000000 = mul-le-mul_left at few in
      let w = plain-word (decimal (m * at)) (word-decimal (m * at) (omega (arith, product, early))) in
      ap text_lines (append_assoc (35 ∷ decimal (m * at)) (10 ∷ []) more) ∙ plain_line (35 ∷ decimal (m * at)) more (omega arith, w)

  stamp_read : (before at : ℕ) (a : A) (more : List ℕ) → at < 2 ^ 64 → reads before a (stamp m before at ++ more) ≡ reads at a more
  stamp_read before at a more early = by_same (eqb at before) refl
    where
      kept : (b : Bool) → cond b (by (35 ∷ decimal (m * at)) a) a ≡ a
      kept true = is.stamps (decimal (m * at)) a
      kept false = refl

      by_same : (b : Bool) → eqb at before ≡ b → reads before a (cond b [] (codes "#" ++ decimal (m * at) ++ codes "\n") ++ more) ≡ reads at a more
      by_same true same = ap (λ t. reads t a more) (sym (eqb-true at before same))
      by_same false other =
          let product : at * m ≤ at * 2000000000000 = mul-le-mul_left at few in
          let value = value-decimal (m * at) (omega (arith, product, early)) in
          ap (read_if wanted by (Some (m * before)) a) (stamp_line at more early)
          ∙ ap (λ v. read_if wanted by (Some (decimal_value (decimal (m * at)))) v (text_lines more)) (kept (wanted (Some (decimal_value (decimal (m * at))))))
          ∙ ap (λ n. read_if wanted by (Some n) a (text_lines more)) value

  -- a line of a change is no time
  no_time : (c : Change) (line : List ℕ) (t : Option ℕ) → lines_by c ≡ line ∷ [] → time_by t line ≡ t
  no_time (Moves signal Low) line t there = ap (time_by t) (let same : level_digit Low ∷ code_of (Wire signal) ∷ [] ≡ line = cc in sym same)
  no_time (Moves signal High) line t there = ap (time_by t) (let same : level_digit High ∷ code_of (Wire signal) ∷ [] ≡ line = cc in sym same)
  no_time (Takes channel value) line t there = ap (time_by t) (let same : value_text channel value ≡ line = cc in sym same)
  no_time (Happens v) line t there = ap (time_by t) (let same : 49 ∷ code_of v ∷ [] ≡ line = cc in sym same)
  no_time Unseen line t there = absurd cc

  line_read : (at : ℕ) (c : Change) (line : List ℕ) (a : A) (lines : List (List ℕ)) → IsKnownChange c → lines_by c ≡ line ∷ [] →
      read_if wanted by (Some (m * at)) a (line ∷ lines) ≡ read_if wanted by (Some (m * at)) (cond (wanted (Some (m * at))) (effect c a) a) lines
  line_read at c line a lines known there =
      (λ i. read_if wanted by (no_time c line (Some (m * at)) there i) (cond (wanted (no_time c line (Some (m * at)) there i)) (is.levels c line a known there i) a) lines)

  none_read : (b : Bool) (a : A) → a ≡ cond b (effect Unseen a) a
  none_read true a = sym (is.unseen a)
  none_read false a = refl

  pub change_read : (at : ℕ) (c : Change) (a : A) (more : List ℕ) → IsKnownChange c → reads at a (change_text c ++ more) ≡ reads at (cond (wanted (Some (m * at))) (effect c a) a) more
  change_read at (Moves signal level) a more known =
      ap (read_if wanted by (Some (m * at)) a) (change_lines (Moves signal level) more known) ∙ line_read at (Moves signal level) (level_digit level ∷ code_of (Wire signal) ∷ []) a (text_lines more) known refl
  change_read at (Takes channel value) a more known =
      ap (read_if wanted by (Some (m * at)) a) (change_lines (Takes channel value) more known) ∙ line_read at (Takes channel value) (value_text channel value) a (text_lines more) known refl
  change_read at (Happens v) a more known =
      ap (read_if wanted by (Some (m * at)) a) (change_lines (Happens v) more known) ∙ line_read at (Happens v) (49 ∷ code_of v ∷ []) a (text_lines more) known refl
  change_read at Unseen a more known = ap (λ v. reads at v more) (none_read (wanted (Some (m * at))) a)

  pub changes_read : (before : ℕ) (changes : List Timed) (a : A) → AreKnown changes → reads before a (texts m before changes) ≡ applied (λ at. wanted (Some (m * at))) effect a changes
  changes_read before [] a known = ap (reads before a) (texts-none m before) ∙ ap (read_if wanted by (Some (m * before)) a) no_lines
  changes_read before (c ∷ changes) a known =
      ap (reads before a) (texts-cons m before c changes ∙ append_assoc (stamp m before c.at) (change_text c.change) (texts m c.at changes))
      ∙ stamp_read before c.at a (change_text c.change ++ texts m c.at changes) known.0
      ∙ change_read c.at c.change a (texts m c.at changes) known.1
      ∙ changes_read c.at changes (cond (wanted (Some (m * c.at))) (effect c.change a) a) known.2
