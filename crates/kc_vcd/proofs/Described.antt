-- What a reader knows of a whole dump.
use Rattle.std.proofs.Common.{◌≡◌, ℕ, ◌+◌, ◌*◌, ◌%◌, ◌≤◌, ltb, Bool, true, false, cond, ◌&&◌, ◌⊎◌, inl, inr, Option, Some, None, List, [], ◌∷◌, ◌++◌, codes, map, flat_map, refl, sym, ap, ◌∙◌, append_assoc, mul-zero, arith}
use Rattle.std.specs.Prelude.{slice_index}
use Rattle.std.specs.Str.{bytes_eq}
use Rattle.std.proofs.lemmas.Bool.{and_parts, ltb-true}
use Rattle.kc_base.specs.TextLines.{text_lines}
use Rattle.kc_base.specs.declared.types.Level.{Level}
use Rattle.kc_base.proofs.Words.{word-before, word-after, Plain, plain-word, plain_line}
use Rattle.kc_trace.specs.declared.life.Signal.{Signal}
use Rattle.kc_vcd.specs.declared.change.Change.{Change}
use Rattle.kc_vcd.specs.declared.change.Change.TheVariants.{Moves, Takes, Unseen}
use Rattle.kc_vcd.specs.declared.variable.Variable.{Variable}
use Rattle.kc_vcd.specs.declared.variable.Variable.TheVariants.{Wire, Analog, Entry, Transfer, Undefined, Life}
use Rattle.kc_vcd.specs.Variables.{name_of, code_of}
use Rattle.kc_vcd.specs.Changes.{Timed}
use Rattle.kc_vcd.specs.Dump.{Shown, type_of, declaration, declarations, change_text, start_line, start_lines, head, head_end, prefix, texts}
use Rattle.kc_vcd.specs.Reader.{word, declares, code_in}
use Rattle.kc_vcd.specs.Laws.{IsKnown, AllKnown, Member, IsKnownChange, AreKnown}
use Rattle.kc_vcd.proofs.Known.{code_high, name_same, name_word}
use Rattle.kc_vcd.proofs.Readings.{read_if, Reads, applied, applied-append, plain_both, reads, change_read, changes_read}

-- ---- declarations

-- the line of a declaration
abbrev before_code : Variable → List ℕ
before_code v = codes "$var " ++ type_of v

abbrev from_code : Variable → List ℕ
from_code v = code_of v ∷ 32 ∷ (name_of v ++ codes " $end")

abbrev declared : Variable → List ℕ
declared v = before_code v ++ from_code v

abbrev is_plain : List ℕ → Bool
is_plain [] = true
is_plain (c ∷ cs) = ltb 13 c && is_plain cs

plain_from : (cs : List ℕ) → is_plain cs ≡ true → Plain cs
plain_from [] h = tt
plain_from (c ∷ cs) h = let both = and_parts (ltb 13 c) (is_plain cs) h in (ltb-true 13 c both.0, plain_from cs both.1)

before_plain : (v : Variable) → Plain (before_code v)
before_plain (Wire signal) = plain_from (codes "$var wire 1 ") refl
before_plain (Analog channel) = plain_from (codes "$var wire 10 ") refl
before_plain (Entry number) = plain_from (codes "$var event 1 ") refl
before_plain (Transfer number) = plain_from (codes "$var event 1 ") refl
before_plain Undefined = plain_from (codes "$var event 1 ") refl
before_plain Life = plain_from (codes "$var event 1 ") refl

declared_plain : (v : Variable) → IsKnown v → Plain (declared v)
declared_plain v known =
    plain_both (before_code v) (from_code v) (before_plain v)
    (let high = code_high v in omega (arith, high), (omega arith, plain_both (name_of v) (codes " $end") (plain-word (name_of v) (name_word v known)) (plain_from (codes " $end") refl)))

declaration_is : (pre name more : List ℕ) (c : ℕ) → (pre ++ (c ∷ codes " ") ++ name ++ codes " $end\n") ++ more ≡ (pre ++ (c ∷ 32 ∷ (name ++ codes " $end"))) ++ 10 ∷ more
declaration_is [] name more c = ap (λ (t : List ℕ). c ∷ 32 ∷ t) (by name)
  where
    by : (name : List ℕ) → (name ++ codes " $end\n") ++ more ≡ (name ++ codes " $end") ++ 10 ∷ more
    by [] = refl
    by (n ∷ name) = ap (λ (t : List ℕ). n ∷ t) (by name)
declaration_is (p ∷ pre) name more c = ap (λ (t : List ℕ). p ∷ t) (declaration_is pre name more c)

declaration_line : (v : Variable) (more : List ℕ) → IsKnown v → text_lines (declaration v ++ more) ≡ declared v ∷ text_lines more
declaration_line v more known = ap text_lines (declaration_is (before_code v) (name_of v) more (code_of v)) ∙ plain_line (declared v) more (declared_plain v known)

word_code : (v : Variable) (rest : List ℕ) → word 0 (code_of v ∷ 32 ∷ rest) ≡ code_of v ∷ []
word_code v rest = word-before (code_of v ∷ []) rest (code_high v, tt)

word_named : (v : Variable) → IsKnown v → word 1 (from_code v) ≡ name_of v
word_named v known = ap (word 0) (word-after (code_of v ∷ []) (name_of v ++ codes " $end") (code_high v, tt)) ∙ word-before (name_of v) (codes "$end") (name_word v known)

word_three : (v : Variable) → word 3 (declared v) ≡ code_of v ∷ []
word_three (Wire signal) = word_code (Wire signal) (name_of (Wire signal) ++ codes " $end")
word_three (Analog channel) = word_code (Analog channel) (name_of (Analog channel) ++ codes " $end")
word_three (Entry number) = word_code (Entry number) (name_of (Entry number) ++ codes " $end")
word_three (Transfer number) = word_code (Transfer number) (name_of (Transfer number) ++ codes " $end")
word_three Undefined = word_code Undefined (name_of Undefined ++ codes " $end")
word_three Life = word_code Life (name_of Life ++ codes " $end")

declares_named : (name : List ℕ) (v : Variable) → IsKnown v → declares name (declared v) ≡ bytes_eq (name_of v) name
declares_named name (Wire signal) known = ap (λ w. bytes_eq w name) (word_named (Wire signal) known)
declares_named name (Analog channel) known = ap (λ w. bytes_eq w name) (word_named (Analog channel) known)
declares_named name (Entry number) known = ap (λ w. bytes_eq w name) (word_named (Entry number) known)
declares_named name (Transfer number) known = ap (λ w. bytes_eq w name) (word_named (Transfer number) known)
declares_named name Undefined known = ap (λ w. bytes_eq w name) (word_named Undefined known)
declares_named name Life known = ap (λ w. bytes_eq w name) (word_named Life known)

-- ---- variables that are declared

bytes_same : (cs : List ℕ) → bytes_eq cs cs ≡ true
bytes_same [] = refl
bytes_same (c ∷ cs) = grind (arith, bytes_same cs)

code_cons : (name line : List ℕ) (lines : List (List ℕ)) → code_in name (line ∷ lines) ≡ cond (declares name line) (Some (slice_index (word 3 line) 0)) (code_in name lines)
unfolding code_in
code_cons name line lines = refl

found : (v : Variable) (vs : List Variable) (others : List (List ℕ)) → IsKnown v → AllKnown vs → Member v vs → code_in (name_of v) (map declared vs ++ others) ≡ Some (code_of v)
found v [] others known all there = absurd there
found v (w ∷ ws) others known all there =
    code_cons (name_of v) (declared w) (map declared ws ++ others)
    ∙ (λ i. cond (declares_named (name_of v) w all.0 i) (Some (slice_index (word_three w i) 0)) (code_in (name_of v) (map declared ws ++ others)))
    ∙ by_test (bytes_eq (name_of w) (name_of v)) refl (λ member. found v ws others known all.1 member) there
  where
    by_test : (b : Bool) → bytes_eq (name_of w) (name_of v) ≡ b → (Member v ws → code_in (name_of v) (map declared ws ++ others) ≡ Some (code_of v)) → (w ≡ v) ⊎ Member v ws →
        cond b (Some (code_of w)) (code_in (name_of v) (map declared ws ++ others)) ≡ Some (code_of v)
    by_test true e more there = ap (λ n. Some (33 + (32 + n) % 94)) (name_same w v all.0 known e)
    by_test false e more (inl same) = absurd (let clash : false ≡ true = sym e ∙ ap (λ (u : Variable). bytes_eq (name_of u) (name_of v)) same ∙ bytes_same (name_of v) in cc)
    by_test false e more (inr member) = more member

-- ---- the prefix

abbrev pub start_change : (Signal → Level) → Variable → Change
start_change start (Wire signal) = Moves signal (start signal)
start_change start (Analog channel) = Takes channel 0
start_change start _ = Unseen

start_text : (start : Signal → Level) (v : Variable) → start_line start v ≡ change_text (start_change start v)
start_text start (Wire signal) = refl
start_text start (Analog channel) = refl
start_text start (Entry number) = refl
start_text start (Transfer number) = refl
start_text start Undefined = refl
start_text start Life = refl

start_known : (start : Signal → Level) (v : Variable) → IsKnown v → IsKnownChange (start_change start v)
start_known start (Wire signal) known = known
start_known start (Analog channel) known = (known, omega arith)
start_known start (Entry number) known = tt
start_known start (Transfer number) known = tt
start_known start Undefined known = tt
start_known start Life known = tt

abbrev pub starts : (Signal → Level) → List Variable → List Timed
starts start vs = map (λ v. record { at = 0; change = start_change start v }) vs

declarations_lines : (vs : List Variable) (more : List ℕ) → AllKnown vs → text_lines (flat_map declaration vs ++ more) ≡ map declared vs ++ text_lines more
declarations_lines [] more known = refl
declarations_lines (v ∷ vs) more known =
    ap text_lines (append_assoc (declaration v) (flat_map declaration vs) more)
    ∙ declaration_line v (flat_map declaration vs ++ more) known.0
    ∙ ap (λ (ls : List (List ℕ)). declared v ∷ ls) (declarations_lines vs more known.1)

abbrev head_lines : List (List ℕ)
head_lines = codes "$timescale 1 ps $end" ∷ codes "$scope module board $end" ∷ []

abbrev end_lines : List (List ℕ)
end_lines = codes "$upscope $end" ∷ codes "$enddefinitions $end" ∷ codes "#0" ∷ codes "$dumpvars" ∷ []

head_is : (more : List ℕ) → text_lines (head ++ more) ≡ head_lines ++ text_lines more
unfolding text_lines
head_is more = refl

end_is : (more : List ℕ) → text_lines (head_end ++ more) ≡ end_lines ++ text_lines more
unfolding text_lines
end_is more = refl

ends_is : (more : List ℕ) → text_lines (codes "$end\n" ++ more) ≡ codes "$end" ∷ text_lines more
unfolding text_lines
ends_is more = refl

prefix_parts : (h d e s t more : List ℕ) → ((((h ++ d) ++ e) ++ s) ++ t) ++ more ≡ h ++ (d ++ (e ++ (s ++ (t ++ more))))
prefix_parts h d e s t more = append_assoc (((h ++ d) ++ e) ++ s) t more ∙ append_assoc ((h ++ d) ++ e) s (t ++ more) ∙ append_assoc (h ++ d) e (s ++ (t ++ more)) ∙ append_assoc h d (e ++ (s ++ (t ++ more)))

pub prefix_lines : (shown : Shown) (more : List ℕ) → AllKnown shown.variables →
    text_lines (prefix shown ++ more) ≡ head_lines ++ (map declared shown.variables ++ (end_lines ++ text_lines (flat_map (start_line shown.start) shown.variables ++ (codes "$end\n" ++ more))))
unfolding declarations start_lines
prefix_lines shown more known =
    let s = flat_map (start_line shown.start) shown.variables in
    let rest = s ++ (codes "$end\n" ++ more) in
    ap text_lines (prefix_parts head (flat_map declaration shown.variables) head_end s (codes "$end\n") more)
    ∙ head_is (flat_map declaration shown.variables ++ (head_end ++ rest))
    ∙ ap (λ (ls : List (List ℕ)). head_lines ++ ls) (declarations_lines shown.variables (head_end ++ rest) known ∙ ap (λ (ls : List (List ℕ)). map declared shown.variables ++ ls) (end_is rest))

pub code_found : (shown : Shown) (more : List ℕ) (v : Variable) → IsKnown v → AllKnown shown.variables → Member v shown.variables → code_in (name_of v) (text_lines (prefix shown ++ more)) ≡ Some (code_of v)
unfolding code_in
code_found shown more v known all there =
    ap (code_in (name_of v)) (prefix_lines shown more all)
    ∙ found v shown.variables (end_lines ++ text_lines (flat_map (start_line shown.start) shown.variables ++ (codes "$end\n" ++ more))) known all there

-- ---- the whole

module _ {A : Type 0} (wanted : Option ℕ → Bool) (by : List ℕ → A → A) (effect : Change → A → A) (is : Reads by effect) (none : wanted None ≡ false) (m : ℕ) (few : m ≤ 2000000000000) where
  skipped : (a : A) (x y : ℕ) (ds : List ℕ) (lines : List (List ℕ)) → read_if wanted by None a ((36 ∷ x ∷ y ∷ ds) ∷ lines) ≡ read_if wanted by None a lines
  skipped a x y ds lines = ap (λ b. read_if wanted by None (cond b (by (36 ∷ x ∷ y ∷ ds) a) a) lines) none

  declared_read : (vs : List Variable) (a : A) (lines : List (List ℕ)) → read_if wanted by None a (map declared vs ++ lines) ≡ read_if wanted by None a lines
  declared_read [] a lines = refl
  declared_read (v ∷ vs) a lines = ap (λ b. read_if wanted by None (cond b (by (declared v) a) a) (map declared vs ++ lines)) none ∙ declared_read vs a lines

  same_either : (b : Bool) (a c : A) → c ≡ a → cond b c a ≡ a
  same_either true a c same = same
  same_either false a c same = refl

  ends_read : (a : A) (lines : List (List ℕ)) → read_if wanted by None a (end_lines ++ lines) ≡ read_if wanted by (Some (m * 0)) a lines
  ends_read a lines =
      skipped a 117 112 (codes "scope $end") ((codes "$enddefinitions $end") ∷ codes "#0" ∷ codes "$dumpvars" ∷ lines)
      ∙ skipped a 101 110 (codes "ddefinitions $end") (codes "#0" ∷ codes "$dumpvars" ∷ lines)
      ∙ ap (λ v. read_if wanted by (Some 0) v (codes "$dumpvars" ∷ lines)) (same_either (wanted (Some 0)) a (by (codes "#0") a) (is.stamps (codes "0") a))
      ∙ ap (λ v. read_if wanted by (Some 0) v lines) (same_either (wanted (Some 0)) a (by (codes "$dumpvars") a) (is.words 100 117 (codes "mpvars") a))
      ∙ ap (λ n. read_if wanted by (Some n) a lines) (sym (mul-zero m))

  ending_read : (a : A) (more : List ℕ) → reads wanted by effect is m few 0 a (codes "$end\n" ++ more) ≡ reads wanted by effect is m few 0 a more
  ending_read a more =
      ap (read_if wanted by (Some (m * 0)) a) (ends_is more)
      ∙ ap (λ v. read_if wanted by (Some (m * 0)) v (text_lines more)) (same_either (wanted (Some (m * 0))) a (by (codes "$end") a) (is.words 101 110 (codes "d") a))

  starts_read : (start : Signal → Level) (vs : List Variable) (a : A) (more : List ℕ) → AllKnown vs →
      reads wanted by effect is m few 0 a (flat_map (start_line start) vs ++ more) ≡ reads wanted by effect is m few 0 (applied (λ at. wanted (Some (m * at))) effect a (starts start vs)) more
  starts_read start [] a more known = refl
  starts_read start (v ∷ vs) a more known =
      let rest = flat_map (start_line start) vs ++ more in
      ap (reads wanted by effect is m few 0 a) (append_assoc (start_line start v) (flat_map (start_line start) vs) more ∙ ap (λ (t : List ℕ). t ++ rest) (start_text start v))
      ∙ change_read wanted by effect is m few 0 (start_change start v) a rest (start_known start v known.0)
      ∙ starts_read start vs (cond (wanted (Some (m * 0))) (effect (start_change start v) a) a) more known.1

  pub dump_read : (shown : Shown) (changes : List Timed) (a : A) → AllKnown shown.variables → AreKnown changes →
      read_if wanted by None a (text_lines (prefix shown ++ texts m 0 changes)) ≡ applied (λ at. wanted (Some (m * at))) effect a (starts shown.start shown.variables ++ changes)
  dump_read shown changes a known all =
      let more = texts m 0 changes in
      let lines = text_lines (flat_map (start_line shown.start) shown.variables ++ (codes "$end\n" ++ more)) in
      ap (read_if wanted by None a) (prefix_lines shown more known)
      ∙ skipped a 116 105 (codes "mescale 1 ps $end") (codes "$scope module board $end" ∷ (map declared shown.variables ++ (end_lines ++ lines)))
      ∙ skipped a 115 99 (codes "ope module board $end") (map declared shown.variables ++ (end_lines ++ lines))
      ∙ declared_read shown.variables a (end_lines ++ lines)
      ∙ ends_read a lines
      ∙ starts_read shown.start shown.variables a (codes "$end\n" ++ more) known
      ∙ ending_read (applied (λ at. wanted (Some (m * at))) effect a (starts shown.start shown.variables)) more
      ∙ changes_read wanted by effect is m few 0 changes (applied (λ at. wanted (Some (m * at))) effect a (starts shown.start shown.variables)) all
      ∙ sym (applied-append (λ at. wanted (Some (m * at))) effect a (starts shown.start shown.variables) changes)
