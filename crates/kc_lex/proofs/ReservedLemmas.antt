-- The index of words has each reserved word that is no instruction, in order, with what it is: tried by computing. So a search
-- in it finds what the lists of words say.
use Rattle.std.proofs.Common.{◌≡◌, ℕ, zero, suc, ◌<◌, Bool, true, false, refl, sym, ap, subst, ◌∙◌, List, [], ◌∷◌, length, get_or, map, Option, Some, None, arith}
use Rattle.std.specs.Prelude.{codes, not, ◌&&◌, ◌||◌}
use Rattle.std.specs.Ordering.{is_lt}
use Rattle.std.specs.List.{list_all, list_any, HoldsAt}
use Rattle.std.specs.declared.cmp.Ordering.TheVariants.{Equal}
use Rattle.std.specs.Str.{bytes_eq}
use Rattle.std.proofs.lemmas.Slice.Eq.{bytes_eq-Decides}
use Rattle.kc_lex.specs.declared.reserved.Word.{Word}
use Rattle.kc_lex.specs.Chars.{is_short_word}
use Rattle.kc_lex.specs.Words.{is_operator_word, is_generic_conditional, generic_operands_of, data_directive, module_directive, macro_directive, directive_of, is_stack}
use Rattle.kc_lex.specs.Reserved.{word_list}
use Rattle.kc_lex.specs.Reserved as reserved
use Rattle.kc_lex.proofs.SearchLemmas.{order, equal_text, ascends, IsParted, none_has, none_such}

abbrev pub Entry : Type 0
Entry = List ℕ × Word

abbrev pub name : Entry → List ℕ
name entry = entry.0

-- what the lists of words say of a word is what was found
pub record Says (word : List ℕ) (found : Option Word) : Type 0 where
  pub operator : is_operator_word word ≡ reserved.is_operator found
  pub condition : is_generic_conditional word ≡ reserved.is_condition found
  pub branch : generic_operands_of word ≡ reserved.operands_in found
  pub directive : directive_of word ≡ reserved.directive_in found
  pub stack : is_stack word ≡ reserved.is_stack found

abbrev AllSay : List Entry → Type 0
AllSay [] = Unit {0}
AllSay (e ∷ es) = Says (name e) (Some e.1) × AllSay es

in_order : ascends name word_list ≡ true
in_order = refl

all_say : AllSay word_list
unfolding generic_operands_of directive_of
all_say = grind arith

-- ---- a word that it does not have

abbrev is_listed : List ℕ → Bool
is_listed word = list_any (λ e. bytes_eq (name e) word) word_list

absent_by : (v word : List ℕ) (t : Bool) → bytes_eq word v ≡ t → is_listed v ≡ true → is_listed word ≡ false → bytes_eq word v ≡ false
absent_by v word false e there h = e
absent_by v word true e there h =
    let same : is_listed word ≡ true = subst (λ (w : List ℕ). is_listed w ≡ true) (sym ((bytes_eq-Decides word v).0 e)) there in
    absurd (cc (same, h))

absent : (v word : List ℕ) → is_listed v ≡ true → is_listed word ≡ false → bytes_eq word v ≡ false
absent v word there h = absent_by v word (bytes_eq word v) refl there h

no_operator : (word : List ℕ) → is_listed word ≡ false → is_operator_word word ≡ false
no_operator word h = rw (absent (codes "LOW") word refl h, absent (codes "HIGH") word refl h, absent (codes "MOD") word refl h, absent (codes "SHL") word refl h, absent (codes "SHR") word refl h, absent (codes "EQ") word refl h, absent (codes "NE") word refl h, absent (codes "LT") word refl h, absent (codes "LE") word refl h, absent (codes "GT") word refl h, absent (codes "GE") word refl h, absent (codes "NOT") word refl h, absent (codes "AND") word refl h, absent (codes "OR") word refl h, absent (codes "XOR") word refl h) refl

no_condition : (word : List ℕ) → is_listed word ≡ false → is_generic_conditional word ≡ false
no_condition word h = rw (absent (codes "BE") word refl h, absent (codes "BNE") word refl h, absent (codes "BH") word refl h, absent (codes "BNH") word refl h, absent (codes "BGT") word refl h, absent (codes "BLE") word refl h, absent (codes "BGE") word refl h, absent (codes "BLT") word refl h, absent (codes "BC") word refl h, absent (codes "BNC") word refl h, absent (codes "BV") word refl h, absent (codes "BNV") word refl h, absent (codes "BVT") word refl h, absent (codes "BNVT") word refl h, absent (codes "BST") word refl h, absent (codes "BNST") word refl h) refl

no_module : (word : List ℕ) → is_listed word ≡ false → module_directive word ≡ None
no_module word h = rw (absent (codes "MODULE") word refl h, absent (codes "CSEG") word refl h, absent (codes "DSEG") word refl h, absent (codes "RSEG") word refl h, absent (codes "SSEG") word refl h, absent (codes "PUBLIC") word refl h, absent (codes "EXTRN") word refl h, absent (codes "EQU") word refl h, absent (codes "SET") word refl h, absent (codes "END") word refl h) refl

no_data : (word : List ℕ) → is_listed word ≡ false → data_directive word ≡ None
no_data word h = rw (absent (codes "DCB") word refl h, absent (codes "DCW") word refl h, absent (codes "DCL") word refl h, absent (codes "DSB") word refl h, absent (codes "DSW") word refl h, absent (codes "DSL") word refl h, absent (codes "ORG") word refl h, absent (codes "EVEN") word refl h) refl

no_macro : (word : List ℕ) → is_listed word ≡ false → macro_directive word ≡ None
no_macro word h = rw (absent (codes "IF") word refl h, absent (codes "ELSE") word refl h, absent (codes "ENDIF") word refl h, absent (codes "MACRO") word refl h, absent (codes "LOCAL") word refl h, absent (codes "EXITM") word refl h, absent (codes "ENDM") word refl h, absent (codes "REPT") word refl h, absent (codes "IRP") word refl h) refl

no_branch : (word : List ℕ) → is_listed word ≡ false → generic_operands_of word ≡ None
unfolding generic_operands_of
no_branch word h = rw (absent (codes "BE") word refl h, absent (codes "BNE") word refl h, absent (codes "BH") word refl h, absent (codes "BNH") word refl h, absent (codes "BGT") word refl h, absent (codes "BLE") word refl h, absent (codes "BGE") word refl h, absent (codes "BLT") word refl h, absent (codes "BC") word refl h, absent (codes "BNC") word refl h, absent (codes "BV") word refl h, absent (codes "BNV") word refl h, absent (codes "BVT") word refl h, absent (codes "BNVT") word refl h, absent (codes "BST") word refl h, absent (codes "BNST") word refl h, absent (codes "CALL") word refl h, absent (codes "BBC") word refl h, absent (codes "BBS") word refl h) refl

no_directive : (word : List ℕ) → is_listed word ≡ false → directive_of word ≡ None
unfolding directive_of
no_directive word h = rw (no_module word h, no_data word h, no_macro word h) refl

says_none : (word : List ℕ) → is_listed word ≡ false → Says word None
says_none word h = record { operator = no_operator word h; condition = no_condition word h; branch = no_branch word h; directive = no_directive word h; stack = absent (codes "STACK") word refl h }

all_short : list_all (λ e. is_short_word (name e)) word_list ≡ true
all_short = refl

pub says_unlike : (word : List ℕ) → is_short_word word ≡ false → Says word None
says_unlike word h = says_none word (none_such is_short_word name word_list word all_short h)

-- ---- what a search finds in a list of entries that stand for those of the index

module _ {X : Type 0} where
  ascends_map : (f : X → Entry) (es : List X) → ascends (λ e. name (f e)) es ≡ ascends name (map f es)
  ascends_map f [] = refl
  ascends_map f (a ∷ []) = refl
  ascends_map f (a ∷ b ∷ rest) = ap (λ t. not (is_lt (order (name (f b)) (name (f a)))) && t) (ascends_map f (b ∷ rest))

  any_map : (f : X → Entry) (es : List X) (word : List ℕ) → list_any (λ e. bytes_eq (name (f e)) word) es ≡ list_any (λ e. bytes_eq (name e) word) (map f es)
  any_map f [] word = refl
  any_map f (e ∷ es) word = ap (λ t. bytes_eq (name (f e)) word || t) (any_map f es word)

  say_at : (f : X → Entry) (es : List X) (k : ℕ) (d : X) → k < length es → AllSay (map f es) → Says (name (f (get_or es k d))) (Some (f (get_or es k d)).1)
  say_at f [] k d l h = absurd (omega arith)
  say_at f (e ∷ es) zero d l h = h.0
  say_at f (e ∷ es) (suc k) d l h = say_at f es k d (omega arith) h.1

  pub found_there : (f : X → Entry) (es : List X) → map f es ≡ word_list → (word : List ℕ) (at : ℕ) (d : X) → at < length es →
      HoldsAt (λ e. order (name (f e)) word ≡ Equal) es at → Says word (Some (f (get_or es at d)).1)
  found_there f es same word at d l h =
      subst (λ (w : List ℕ). Says w (Some (f (get_or es at d)).1)) (equal_text (name (f (get_or es at d))) word (h d))
      (say_at f es at d l (subst (λ (l : List Entry). AllSay l) (sym same) all_say))

  pub found_none : (f : X → Entry) (es : List X) → map f es ≡ word_list → (word : List ℕ) (i : ℕ) → IsParted (λ e. name (f e)) es word i → Says word None
  found_none f es same word i h =
      let sorted : ascends (λ e. name (f e)) es ≡ true = ascends_map f es ∙ (ap (λ l. ascends name l) same ∙ in_order) in
      let none = none_has (λ e. name (f e)) es sorted word i h in
      says_none word (sym (any_map f es word ∙ ap (λ l. list_any (λ (e : Entry). bytes_eq (name e) word) l) same) ∙ none)
