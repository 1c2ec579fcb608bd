-- What stands behind each statement of a numbered list: where the pieces end in the layout with all forms and in the one
-- with all branches in their first form, and where the texts have come.
use Rattle.std.proofs.Common.{◌≡◌, ◌≢◌, ℕ, Bool, true, false, ◌+◌, ◌<◌, ◌≤◌, ◌||◌, not, eqb, leb, ◌⊎◌, inl, inr, Option, Some, None, List, [], ◌∷◌, ◌++◌, length, get_or, refl, sym, ◌∙◌, arith}
use Rattle.std.proofs.Math.ListN.{set}
use Rattle.std.proofs.lemmas.Bool.{and_parts}
use Rattle.std.proofs.lemmas.Bool.Decides.{nat_tests, eqb_tells}
use Rattle.std.proofs.lemmas.Grind.{common_steps, get_or-set_at}
use Rattle.std.proofs.lemmas.List.{length-append, get_or-set_other}
use Rattle.std.proofs.Math.ListN.{length-set}
use Rattle.kc_obj_module.specs.Pieces.{kind_number}
use Rattle.kc_asm_symbols.specs.declared.segments.Segment.{Segment}
use Rattle.kc_asm_symbols.specs.Located.{first_segment}
use Rattle.kc_asm_layout.specs.Places.{begun}
use Rattle.kc_asm_layout.specs.Numbered.{may_follow, is_same_piece, is_relocatable}

-- of the piece p of kind k in force, where there are c pieces, which end as `ends` says, and with first forms as `firsts`
-- says; the text of the relocatable code has come `here`, that of the absolute pieces `there`
pub record Stands (p k c : ℕ) (ends firsts : List ℕ) (here there : ℕ) : Type 0 where
  pub count : length ends ≡ c
  pub first_count : length firsts ≡ c
  pub many : 3 ≤ c
  pub main : here ≡ get_or ends 1 0
  pub main_code : p ≡ 1 → k ≡ 1
  pub code : k ≡ 1 → p < 3 → p ≡ 1
  pub last : 3 ≤ p → p + 1 ≡ c
  pub absolute : 3 ≤ p → there ≡ get_or ends p 0
  pub still : 3 ≤ p → k ≢ 1 → get_or firsts p 0 ≡ get_or ends p 0

abbrev pub StandsIn : Segment → List ℕ → List ℕ → ℕ → ℕ → Type 0
StandsIn g ends firsts main absolute = Stands g.piece (kind_number g.kind) g.count ends firsts main absolute

-- ---- what may follow

-- of a segment with the piece q of the kind j, behind one with the piece p of the kind k: the same, or relocatable
pub record Keeps (p k q j : ℕ) : Type 0 where
  pub same : 3 ≤ q → (q ≡ p) × (j ≡ k)
  pub main_code : (p ≡ 1 → k ≡ 1) → q ≡ 1 → j ≡ 1
  pub code : (k ≡ 1 → p < 3 → p ≡ 1) → j ≡ 1 → q < 3 → q ≡ 1

relocatable : (q j p k : ℕ) → (not (leb 3 q)) ≡ true → q ≡ j → Keeps p k q j
relocatable q j p k r e =
    let below : q < 3 = grind (arith, nat_tests) in
    record { same = λ h. absurd (omega arith); main_code = λ m h. omega arith; code = λ m h i. omega arith }

same : (q j p k : ℕ) → q ≡ p → j ≡ k → Keeps p k q j
same q j p k e d = record { same = λ h. (e, d); main_code = λ m h. d ∙ m (sym e ∙ h); code = λ m h i. e ∙ m (sym d ∙ h) (omega arith) }

either : (a b : Bool) → (a || b) ≡ true → (a ≡ true) ⊎ (b ≡ true)
either true b h = inl refl
either false b h = inr h

eqb_same : (a b : ℕ) → eqb a b ≡ true → a ≡ b
eqb_same a b h = grind (arith, nat_tests)

kept : (g h : Segment) → (is_same_piece g h || is_relocatable h) ≡ true → Keeps g.piece (kind_number g.kind) h.piece (kind_number h.kind)
kept g h e = elim (either (is_same_piece g h) (is_relocatable h) e) [
  | inl s ↦
      let both = and_parts (eqb g.piece h.piece) (eqb (kind_number g.kind) (kind_number h.kind)) s in
      same h.piece (kind_number h.kind) g.piece (kind_number g.kind) (sym (eqb_same g.piece h.piece both.0)) (sym (eqb_same (kind_number g.kind) (kind_number h.kind) both.1))
  | inr r ↦
      let both = and_parts (not (leb 3 h.piece)) (eqb h.piece (kind_number h.kind)) r in
      relocatable h.piece (kind_number h.kind) g.piece (kind_number g.kind) both.0 (eqb_same h.piece (kind_number h.kind) both.1)
]

-- ---- behind a statement at whose end its piece ends at v, and with first forms at w

-- what is known of the texts behind it
pub record Passes (p k v w here next_here next_there : ℕ) : Type 0 where
  pub main : p ≡ 1 → next_here ≡ v
  pub other_main : p ≢ 1 → next_here ≡ here
  pub absolute : 3 ≤ p → next_there ≡ v
  pub still : 3 ≤ p → k ≢ 1 → w ≡ v

one : (ends : List ℕ) (p v here next_here : ℕ) → here ≡ get_or ends 1 0 → 3 ≤ length ends → (p ≡ 1 → next_here ≡ v) → (p ≢ 1 → next_here ≡ here)
    → next_here ≡ get_or (set ends p v) 1 0
one ends p v here next_here m many is other = elim (eqb_tells p 1) [
  | inl e ↦ is e.1 ∙ sym (get_or-set_at ends p 1 v 0 (sym e.1) (omega arith))
  | inr d ↦ other d.1 ∙ m ∙ sym (get_or-set_other ends p 1 v 0 (λ e. d.1 (sym e)))
]

pub goes_on : (p k c q j v w here there next_here next_there : ℕ) (ends firsts : List ℕ) → Stands p k c ends firsts here there
    → Passes p k v w here next_here next_there → Keeps p k q j
    → Stands q j c (set ends p v) (set firsts p w) next_here next_there
goes_on p k c q j v w here there next_here next_there ends firsts s t u = record {
  count = length-set ends p v ∙ s.count;
  first_count = length-set firsts p w ∙ s.first_count;
  many = s.many;
  main = one ends p v here next_here s.main (omega (arith, s.count, s.many)) t.main t.other_main;
  main_code = u.main_code s.main_code;
  code = u.code s.code;
  last = λ h. let e = u.same h in omega (arith, s.last (omega arith));
  absolute = λ h. let e = u.same h in t.absolute (omega arith) ∙ sym (get_or-set_at ends p q v 0 e.0 (omega (arith, s.last (omega arith), s.count)));
  still = λ h n. let e = u.same h in
      get_or-set_at firsts p q w 0 e.0 (omega (arith, s.last (omega arith), s.first_count))
      ∙ t.still (omega arith) (λ i. n (e.1 ∙ i))
      ∙ sym (get_or-set_at ends p q v 0 e.0 (omega (arith, s.last (omega arith), s.count)));
}

-- ---- behind one that opens a piece

pushed_last : (ends : List ℕ) (a q : ℕ) → q ≡ length ends → get_or (ends ++ a ∷ []) q 0 ≡ a
pushed_last ends a q e = grind (arith, common_steps)

pushed_other : (ends : List ℕ) (a k : ℕ) → k < length ends → get_or (ends ++ a ∷ []) k 0 ≡ get_or ends k 0
pushed_other ends a k h = grind (arith, common_steps)

pub opens_one : (p k c q j d v w here there next_here next_there address : ℕ) (ends firsts : List ℕ) → Stands p k c ends firsts here there
    → Passes p k v w here next_here next_there → q ≡ c → d ≡ c + 1
    → Stands q j d (set ends p v ++ address ∷ []) (set firsts p w ++ address ∷ []) next_here address
opens_one p k c q j d v w here there next_here next_there address ends firsts s t e n =
    let length_is : length (set ends p v) ≡ c = length-set ends p v ∙ s.count in
    let first_is : length (set firsts p w) ≡ c = length-set firsts p w ∙ s.first_count in
    let many = s.many in
    record {
      count = length-append (set ends p v) (address ∷ []) ∙ omega arith;
      first_count = length-append (set firsts p w) (address ∷ []) ∙ omega arith;
      many = omega arith;
      main = one ends p v here next_here s.main (omega (arith, s.count, s.many)) t.main t.other_main ∙ sym (pushed_other (set ends p v) address 1 (omega arith));
      main_code = λ h. absurd (omega arith);
      code = λ h i. absurd (omega arith);
      last = λ h. omega arith;
      absolute = λ h. sym (pushed_last (set ends p v) address q (omega arith));
      still = λ h i. pushed_last (set firsts p w) address q (omega arith) ∙ sym (pushed_last (set ends p v) address q (omega arith));
    }

-- ---- behind one, whatever it opens

abbrev pub begins : Option ℕ → ℕ → ℕ
begins None there = there
begins (Some address) there = address

abbrev pub Next : Segment → Option ℕ → List ℕ → List ℕ → ℕ → ℕ → Type 0
Next g opens ends firsts here there = (h : Segment) → may_follow g opens h ≡ true → StandsIn h ends firsts here there

count_same : (c d : ℕ) (ends firsts : List ℕ) (q j here there : ℕ) → d ≡ c → Stands q j c ends firsts here there → Stands q j d ends firsts here there
count_same c d ends firsts q j here there e s = rw e s

pub follows : (g : Segment) (opens : Option ℕ) (v w here there next_here next_there : ℕ) (ends firsts : List ℕ) → StandsIn g ends firsts here there
    → Passes g.piece (kind_number g.kind) v w here next_here next_there
    → Next g opens (begun opens (set ends g.piece v)) (begun opens (set firsts g.piece w)) next_here (begins opens next_there)
follows g None v w here there next_here next_there ends firsts s t h e =
    let both = and_parts (is_same_piece g h || is_relocatable h) (eqb h.count g.count) e in
    count_same g.count h.count (set ends g.piece v) (set firsts g.piece w) h.piece (kind_number h.kind) next_here next_there (eqb_same h.count g.count both.1)
    (goes_on g.piece (kind_number g.kind) g.count h.piece (kind_number h.kind) v w here there next_here next_there ends firsts s t (kept g h both.0))
follows g (Some address) v w here there next_here next_there ends firsts s t h e =
    let both = and_parts (eqb h.piece g.count) (eqb h.count (g.count + 1)) e in
    opens_one g.piece (kind_number g.kind) g.count h.piece (kind_number h.kind) h.count v w here there next_here next_there address ends firsts s t
    (eqb_same h.piece g.count both.0) (eqb_same h.count (g.count + 1) both.1)

-- where a module begins
pub begins_well : (absolute : ℕ) → Next first_segment None (0 ∷ 0 ∷ 0 ∷ []) (0 ∷ 0 ∷ 0 ∷ []) 0 absolute
begins_well absolute h e =
    let both = and_parts (is_same_piece first_segment h || is_relocatable h) (eqb h.count 3) e in
    let k = kept first_segment h both.0 in
    let three = eqb_same h.count 3 both.1 in
    record {
      count = sym three;
      first_count = sym three;
      many = omega arith;
      main = refl;
      main_code = k.main_code (λ i. refl);
      code = k.code (λ i j. refl);
      last = λ i. let s = k.same i in absurd (omega arith);
      absolute = λ i. let s = k.same i in absurd (omega arith);
      still = λ i j. let s = k.same i in absurd (omega arith);
    }
