-- Which part of an unlinked module a piece of its module is, and which statements stand in it.
use Rattle.std.proofs.Common.{◌≡◌, ℕ, zero, suc, ◌+◌, ◌-◌, ◌<◌, ◌≤◌, Bool, true, false, ◌&&◌, ◌==◌, cond, List, [], ◌∷◌, ◌++◌, map, length, refl, sym, ap, ◌∙◌, arith}
use Rattle.std.specs.Prelude.{Option, Some, None, nat_lt, if◌then◌else◌, is_some, slice_get}
use Rattle.std.specs.List.{list_all, prefix_len}
use Rattle.std.proofs.lemmas.Bool.{and_parts, eqb-true}
use Rattle.std.proofs.lemmas.Bool.Decides.{nat_tests}
use Rattle.kc_obj_module.specs.declared.parts.SegKind.{SegKind}
use Rattle.kc_obj_module.specs.declared.parts.SegKind.TheVariants.{Reg, Code, Ram}
use Rattle.kc_obj_module.specs.declared.parts.Segment.{Segment}
use Rattle.kc_obj_module.specs.Pieces.{kind_number, is_relocatable}
use Rattle.kc_asm_encode.specs.declared.relocatable_byte.RelocatableByte.{RelocatableByte}
use Rattle.kc_asm_section.specs.Section.{Section, placed_byte_at, relocatable_byte_at}
use Rattle.kc_asm_section.specs.declared.kept.Kept.{Kept}
use Rattle.kc_asm_section.specs.Order.{kept_if, stack_section, stack_pieces, pieces_of, segment_of}
use Rattle.kc_asm_unlinked_laws.proofs.Lists.{no_element, same_element}
use Rattle.kc_asm_unlinked_laws.proofs.Going.{Head, head_of, is_absolute_head, AreHeads}
use Rattle.kc_asm_list.specs.RelocatableBytes.{number_of}

zero_not_suc : (k : ℕ) → (0 == suc k) ≡ false
zero_not_suc k = grind (arith, nat_tests)

suc_not_zero : (k : ℕ) → (suc k == 0) ≡ false
suc_not_zero k = grind (arith, nat_tests)

pub suc_alike : (j k : ℕ) → (suc j == suc k) ≡ (j == k)
suc_alike j k = grind (arith, nat_tests)

-- the number in a module of the piece of a statement
abbrev pub number_in : ℕ → SegKind → List Segment → ℕ
number_in piece kind segments = if nat_lt piece 3 then number_of kind segments else prefix_len (λ g. is_relocatable g.at) segments + (piece - 3)

-- a relocatable piece has the number of its kind
abbrev pub IsOwnKind : ℕ → SegKind → Type 0
IsOwnKind piece kind = piece < 3 → kind_number kind ≡ piece

number_behind : (t : Section) (segments : List Segment) (piece : ℕ) (kind : SegKind) → t.at ≡ None
    → number_in piece kind (segment_of t ∷ segments) ≡ (if nat_lt piece 3 && (kind_number t.kind == kind_number kind) then 0 else suc (number_in piece kind segments))
unfolding number_of
number_behind t segments piece kind none = by (nat_lt piece 3) t.at none
  where
    by : (b : Bool) (at : Option ℕ) → at ≡ None
        → (if b then (if is_relocatable at && (kind_number t.kind == kind_number kind) then 0 else suc (number_of kind segments)) else (cond (is_relocatable at) (1 + prefix_len (λ g. is_relocatable g.at) segments) 0) + (piece - 3))
        ≡ (if b && (kind_number t.kind == kind_number kind) then 0 else suc (if b then number_of kind segments else prefix_len (λ g. is_relocatable g.at) segments + (piece - 3)))
    by true None e = refl
    by false None e = omega arith
    by b (Some a) e = absurd (cc e)

module _ (parts : List Section) where
  -- a piece with relocatable bytes is a part from one on, and the statements of that part alone stand in it
  pub record IsPartOf (from : ℕ) (ts : List Section) (at : ℕ) (t : Section) : Type 0 where
    pub part : ℕ
    pub later : from ≤ part
    pub is : slice_get parts part ≡ Some t
    pub alone : (piece : ℕ) (kind : SegKind) → IsOwnKind piece kind → (number_in piece kind (map segment_of ts) == at) ≡ (piece == part)

  abbrev pub AreParts : ℕ → List Section → Type 0
  AreParts from ts = (at : ℕ) (t : Section) (o : ℕ) (x : RelocatableByte) → slice_get ts at ≡ Some t → relocatable_byte_at t o ≡ Some x → IsPartOf from ts at t

  sooner : (from other : ℕ) (ts : List Section) → other ≤ from → AreParts from ts → AreParts other ts
  sooner from other ts le h at t o x e f =
      let r = h at t o x e f in
      record { part = r.part; later = omega (arith, le, r.later); is = r.is; alone = r.alone }

  -- a relocatable one in front
  in_front : (n : ℕ) (p : Section) (ts : List Section) → n < 3 → p.at ≡ None → kind_number p.kind ≡ n → slice_get parts n ≡ Some p → AreParts (suc n) ts → AreParts n (p ∷ ts)
  in_front n p ts low none kind_is part h = go
    where
      key : (piece : ℕ) (kind : SegKind) → IsOwnKind piece kind → (nat_lt piece 3 && (kind_number p.kind == kind_number kind)) ≡ (piece == n)
      key piece kind own = by (nat_lt piece 3) refl
        where
          by : (b : Bool) → nat_lt piece 3 ≡ b → (b && (kind_number p.kind == kind_number kind)) ≡ (piece == n)
          by true is =
              let below : piece < 3 = grind (arith, nat_tests, is) in
              let number : kind_number kind ≡ piece = own below in
              rw (kind_is, number) (grind (arith, nat_tests))
          by false is =
              let above : 3 ≤ piece = grind (arith, nat_tests, is) in
              grind (arith, nat_tests, above, low)

      first : (b : Bool) (k : ℕ) → ((if b then 0 else suc k) == 0) ≡ b
      first true k = refl
      first false k = suc_not_zero k

      other : (b : Bool) (k at : ℕ) (c : Bool) → (k == at) ≡ c → (b ≡ true → c ≡ false) → ((if b then 0 else suc k) == suc at) ≡ c
      other true k at c e f = zero_not_suc at ∙ sym (f refl)
      other false k at c e f = suc_alike k at ∙ e

      go : AreParts n (p ∷ ts)
      go zero t o x e f = record {
        part = n;
        later = omega arith;
        is = part ∙ e;
        alone = λ piece kind own.
            ap (λ (k : ℕ). k == 0) (number_behind p (map segment_of ts) piece kind none)
            ∙ ap (λ (b : Bool). (if b then 0 else suc (number_in piece kind (map segment_of ts))) == 0) (key piece kind own)
            ∙ first (piece == n) (number_in piece kind (map segment_of ts));
      }
      go (suc at) t o x e f =
          let r = h at t o x e f in
          record {
            part = r.part;
            later = omega (arith, r.later);
            is = r.is;
            alone = λ piece kind own.
                let apart : (piece == n) ≡ true → (piece == r.part) ≡ false = λ is. (let same : piece ≡ n = eqb-true piece n is in let more : suc n ≤ r.part = r.later in grind (arith, nat_tests, same, more)) in
                ap (λ (k : ℕ). k == suc at) (number_behind p (map segment_of ts) piece kind none)
                ∙ ap (λ (b : Bool). (if b then 0 else suc (number_in piece kind (map segment_of ts))) == suc at) (key piece kind own)
                ∙ other (piece == n) (number_in piece kind (map segment_of ts)) at (piece == r.part) (r.alone piece kind own) apart;
          }

  maybe_in_front : (b : Bool) (n : ℕ) (p : Section) (ts : List Section) → n < 3 → p.at ≡ None → kind_number p.kind ≡ n → slice_get parts n ≡ Some p → AreParts (suc n) ts → AreParts n (kept_if b (Some p) ++ ts)
  maybe_in_front true n p ts low none kind_is part h = in_front n p ts low none kind_is part h
  maybe_in_front false n p ts low none kind_is part h = sooner (suc n) n ts (omega arith) h

  -- no statement stands in the stack
  behind_stack : (bytes : ℕ) (ts : List Section) → AreParts 3 ts → AreParts 3 (stack_section bytes ∷ ts)
  unfolding placed_byte_at
  behind_stack bytes ts h zero t o x e f =
      let same : stack_section bytes ≡ t = same_element (stack_section bytes) t e in
      absurd (no_element x (ap (λ (u : Section). relocatable_byte_at u o) same ∙ f))
  behind_stack bytes ts h (suc at) t o x e f =
      let r = h at t o x e f in
      record {
        part = r.part;
        later = r.later;
        is = r.is;
        alone = λ piece kind own.
            ap (λ (k : ℕ). k == suc at) (number_behind (stack_section bytes) (map segment_of ts) piece kind refl)
            ∙ ap (λ (b : Bool). (if b then 0 else suc (number_in piece kind (map segment_of ts))) == suc at) (key piece kind own)
            ∙ suc_alike (number_in piece kind (map segment_of ts)) at ∙ r.alone piece kind own;
      }
    where
      key : (piece : ℕ) (kind : SegKind) → IsOwnKind piece kind → (nat_lt piece 3 && (3 == kind_number kind)) ≡ false
      key piece kind own = by (nat_lt piece 3) refl
        where
          by : (b : Bool) → nat_lt piece 3 ≡ b → (b && (3 == kind_number kind)) ≡ false
          by true is =
              let below : piece < 3 = grind (arith, nat_tests, is) in
              let number : kind_number kind ≡ piece = own below in
              rw number (grind (arith, nat_tests, below))
          by false is = refl

  behind_stacks : (bytes : ℕ) (ts : List Section) → AreParts 3 ts → AreParts 3 (stack_pieces bytes ++ ts)
  behind_stacks bytes ts h = by (bytes == 0)
    where
      by : (b : Bool) → AreParts 3 ((if b then [] else stack_section bytes ∷ []) ++ ts)
      by true = h
      by false = behind_stack bytes ts h

-- ---- absolute pieces

all_absolute : (ts : List Section) (kind : SegKind) → list_all is_absolute_head (map head_of ts) ≡ true
    → (number_of kind (map segment_of ts) ≡ length ts) × (prefix_len (λ g. is_relocatable g.at) (map segment_of ts) ≡ 0)
unfolding number_of
all_absolute [] kind h = (refl, refl)
all_absolute (t ∷ ts) kind h =
    let both = and_parts (is_some t.at) (list_all is_absolute_head (map head_of ts)) h in
    by t.at both.0 (all_absolute ts kind both.1).0
  where
    by : (at : Option ℕ) → is_some at ≡ true → number_of kind (map segment_of ts) ≡ length ts
        → ((if is_relocatable at && (kind_number t.kind == kind_number kind) then 0 else suc (number_of kind (map segment_of ts))) ≡ suc (length ts))
        × ((cond (is_relocatable at) (1 + prefix_len (λ g. is_relocatable g.at) (map segment_of ts)) 0) ≡ 0)
    by None e f = absurd (cc e)
    by (Some a) e f = (ap suc f, refl)

within : (ts : List Section) (at : ℕ) (t : Section) → slice_get ts at ≡ Some t → at < length ts
within [] at t e = absurd (no_element t e)
within (u ∷ ts) zero t e = omega arith
within (u ∷ ts) (suc at) t e = omega (arith, within ts at t e)

absolute_parts : (a b c : Section) (ts : List Section) → list_all is_absolute_head (map head_of ts) ≡ true → AreParts (a ∷ b ∷ c ∷ ts) 3 ts
absolute_parts a b c ts h at t o x e f = record {
  part = suc (suc (suc at));
  later = omega arith;
  is = e;
  alone = λ piece kind own. by piece kind (nat_lt piece 3) refl;
}
  where
    by : (piece : ℕ) (kind : SegKind) (low : Bool) → nat_lt piece 3 ≡ low
        → ((if low then number_of kind (map segment_of ts) else prefix_len (λ g. is_relocatable g.at) (map segment_of ts) + (piece - 3)) == at) ≡ (piece == suc (suc (suc at)))
    by piece kind true is =
        let below : piece < 3 = grind (arith, nat_tests, is) in
        let inside : at < length ts = within ts at t e in
        rw (all_absolute ts kind h).0 (grind (arith, nat_tests, below, inside))
    by piece kind false is =
        let above : 3 ≤ piece = grind (arith, nat_tests, is) in
        rw (all_absolute ts kind h).1 (grind (arith, nat_tests, above))

-- ---- all pieces

other_heads : (h g : Head) (hs gs : List Head) → h ∷ hs ≡ g ∷ gs → (h ≡ g) × (hs ≡ gs)
other_heads h g hs gs e = (cc e, cc e)

no_heads : (g : Head) (gs : List Head) → [] ≡ g ∷ gs → ⊥
no_heads g gs e = cc e

pub pieces_are : (parts : List Section) → AreHeads (map head_of parts) → (kept : Kept) (stack : ℕ) → AreParts parts 0 (pieces_of kept parts stack)
pieces_are [] h kept stack = absurd (no_heads (Reg, None) ((Code, None) ∷ (Ram, None) ∷ h.rest) h.first)
pieces_are (a ∷ []) h kept stack =
    absurd (no_heads (Code, None) ((Ram, None) ∷ h.rest) (other_heads (head_of a) (Reg, None) [] ((Code, None) ∷ (Ram, None) ∷ h.rest) h.first).1)
pieces_are (a ∷ b ∷ []) h kept stack =
    let one = other_heads (head_of a) (Reg, None) (head_of b ∷ []) ((Code, None) ∷ (Ram, None) ∷ h.rest) h.first in
    absurd (no_heads (Ram, None) h.rest (other_heads (head_of b) (Code, None) [] ((Ram, None) ∷ h.rest) one.1).1)
pieces_are (a ∷ b ∷ c ∷ ts) h kept stack =
    let one = other_heads (head_of a) (Reg, None) (head_of b ∷ head_of c ∷ map head_of ts) ((Code, None) ∷ (Ram, None) ∷ h.rest) h.first in
    let two = other_heads (head_of b) (Code, None) (head_of c ∷ map head_of ts) ((Ram, None) ∷ h.rest) one.1 in
    let three = other_heads (head_of c) (Ram, None) (map head_of ts) h.rest two.1 in
    let absolute : list_all is_absolute_head (map head_of ts) ≡ true = ap (list_all is_absolute_head) three.1 ∙ h.absolute in
    let parts = a ∷ b ∷ c ∷ ts in
    maybe_in_front parts kept.registers 0 a _ (omega arith) (ap (λ (k : Head). k.1) one.0) (ap (λ (k : Head). kind_number k.0) one.0) refl
    (maybe_in_front parts kept.code 1 b _ (omega arith) (ap (λ (k : Head). k.1) two.0) (ap (λ (k : Head). kind_number k.0) two.0) refl
    (maybe_in_front parts kept.ram 2 c _ (omega arith) (ap (λ (k : Head). k.1) three.0) (ap (λ (k : Head). kind_number k.0) three.0) refl
    (behind_stacks parts stack ts (absolute_parts a b c ts absolute))))
