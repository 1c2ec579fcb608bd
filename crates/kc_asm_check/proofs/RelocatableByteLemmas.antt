-- Misfits: of pieces by other numbers, and of places modulo 65536; the least code of a list, one relocatable byte at a time.
use Rattle.std.proofs.Common.{◌≡◌, ℕ, ◌+◌, ◌%◌, ◌<◌, ◌≤◌, Bool, not, ◌&&◌, List, [], ◌∷◌, ◌++◌, length, drop, get_or, refl, sym, ap, ◌∙◌, arith}
use Rattle.std.specs.Prelude.{Option, Some, None, if◌then◌else◌}
use Rattle.std.specs.Option.{option_to_list}
use Rattle.std.proofs.lemmas.List.{drop_all}
use Rattle.kc_expr.specs.declared.values.Value.{Value}
use Rattle.kc_obj_module.specs.Numbers.{is_distance, number, distance, reach, fits}
use Rattle.kc_asm_encode.specs.declared.relocatable_byte.RelocatableByte.{RelocatableByte}
use Rattle.kc_asm_encode.specs.declared.relocatable_byte.RelocatableByte.TheVariants.{Plain, First, Second}
use Rattle.kc_asm_encode.specs.Filling.{address as address_of}
use Rattle.kc_asm_encode.specs.Relocating.{counts, depends, is_piece, misfit, misfit_code, no_bases}
use Rattle.kc_lex.specs.Codes.{lesser_number}
use Rattle.kc_asm_emit.specs.Faults.{least}
use Rattle.kc_asm_emit.proofs.FaultLemmas.{lesser_assoc, lesser_none, least_append, least_option}
use Rattle.kc_asm_check.specs.Codes.{examined, misfits}
use Rattle.kc_asm_check.proofs.NameLemmas.{prefix_of}

-- ---- the number of the piece

pub other_number : (address : Option ℕ) (p q place kind start : ℕ) (v : Value) → is_piece p v.base ≡ is_piece q v.base
    → misfit address p place (First kind start v) ≡ misfit address q place (First kind start v)
unfolding misfit depends
other_number None p q place kind start v same =
    ap (λ (b : Bool). if not (if is_distance kind then not b else counts v.base) && not (fits kind (number kind (place + reach kind) (address_of no_bases v))) then Some (misfit_code kind) else None) same
other_number (Some at) p q place kind start v same = refl

pub no_plain : (address : Option ℕ) (p place byte : ℕ) → misfit address p place (Plain byte) ≡ None
unfolding misfit
no_plain address p place byte = refl

pub no_second : (address : Option ℕ) (p place kind : ℕ) (v : Value) → misfit address p place (Second kind v) ≡ None
unfolding misfit
no_second address p place kind v = refl

-- ---- the place

next_same : (a b r : ℕ) → a % 65536 ≡ b % 65536 → (a + r) % 65536 ≡ (b + r) % 65536
next_same a b r same = omega arith

number_same : (kind a b to : ℕ) → a % 65536 ≡ b % 65536 → number kind a to ≡ number kind b to
unfolding number distance
number_same kind a b to same = rw same refl

misfit_same : (address : Option ℕ) (piece a b : ℕ) (o : RelocatableByte) → a % 65536 ≡ b % 65536 → misfit address piece a o ≡ misfit address piece b o
unfolding misfit
misfit_same address piece a b (Plain byte) same = refl
misfit_same address piece a b (First kind start v) same =
    ap (λ (n : ℕ). if not (depends kind address piece v.base) && not (fits kind n) then Some (misfit_code kind) else None)
    (number_same kind (a + reach kind) (b + reach kind) (address_of no_bases v) (next_same a b (reach kind) same))
misfit_same address piece a b (Second kind v) same = refl

pub misfits_same : (jumps : Bool) (address : Option ℕ) (piece a b : ℕ) (os : List RelocatableByte) → a % 65536 ≡ b % 65536
    → misfits jumps address piece a os ≡ misfits jumps address piece b os
unfolding misfits
misfits_same jumps address piece a b [] same = refl
misfits_same jumps address piece a b (o ∷ os) same =
    ap (λ (c : Option ℕ). option_to_list (examined jumps c) ++ misfits jumps address piece (a + 1) os) (misfit_same address piece a b o same)
    ∙ ap (λ (cs : List ℕ). option_to_list (examined jumps (misfit address piece b o)) ++ cs) (misfits_same jumps address piece (a + 1) (b + 1) os (next_same a b 1 same))

-- ---- one relocatable byte more

pub goes_on : (code c : Option ℕ) (codes : List ℕ) → lesser_number (lesser_number code c) (least codes) ≡ lesser_number code (least (option_to_list c ++ codes))
goes_on code c codes =
    lesser_assoc code c (least codes)
    ∙ ap (lesser_number code) (ap (λ (n : Option ℕ). lesser_number n (least codes)) (sym (least_option c)) ∙ sym (least_append (option_to_list c) codes))

place_same : (n : ℕ) → n % 65536 % 65536 ≡ n % 65536
place_same n = omega arith

one_more : (jumps : Bool) (address : Option ℕ) (piece place : ℕ) (o : RelocatableByte) (os : List RelocatableByte) (code : Option ℕ)
    → lesser_number (lesser_number code (examined jumps (misfit address piece place o))) (least (misfits jumps address piece ((place + 1) % 65536) os))
    ≡ lesser_number code (least (misfits jumps address piece place (o ∷ os)))
unfolding misfits
one_more jumps address piece place o os code =
    ap (λ (cs : List ℕ). lesser_number (lesser_number code (examined jumps (misfit address piece place o))) (least cs)) (misfits_same jumps address piece ((place + 1) % 65536) (place + 1) os (place_same (place + 1)))
    ∙ goes_on code (examined jumps (misfit address piece place o)) (misfits jumps address piece (place + 1) os)

none_left : (jumps : Bool) (address : Option ℕ) (piece place : ℕ) (code : Option ℕ) → lesser_number code (least (misfits jumps address piece place [])) ≡ code
unfolding least misfits
none_left jumps address piece place code = lesser_none code

-- the least code of the relocatable bytes before the i-th, and then that of the i-th too
pub advances : (jumps : Bool) (address : Option ℕ) (piece place : ℕ) (os : List RelocatableByte) (i : ℕ) (none o : RelocatableByte) (code next whole : Option ℕ)
    → i < length os → o ≡ get_or os i none → next ≡ lesser_number code (examined jumps (misfit address piece place o))
    → lesser_number code (least (misfits jumps address piece place (drop i os))) ≡ whole
    → lesser_number next (least (misfits jumps address piece ((place + 1) % 65536) (drop (i + 1) os))) ≡ whole
advances jumps address piece place os i none o code next whole small is e so_far =
    ap (λ n. lesser_number n (least (misfits jumps address piece ((place + 1) % 65536) (drop (i + 1) os)))) e
    ∙ one_more jumps address piece place o (drop (i + 1) os) code
    ∙ sym (ap (λ ys. lesser_number code (least (misfits jumps address piece place ys))) (prefix_of os i none o small is))
    ∙ so_far

pub ends : (jumps : Bool) (address : Option ℕ) (piece place : ℕ) (os : List RelocatableByte) (i : ℕ) (code whole : Option ℕ)
    → length os ≤ i → lesser_number code (least (misfits jumps address piece place (drop i os))) ≡ whole → code ≡ whole
ends jumps address piece place os i code whole past so_far =
    sym (none_left jumps address piece place code)
    ∙ sym (ap (λ ys. lesser_number code (least (misfits jumps address piece place ys))) (drop_all i os past))
    ∙ so_far

pub modulo : (jumps : Bool) (address : Option ℕ) (piece place : ℕ) (os : List RelocatableByte) → misfits jumps address piece (place % 65536) os ≡ misfits jumps address piece place os
modulo jumps address piece place os = misfits_same jumps address piece (place % 65536) place os (place_same place)
