-- Of a statement's codes only those of its expressions and of public names are about a name.
use Rattle.std.proofs.Common.{◌≡◌, ℕ, ◌+◌, ◌%◌, Bool, true, false, ◌&&◌, ◌||◌, cond, List, [], ◌∷◌, ◌++◌, Option, Some, None, refl}
use Rattle.std.specs.Prelude.{not, ◌==◌, nat_lt, nat_le, is_some, unwrap_or, slice_get}
use Rattle.std.specs.List.{list_all}
use Rattle.std.specs.Option.{option_to_list}
use Rattle.std.proofs.lemmas.Bool.{and_from}
use Rattle.kc_lex.specs.declared.words.Operands.{Operands}
use Rattle.kc_lex.specs.declared.words.Operands.TheVariants as operands
use Rattle.kc_lex.specs.Words.{operands_for}
use Rattle.kc_obj_module.specs.declared.parts.SegKind.{SegKind}
use Rattle.kc_expr.specs.declared.values.Value.{Value}
use Rattle.kc_source_statement.specs.Trees.{ActionTree}
use Rattle.kc_source_statement.specs.Trees as trees
use Rattle.kc_asm_symbols.specs.declared.segments.Segment.{Segment}
use Rattle.kc_asm_encode.specs.declared.relocatable_byte.RelocatableByte.{RelocatableByte}
use Rattle.kc_asm_encode.specs.declared.relocatable_byte.RelocatableByte.TheVariants.{Plain as PlainRelocatableByte, First, Second}
use Rattle.kc_asm_encode.specs.Relocating.{misfit, misfit_code}
use Rattle.kc_asm_encode.specs.declared.argument.Argument.{Argument}
use Rattle.kc_asm_encode.specs.declared.argument.Argument.TheVariants.{Plain, Immediate, Indirect, Increment, Indexed}
use Rattle.kc_expr.specs.Meaning.{is_fixed}
use Rattle.kc_asm_encode.specs.Values.{is_external, argument}
use Rattle.kc_asm_encode.specs.Faults.{number_fault, pointer_fault, source_fault, count_fault, bit_fault, operands_fault, fault_of}
use Rattle.kc_asm_emit.specs.Arguments.{Look, fixed_of}
use Rattle.kc_asm_emit.specs.Content.{Content, RelocatableBytes}
use Rattle.kc_asm_layout.specs.declared.size_record.Body.{Body}
use Rattle.kc_asm_layout.specs.declared.location.Location.{Location}
use Rattle.kc_asm_check.specs.Codes.{when, counts_from_nothing, has_target, branch_faults, examined, misfits, content_faults, checks_jumps, relocatable_faults, goes_on, most_of, Regions, leaves, end_faults, is_below, back_faults, opening, is_outside, opening_faults, label_faults, goes_on_faults, place_faults, stack_after, stack_faults}
use Rattle.kc_source_laws.proofs.Tests.{Holds, either, all_join}
use Rattle.kc_asm_laws.proofs.Others.{is_other, option_holds}

abbrev AreOther : List ℕ → Type 0
AreOther cs = list_all is_other cs ≡ true

abbrev CodeIsOther : Option ℕ → Type 0
CodeIsOther o = Holds is_other o

join : (cs ds : List ℕ) → AreOther cs → AreOther ds → AreOther (cs ++ ds)
join cs ds h k = all_join is_other cs ds h k

when_other : (b : Bool) (code : ℕ) → is_other code ≡ true → AreOther (when b code)
when_other true code h = and_from (is_other code) true h refl
when_other false code h = refl

-- ---- operands

number_other : (most : ℕ) (o : Option Value) → CodeIsOther (number_fault most o)
number_other most None = tt
number_other most (Some v) =
    either is_other (is_fixed v.base) (cond (nat_lt most v.number) (Some 12) None) (Some 10) (either is_other (nat_lt most v.number) (Some 12) None refl tt) refl

pointer_other : (o : Option Value) → CodeIsOther (pointer_fault o)
pointer_other None = tt
pointer_other (Some r) = either is_other (not (r.number % 2 == 0) || is_external r.base) (Some 12) None refl tt

source_other : (a : Argument) → CodeIsOther (source_fault a)
source_other (Plain x) = tt
source_other (Immediate x) = tt
source_other (Indirect r) = pointer_other r
source_other (Increment r) = pointer_other r
source_other (Indexed x r) = pointer_other r

count_other : (a : Argument) → CodeIsOther (count_fault a)
count_other (Immediate n) = number_other 15 n
count_other a = tt

bit_other : (a : Argument) → CodeIsOther (bit_fault a)
bit_other (Plain n) = number_other 7 n
bit_other a = tt

operands_other : (form : Operands) (args : List Argument) → CodeIsOther (operands_fault form args)
operands_other operands.Source args = source_other (argument args 0)
operands_other operands.Place args = source_other (argument args 0)
operands_other operands.Two args = source_other (argument args 1)
operands_other operands.TwoOrThree (a ∷ b ∷ []) = source_other b
operands_other operands.TwoOrThree args = source_other (argument args 2)
operands_other operands.Store args = source_other (argument args 1)
operands_other operands.Exchange args = source_other (argument args 1)
operands_other operands.Shift args = count_other (argument args 1)
operands_other operands.Triple args = bit_other (argument args 1)
operands_other form args = tt

pub operation_other : (word : List ℕ) (args : List Argument) → CodeIsOther (fault_of word args)
unfolding fault_of
operation_other word args = by (operands_for word)
  where
    by : (o : Option Operands) → CodeIsOther (elim o [ None ↦ None | Some form ↦ operands_fault form args ])
    by None = tt
    by (Some form) = operands_other form args

-- ---- branches, and what a statement puts

pub branch_other : (look : Look) (b : Body) (action : ActionTree) → AreOther (branch_faults look b action)
branch_other look b (trees.Operation word args) = when_other (counts_from_nothing b && has_target look args) 24 refl
branch_other look b action = refl

misfit_other : (at : Option ℕ) (piece place : ℕ) (o : RelocatableByte) → CodeIsOther (misfit at piece place o)
unfolding misfit
misfit_other at piece place (PlainRelocatableByte b) = tt
misfit_other at piece place (First kind start v) =
    either is_other _ (Some (misfit_code kind)) None (elim (kind == 1) as (λ b. is_other (cond b 12 19) ≡ true) [ true ↦ refl | false ↦ refl ]) tt
misfit_other at piece place (Second kind v) = tt

checked_other : (jumps : Bool) (o : Option ℕ) → CodeIsOther o → CodeIsOther (examined jumps o)
checked_other jumps None h = tt
checked_other jumps (Some code) h = either is_other (not jumps && (code == 19)) None (Some code) tt h

misfits_other : (jumps : Bool) (address : Option ℕ) (piece place : ℕ) (os : List RelocatableByte) → AreOther (misfits jumps address piece place os)
unfolding misfits
misfits_other jumps address piece place [] = refl
misfits_other jumps address piece place (o ∷ os) =
    join (option_to_list (examined jumps (misfit address piece place o))) (misfits jumps address piece (place + 1) os)
    (option_holds is_other (examined jumps (misfit address piece place o)) (checked_other jumps (misfit address piece place o) (misfit_other address piece place o)))
    (misfits_other jumps address piece (place + 1) os)

content_other : (jumps : Bool) (address : Option ℕ) (piece place : ℕ) (c : Content) → AreOther (content_faults jumps address piece place c)
content_other jumps address piece place (RelocatableBytes os) = misfits_other jumps address piece place os
content_other jumps address piece place c = refl

pub relocatable_other : (look : Look) (action : ActionTree) (g : Segment) (s : Location) (c : Content) → AreOther (relocatable_faults look action g s c)
relocatable_other look action g s c = content_other (checks_jumps look action) s.address g.piece s.place c

-- ---- places and the stack

end_other : (regions : Regions) (g : Segment) (s : Location) → AreOther (end_faults regions g s)
end_other regions g s =
    join (when (nat_lt (most_of g) s.after) 17) (when (nat_lt s.before s.after && leaves g.kind (unwrap_or (slice_get regions g.piece) None) s.after) 22)
    (when_other (nat_lt (most_of g) s.after) 17 refl) (when_other (nat_lt s.before s.after && leaves g.kind (unwrap_or (slice_get regions g.piece) None) s.after) 22 refl)

back_other : (look : Look) (action : ActionTree) (place : ℕ) → AreOther (back_faults look action place)
back_other look (trees.Org x) place = when_other (is_below (fixed_of look x) place) 17 refl
back_other look action place = refl

opening_other : (o : Option (SegKind × Option ℕ)) → AreOther (opening_faults o)
opening_other None = refl
opening_other (Some o) = when_other (is_outside o.0 o.1) 22 refl

goes_on_other : (regions : Regions) (action : ActionTree) (g : Segment) (s : Location) → AreOther (goes_on_faults regions action g s)
goes_on_other regions action g s = elim (goes_on action) as (λ b. AreOther (cond b (end_faults regions g s) [])) [ true ↦ end_other regions g s | false ↦ refl ]

pub place_other : (regions : Regions) (look : Look) (label : Option (List ℕ)) (action : ActionTree) (g : Segment) (s : Location) → AreOther (place_faults regions look label action g s)
place_other regions look label action g s =
    join (label_faults label s.place) (goes_on_faults regions action g s ++ (back_faults look action s.before ++ opening_faults (opening look action)))
    (when_other (is_some label && nat_lt 65535 s.place) 17 refl)
    (join (goes_on_faults regions action g s) (back_faults look action s.before ++ opening_faults (opening look action)) (goes_on_other regions action g s)
    (join (back_faults look action s.before) (opening_faults (opening look action)) (back_other look action s.before) (opening_other (opening look action))))

pub stack_other : (look : Look) (sum : ℕ) (action : ActionTree) → AreOther (stack_faults look sum action)
stack_other look sum action = when_other (nat_le sum 65535 && nat_lt 65535 (stack_after look sum action)) 17 refl
