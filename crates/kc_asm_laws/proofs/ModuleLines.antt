-- There are as few statements as lines, and hardly more parts.
use Rattle.std.proofs.Common.{◌≡◌, ℕ, zero, suc, ◌+◌, ◌≤◌, true, false, cond, List, [], ◌∷◌, length, Option, Some, None, arith, length-append}
use Rattle.std.specs.Prelude.{unwrap_or, slice_get, slice_set}
use Rattle.std.proofs.lemmas.List.{length-set}
use Rattle.kc_lex.specs.declared.token.Line.{Line}
use Rattle.kc_source_statement.specs.Operands.{is_nil}
use Rattle.kc_source.specs.Faults.{said, all_said}
use Rattle.kc_obj_module.specs.declared.parts.SegKind.{SegKind}
use Rattle.kc_asm_symbols.specs.Located.{Located}
use Rattle.kc_asm_symbols.specs.Meanings.{meaning}
use Rattle.kc_asm_section.specs.Section.{Section, blank}
use Rattle.kc_asm_layout.specs.StatementSizes.{opens}
use Rattle.kc_asm_layout.specs.declared.location.Location.{Location}
use Rattle.kc_asm_unlinked_laws.specs.Collecting.{kind_opened, with_opened, first_section, section_after, parts_after, parts_from}

-- ---- lines

pub few_said : (ls : List Line) → length (all_said ls) ≤ length ls
unfolding all_said
few_said [] = omega arith
few_said (l ∷ ls) =
    let rest = few_said ls in
    elim (is_nil l.tokens) as (λ b. length (cond b (all_said ls) (said l ∷ all_said ls)) ≤ suc (length ls)) [ true ↦ omega (arith, rest) | false ↦ omega (arith, rest) ]

-- ---- parts

opened_length : (kind : SegKind) (o : Option ℕ) (ts : List Section) → length (with_opened kind o ts) ≤ suc (length ts)
opened_length kind None ts = omega arith
opened_length kind (Some address) ts = omega (arith, length-append ts (blank kind (Some address) ∷ []))

pub few_parts : (all before ls : List Located) (ss : List Location) (parts : List Section) → length (parts_from all before ls ss parts) ≤ length parts + length ls
unfolding parts_from
few_parts all before [] ss parts = omega arith
few_parts all before (l ∷ ls) [] parts = omega arith
few_parts all before (l ∷ ls) (s ∷ ss) parts =
    let look = meaning all before l in
    let rest = few_parts all (l ∷ before) ls ss (parts_after look l s parts) in
    let set = slice_set parts l.segment.piece (section_after look l s (unwrap_or (slice_get parts l.segment.piece) first_section)) in
    let opened = opened_length (kind_opened l.action) (opens look l.action) (slice_set parts l.segment.piece (section_after look l s (unwrap_or (slice_get parts l.segment.piece) first_section))) in
    let same = length-set parts l.segment.piece (section_after look l s (unwrap_or (slice_get parts l.segment.piece) first_section)) in
    omega (arith, rest, opened, same)
