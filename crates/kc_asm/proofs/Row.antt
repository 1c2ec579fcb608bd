-- The worked source, computed.
use Rattle.std.proofs.Common.{◌≡◌, ◌+◌, [], ◌∷◌, refl, ap}
use Rattle.std.specs.Prelude.{Some, None, slice_get}
use Rattle.kc_isa.specs.Names.{row_at}
use Rattle.kc_isa.specs.Table.{plain_entry}
use Rattle.kc_code.specs.Reading.{regs_at, operand_at, laid_at}
use Rattle.kc_lex.specs.Instructions.{least, first_opcode, operands_of}
use Rattle.kc_branch.specs.Forms.{places, raised, start_forms, forms}
use Rattle.kc_expr.specs.Meaning.{answer_by}
use Rattle.kc_asm_symbols.specs.Located.{located_from}
use Rattle.kc_obj_module.specs.Numbers.{distance, number, fits}
use Rattle.kc_asm_encode.specs.Relocating.{depends, misfit}
use Rattle.kc_asm_encode.specs.Branches.{branch_kind}
use Rattle.kc_asm_encode.specs.Opcodes.{opcode_of}
use Rattle.kc_asm_encode.specs.Instructions.{instruction, instructions}
use Rattle.kc_asm_encode.specs.Faults.{fault_of}
use Rattle.kc_asm_encode.specs.Said.{said}
use Rattle.kc_asm_layout.specs.StatementSizes.{target, size_records_from}
use Rattle.kc_asm_layout.specs.Places.{opened, locations_from}
use Rattle.kc_asm_layout.specs.Text.{text_by, positions_from, count_main, dealt}
use Rattle.kc_source.specs.Faults as source_faults
use Rattle.kc_asm_emit.specs.Faults as value_faults
use Rattle.kc_asm_check.specs.Codes.{misfits}
use Rattle.kc_asm_check.specs.Checking.{standing, location_list, faults_from, first_fault}
use Rattle.kc_asm.specs.Linked.{Decodes}
use Rattle.kc_asm.specs.Worked.{source, segment, jump, location, ljmp, WorkedSource}

second_location : slice_get (location_list source) 1 ≡ Some location
unfolding row_at plain_entry places raised start_forms forms located_from target size_records_from opened locations_from text_by positions_from count_main dealt branch_kind instructions instruction opcode_of least
second_location = refl

all_stand : standing source ≡ segment ∷ jump ∷ []
unfolding row_at plain_entry places raised start_forms forms located_from target size_records_from opened locations_from text_by positions_from count_main dealt branch_kind instructions instruction opcode_of least
all_stand = refl

no_fault : first_fault source ≡ None
unfolding row_at plain_entry places raised start_forms forms located_from target size_records_from opened locations_from text_by positions_from count_main dealt branch_kind instructions instruction opcode_of least
    faults_from source_faults.least value_faults.least misfits misfit depends fits number distance fault_of answer_by operands_of first_opcode
no_fault = refl

decoded : Decodes (0xE7 ∷ 0x7D ∷ 0 ∷ []) 0 (ljmp ∷ [])
unfolding row_at plain_entry regs_at operand_at laid_at
decoded = (refl, tt)

pub worked_source : WorkedSource
unfolding instructions instruction opcode_of least row_at plain_entry said answer_by distance branch_kind
worked_source bases d at = record {
  sound = no_fault;
  statement = record { after = []; split = all_stand; location = second_location };
  stands = ap (λ n. n + 0) at;
  says = refl;
  reads = decoded;
}
