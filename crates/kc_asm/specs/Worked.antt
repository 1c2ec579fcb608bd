-- A worked source: CSEG, and LJMP 2100H in it. Where the code stands at 2080H the jump does, as E7 7D 00
-- (80C196KC User's Manual, "Instruction Format").
use Rattle.std.specs.Prelude.{◌≡◌, false, pos, None, List, [], ◌∷◌, codes}
use Rattle.kc_isa.specs.declared.insn.Insn.{Insn}
use Rattle.kc_isa.specs.declared.insn.Operand.TheVariants.{Disp}
use Rattle.kc_expr.specs.declared.expr.Expr.TheVariants.{Number}
use Rattle.kc_source_statement.specs.declared.statement.Arg.TheVariants.{Plain}
use Rattle.kc_source_statement.specs.declared.statement.Action.TheVariants.{Cseg, Operation}
use Rattle.kc_source_statement.specs.declared.statement.Stmt.{Stmt}
use Rattle.kc_asm_symbols.specs.Located.{Located, first_segment, value_at, located_at}
use Rattle.kc_asm_symbols.specs.Meanings.{meaning}
use Rattle.kc_obj_module.specs.Numbers.{Bases}
use Rattle.kc_branch.specs.declared.piece.Form.TheVariants.{First}
use Rattle.kc_asm_section.specs.declared.unlinked.UnlinkedModule.{UnlinkedModule}
use Rattle.kc_asm_unlinked_laws.specs.Parts.{start, part_bases}
use Rattle.kc_asm_layout.specs.declared.size_record.Body.TheVariants.{Bytes}
use Rattle.kc_asm_layout.specs.declared.location.Location.{Location}
use Rattle.kc_asm_check.specs.Checking.{first_fault}
use Rattle.kc_asm.specs.Saying.{code_of}
use Rattle.kc_asm.specs.Linked.{address_of, IsStatement, Decodes}

abbrev pub source : List Stmt
source =
    (record { line = 1; label = None; action = Cseg None })
    ∷ (record { line = 2; label = None; action = Operation (codes "LJMP") (Plain (Number 0x2100) ∷ []) })
    ∷ []

abbrev pub segment : Located
segment = located_at first_segment (value_at first_segment 0) (record { line = 1; label = None; action = Cseg None })

abbrev pub jump : Located
jump = located_at first_segment (value_at first_segment 0) (record { line = 2; label = None; action = Operation (codes "LJMP") (Plain (Number 0x2100) ∷ []) })

-- three bytes, the first of the relocatable code
abbrev pub location : Location
location = record { before = 0; place = 0; after = 3; address = None; form = First; body = Bytes 3 }

-- from 2083H to 2100H
abbrev pub ljmp : Insn
ljmp = record { opcode = 0xE7; signed = false; operand = Disp (pos 0x7D); regs = 0 ∷ 0 ∷ 0 ∷ [] }

pub record WorkedRows (bases : Bases) (d : UnlinkedModule) : Type 0 where
  pub sound : first_fault source ≡ None
  pub statement : IsStatement source (segment ∷ []) jump location
  pub stands : address_of bases d jump.segment location ≡ 0x2080
  pub says : code_of (part_bases bases d) 0x2080 (meaning (segment ∷ jump ∷ []) (segment ∷ []) jump) location.form jump jump.action ≡ ljmp ∷ []
  pub reads : Decodes (0xE7 ∷ 0x7D ∷ 0 ∷ []) 0 (ljmp ∷ [])

abbrev pub WorkedSource : Type 0
WorkedSource = (bases : Bases) (d : UnlinkedModule) → start bases d 1 ≡ 0x2080 → WorkedRows bases d
