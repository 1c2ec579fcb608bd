-- Generic branches, and what is written in full in their place: in the first form a jump of 8 or 11 bits; in the longer forms a
-- jump of 11 or 16 bits, over which an inverse jump leads where a condition does not hold (MCS-96 Macro Assembler User's Guide, "Generic
-- Branches"; 80C196KC User's Manual, "Conditional Jumps").
use Rattle.std.specs.Prelude.{ℕ, if◌then◌else◌, Option, Some, None, List, [], ◌∷◌, codes}
use Rattle.std.specs.Str.{bytes_eq}
use Rattle.kc_expr.specs.declared.values.Value.{Value}
use Rattle.kc_lex.specs.Words.{is_one_of, is_generic_conditional}
use Rattle.kc_asm_encode.specs.declared.argument.Argument.{Argument}
use Rattle.kc_asm_encode.specs.declared.argument.Argument.TheVariants.{Plain}
use Rattle.kc_branch.specs.declared.piece.Form.{Form}
use Rattle.kc_branch.specs.declared.piece.Form.TheVariants.{First, Second, Third}
use Rattle.kc_branch.specs.declared.piece.BranchKind.{BranchKind}
use Rattle.kc_branch.specs.declared.piece.BranchKind.TheVariants.{Jump, Call, Conditional, BitTest}
use Rattle.kc_branch.specs.Forms.{size as branch_length}
use Rattle.kc_asm_encode.specs.Values.{argument, moved}

-- BR is generic with a plain operand, and an instruction with a pointer
abbrev pub plain_branch : List Argument → Option BranchKind
plain_branch (Plain x ∷ []) = Some Jump
plain_branch args = None

unfoldable pub branch_kind : List ℕ → List Argument → Option BranchKind
branch_kind word args =
    if bytes_eq word (codes "BR") then plain_branch args
    else (if bytes_eq word (codes "CALL") then Some Call
    else (if is_generic_conditional word then Some Conditional
    else (if is_one_of (codes "BBC" ∷ codes "BBS" ∷ []) word then Some BitTest
    else None)))

-- the jump of a conditional branch
unfoldable pub jump_of : List ℕ → List ℕ
jump_of w =
    if bytes_eq w (codes "BE") then codes "JE" else (if bytes_eq w (codes "BNE") then codes "JNE"
    else (if bytes_eq w (codes "BH") then codes "JH" else (if bytes_eq w (codes "BNH") then codes "JNH"
    else (if bytes_eq w (codes "BGT") then codes "JGT" else (if bytes_eq w (codes "BLE") then codes "JLE"
    else (if bytes_eq w (codes "BGE") then codes "JGE" else (if bytes_eq w (codes "BLT") then codes "JLT"
    else (if bytes_eq w (codes "BC") then codes "JC" else (if bytes_eq w (codes "BNC") then codes "JNC"
    else (if bytes_eq w (codes "BV") then codes "JV" else (if bytes_eq w (codes "BNV") then codes "JNV"
    else (if bytes_eq w (codes "BVT") then codes "JVT" else (if bytes_eq w (codes "BNVT") then codes "JNVT"
    else (if bytes_eq w (codes "BST") then codes "JST" else (if bytes_eq w (codes "BNST") then codes "JNST"
    else (if bytes_eq w (codes "BBC") then codes "JBC" else (if bytes_eq w (codes "BBS") then codes "JBS"
    else [])))))))))))))))))

-- the jump that is taken exactly where that one is not
unfoldable pub inverse_of : List ℕ → List ℕ
inverse_of w =
    if bytes_eq w (codes "BE") then codes "JNE" else (if bytes_eq w (codes "BNE") then codes "JE"
    else (if bytes_eq w (codes "BH") then codes "JNH" else (if bytes_eq w (codes "BNH") then codes "JH"
    else (if bytes_eq w (codes "BGT") then codes "JLE" else (if bytes_eq w (codes "BLE") then codes "JGT"
    else (if bytes_eq w (codes "BGE") then codes "JLT" else (if bytes_eq w (codes "BLT") then codes "JGE"
    else (if bytes_eq w (codes "BC") then codes "JNC" else (if bytes_eq w (codes "BNC") then codes "JC"
    else (if bytes_eq w (codes "BV") then codes "JNV" else (if bytes_eq w (codes "BNV") then codes "JV"
    else (if bytes_eq w (codes "BVT") then codes "JNVT" else (if bytes_eq w (codes "BNVT") then codes "JVT"
    else (if bytes_eq w (codes "BST") then codes "JNST" else (if bytes_eq w (codes "BNST") then codes "JST"
    else (if bytes_eq w (codes "BBC") then codes "JBS" else (if bytes_eq w (codes "BBS") then codes "JBC"
    else [])))))))))))))))))

-- an instruction as it is written
pub record Line : Type 0 where
  pub word : List ℕ
  pub args : List Argument

abbrev pub line : List ℕ → List Argument → Line
line word args = record { word = word; args = args }

-- the target of an inverse jump: the place behind the whole branch
abbrev pub over : Value → ℕ → Argument
over here count = Plain (Some (moved here count))

-- the bit test of the branch, with a target of its own
abbrev pub tested : List Argument → Argument → List Argument
tested args target = argument args 0 ∷ argument args 1 ∷ target ∷ []

abbrev pub jump_lines : Form → Argument → List Line
jump_lines First x = line (codes "SJMP") (x ∷ []) ∷ []
jump_lines form x = line (codes "LJMP") (x ∷ []) ∷ []

abbrev pub call_lines : Form → Argument → List Line
call_lines First x = line (codes "SCALL") (x ∷ []) ∷ []
call_lines form x = line (codes "LCALL") (x ∷ []) ∷ []

abbrev pub conditional_lines : List ℕ → Form → Argument → Value → List Line
conditional_lines word First x here = line (jump_of word) (x ∷ []) ∷ []
conditional_lines word Second x here = line (inverse_of word) (over here (branch_length Conditional Second) ∷ []) ∷ line (codes "SJMP") (x ∷ []) ∷ []
conditional_lines word Third x here = line (inverse_of word) (over here (branch_length Conditional Third) ∷ []) ∷ line (codes "LJMP") (x ∷ []) ∷ []

abbrev pub test_lines : List ℕ → Form → List Argument → Value → List Line
test_lines word First args here = line (jump_of word) (tested args (argument args 2)) ∷ []
test_lines word Second args here = line (inverse_of word) (tested args (over here (branch_length BitTest Second))) ∷ line (codes "SJMP") (argument args 2 ∷ []) ∷ []
test_lines word Third args here = line (inverse_of word) (tested args (over here (branch_length BitTest Third))) ∷ line (codes "LJMP") (argument args 2 ∷ []) ∷ []

abbrev pub branch_lines : BranchKind → List ℕ → List Argument → Form → Value → List Line
branch_lines Jump word args form here = jump_lines form (argument args 0)
branch_lines Call word args form here = call_lines form (argument args 0)
branch_lines Conditional word args form here = conditional_lines word form (argument args 0) here
branch_lines BitTest word args form here = test_lines word form args here

-- an operation in full; an instruction is written so already
abbrev pub in_full : List ℕ → List Argument → Form → Value → List Line
in_full word args form here = elim (branch_kind word args) [ None ↦ line word args ∷ [] | Some kind ↦ branch_lines kind word args form here ]
