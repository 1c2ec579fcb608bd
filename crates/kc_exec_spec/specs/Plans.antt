-- What kind of work each instruction is (80C196KC User's Manual, "Instruction Set").
use Rattle.std.specs.Prelude.{true, false}
use Rattle.kc_isa.specs.declared.table.Mnemonic.{Mnemonic}
use Rattle.kc_isa.specs.declared.table.Mnemonic.TheVariants.{Skip, Clr, Not, Neg, Xch, Dec, Ext, Inc, Shr, Shl, Shra, Shrl, Shll, Shral, Norml, Clrb, Notb, Negb, Xchb, Decb, Extb, Incb, Shrb, Shlb, Shrab, Sjmp, Scall, Jbc, Jbs, And, Add, Sub, Mulu, Andb, Addb, Subb, Mulub, Or, Xor, Cmp, Divu, Orb, Xorb, Cmpb, Divub, Ld, Addc, Subc, Ldbze, Ldb, Addcb, Subcb, Ldbse, St, Bmov, Stb, Cmpl, Push, Pop, Bmovi, Jnst, Jnh, Jgt, Jnc, Jnvt, Jnv, Jge, Jne, Jst, Jh, Jle, Jc, Jvt, Jv, Jlt, Je, Djnz, Djnzw, Tijmp, Br, Ljmp, Dpts, Epts, Lcall, Ret, Pushf, Popf, Pusha, Popa, Idlpd, Trap, Clrc, Setc, Di, Ei, Clrvt, Nop, Rst, Mul, Mulb, Div, Divb}
use Rattle.kc_alu.specs.declared.flags.Shift.TheVariants.{Left, Right, Signed}
use Rattle.kc_exec_spec.specs.declared.plan.Operation.TheVariants.{Add as Sum, AddCarry, Sub as Difference, SubBorrow, Compare, And as Both, Or as Either, Xor as OneOf}
use Rattle.kc_exec_spec.specs.declared.plan.Alteration.TheVariants.{Clear, Complement, Negate, Increment, Decrement}
use Rattle.kc_exec_spec.specs.declared.plan.Size.TheVariants.{Byte, Word, Long}
use Rattle.kc_exec_spec.specs.declared.plan.Computation.TheVariants.{Operate, Alter, Extend, Shift, Normalize, Multiply, Divide, CompareLong}
use Rattle.kc_exec_spec.specs.declared.plan.Movement.TheVariants.{Load, ZeroExtend, SignExtend, Store, Exchange, Push as PushSource, Pop as PopTarget}
use Rattle.kc_exec_spec.specs.declared.plan.Test.TheVariants.{Sticky, Higher, LessOrEqual, Carry, OverflowTrap, Overflow, Less, Equal}
use Rattle.kc_exec_spec.specs.declared.plan.Route.TheVariants.{Always, Call, Return, When, Bit, CountDown, Table, Register}
use Rattle.kc_exec_spec.specs.declared.plan.Saving.TheVariants.{PushStatus, PopStatus, PushAll, PopAll}
use Rattle.kc_exec_spec.specs.declared.plan.Setting.TheVariants.{Carry as CarryBit, Interrupts, Transfers, NoOverflowTrap, Nothing}
use Rattle.kc_exec_spec.specs.declared.plan.Plan.{Plan}
use Rattle.kc_exec_spec.specs.declared.plan.Plan.TheVariants.{Compute, Move, Jump, Save, Set, BlockMove, Trap as TrapWork, Idle, Reset}

abbrev pub plan_of : Mnemonic → Plan
plan_of Add = Compute (Operate Sum false)
plan_of Addb = Compute (Operate Sum true)
plan_of Addc = Compute (Operate AddCarry false)
plan_of Addcb = Compute (Operate AddCarry true)
plan_of Sub = Compute (Operate Difference false)
plan_of Subb = Compute (Operate Difference true)
plan_of Subc = Compute (Operate SubBorrow false)
plan_of Subcb = Compute (Operate SubBorrow true)
plan_of Cmp = Compute (Operate Compare false)
plan_of Cmpb = Compute (Operate Compare true)
plan_of And = Compute (Operate Both false)
plan_of Andb = Compute (Operate Both true)
plan_of Or = Compute (Operate Either false)
plan_of Orb = Compute (Operate Either true)
plan_of Xor = Compute (Operate OneOf false)
plan_of Xorb = Compute (Operate OneOf true)
plan_of Clr = Compute (Alter Clear false)
plan_of Clrb = Compute (Alter Clear true)
plan_of Not = Compute (Alter Complement false)
plan_of Notb = Compute (Alter Complement true)
plan_of Neg = Compute (Alter Negate false)
plan_of Negb = Compute (Alter Negate true)
plan_of Inc = Compute (Alter Increment false)
plan_of Incb = Compute (Alter Increment true)
plan_of Dec = Compute (Alter Decrement false)
plan_of Decb = Compute (Alter Decrement true)
plan_of Ext = Compute (Extend false)
plan_of Extb = Compute (Extend true)
plan_of Shl = Compute (Shift Left Word)
plan_of Shlb = Compute (Shift Left Byte)
plan_of Shll = Compute (Shift Left Long)
plan_of Shr = Compute (Shift Right Word)
plan_of Shrb = Compute (Shift Right Byte)
plan_of Shrl = Compute (Shift Right Long)
plan_of Shra = Compute (Shift Signed Word)
plan_of Shrab = Compute (Shift Signed Byte)
plan_of Shral = Compute (Shift Signed Long)
plan_of Norml = Compute Normalize
plan_of Mulu = Compute (Multiply false false)
plan_of Mulub = Compute (Multiply false true)
plan_of Mul = Compute (Multiply true false)
plan_of Mulb = Compute (Multiply true true)
plan_of Divu = Compute (Divide false false)
plan_of Divub = Compute (Divide false true)
plan_of Div = Compute (Divide true false)
plan_of Divb = Compute (Divide true true)
plan_of Cmpl = Compute CompareLong
plan_of Ld = Move (Load false)
plan_of Ldb = Move (Load true)
plan_of Ldbze = Move ZeroExtend
plan_of Ldbse = Move SignExtend
plan_of St = Move (Store false)
plan_of Stb = Move (Store true)
plan_of Xch = Move (Exchange false)
plan_of Xchb = Move (Exchange true)
plan_of Push = Move PushSource
plan_of Pop = Move PopTarget
plan_of Sjmp = Jump Always
plan_of Ljmp = Jump Always
plan_of Br = Jump Register
plan_of Tijmp = Jump Table
plan_of Scall = Jump Call
plan_of Lcall = Jump Call
plan_of Ret = Jump Return
plan_of Jst = Jump (When Sticky true)
plan_of Jnst = Jump (When Sticky false)
plan_of Jh = Jump (When Higher true)
plan_of Jnh = Jump (When Higher false)
plan_of Jle = Jump (When LessOrEqual true)
plan_of Jgt = Jump (When LessOrEqual false)
plan_of Jc = Jump (When Carry true)
plan_of Jnc = Jump (When Carry false)
plan_of Jvt = Jump (When OverflowTrap true)
plan_of Jnvt = Jump (When OverflowTrap false)
plan_of Jv = Jump (When Overflow true)
plan_of Jnv = Jump (When Overflow false)
plan_of Jlt = Jump (When Less true)
plan_of Jge = Jump (When Less false)
plan_of Je = Jump (When Equal true)
plan_of Jne = Jump (When Equal false)
plan_of Jbs = Jump (Bit true)
plan_of Jbc = Jump (Bit false)
plan_of Djnz = Jump (CountDown true)
plan_of Djnzw = Jump (CountDown false)
plan_of Pushf = Save PushStatus
plan_of Popf = Save PopStatus
plan_of Pusha = Save PushAll
plan_of Popa = Save PopAll
plan_of Clrc = Set (CarryBit false)
plan_of Setc = Set (CarryBit true)
plan_of Di = Set (Interrupts false)
plan_of Ei = Set (Interrupts true)
plan_of Dpts = Set (Transfers false)
plan_of Epts = Set (Transfers true)
plan_of Clrvt = Set NoOverflowTrap
plan_of Nop = Set Nothing
plan_of Skip = Set Nothing
plan_of Bmov = BlockMove false
plan_of Bmovi = BlockMove true
plan_of Trap = TrapWork
plan_of Idlpd = Idle
plan_of Rst = Reset
