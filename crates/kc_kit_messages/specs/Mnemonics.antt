-- The mnemonics of the instruction table, in its order (80C196KC User's Manual, "Instruction Set").
use Rattle.std.specs.Prelude.{List, [], ◌∷◌}
use Rattle.kc_isa.specs.declared.table.Mnemonic.{Mnemonic}
use Rattle.kc_isa.specs.declared.table.Mnemonic.TheVariants.{Skip, Clr, Not, Neg, Xch, Dec, Ext, Inc, Shr, Shl, Shra, Shrl, Shll, Shral, Norml, Clrb, Notb, Negb, Xchb, Decb, Extb, Incb, Shrb, Shlb, Shrab, Sjmp, Scall, Jbc, Jbs, And, Add, Sub, Mulu, Andb, Addb, Subb, Mulub, Or, Xor, Cmp, Divu, Orb, Xorb, Cmpb, Divub, Ld, Addc, Subc, Ldbze, Ldb, Addcb, Subcb, Ldbse, St, Bmov, Stb, Cmpl, Push, Pop, Bmovi, Jnst, Jnh, Jgt, Jnc, Jnvt, Jnv, Jge, Jne, Jst, Jh, Jle, Jc, Jvt, Jv, Jlt, Je, Djnz, Djnzw, Tijmp, Br, Ljmp, Dpts, Epts, Lcall, Ret, Pushf, Popf, Pusha, Popa, Idlpd, Trap, Clrc, Setc, Di, Ei, Clrvt, Nop, Rst, Mul, Mulb, Div, Divb}

abbrev pub all_mnemonics : List Mnemonic
all_mnemonics =
    Skip ∷ Clr ∷ Not ∷ Neg ∷ Xch ∷ Dec ∷ Ext ∷ Inc ∷ Shr ∷ Shl ∷ Shra ∷ Shrl ∷ Shll ∷ Shral ∷ Norml ∷ Clrb ∷ Notb ∷
    Negb ∷ Xchb ∷ Decb ∷ Extb ∷ Incb ∷ Shrb ∷ Shlb ∷ Shrab ∷ Sjmp ∷ Scall ∷ Jbc ∷ Jbs ∷ And ∷ Add ∷ Sub ∷ Mulu ∷
    Andb ∷ Addb ∷ Subb ∷ Mulub ∷ Or ∷ Xor ∷ Cmp ∷ Divu ∷ Orb ∷ Xorb ∷ Cmpb ∷ Divub ∷ Ld ∷ Addc ∷ Subc ∷ Ldbze ∷ Ldb ∷
    Addcb ∷ Subcb ∷ Ldbse ∷ St ∷ Bmov ∷ Stb ∷ Cmpl ∷ Push ∷ Pop ∷ Bmovi ∷ Jnst ∷ Jnh ∷ Jgt ∷ Jnc ∷ Jnvt ∷ Jnv ∷ Jge ∷
    Jne ∷ Jst ∷ Jh ∷ Jle ∷ Jc ∷ Jvt ∷ Jv ∷ Jlt ∷ Je ∷ Djnz ∷ Djnzw ∷ Tijmp ∷ Br ∷ Ljmp ∷ Dpts ∷ Epts ∷ Lcall ∷ Ret ∷
    Pushf ∷ Popf ∷ Pusha ∷ Popa ∷ Idlpd ∷ Trap ∷ Clrc ∷ Setc ∷ Di ∷ Ei ∷ Clrvt ∷ Nop ∷ Rst ∷ Mul ∷ Mulb ∷ Div ∷
    Divb ∷ []
