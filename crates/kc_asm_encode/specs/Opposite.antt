-- The inverse jump of a conditional branch is taken exactly where its jump is not, that of a bit test where the bit is the
-- other way (80C196KC User's Manual, "Conditional Jumps").
use Rattle.std.specs.Prelude.{◌≡◌, ℕ, Bool, true, not, List, [], ◌∷◌, codes}
use Rattle.kc_isa.specs.declared.table.Mnemonic.{Mnemonic}
use Rattle.kc_isa.specs.Names.{name_of}
use Rattle.kc_lex.specs.Words.{is_one_of, is_generic_conditional}
use Rattle.kc_exec_spec.specs.declared.plan.Plan.TheVariants.{Jump}
use Rattle.kc_exec_spec.specs.declared.plan.Route.TheVariants.{Bit}
use Rattle.kc_exec_spec.specs.Plans.{plan_of}
use Rattle.kc_exec_spec.specs.Places.{jump_taken}
use Rattle.kc_asm_encode.specs.Branches.{jump_of, inverse_of}

-- the jump and the inverse jump of a branch, by their mnemonics
abbrev pub HaveNames : List ℕ → Mnemonic → Mnemonic → Type 0
HaveNames word jump inverse = (name_of jump ≡ jump_of word) × (name_of inverse ≡ inverse_of word)

-- one is taken where the other is not, whatever the flags
abbrev pub AreOpposite : Mnemonic → Mnemonic → Type 0
AreOpposite jump inverse = (psw : ℕ) → jump_taken (plan_of inverse) psw ≡ not (jump_taken (plan_of jump) psw)

abbrev pub ConditionsAreOpposite : Type 0
ConditionsAreOpposite = (word : List ℕ) → is_generic_conditional word ≡ true →
    (jump : Mnemonic) × ((inverse : Mnemonic) × (HaveNames word jump inverse × AreOpposite jump inverse))

-- one asks for a bit that is set, the other for one that is not
abbrev pub AskOpposite : Mnemonic → Mnemonic → Type 0
AskOpposite jump inverse = (set : Bool) × ((plan_of jump ≡ Jump (Bit set)) × (plan_of inverse ≡ Jump (Bit (not set))))

abbrev pub TestsAreOpposite : Type 0
TestsAreOpposite = (word : List ℕ) → is_one_of (codes "BBC" ∷ codes "BBS" ∷ []) word ≡ true →
    (jump : Mnemonic) × ((inverse : Mnemonic) × (HaveNames word jump inverse × AskOpposite jump inverse))
