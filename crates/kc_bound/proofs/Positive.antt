-- Each activity of a routine's own has a state at least.
use Rattle.std.proofs.Common.{◌≡◌, ℕ, Bool, true, false, ◌+◌, ◌*◌, ◌<◌, ◌≤◌, ◌&&◌, nat_lt, nat_le, if◌then◌else◌, Option, Some, None, Result, Ok, Err, refl, sym, ◌∙◌, ap, subst, arith}
use Rattle.std.proofs.lemmas.Grind.{common_steps}
use Rattle.std.specs.Prelude.{IfSome, IsTrue}
use Rattle.std.specs.Option.{option_map}
use Rattle.kc_base.specs.declared.types.Kind.{Kind}
use Rattle.kc_isa.specs.declared.insn.Insn.{Insn}
use Rattle.kc_isa.specs.declared.insn.Place.{Place}
use Rattle.kc_isa.specs.declared.insn.Operand.{Operand}
use Rattle.kc_isa.specs.declared.insn.Operand.TheVariants.{Absent, Reg, Imm, Indirect, Increment, Short, Long, Count, Disp}
use Rattle.kc_isa.specs.declared.table.Mnemonic.{Mnemonic}
use Rattle.kc_isa.specs.Table.{is_among, signed_entry, plain_entry, entry_at, is_few, is_small}
use Rattle.kc_isa.specs.Names.{mnemonic_at}
use Rattle.kc_isa.specs.Formed.{mode_states, entry_states, states_of}
use Rattle.kc_isa.proofs.Small.{entry_is_small}
use Rattle.kc_exec_spec.specs.declared.cpu.Words.{Words}
use Rattle.kc_exec_spec.specs.BlockMoves.{word_states_of}
use Rattle.kc_machine_spec.specs.Machine.{Machine, placed, pushing_states}

either-small : {E : Type 0} (P : E → Type 0) (a : Bool) (x y : Option E) → IfSome x P → IfSome y P → IfSome (if a then x else y) P
either-small P true x y h k = h
either-small P false x y h k = k

small-at : (opcode : ℕ) (signed : Bool) → IfSome (entry_at opcode signed) (λ e. IsTrue (is_small e))
small-at opcode true =
    either-small (λ e. IsTrue (is_small e)) (is_among 0x4C 4 opcode) _ _ refl
    (either-small (λ e. IsTrue (is_small e)) (is_among 0x5C 4 opcode) _ _ refl
    (either-small (λ e. IsTrue (is_small e)) (is_among 0x6C 4 opcode) _ _ refl
    (either-small (λ e. IsTrue (is_small e)) (is_among 0x7C 4 opcode) _ _ refl
    (either-small (λ e. IsTrue (is_small e)) (is_among 0x8C 4 opcode) _ _ refl
    (either-small (λ e. IsTrue (is_small e)) (is_among 0x9C 4 opcode) _ _ refl tt)))))
small-at opcode false = entry_is_small opcode

-- a row has a state at least in each mode
pub record HasSome (direct immediate indirect indexed : ℕ) : Type 0 where
  pub direct_some : 0 < direct
  pub immediate_some : 0 < immediate
  pub indirect_some : 0 < indirect
  pub indexed_some : 0 < indexed

has-some : (d i n x m : ℕ) → (is_few d && is_few i && is_few n && is_few x && nat_le m 5) ≡ true → HasSome d i n x
has-some d i n x m h = record {
  direct_some = grind (arith, common_steps);
  immediate_some = grind (arith, common_steps);
  indirect_some = grind (arith, common_steps);
  indexed_some = grind (arith, common_steps);
}

one-more : (n : ℕ) → 0 < n + 1
one-more n = omega arith

sum-some : (a b c d : ℕ) → 0 < a → 0 < a + b + c + d
sum-some a b c d h = omega arith

pub states-some : (i : Insn) (p : Place) (mnemonic : Mnemonic) → mnemonic_at i.opcode i.signed ≡ Some mnemonic → 0 < states_of i p
unfolding mnemonic_at
states-some i p mnemonic named =
    (elim (entry_at i.opcode i.signed) as (λ r. IfSome r (λ e. IsTrue (is_small e)) → option_map (λ e. e.mnemonic) r ≡ Some mnemonic → 0 < (elim r [ None ↦ 0 | Some e ↦ entry_states i p e ])) [
      | None ↦ λ small none. absurd (cc none)
      | Some e ↦ λ small has.
          let some : HasSome e.direct e.immediate e.indirect e.indexed = has-some e.direct e.immediate e.indirect e.indexed e.memory small in
          sum-some (mode_states e i.operand) _ _ _ (elim i.operand as (λ o. 0 < mode_states e o) [
            | Absent ↦ some.direct_some
            | Reg r ↦ some.direct_some
            | Imm n ↦ some.immediate_some
            | Indirect r ↦ some.indirect_some
            | Increment r ↦ one-more e.indirect
            | Short base offset ↦ some.indexed_some
            | Long base offset ↦ one-more e.indexed
            | Count n ↦ some.direct_some
            | Disp d ↦ some.direct_some
          ])
    ]) (small-at i.opcode i.signed) named

pub placed-some : (i : Insn) (r : Result Place Kind) (mnemonic : Mnemonic) → mnemonic_at i.opcode i.signed ≡ Some mnemonic → 0 < (placed i r).left
placed-some i (Ok p) mnemonic named = states-some i p mnemonic named
placed-some i (Err kind) mnemonic named = omega arith

pub traps-some : {X : Type 0} (m : Machine X) → 0 < pushing_states m
traps-some m = grind (arith, common_steps)

pub word-some : (w : Words) → 0 < word_states_of w
word-some w = omega arith

pub word-few : (w : Words) → word_states_of w ≤ 14
word-few w = grind (arith, common_steps)
