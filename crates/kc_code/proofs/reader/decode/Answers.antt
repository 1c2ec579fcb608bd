use Rattle.std.proofs.Common.{◌≡◌, ◌≤◌, ℕ, List, IsTrue, sym, ◌∙◌, length, take}
use Rattle.kc_isa.specs.declared.insn.Insn.{Insn as Instruction}
use Rattle.kc_isa.specs.Formed.{is_formed, length_of}
use Rattle.kc_base.specs.Bytes.{IsBytes}
use Rattle.kc_base.proofs.ByteLemmas.{bytes_are}
use Rattle.kc_code.specs.Reading.{decode_of}
use Rattle.kc_code.specs.Spelling.{spelling, is_in_range}
use Rattle.kc_code.specs.Beginning.{IfWhole, IsInFront}
use Rattle.kc_code.specs.declared.reader.Decoded.{Decoded}
use Rattle.kc_code.specs.declared.reader.Decoded.TheVariants.{Insn, Unimplemented, Undefined, Short}
use Rattle.kc_code.proofs.Beginnings.{in_front, cut_is_beginning, beginning_is_cut, undefined_is, unimplemented_is}
use Rattle.kc_code.proofs.reader.decode.Goals as goal

reported : (P : Instruction → ℕ → Type 0) (bytes : List ℕ) (d : Decoded) → IsBytes bytes → d ≡ decode_of bytes → ((i : Instruction) (n : ℕ) → IsInFront bytes i n → P i n) → IfWhole d P
reported P bytes (Insn i n) b h f = f i n (in_front bytes i n b (sym h))
reported P bytes Unimplemented b h f = tt
reported P bytes Undefined b h f = tt
reported P bytes Short b h f = tt

pub returns-clause-formed : goal.returns-clause-formed
returns-clause-formed c = reported (λ i n. IsTrue (is_formed i)) c.args.bytes.now c.beginning_of.result (bytes_are c.args.bytes.now c.type_inv.bytes) c.beginning_of.ensures (λ i n f. f.formed)

pub returns-clause-in_range : goal.returns-clause-in_range
returns-clause-in_range c = reported (λ i n. IsTrue (is_in_range i)) c.args.bytes.now c.beginning_of.result (bytes_are c.args.bytes.now c.type_inv.bytes) c.beginning_of.ensures (λ i n f. f.in_range)

pub returns-clause-reported : goal.returns-clause-reported
returns-clause-reported c = reported (λ i n. n ≡ length_of i) c.args.bytes.now c.beginning_of.result (bytes_are c.args.bytes.now c.type_inv.bytes) c.beginning_of.ensures (λ i n f. f.reported)

pub returns-clause-within : goal.returns-clause-within
returns-clause-within c = reported (λ i n. n ≤ length c.args.bytes.now) c.args.bytes.now c.beginning_of.result (bytes_are c.args.bytes.now c.type_inv.bytes) c.beginning_of.ensures (λ i n f. f.within)

pub returns-clause-spelled : goal.returns-clause-spelled
returns-clause-spelled c = reported (λ i n. take n c.args.bytes.now ≡ spelling i) c.args.bytes.now c.beginning_of.result (bytes_are c.args.bytes.now c.type_inv.bytes) c.beginning_of.ensures (λ i n f. f.spelled)

pub returns-clause-short : goal.returns-clause-short
returns-clause-short c =
    let b = bytes_are c.args.bytes.now c.type_inv.bytes in
    (λ h. cut_is_beginning c.args.bytes.now b (sym c.beginning_of.ensures ∙ h), λ f. c.beginning_of.ensures ∙ beginning_is_cut c.args.bytes.now b f)

pub returns-clause-undefined : goal.returns-clause-undefined
returns-clause-undefined c =
    let u = undefined_is c.args.bytes.now in
    (λ h. u.0 (sym c.beginning_of.ensures ∙ h), λ t. c.beginning_of.ensures ∙ u.1 t)

pub returns-clause-unimplemented : goal.returns-clause-unimplemented
returns-clause-unimplemented c =
    let u = unimplemented_is c.args.bytes.now in
    (λ h. u.0 (sym c.beginning_of.ensures ∙ h), λ t. c.beginning_of.ensures ∙ u.1 t)
