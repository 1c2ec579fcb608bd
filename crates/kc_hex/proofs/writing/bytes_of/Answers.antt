use Rattle.std.proofs.Common.{length, ap, ◌∙◌, rules, arith}
use Rattle.std.proofs.lemmas.Grind.{common_steps}
use Rattle.kc_hex.proofs.writing.bytes_of.Goals as goal

pub returns-clause-is_image : goal.returns-clause-is_image
returns-clause-is_image c = record { len = ap length c.as_slice-bytes.ensures.value ∙ c.as_slice-bytes.ensures.len; bytes = λ k. first_of (search rules, omega arith, grind (arith, common_steps)) }
