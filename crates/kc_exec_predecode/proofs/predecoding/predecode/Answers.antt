use Rattle.std.proofs.Common.{ap}
use Rattle.kc_exec_predecode.specs.declared.predecoded.Predecoded.{Predecoded}
use Rattle.kc_exec_predecode.specs.Predecoding.{predecoded_of}
use Rattle.kc_exec_predecode.proofs.Known.{known_so}
use Rattle.kc_exec_predecode.proofs.predecoding.predecode.Goals as goal

pub returns-clause-predecoded : goal.returns-clause-predecoded
returns-clause-predecoded c = known_so c.in_ok-mnemonic.mnemonic c.args.insn.now c.made_predecoded.result c.requires c.in_ok-mnemonic.ensures c.made_predecoded.ensures.value c.made_predecoded.ensures.some c.made_predecoded.ensures.other

pub returns-clause-insn : goal.returns-clause-insn
unfolding predecoded_of
returns-clause-insn c = ap (λ (r : Predecoded). r.insn) c.made_predecoded.ensures.value
