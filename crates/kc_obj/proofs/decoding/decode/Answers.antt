use Rattle.kc_base.proofs.ByteLemmas.{bytes_are}
use Rattle.kc_obj.proofs.FirstReported.{reports, reports_first}
use Rattle.kc_obj.proofs.decoding.decode.Goals as goal

pub returns-clause-spelling : goal.returns-clause-spelling
returns-clause-spelling c = reports c.args.bytes.now c.read.result (bytes_are c.args.bytes.now c.type_inv.bytes) c.read.ensures

pub returns-clause-first : goal.returns-clause-first
returns-clause-first c = reports_first c.args.bytes.now c.read.result c.read.ensures
