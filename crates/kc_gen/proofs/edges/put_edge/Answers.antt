use Rattle.std.proofs.Common.{◌≡◌, ◌++◌, arith, length-append}
use Rattle.std.proofs.lemmas.Grind.{common_steps}
use Rattle.kc_gen.specs.Stimuli.{edge_line}
use Rattle.kc_gen.proofs.Growing.{edge_line-short}
use Rattle.kc_gen.proofs.edges.put_edge.Goals as goal

pub returns-clause-short : goal.returns-clause-short
returns-clause-short c =
    let joined : c.push-3.new.self.items ≡ c.args.text.now.items ++ edge_line c.args.at c.args.number = grind (arith, common_steps) in
    rw joined (omega (arith, length-append c.args.text.now.items (edge_line c.args.at c.args.number), edge_line-short c.args.at c.args.number c.requires))
