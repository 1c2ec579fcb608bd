use Rattle.std.proofs.Common.{◌≡◌, rules}
use Rattle.kc_vcd.proofs.Written.{put_zero}
use Rattle.kc_vcd.proofs.dumping.Writer.put_before.Goals as goal

pub returns-then-end-eq0-clause-put : goal.returns-then-end-eq0-clause-put
returns-then-end-eq0-clause-put c =
    let zero : c.args.end ≡ 0 = search rules in
    put_zero c.args.self.now c.args.end zero
