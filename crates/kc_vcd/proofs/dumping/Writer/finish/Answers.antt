use Rattle.std.proofs.Common.{[], ◌∷◌, subst, ap}
use Rattle.kc_vcd.specs.declared.change.Change.TheVariants.{Unseen}
use Rattle.kc_vcd.specs.Changes.{taken, before}
use Rattle.kc_vcd.specs.Writing.{Written, HasPut}
use Rattle.kc_vcd.proofs.Written.{finished}
use Rattle.kc_vcd.proofs.dumping.Writer.finish.Goals as goal

pub returns : goal.returns
returns c =
    let old = c.args.self.now in
    let mid = c.put_before.new.self in
    let new = c.put.new.self in
    let base = ap (λ (w : Written). w.base) c.self.view_is in
    finished old mid new (subst (λ b. HasPut old (taken (before b old.samples)) mid) base c.in_ok-put_before.ensures.put)
    (subst (λ b. HasPut mid (record { at = b; change = Unseen } ∷ []) new) base c.in_ok-put.ensures.put)
