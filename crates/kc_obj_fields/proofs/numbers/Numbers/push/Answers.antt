use Rattle.kc_obj_fields.proofs.PlaceLemmas.{covered_none, covered_push}
use Rattle.kc_obj_fields.proofs.numbers.Numbers.push.Goals as goal

pub invariant_of-self : goal.invariant_of-self
invariant_of-self c =
    let inside = c.self.inside in
    rw c.in-Ok.ensures.fixups (covered_push inside.under c.put_number.new.under inside.fixups.items c.args.fixup c.self.invariant c.in-Ok.ensures.under)

pub invariant_of-self-in-Err : goal.invariant_of-self-in-Err
invariant_of-self-in-Err c = covered_none c.forget.new.under c.forget.new.fixups.items c.forget.ensures.under c.forget.ensures.fixups
