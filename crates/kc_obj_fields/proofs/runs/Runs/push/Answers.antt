use Rattle.kc_obj_fields.proofs.PlaceLemmas.{table_none, table_push}
use Rattle.kc_obj_fields.proofs.runs.Runs.push.Goals as goal

pub invariant_of-self : goal.invariant_of-self
invariant_of-self c =
    let inside = c.self.inside in
    rw (c.in-Ok.ensures.contents, c.in-Ok.ensures.starts) (table_push inside.places c.put_run.new.places inside.contents.items inside.starts.items c.args.run c.args.start c.self.invariant c.in-Ok.ensures.places)

pub invariant_of-self-in-Err : goal.invariant_of-self-in-Err
invariant_of-self-in-Err c = table_none c.forget.new.places c.forget.new.contents.items c.forget.new.starts.items c.forget.ensures.places c.forget.ensures.contents c.forget.ensures.starts
