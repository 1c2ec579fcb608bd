use Rattle.std.proofs.Common.{◌≡◌, Option, None, sym, ap, ◌∙◌}
use Rattle.kc_obj_module.specs.Object.{object_of}
use Rattle.kc_obj_module.specs.Rules.{is_module}
use Rattle.kc_obj_fields.specs.declared.faults.Fault.{Fault}
use Rattle.kc_obj.specs.Reading.{Read, reported, object_read}
use Rattle.kc_obj.proofs.reading.Reading.finished.Goals as goal

pub built-requires : goal.built-requires
built-requires c =
    let inside = c.self.inside in
    let r = c.args.self in
    let view = c.self.view_is in
    let quiet : r.fault ≡ None = ap (λ (q : Read). q.fault) (sym view) ∙ c.in-None.is in
    (λ i. is_module (object_of inside.name inside.segments.items inside.externals.items inside.publics.items (c.into_contents-contents.ensures i) (c.into_fixups-numbers.ensures i) (c.lines_if-entries.ensures i)))
    ∙ ap (λ (q : Read). is_module (object_read q)) view
    ∙ c.requires (object_read r) (ap (λ (f : Option Fault). reported f (object_read r)) quiet)
