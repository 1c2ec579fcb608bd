use Rattle.std.proofs.Common.{List, Option, map, string_bytes, sym, ◌∙◌, ap}
use Rattle.kc_obj_module.specs.Object.{Object}
use Rattle.kc_link.specs.declared.addresses.SourceLine.{SourceLine}
use Rattle.kc_link.specs.SourceLine.{source_line}
use Rattle.kc_kit_running.specs.Sources.{line_of_file}
use Rattle.kc_kit_running.proofs.source_lines.line_at.Goals as goal

pub returns-in-None : goal.returns-in-None
returns-in-None c =
    let names = map string_bytes c.args.sources.now.files.now in
    let places = c.args.sources.now.placement.places in
    sym
    (ap (λ (ms : List Object). line_of_file names (source_line ms places c.args.addr)) (sym c.deref.ensures.value)
    ∙ ap (λ (o : Option SourceLine). line_of_file names o) (sym c.source_line.ensures ∙ c.in-None.is))

pub returns-in-Some : goal.returns-in-Some
returns-in-Some c =
    let names = map string_bytes c.args.sources.now.files.now in
    let places = c.args.sources.now.placement.places in
    c.line_among.ensures
    ∙ sym
    (ap (λ (ms : List Object). line_of_file names (source_line ms places c.args.addr)) (sym c.deref.ensures.value)
    ∙ ap (λ (o : Option SourceLine). line_of_file names o) (sym c.source_line.ensures ∙ c.in-Some.is))
