use Rattle.std.proofs.Common.{◌++◌, ◌∷◌, [], ◌∙◌, subst}
use Rattle.std.specs.Prelude.{codes, decimal}
use Rattle.kc_trace.specs.Out.{Puts}
use Rattle.kc_trace.specs.Trace.{out_of}
use Rattle.kc_trace.proofs.Outs.{Puts-append}
use Rattle.kc_cycles.specs.Lives.{reset_name}
use Rattle.kc_cycles.proofs.restart.put_restart.Goals as goal

pub returns : goal.returns
returns g c =
    let a = out_of g.S.Sink.written g.S.Sink.faults c.args.out.now in
    let b = out_of g.S.Sink.written g.S.Sink.faults c.put_text.new.self in
    let d = out_of g.S.Sink.written g.S.Sink.faults c.put_text-2.new.self in
    let e = out_of g.S.Sink.written g.S.Sink.faults c.put_text-3.new.self in
    let f = out_of g.S.Sink.written g.S.Sink.faults c.put_text-4.new.self in
    let h = out_of g.S.Sink.written g.S.Sink.faults c.put_text-5.new.self in
    let number = decimal c.args.at in
    let name = reset_name c.args.by_watchdog in
    let numbered = Puts-append a (codes "B ") b number d c.put_text.ensures.text (subst (λ xs. Puts b xs d) (c.as_bytes.ensures.value ∙ c.format.ensures.text) c.put_text-2.ensures.text) in
    let spaced = Puts-append a (codes "B " ++ number) d (codes " ") e numbered c.put_text-3.ensures.text in
    let named = Puts-append a (codes "B " ++ number ++ codes " ") e name f spaced (subst (λ xs. Puts e xs f) c.name_of.ensures c.put_text-4.ensures.text) in
    Puts-append a (codes "B " ++ number ++ codes " " ++ name) f (10 ∷ []) h named c.put_text-5.ensures.text
