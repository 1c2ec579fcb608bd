use Rattle.std.proofs.Common.{◌≡◌, ◌+◌, ◌-◌, Some, None, sym, ap, ◌∙◌, rules, arith}
use Rattle.kc_rules.specs.declared.fault.ReadFault.TheVariants as faults
use Rattle.kc_rules.specs.Events.{events, events_up_to}
use Rattle.kc_rules.specs.Lines.{names_of}
use Rattle.kc_rules.proofs.EventLemmas.{joined, events-none, events-wrong, last-atom, more-atoms}
use Rattle.kc_rules.proofs.parts.events.Goals as goal

pub returns-in_err-atom-clause-none : goal.returns-in_err-atom-clause-none
returns-in_err-atom-clause-none c =
    let l = c.loop-done in
    let marks = names_of c.args.marks.now in
    let reported : c.in_err-atom.field-0.0 ≡ faults.Wrong → events marks c.args.words.now ≡ None =
    λ wrong. ap (λ m. events_up_to m marks c.args.words.now) (sym c.len-most.ensures) ∙ l.invariant
    ∙ ap (λ o. joined l.events o) (events-wrong (c.len-most.result - l._done) marks l.words (c.in_err-atom.ensures.none wrong)) in
    search (rules, reported)

pub returns-then-not-has-clause-read : goal.returns-then-not-has-clause-read
returns-then-not-has-clause-read c =
    let l = c.loop-done in
    let marks = names_of c.args.marks.now in
    ap (λ m. events_up_to m marks c.args.words.now) (sym c.len-most.ensures)
    ∙ last-atom c.len-most.result l._done marks c.args.words.now l.words c.atom.new.words c.has.new.self l.events c.in_ok-atom.atom (omega arith)
    l.invariant c.in_ok-atom.ensures.read c.if-not-has.ensures
    ∙ ap (λ es. Some (es, c.has.new.self)) (sym c.in_ok-push.ensures.ok)

pub loop-done-preserved : goal.loop-done-preserved
loop-done-preserved c =
    let l = c.loop-done in
    let marks = names_of c.args.marks.now in
    more-atoms c.len-most.result l._done marks c.args.words.now l.words c.atom.new.words c.has.new.self l.events c.in_ok-atom.atom (omega arith)
    l.invariant c.in_ok-atom.ensures.read c.if-not-has.ensures
    ∙ ap (λ es. joined es (events_up_to (c.len-most.result - (l._done + 1)) marks c.has.new.self)) (sym c.in_ok-push.ensures.ok)

pub returns-clause-none : goal.returns-clause-none
returns-clause-none c = λ wrong.
    let l = c.loop-done in
    let marks = names_of c.args.marks.now in
    ap (λ m. events_up_to m marks c.args.words.now) (sym c.len-most.ensures) ∙ l.invariant
    ∙ ap (λ o. joined l.events o) (events-none (c.len-most.result - l._done) marks l.words (omega arith))
