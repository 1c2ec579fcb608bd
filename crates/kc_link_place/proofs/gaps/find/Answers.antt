use Rattle.std.proofs.Common.{◌∙◌, sym, ap, arith}
use Rattle.std.specs.Prelude.{ℕ}
use Rattle.kc_link_place.specs.Ranges.{step_of}
use Rattle.kc_link_place.specs.Stands.{least_free}
use Rattle.kc_link_place.proofs.FirstFit.{first_is_least, empty_is_least}
use Rattle.kc_link_place.proofs.gaps.find.Goals as goal

pub returns-then-count-eq0 : goal.returns-then-count-eq0
returns-then-count-eq0 c = λ taken r.
    let e = empty_is_least c.args.range.0 c.args.range.1 c.args.kind taken in
    c.first_of.ensures ∙ (e ∙ ap (λ (n : ℕ). least_free taken (c.args.range.0, c.args.range.1) (step_of c.args.kind) n) (sym c.if-count-eq0.true))

pub returns-else-count-eq0 : goal.returns-else-count-eq0
returns-else-count-eq0 c = λ taken r.
    c.first_in.ensures ∙ first_is_least c.args.range.0 c.args.range.1 c.args.kind c.args.count c.args.gaps.now taken r (omega arith) (omega arith)
