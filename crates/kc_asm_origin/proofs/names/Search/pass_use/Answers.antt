use Rattle.std.proofs.Common.{refl, sym, subst}
use Rattle.kc_asm_origin.specs.Seeking.{IsKnown}
use Rattle.kc_asm_origin.proofs.Uses.{one_use}
use Rattle.kc_asm_origin.proofs.names.Search.pass_use.Goals as goal
use Rattle.kc_source.specs.Faults.{use_of}

pub returns : goal.returns
returns c = λ line code all rest whole.
    one_use c.args.self.now _ line code all rest whole (use_of c.args.at c.args.kind c.args.name.now) c.in_ok-find.ensures.line c.in_ok-find.ensures.code c.in_ok-find.ensures.all
    (λ earlier known. c.in_ok-size_record.ensures earlier (use_of c.args.at c.args.kind c.args.name.now) refl refl (subst (λ k. IsKnown k earlier) (sym c.in_ok-find.ensures.before) known))
    (λ earlier. c.in_ok-find.ensures.found all earlier)
