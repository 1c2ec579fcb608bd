use Rattle.std.proofs.Common.{◌≡◌, ℕ, true, ap}
use Rattle.kc_asm_origin.specs.Alike.{are_lines_alike}
use Rattle.kc_asm_origin.proofs.Whole.{whole}
use Rattle.kc_asm_origin.proofs.finding.origin_between.Goals as goal

pub origin_in-requires-clause-all : goal.origin_in-requires-clause-all
origin_in-requires-clause-all c =
    let alike : are_lines_alike c.args.other.now c.args.text.now ≡ true = cc (c.are_lines_alike.ensures, c.if-not-are_lines_alike.false) in
    let line : c.fault.inside.line ≡ c.args.fault.0 = ap (λ (f : ℕ × ℕ). f.0) c.fault.view_is in
    rw (c.deref.ensures.value, c.in_ok-places.ensures, line) (whole c.args.fault.0 c.args.other.now c.args.text.now alike)
