use Rattle.std.proofs.Common.{◌≡◌, ◌++◌, [], ◌∷◌, decimal, length-append, arith}
use Rattle.std.proofs.lemmas.Grind.{common_steps}
use Rattle.std.proofs.lemmas.Fmt.{length-decimal-le}
use Rattle.kc_gen.proofs.sources.put_line.Goals as goal

pub returns-clause-short : goal.returns-clause-short
returns-clause-short c =
    let text = c.args.text.now.items in
    let before = c.args.before.now in
    let digits = decimal c.args.number in
    let joined : c.push.new.self.items ≡ text ++ (before ++ (digits ++ 10 ∷ [])) = grind (arith, common_steps) in
    let few = length-decimal-le 5 c.args.number (omega arith) (omega (arith, c.ranges.number.fits)) (omega arith) in
    rw joined (omega (arith, length-append text (before ++ (digits ++ 10 ∷ [])), length-append before (digits ++ 10 ∷ []), length-append digits (10 ∷ []), few))
