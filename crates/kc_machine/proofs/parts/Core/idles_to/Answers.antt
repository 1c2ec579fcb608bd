use Rattle.std.proofs.Common.{◌≡◌, ◌-◌, arith}
use Rattle.kc_intc.specs.declared.requests.Choice.TheVariants.{Go}
use Rattle.kc_machine_spec.specs.Machine.{asked}
use Rattle.kc_machine_spec.specs.Passing.{IsIdle}
use Rattle.kc_machine_spec.proofs.Idle.{rests_each}
use Rattle.kc_machine.specs.Seen.{machine_of}
use Rattle.kc_machine.proofs.parts.Core.idles_to.Goals as goal

pub returns-then-rests-clause-idles : goal.returns-then-rests-clause-idles
returns-then-rests-clause-idles g c = λ k less.
    let m = machine_of c.args.self.now in
    let idle : IsIdle m = rw c.if-rests.true at c.rests.ensures.idle in
    let none : asked m ≡ Go = rw c.if-rests.true at c.rests.ensures.asked in
    rests_each g.X.Extra.further (c.rest_end.result - 1 - c.args.self.now.time) k m idle none c.rest_end.ensures.quiet (omega (arith, less))
