use Rattle.std.proofs.Common.{arith}
use Rattle.kc_bound.proofs.CheckLemmas.{sound_everywhere}
use Rattle.kc_bound.proofs.checking.all_sound.Goals as goal

pub returns-clause-sound : goal.returns-clause-sound
returns-clause-sound c = λ yes.
    sound_everywhere c.args.image.now c.args.notes.now c.args.from c.args.c.now
    (λ k within. c.loop-i.invariant k (omega (arith, c.args.c.now.standings.ok.0)))
