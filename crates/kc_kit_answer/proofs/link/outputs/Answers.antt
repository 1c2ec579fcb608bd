use Rattle.std.proofs.Common.{◌≡◌, ◌∷◌, sym, subst}
use Rattle.kc_kit_files.specs.Response.{Response, write}
use Rattle.kc_kit_files.specs.Writes.{writing_readable}
use Rattle.kc_kit_words.specs.Asked.{beside_in}
use Rattle.kc_kit_answer.specs.Jobs.{maybe_written}
use Rattle.kc_kit_answer.specs.Link.{LinksTo}
use Rattle.kc_kit_answer.specs.Places.{Placing}
use Rattle.kc_kit_answer.proofs.AnswerSteps.{prepared-widen}
use Rattle.kc_kit_answer.proofs.LinkLemmas.{linked-files}
use Rattle.kc_kit_answer.proofs.link.outputs.Goals as goal

pub image_at-requires : goal.image_at-requires
image_at-requires c = record { ranges = c.args.link.now.placing; in_bounds = c.requires.linkable.bounds; placement = c.requires.placed }

pub beside-requires-clause-placed : goal.beside-requires-clause-placed
beside-requires-clause-placed c = record { ranges = c.args.link.now.placing; in_bounds = c.requires.linkable.bounds; placement = c.requires.placed }

pub returns-in-Ok-beside : goal.returns-in-Ok-beside
returns-in-Ok-beside c = λ names.
    let link = c.args.link.now in
    let bytes = c.in-Ok-write.bytes.items in
    let first = maybe_written c.in-Ok-beside.lines in
    let second = maybe_written c.in-Ok-beside.map in
    let may : Response → Type 0 = Placing names link.placing (LinksTo link.out.now (beside_in link.beside) link.placing) c.args.modules.now in
    prepared-widen (λ (response : Response). response ≡ writing_readable (write link.out.now bytes ∷ first) second) may c.writing.result
    (λ r e. subst may (sym e)
    (linked-files names link.out.now (beside_in link.beside) link.placing c.args.modules.now c.args.placement.now.places c.in-Ok.image bytes first second c.requires.placed.0 c.in-Ok.ensures c.in-Ok-write.ensures.spelled c.in-Ok-beside.ensures.lines
    c.in-Ok-beside.ensures.map))
    c.writing.ensures
