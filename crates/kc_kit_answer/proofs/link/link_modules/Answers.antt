use Rattle.kc_kit_messages.specs.Origins.{words_of}
use Rattle.kc_kit_words.specs.Asked.{beside_in}
use Rattle.kc_kit_answer.specs.Link.{LinksTo}
use Rattle.kc_kit_answer.proofs.LinkLemmas.{placing-refused}
use Rattle.kc_kit_answer.proofs.link.link_modules.Goals as goal

pub returns-in-Ok : goal.returns-in-Ok
returns-in-Ok c = c.outputs.ensures (words_of c.args.origins.now)

pub returns-in-Err : goal.returns-in-Err
returns-in-Err c =
    let link = c.args.link.now in
    placing-refused (words_of c.args.origins.now) link.placing (LinksTo link.out.now (beside_in link.beside) link.placing) c.args.modules.now c.in-Err.refusal c.in-Err.ensures
