use Rattle.kc_kit_messages.specs.Origins.{words_of}
use Rattle.kc_kit_answer.proofs.LinkLemmas.{link-refused}
use Rattle.kc_kit_answer.proofs.placing.place_modules.Goals as goal

pub returns-in-Err : goal.returns-in-Err
returns-in-Err c = link-refused (words_of c.args.origins.now) c.args.modules.now c.args.ranges.now c.in-Err.fault c.link_refusal.result c.in-Err.ensures c.link_refusal.ensures.line c.link_refusal.ensures.memory
