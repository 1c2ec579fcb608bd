use Rattle.std.proofs.Common.{rules}
use Rattle.kc_profile.specs.Statistics.{IsWhole}
use Rattle.kc_profile.proofs.Few.{few-seen}
use Rattle.kc_profile.proofs.States.{statistics-more}
use Rattle.kc_profile.proofs.statistics.Statistics.see.Goals as goal

pub returns-clause-statistics : goal.returns-clause-statistics
returns-clause-statistics c = λ sights follows statistics.
    let inside = c.see_instructions.ensures.inside in
    let whole : IsWhole c.see_requests.new.self = search rules in
    statistics-more c.args.sight.now sights c.args.self.now c.see_instructions.new.self c.see_stack.new.self c.see_requests.new.self inside follows whole c.see_instructions.ensures.statistics c.see_stack.ensures.statistics c.see_requests.ensures.seen c.see_requests.ensures.rest statistics

pub returns-clause-few : goal.returns-clause-few
returns-clause-few c = λ n few.
    few-seen n c.args.sight.now c.args.self.now c.see_instructions.new.self c.see_stack.new.self c.see_requests.new.self c.see_instructions.ensures.inside c.see_requests.ensures.whole c.see_instructions.ensures.statistics c.see_stack.ensures.statistics c.see_requests.ensures.seen c.see_requests.ensures.rest few
