use Rattle.kc_convert.proofs.SampleLaws.{indexed-push}
use Rattle.kc_convert.proofs.index.Index.push.Goals as goal

pub returns-clause-whole : goal.returns-clause-whole
returns-clause-whole c =
    rw c.in_ok-push.ensures.items
    (indexed-push c.args.self.now.by_channel.items c.add_to.new.by_channel.items c.args.self.now.samples.items c.args.sample
    c.requires.whole c.requires.later c.requires.value c.in_ok-add_to.ensures)
