use Rattle.std.proofs.Common.{sym, ◌∙◌, Some, None, ◌-◌, ◌%◌}
use Rattle.kc_block_spec.specs.Accesses.{byte_written, even_word_written}
use Rattle.kc_block_units.specs.Scheduler.{shown_units, IsLeft}
use Rattle.kc_block_units.specs.Standing.{standing}
use Rattle.kc_block_sfr.proofs.Outcomes.{answer_of, none_of_refused}
use Rattle.kc_block_sfr.proofs.Words.{refused_low, refused_high, two_left}
use Rattle.kc_block_sfr.proofs.writing.write_two.Goals as goal

pub returns-in-Some-clause-answer : goal.returns-in-Some-clause-answer
returns-in-Some-clause-answer g c =
    refused_low g.X.Extra.further g.X.Extra.agrees (c.args.now - 1) c.args.window (shown_units g.X.Extra.further (standing g.X.Extra.plain c.args.scheduler.now) c.args.now) c.args.sfr c.args.value c.requires.two c.in-Some.kind
    (sym c.in-Some.is ∙ c.write_refusal.ensures (c.args.now - 1))

pub returns-in-Some-clause-left : goal.returns-in-Some-clause-left
returns-in-Some-clause-left g c =
    none_of_refused _ (even_word_written g.X.Extra.further (c.args.now - 1) c.args.window (shown_units g.X.Extra.further (standing g.X.Extra.plain c.args.scheduler.now) c.args.now) c.args.sfr c.args.value) c.in-Some.kind
    (refused_low g.X.Extra.further g.X.Extra.agrees (c.args.now - 1) c.args.window (shown_units g.X.Extra.further (standing g.X.Extra.plain c.args.scheduler.now) c.args.now) c.args.sfr c.args.value c.requires.two c.in-Some.kind
    (sym c.in-Some.is ∙ c.write_refusal.ensures (c.args.now - 1)))

pub returns-in-Some-write_refusal-clause-answer : goal.returns-in-Some-write_refusal-clause-answer
returns-in-Some-write_refusal-clause-answer g c =
    refused_high g.X.Extra.further g.X.Extra.agrees (c.args.now - 1) c.args.window (shown_units g.X.Extra.further (standing g.X.Extra.plain c.args.scheduler.now) c.args.now) c.args.sfr c.args.value c.requires.two (Some c.in-Some-write_refusal.kind)
    (sym c.in_default.is ∙ c.write_refusal.ensures (c.args.now - 1)) (sym c.in-Some-write_refusal.is ∙ c.write_refusal-2.ensures (c.args.now - 1))

pub returns-in-Some-write_refusal-clause-left : goal.returns-in-Some-write_refusal-clause-left
returns-in-Some-write_refusal-clause-left g c =
    none_of_refused _ (even_word_written g.X.Extra.further (c.args.now - 1) c.args.window (shown_units g.X.Extra.further (standing g.X.Extra.plain c.args.scheduler.now) c.args.now) c.args.sfr c.args.value) c.in-Some-write_refusal.kind
    (refused_high g.X.Extra.further g.X.Extra.agrees (c.args.now - 1) c.args.window (shown_units g.X.Extra.further (standing g.X.Extra.plain c.args.scheduler.now) c.args.now) c.args.sfr c.args.value c.requires.two (Some c.in-Some-write_refusal.kind)
    (sym c.in_default.is ∙ c.write_refusal.ensures (c.args.now - 1)) (sym c.in-Some-write_refusal.is ∙ c.write_refusal-2.ensures (c.args.now - 1)))

pub write_byte-requires-2 : goal.write_byte-requires-2
write_byte-requires-2 g c =
    let low = byte_written g.X.Extra.further (c.args.now - 1) c.args.window (shown_units g.X.Extra.further (standing g.X.Extra.plain c.args.scheduler.now) c.args.now) c.args.sfr (c.args.value % 256) in
    let left = IsLeft g.X.Extra.further g.X.Extra.agrees c.args.now (standing g.X.Extra.plain c.write_byte.new.scheduler) in
    record {
      present = record {
        bound = c.requires.present.bound;
        scheduled = (answer_of left left low (sym (c.write_refusal.ensures (c.args.now - 1)) ∙ c.in_default.is) c.write_byte.ensures.left c.write_byte.ensures.left).1.scheduled;
      };
    }

pub returns-clause-answer : goal.returns-clause-answer
returns-clause-answer g c =
    refused_high g.X.Extra.further g.X.Extra.agrees (c.args.now - 1) c.args.window (shown_units g.X.Extra.further (standing g.X.Extra.plain c.args.scheduler.now) c.args.now) c.args.sfr c.args.value c.requires.two None
    (sym c.in_default.is ∙ c.write_refusal.ensures (c.args.now - 1)) (sym c.in_default-write_refusal.is ∙ c.write_refusal-2.ensures (c.args.now - 1))

pub returns-clause-left : goal.returns-clause-left
returns-clause-left g c =
    two_left g.X.Extra.further g.X.Extra.agrees (c.args.now - 1) c.args.window (shown_units g.X.Extra.further (standing g.X.Extra.plain c.args.scheduler.now) c.args.now) c.args.sfr c.args.value c.requires.two c.args.now
    (standing g.X.Extra.plain c.write_byte.new.scheduler) (standing g.X.Extra.plain c.write_byte-2.new.scheduler) c.write_byte.ensures.left c.write_byte-2.ensures.left
