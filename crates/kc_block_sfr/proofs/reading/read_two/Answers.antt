use Rattle.std.proofs.Common.{◌≡◌, sym, ◌∙◌, ap, Option, Some, None, ◌-◌, ◌+◌}
use Rattle.kc_base.specs.declared.types.Kind.{Kind}
use Rattle.kc_block_spec.specs.Registers.{words_read}
use Rattle.kc_block_spec.specs.Accesses.{byte_read, even_word_read}
use Rattle.kc_block_spec.specs.RegisterLaws.{refusal, first_refusal}
use Rattle.kc_block_spec.proofs.Tables.{row_none}
use Rattle.kc_block_spec.proofs.Named.{even_bytes_read_are_asked}
use Rattle.kc_block_units.specs.Scheduler.{shown_units}
use Rattle.kc_block_units.specs.Standing.{standing}
use Rattle.kc_block_sfr.proofs.Outcomes.{refused_is}
use Rattle.kc_block_sfr.proofs.reading.read_two.Goals as goal

pub returns-in-Some-clause-answer : goal.returns-in-Some-clause-answer
returns-in-Some-clause-answer g c =
    let f = g.X.Extra.further in
    let t = c.args.now - 1 in
    let u = shown_units g.X.Extra.further (standing g.X.Extra.plain c.args.scheduler.now) c.args.now in
    let asked = even_bytes_read_are_asked f g.met.X.Extra.answers t c.args.window u c.args.sfr (row_none (words_read c.args.window) c.args.sfr c.requires.two) in
    refused_is (even_word_read f t c.args.window u c.args.sfr) c.in-Some.kind
    (ap (λ (r : Option Kind). first_refusal r (refusal (byte_read f t c.args.window u (c.args.sfr + 1)))) (sym c.in-Some.is ∙ c.read_refusal.ensures t u) ∙ sym asked)

pub returns-in-Some-read_refusal-clause-answer : goal.returns-in-Some-read_refusal-clause-answer
returns-in-Some-read_refusal-clause-answer g c =
    let f = g.X.Extra.further in
    let t = c.args.now - 1 in
    let u = shown_units g.X.Extra.further (standing g.X.Extra.plain c.args.scheduler.now) c.args.now in
    let asked = even_bytes_read_are_asked f g.met.X.Extra.answers t c.args.window u c.args.sfr (row_none (words_read c.args.window) c.args.sfr c.requires.two) in
    let low : ◌≡◌ {A = Option Kind} None (refusal (byte_read f t c.args.window u c.args.sfr)) = sym c.in_default.is ∙ c.read_refusal.ensures t u in
    let high : ◌≡◌ {A = Option Kind} (Some c.in-Some-read_refusal.kind) (refusal (byte_read f t c.args.window u (c.args.sfr + 1))) =
    sym c.in-Some-read_refusal.is ∙ c.read_refusal-2.ensures t u in
    refused_is (even_word_read f t c.args.window u c.args.sfr) c.in-Some-read_refusal.kind ((λ j. first_refusal (low j) (high j)) ∙ sym asked)
