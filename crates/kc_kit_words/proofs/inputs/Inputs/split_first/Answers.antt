use Rattle.std.proofs.Common.{Some, None, ◌∙◌, ap, sym, map, string_bytes}
use Rattle.kc_kit_words.specs.Inputs.{first_of}
use Rattle.kc_kit_words.proofs.OptionLemmas.{inputs_of-first, inputs_of-none}
use Rattle.kc_kit_words.proofs.inputs.Inputs.split_first.Goals as goal

pub returns-in-Some-role_of : goal.returns-in-Some-role_of
returns-in-Some-role_of c =
    sym (ap first_of (c.loop-option.invariant ∙ inputs_of-first c.args.self.verb.now (map string_bytes c.loop-option.left.now) (c.in-Some.option.now, c.in-Some.name.now) (map string_bytes c.in-Some.rest.now) (Some c.in-Some-role_of.role)
    (sym c.in-Some.ensures.first) (sym c.in-Some-role_of.ensures)))

pub loop-option-preserved : goal.loop-option-preserved
loop-option-preserved c =
    c.loop-option.invariant ∙ inputs_of-first c.args.self.verb.now (map string_bytes c.loop-option.left.now) (c.in-Some.option.now, c.in-Some.name.now) (map string_bytes c.in-Some.rest.now) None
    (sym c.in-Some.ensures.first) (sym c.in_default-role_of.ensures)

pub returns : goal.returns
returns c = sym (ap first_of (c.loop-option.invariant ∙ inputs_of-none c.args.self.verb.now (map string_bytes c.loop-option.left.now) (sym c.in_default.ensures.first)))
