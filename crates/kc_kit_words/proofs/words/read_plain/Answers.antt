use Rattle.std.proofs.Common.{◌≡◌, ◌∙◌, true, false, cond, None, ap, sym, map, string_bytes, arith}
use Rattle.kc_kit_words.specs.Options.{are_options}
use Rattle.kc_kit_words.specs.Commands.{sparing}
use Rattle.kc_kit_words.specs.Words.{command_by}
use Rattle.kc_kit_words.proofs.OptionLemmas.{command_of-verb}
use Rattle.kc_kit_words.proofs.words.read_plain.Goals as goal

pub returns-then-are_options-clause-asked : goal.returns-then-are_options-clause-asked
returns-then-are_options-clause-asked c =
    let v = string_bytes c.verb-item.result in
    let files = map string_bytes c.split_at.result.0.now in
    let options = map string_bytes c.split_at.result.1.now in
    let proper : are_options v options ≡ true = ap (λ w. are_options w options) (sym c.as_str.ensures.value) ∙ sym c.are_options.ensures ∙ c.if-are_options.true in
    let read = command_of-verb c.args.words.now c.split_at.result.0.now c.split_at.result.1.now c.verb-item.result c.count_files.result (omega (arith, c.in-len1-up.len_at_least)) c.verb-item.is c.count_files.ensures.count
    c.split_at.ensures.front c.split_at.ensures.back in
    c.sparing.ensures.asked ∙ ap sparing c.read_command.ensures.asked ∙ ap (λ w. sparing (command_by w files options)) c.as_str-then-are_options.ensures.value ∙ sym (read ∙ ap (λ b. cond b (sparing (command_by v files options)) None) proper)

pub returns-else-are_options-clause-asked : goal.returns-else-are_options-clause-asked
returns-else-are_options-clause-asked c =
    let v = string_bytes c.verb-item.result in
    let files = map string_bytes c.split_at.result.0.now in
    let options = map string_bytes c.split_at.result.1.now in
    let proper : are_options v options ≡ false = ap (λ w. are_options w options) (sym c.as_str.ensures.value) ∙ sym c.are_options.ensures ∙ c.if-are_options.false in
    let read = command_of-verb c.args.words.now c.split_at.result.0.now c.split_at.result.1.now c.verb-item.result c.count_files.result (omega (arith, c.in-len1-up.len_at_least)) c.verb-item.is c.count_files.ensures.count
    c.split_at.ensures.front c.split_at.ensures.back in
    sym (read ∙ ap (λ b. cond b (sparing (command_by v files options)) None) proper)
