use Rattle.std.proofs.Common.{◌∙◌, ap, sym, map, string_bytes, arith}
use Rattle.std.specs.Option.{option_map, option_or}
use Rattle.kc_kit_words.specs.Usage.{wrong_text, wrong_by, wrong_option, wrong_with, wrong_writes}
use Rattle.kc_kit_words.proofs.UsageLemmas.{plain_usage-verb}
use Rattle.kc_kit_words.proofs.usage.wrong_plain.Goals as goal

pub returns : goal.returns
returns c =
    let files = map string_bytes c.split_at.result.0.now in
    let options = map string_bytes c.split_at.result.1.now in
    c.first.ensures ∙ ap (λ w. option_or w (option_map wrong_text c.wrong_writes.result)) c.wrong_by.ensures
    ∙ ap (option_or (wrong_by c.as_str-verb.result.now files options (wrong_option c.as_str-verb.result.now options))) (c.wrong_writes.ensures ∙ ap wrong_writes c.read_command.ensures.asked)
    ∙ ap (λ v. wrong_with v files options) c.as_str-verb.ensures.value
    ∙ sym (plain_usage-verb c.args.words.now c.split_at.result.0.now c.split_at.result.1.now c.verb-item.result c.count_files.result (omega (arith, c.in-len1-up.len_at_least)) c.verb-item.is c.count_files.ensures.count
    c.split_at.ensures.front c.split_at.ensures.back)
