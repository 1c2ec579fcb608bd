use Rattle.std.proofs.Common.{List, ℕ, ◌∙◌, sym, ap}
use Rattle.std.specs.List.{list_any}
use Rattle.std.specs.Str.{bytes_eq}
use Rattle.kc_rules.specs.Marks.{is_own}
use Rattle.kc_rules.proofs.NameLemmas.{list_any-by}
use Rattle.kc_rules.proofs.marks.is_own.Goals as goal

pub returns : goal.returns
unfolding is_own
returns c =
    let same = λ (own : List ℕ). bytes_eq own c.args.word.now in
    c.is_among.ensures ∙ sym (list_any-by (λ own. own.now) same c.own_words.result.now) ∙ ap (list_any same) c.own_words.ensures
