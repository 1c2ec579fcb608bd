use Rattle.std.proofs.Common.{◌≡◌, ◌+◌, drop}
use Rattle.std.proofs.lemmas.List.{drop-drop}
use Rattle.kc_rules.proofs.words.Words.advance.Goals as goal

pub returns-then-self-len : goal.returns-then-self-len
returns-then-self-len c =
    let w = c.self.inside in
    let more : drop 1 (drop w.at w.words.items) ≡ drop (w.at + 1) w.words.items = drop-drop 1 w.at w.words.items in
    cc
