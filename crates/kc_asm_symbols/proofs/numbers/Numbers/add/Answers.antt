use Rattle.std.specs.Prelude.{◌≡◌, false, unwrap_or, option_copied}
use Rattle.std.proofs.Common.{sym, ap, ◌∙◌}
use Rattle.kc_asm_symbols.specs.Tables.{entry_at}
use Rattle.kc_asm_symbols.proofs.TableLemmas.{one_set, set_to_nothing}
use Rattle.kc_asm_symbols.proofs.numbers.Numbers.add.Goals as goal

pub returns-in_ok-insert-in-None : goal.returns-in_ok-insert-in-None
returns-in_ok-insert-in-None c =
    let name = c.args.name.now in
    let before = c.args.self.now.map.entries in
    let after = c.insert.new.self.entries in
    let none : entry_at false before name ≡ false = ap (λ o. unwrap_or o false) (sym c.get.ensures.value ∙ ap option_copied c.in-None.is) in
    set_to_nothing name false (entry_at false before) (entry_at false after) none
    (one_set false false before after c.in_ok-key-in-None.key name c.in_ok-key-in-None.ensures.items c.in_ok-insert-in-None.ensures.updates.1 c.in_ok-insert-in-None.ensures.updates.3)
