use Rattle.kc_kit_messages.specs.Meanings.{first_rows, second_rows, third_rows, fourth_rows, instruction_rows}
use Rattle.kc_kit_messages.proofs.Rows.{join, part}
use Rattle.kc_kit_messages.proofs.lookup.find_instruction.Goals as goal

pub returns : goal.returns
unfolding instruction_rows
returns c =
    let name = c.args.name.now in
    join _ name c.first.result.now _ _ _ first_rows _ c.first.ensures c.find_in-in_first.ensures
    (join _ name c.second.result.now _ _ _ second_rows _ c.second.ensures c.find_in-in_second.ensures
    (join _ name c.third.result.now _ _ _ third_rows fourth_rows c.third.ensures c.find_in-in_third.ensures
    (part _ name c.fourth.result.now _ fourth_rows c.fourth.ensures c.find_in-in_fourth.ensures)
    c.earlier-later.ensures) c.earlier-others.ensures) c.earlier.ensures
