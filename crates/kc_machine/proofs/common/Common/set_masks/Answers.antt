use Rattle.std.proofs.Common.{◌≡◌, ◌+◌, ◌*◌, ◌-◌, ◌∙◌, ap, refl}
use Rattle.kc_block_spec.specs.Writing.{with_board_registers}
use Rattle.kc_intc.specs.declared.requests.Requests.{Requests}
use Rattle.kc_machine_spec.specs.Board.{with_masks}
use Rattle.kc_machine.specs.Bus.{held_of}
use Rattle.kc_machine.proofs.Noting.{masks-were-set}
use Rattle.kc_machine.proofs.common.Common.set_masks.Goals as goal

pub returns-clause-scene : goal.returns-clause-scene
returns-clause-scene g c =
    let u = c.args.self.now.block.units in
    let wsr = c.args.masks.wsr in
    let high = c.from-2.result in
    let set : c.set_wsr.new.self.units ≡ with_masks u c.args.masks =
    c.set_wsr.ensures.units
    ∙ ap (λ x. with_board_registers x (record x.board_registers { wsr = wsr })) c.set_requests.ensures.units
    ∙ ap (λ (r : Requests). with_board_registers u (record u.board_registers { requests = record r { mask = c.from.result + 256 * high }; wsr = wsr })) c.requests-requests.ensures
    ∙ ap (λ low. with_board_registers u (record u.board_registers { requests = record u.board_registers.requests { mask = low + 256 * high }; wsr = wsr })) c.from.ensures
    ∙ ap (λ n. with_board_registers u (record u.board_registers { requests = record u.board_registers.requests { mask = c.args.masks.int_mask + 256 * n }; wsr = wsr })) c.from-2.ensures in
    masks-were-set g.X.Extra.further (held_of c.args.self.now) c.args.masks _ _ _ set (ap (λ t. t - 1) (c.set_wsr.ensures.time ∙ c.set_requests.ensures.time)) refl
