use Rattle.std.proofs.Common.{◌≡◌, ◌∙◌, ◌++◌, [], Ok}
use Rattle.kc_link_place.specs.Stands.{fixed_from, wanted}
use Rattle.kc_link_place.specs.Gaps.{Represents}
use Rattle.kc_link_place.specs.Placing.{put_all}
use Rattle.kc_link_place.proofs.AnswerLemmas.{ok_case, err_case}
use Rattle.kc_link_place.proofs.placing.with_pieces.Goals as goal

pub returns-in-Ok : goal.returns-in-Ok
returns-in-Ok c = λ r s.
    let ms = c.args.modules.now in
    let all : c.deref.result.now ≡ wanted ms = c.deref.ensures.value ∙ c.in_ok-pieces.ensures in
    let p = c.in-Ok.ensures (fixed_from 0 ms) r in
    let put : put_all c.args.ranges.now (fixed_from 0 ms) [] (wanted ms) ≡ Ok c.in-Ok.puts.items = rw (← all) p.0 in
    let free : Represents c.deref-in-Ok-2.result.now (fixed_from 0 ms ++ c.deref-in-Ok.result.now) = rw (c.deref-in-Ok-2.ensures.value, c.deref-in-Ok.ensures.value) p.1 in
    ok_case ms c.args.ranges.now c.args.size c.in-Ok.puts.items c.deref-in-Ok.result.now c.with_stack.result c.deref-in-Ok.ensures.value s put (c.with_stack.ensures (fixed_from 0 ms) free)

pub returns : goal.returns
returns c = λ r s.
    let ms = c.args.modules.now in
    let all : c.deref.result.now ≡ wanted ms = c.deref.ensures.value ∙ c.in_ok-pieces.ensures in
    err_case ms c.args.ranges.now c.in-Err.cause c.fault_of.result c.deref.result.now c.put_all.new.gaps.items c.fault_of.ensures all (c.in-Err.ensures (fixed_from 0 ms) r)
