use Rattle.std.proofs.Common.{◌≡◌, ◌+◌, ◌-◌, length, refl, sym, ap, ◌∙◌, arith}
use Rattle.std.proofs.lemmas.List.{get_or_read}
use Rattle.kc_link_place.specs.Stands.{how_many}
use Rattle.kc_link_place.specs.Gaps.{begins_at, ends_at}
use Rattle.kc_link_place.proofs.Covers.{open_none, open_next, standing_step, standing_fits, counted_more}
use Rattle.kc_link_place.proofs.cover.cover.Goals as goal

pub loop-address-init : goal.loop-address-init
loop-address-init c = record {
  size = ap length c.new-cover.ensures.items;
  counts = λ a l. absurd (omega arith);
  standing = sym (open_none c.args.stands.now);
}

pub overflow_add-standing : goal.overflow_add-standing
overflow_add-standing c =
    let i = c.loop-address.address in
    let b : c.index.result.now ≡ begins_at c.args.stands.now i = get_or_read c.in_ok-begins.begins.items i _ (omega (arith, c.in_ok-begins.ensures.counts.0)) c.index.ensures 0 ∙ c.in_ok-begins.ensures.counts.1 i (omega arith) in
    let f = standing_fits c.args.stands.now i c.loop-address.standing c.index.result.now (ends_at c.args.stands.now i) c.loop-address.invariant.standing b refl in
    omega (arith, f, c.in_ok-begins.ensures.few)

pub overflow_sub-standing : goal.overflow_sub-standing
overflow_sub-standing c =
    let i = c.loop-address.address in
    let b : c.index.result.now ≡ begins_at c.args.stands.now i = get_or_read c.in_ok-begins.begins.items i _ (omega (arith, c.in_ok-begins.ensures.counts.0)) c.index.ensures 0 ∙ c.in_ok-begins.ensures.counts.1 i (omega arith) in
    let e : c.index-in-loop-address.result.now ≡ ends_at c.args.stands.now i = get_or_read c.in_ok-ends.ends.items i _ (omega (arith, c.in_ok-ends.ensures.0)) c.index-in-loop-address.ensures 0 ∙ c.in_ok-ends.ensures.1 i (omega arith) in
    omega (arith, standing_step c.args.stands.now i c.loop-address.standing c.index.result.now c.index-in-loop-address.result.now c.loop-address.invariant.standing b e)

pub loop-address-preserved : goal.loop-address-preserved
loop-address-preserved c =
    let i = c.loop-address.address in
    let b : c.index.result.now ≡ begins_at c.args.stands.now i = get_or_read c.in_ok-begins.begins.items i _ (omega (arith, c.in_ok-begins.ensures.counts.0)) c.index.ensures 0 ∙ c.in_ok-begins.ensures.counts.1 i (omega arith) in
    let e : c.index-in-loop-address.result.now ≡ ends_at c.args.stands.now i = get_or_read c.in_ok-ends.ends.items i _ (omega (arith, c.in_ok-ends.ensures.0)) c.index-in-loop-address.ensures 0 ∙ c.in_ok-ends.ensures.1 i (omega arith) in
    let s = standing_step c.args.stands.now i c.loop-address.standing c.index.result.now c.index-in-loop-address.result.now c.loop-address.invariant.standing b e in
    let here : (c.loop-address.standing + c.index.result.now) - c.index-in-loop-address.result.now ≡ how_many c.args.stands.now i = omega (arith, s) in
    let more = counted_more c.loop-address.cover.items c.push.new.self.items c.args.stands.now i _ c.loop-address.invariant.size c.in_ok-push.ensures.items here c.loop-address.invariant.counts in
    record {
      size = more.0;
      counts = more.1;
      standing = here ∙ sym (open_next c.args.stands.now i);
    }
