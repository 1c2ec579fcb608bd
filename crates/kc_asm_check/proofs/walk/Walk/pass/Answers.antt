use Rattle.std.proofs.Common.{◌≡◌, ◌<◌, length, ap, ◌∙◌, arith}
use Rattle.std.proofs.lemmas.Option.{slice_get-get_or}
use Rattle.kc_source_statement.specs.Trees.{action_tree}
use Rattle.kc_asm_symbols.specs.Located.{located, segment_after}
use Rattle.kc_asm_symbols.specs.declared.segments.Segment.{Segment}
use Rattle.kc_asm_symbols.proofs.SegmentLemmas.{few_pieces}
use Rattle.kc_asm_check.specs.Checking.{place_at}
use Rattle.kc_asm_check.proofs.WalkLemmas.{ends_at, passes_at}
use Rattle.kc_asm_check.proofs.walk.Walk.pass.Goals as goal

pub loop-i-preserved : goal.loop-i-preserved
loop-i-preserved c =
    let i = c.loop-i.i in
    let stmts = c.args.stmts.now in
    let locations = c.args.locations.now in
    let stmt = c.index-stmts-i.result in
    let a = action_tree stmt.action in
    let v = c.loop-i.self in
    let w = c.leave.new.self in
    let all = located (place_at locations) stmts in
    let within : i < length locations = omega (arith, c.loop-i-test.true, c.requires.each) in
    let segment : w.segment ≡ segment_after v.segment a = c.in_ok-leave.ensures.segment ∙ ap (λ (g : Segment). segment_after g a) c.in_ok-enter.ensures.segment in
    let bytes = c.loop-i.invariant.bytes in
    record {
      pieces = few_pieces v.segment w.segment a i segment c.loop-i.invariant.pieces;
      bytes = omega (arith, c.in_ok-leave.ensures.few, c.in_ok-enter.ensures.sum, bytes);
      passing = passes_at v c.enter.new.self w all i v.segment w.segment stmts stmt locations _ _ _ _
          c.loop-i-test.true c.index-stmts-i.is (slice_get-get_or locations i _ within) segment
          (c.in_ok-enter.ensures.at all) (c.in_ok-enter.ensures.found all) c.in_ok-enter.ensures.puts
          c.in_ok-enter.ensures.regions c.in_ok-enter.ensures.sum
          (c.in_ok-leave.ensures.behind all)
          c.in_ok-leave.ensures.regions c.in_ok-leave.ensures.sum c.in_ok-leave.ensures.found c.in_ok-leave.ensures.puts
          c.loop-i.invariant.passing;
    }

pub returns-clause-found : goal.returns-clause-found
returns-clause-found c =
    (ends_at c.loop-i.self (located (place_at c.args.locations.now) c.args.stmts.now) (place_at c.args.locations.now) c.loop-i.i c.loop-i.self.segment c.args.stmts.now _ _ _ _
    c.loop-i-test.false c.loop-i.invariant.passing).found

pub returns-clause-puts : goal.returns-clause-puts
returns-clause-puts c =
    (ends_at c.loop-i.self (located (place_at c.args.locations.now) c.args.stmts.now) (place_at c.args.locations.now) c.loop-i.i c.loop-i.self.segment c.args.stmts.now _ _ _ _
    c.loop-i-test.false c.loop-i.invariant.passing).puts_given

pub returns-clause-sum : goal.returns-clause-sum
returns-clause-sum c =
    (ends_at c.loop-i.self (located (place_at c.args.locations.now) c.args.stmts.now) (place_at c.args.locations.now) c.loop-i.i c.loop-i.self.segment c.args.stmts.now _ _ _ _
    c.loop-i-test.false c.loop-i.invariant.passing).summed

pub returns-clause-behind : goal.returns-clause-behind
returns-clause-behind c =
    (ends_at c.loop-i.self (located (place_at c.args.locations.now) c.args.stmts.now) (place_at c.args.locations.now) c.loop-i.i c.loop-i.self.segment c.args.stmts.now _ _ _ _
    c.loop-i-test.false c.loop-i.invariant.passing).behind
