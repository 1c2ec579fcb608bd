use Rattle.std.proofs.Common.{◌<◌, ◌≤◌, length, ◌∙◌, arith}
use Rattle.std.proofs.lemmas.Iterator.Adapters.{YieldsList-from_vec}
use Rattle.std.proofs.lemmas.Iterator.Consumers.{YieldsList-turn, YieldsList-end}
use Rattle.std.proofs.lemmas.List.{length_push}
use Rattle.std.proofs.lemmas.Option.{slice_get-get_or}
use Rattle.kc_source_statement.specs.Trees.{action_tree}
use Rattle.kc_asm_symbols.specs.Located.{located}
use Rattle.kc_asm_symbols.proofs.SegmentLemmas.{few_pieces}
use Rattle.kc_asm_check.specs.Checking.{place_at}
use Rattle.kc_asm.proofs.PassLemmas.{turn_of, writable_at, passes_at, written_all}
use Rattle.kc_asm.proofs.collecting.Collecting.write_all.Goals as goal

pub write-requires-clause-writable : goal.write-requires-clause-writable
write-requires-clause-writable c =
    let i = c.loop-what.i in
    let stmts = c.args.stmts.now in
    let locations = c.args.locations.now in
    let puts = c.args.puts.items in
    let begun = c.into_iter-what-iterator.ensures.into_iter_gives in
    let here = YieldsList-turn (YieldsList-from_vec {s = c.into_iter-what-iterator.result} puts begun.0 (begun.1 ∙ c.args.puts.ok.0)) c.loop-what.yielded c.loop-what.what-iterator c.loop-what.yielded_by c.next.result c.next.new.self c.in-Some.what c.in-Some.is c.next.ensures.steps in
    let within : i < length locations = omega (arith, here.0, c.loop-what.invariant.index, c.requires.each_put, c.requires.each) in
    writable_at c.loop-what.self (located (place_at locations) stmts) c.loop-what.self.segment stmts locations puts i c.index-stmts-i.result _ c.in-Some.what _
    (turn_of stmts locations puts i _ c.index-stmts-i.result _ c.in-Some.what c.index-stmts-i.is (slice_get-get_or locations i _ within) c.requires.each_put c.loop-what.invariant.index here)
    c.loop-what.invariant.so_far

pub loop-what-preserved-in_ok-write : goal.loop-what-preserved-in_ok-write
loop-what-preserved-in_ok-write c =
    let i = c.loop-what.i in
    let stmts = c.args.stmts.now in
    let locations = c.args.locations.now in
    let puts = c.args.puts.items in
    let v = c.loop-what.self in
    let w = c.write.new.self in
    let a = action_tree c.index-stmts-i.result.action in
    let begun = c.into_iter-what-iterator.ensures.into_iter_gives in
    let here = YieldsList-turn (YieldsList-from_vec {s = c.into_iter-what-iterator.result} puts begun.0 (begun.1 ∙ c.args.puts.ok.0)) c.loop-what.yielded c.loop-what.what-iterator c.loop-what.yielded_by c.next.result c.next.new.self c.in-Some.what c.in-Some.is c.next.ensures.steps in
    let within : i < length locations = omega (arith, here.0, c.loop-what.invariant.index, c.requires.each_put, c.requires.each) in
    record {
      index = omega (arith, c.loop-what.invariant.index, length_push c.loop-what.yielded c.in-Some.what);
      pieces = few_pieces v.segment w.segment a i c.in_ok-write.ensures.segment c.loop-what.invariant.pieces;
      so_far = passes_at v w (located (place_at locations) stmts) v.segment w.segment stmts locations puts i c.index-stmts-i.result _ c.in-Some.what _
          (turn_of stmts locations puts i _ c.index-stmts-i.result _ c.in-Some.what c.index-stmts-i.is (slice_get-get_or locations i _ within) c.requires.each_put c.loop-what.invariant.index here)
          c.in_ok-write.ensures.segment c.in_ok-write.ensures.parts c.loop-what.invariant.so_far;
    }

pub loop-what-preserved : goal.loop-what-preserved
loop-what-preserved c =
    let i = c.loop-what.i in
    let stmts = c.args.stmts.now in
    let locations = c.args.locations.now in
    let puts = c.args.puts.items in
    let v = c.loop-what.self in
    let w = c.write.new.self in
    let a = action_tree c.index-stmts-i.result.action in
    let begun = c.into_iter-what-iterator.ensures.into_iter_gives in
    let here = YieldsList-turn (YieldsList-from_vec {s = c.into_iter-what-iterator.result} puts begun.0 (begun.1 ∙ c.args.puts.ok.0)) c.loop-what.yielded c.loop-what.what-iterator c.loop-what.yielded_by c.next.result c.next.new.self c.in-Some.what c.in-Some.is c.next.ensures.steps in
    let within : i < length locations = omega (arith, here.0, c.loop-what.invariant.index, c.requires.each_put, c.requires.each) in
    record {
      index = omega (arith, c.loop-what.invariant.index, length_push c.loop-what.yielded c.in-Some.what);
      pieces = few_pieces v.segment w.segment a i c.in_ok-write.ensures.segment c.loop-what.invariant.pieces;
      so_far = passes_at v w (located (place_at locations) stmts) v.segment w.segment stmts locations puts i c.index-stmts-i.result _ c.in-Some.what _
          (turn_of stmts locations puts i _ c.index-stmts-i.result _ c.in-Some.what c.index-stmts-i.is (slice_get-get_or locations i _ within) c.requires.each_put c.loop-what.invariant.index here)
          c.in_ok-write.ensures.segment c.in_ok-write.ensures.parts c.loop-what.invariant.so_far;
    }

pub returns : goal.returns
returns c =
    let stmts = c.args.stmts.now in
    let begun = c.into_iter-what-iterator.ensures.into_iter_gives in
    let done = YieldsList-end (YieldsList-from_vec {s = c.into_iter-what-iterator.result} c.args.puts.items begun.0 (begun.1 ∙ c.args.puts.ok.0)) c.loop-what.yielded c.loop-what.what-iterator c.loop-what.yielded_by c.next.result c.next.new.self c.in-None.is c.next.ensures.steps in
    let past : length stmts ≤ c.loop-what.i = omega (arith, done.1, c.loop-what.invariant.index, c.requires.each_put) in
    written_all c.loop-what.self (located (place_at c.args.locations.now) stmts) c.loop-what.i c.loop-what.self.segment stmts c.args.locations.now _ _ _
    past c.loop-what.invariant.so_far
