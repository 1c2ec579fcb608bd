use Rattle.std.proofs.Common.{◌+◌, ◌*◌, ◌≤◌, [], drop}
use Rattle.kc_lex.specs.LineFaults.{least, lesser}
use Rattle.kc_asm_symbols.specs.Located.{located}
use Rattle.kc_asm_check.specs.Checking.{faults_from, place_at}
use Rattle.kc_asm_check.specs.Putting.{puts_from, stack_from}
use Rattle.kc_asm_check.proofs.WalkLemmas.{Passing, left_from}
use Rattle.kc_asm_check.proofs.walk.Walk.pass.Given as goal

abbrev pub invariant-loop-i : goal.invariant-loop-i
invariant-loop-i l = record {
  pieces : l.self.segment.count ≤ l.i + 3;
  bytes : l.self.sum ≤ 65535 * l.i;
  passing : Passing l.self (located (place_at l.locations) l.stmts) (left_from (place_at l.locations) l.i l.self.segment l.stmts) (drop l.i l.locations)
      (lesser l.fn.self.found (least (faults_from (located (place_at l.locations) l.stmts) l.fn.self.regions.items 0 [] (located (place_at l.locations) l.stmts) l.locations)))
      (puts_from (located (place_at l.locations) l.stmts) [] (located (place_at l.locations) l.stmts) l.locations)
      (stack_from (located (place_at l.locations) l.stmts) 0 [] (located (place_at l.locations) l.stmts));
}
