use Rattle.std.proofs.Common.{◌≡◌, ◌+◌, ◌≤◌, [], drop, length}
use Rattle.kc_asm_symbols.specs.Located.{located}
use Rattle.kc_asm_check.specs.Checking.{place_at}
use Rattle.kc_asm_unlinked_laws.specs.Collecting.{parts_from}
use Rattle.kc_asm.proofs.PassLemmas.{Collected, left_from}
use Rattle.kc_asm.proofs.collecting.Collecting.write_all.Given as goal

abbrev pub invariant-loop-what : goal.invariant-loop-what
invariant-loop-what l = record {
  index : l.i ≡ length l.yielded;
  pieces : l.self.segment.count ≤ l.i + 3;
  so_far : Collected l.self (located (place_at l.locations) l.stmts) (left_from (place_at l.locations) l.i l.self.segment l.stmts) (drop l.i l.locations) (drop l.i l.fn.puts.items)
      (parts_from (located (place_at l.locations) l.stmts) [] (located (place_at l.locations) l.stmts) l.locations l.fn.self.parts.items);
}
