use Rattle.std.proofs.Common.{◌≡◌, ◌+◌, ◌++◌, length}
use Rattle.kc_profile.specs.Text as spec
use Rattle.kc_profile.proofs.reporting.put_addresses.Given as goal

abbrev pub invariant-loop-left : goal.invariant-loop-left
invariant-loop-left l = record {
  goes_on : l.text.items ++ spec.address_lines l.addr l.left ≡ l.initial.text.items ++ spec.address_lines 0 l.fn.at;
  count : l.addr + length l.left ≡ length l.fn.at;
}

abbrev pub decreases-loop-left : goal.decreases-loop-left
decreases-loop-left l = length l.left
