use Rattle.std.proofs.Common.{◌≡◌, ◌≤◌, drop}
use Rattle.kc_base.specs.Digits.{digits_from, up_to}
use Rattle.kc_base.proofs.digits.read_digits.Given as goal

abbrev pub invariant-loop-c : goal.invariant-loop-c
invariant-loop-c l = record {
  same : up_to l.limit (digits_from l.base 0 l.text) ≡ up_to l.limit (digits_from l.base l.so_far (drop l.c-index l.text));
  within : l.so_far ≤ l.limit;
}
