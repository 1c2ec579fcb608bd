use Rattle.std.proofs.Common.{◌+◌, length, refl}
use Rattle.kc_branch.specs.Layouts.{items}
use Rattle.kc_branch.proofs.Forks.{fork_covers, fork_known}
use Rattle.kc_branch.proofs.layout.fork.Goals as goal

pub returns-clause-laid : goal.returns-clause-laid
returns-clause-laid c =
    rw c.in_ok-left.ensures.ok (rw c.in_ok-right.ensures.ok (
      fork_known c.args.left c.args.right c.joined-known.result c.known.result c.known-2.result c.joined-known.ensures.value c.known.ensures.value c.known-2.ensures.value
          c.joined-known.ensures.short c.requires.first c.requires.second,
      c.requires.first,
      c.requires.second,
    ))

pub returns-clause-spanned : goal.returns-clause-spanned
returns-clause-spanned c =
    rw c.in_ok-left.ensures.ok (rw c.in_ok-right.ensures.ok
    (λ n k first second. (
      fork_covers n c.args.left c.args.right k (k + length (items c.args.left)) c.joined-known.result c.known.result c.known-2.result
          c.joined-known.ensures.value c.known.ensures.value c.known-2.ensures.value refl first second,
      first,
      second,
    )))
