-- What the choice of a request and the changes of sets come to.
use Rattle.std.specs.Prelude.{◌≡◌, ◌≢◌, ℕ, ◌<◌, Bool, true, false, MatchOption}
use Rattle.kc_base.specs.Bits.{bit}
use Rattle.kc_intc.specs.Choosing.{greatest}
use Rattle.kc_intc.specs.Sets.{without, with_request}

-- a number below a limit passes a test, and none between them does
pub record IsGreatest (test : ℕ → Bool) (limit n : ℕ) : Type 0 where
  pub below : n < limit
  pub passes : test n ≡ true
  pub highest : (k : ℕ) → n < k → k < limit → test k ≡ false

abbrev pub GreatestIsGreatest : Type 0
GreatestIsGreatest = (test : ℕ → Bool) (limit : ℕ) → MatchOption (greatest test limit) ((k : ℕ) → k < limit → test k ≡ false) (IsGreatest test limit)

-- one bit changes and no other
pub record ChangesBit (n old new : ℕ) (now : Bool) : Type 0 where
  pub here : bit new n ≡ now
  pub others : (k : ℕ) → k < 16 → k ≢ n → bit new k ≡ bit old k

abbrev pub ChangedSets : Type 0
ChangedSets = (n set : ℕ) → n < 16 → ChangesBit n set (without n set) false × ChangesBit n set (with_request n set) true
