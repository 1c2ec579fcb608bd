-- The sets of a certificate, by what is in them.
use Rattle.std.proofs.Common.{◌≡◌, ℕ, Bool, true, false, not, ◌==◌, ◌&&◌, Option, refl, sym, ◌∙◌, ap, arith}
use Rattle.std.proofs.lemmas.List.Folds.{list_any_at}
use Rattle.std.specs.List.{list_all, list_any}
use Rattle.kc_exec_spec.specs.declared.plan.Plan.{Plan}
use Rattle.kc_bound_requests.specs.declared.enabled.Enabled.{Enabled}
use Rattle.kc_bound_requests.specs.declared.enabled.TheConstants.{EACH, CALLED, ENTERED}
use Rattle.kc_bound_requests.specs.declared.certificate.EnabledSet.{EnabledSet}
use Rattle.kc_bound_requests.specs.Enabled.{is_both, is_same, may_leave}
use Rattle.kc_bound_requests.specs.Closed.{is_in, implies, includes, leaves_within, includes_after}
use Rattle.kc_bound_requests.specs.Requests.{IsFirstWith, FirstSetsAre}

abbrev triple : Bool → Bool → Bool → Enabled
triple i p h = record { interrupts = i; server = p; held = h }

both : (a b : Bool) → (a && b) ≡ true → (a ≡ true) × (b ≡ true)
both true b h = (refl, h)
both false b h = absurd (cc h)

-- ---- each of them

-- a test that all of them pass
all-of : (test : Enabled → Bool) → list_all test EACH ≡ true → (i p h : Bool) → test (triple i p h) ≡ true
all-of test all false false false = (both (test (triple false false false)) _ all).0
all-of test all true false false = (both (test (triple true false false)) _ (both (test (triple false false false)) _ all).1).0
all-of test all false true false = (both (test (triple false true false)) _ (both (test (triple true false false)) _ (both (test (triple false false false)) _ all).1).1).0
all-of test all true true false = (both (test (triple true true false)) _ (both (test (triple false true false)) _ (both (test (triple true false false)) _ (both (test (triple false false false)) _ all).1).1).1).0
all-of test all false false true =
    (both (test (triple false false true)) _
    (both (test (triple true true false)) _ (both (test (triple false true false)) _ (both (test (triple true false false)) _ (both (test (triple false false false)) _ all).1).1).1).1).0
all-of test all true false true =
    (both (test (triple true false true)) _ (both (test (triple false false true)) _
    (both (test (triple true true false)) _ (both (test (triple false true false)) _ (both (test (triple true false false)) _ (both (test (triple false false false)) _ all).1).1).1).1).1).0
all-of test all false true true =
    (both (test (triple false true true)) _ (both (test (triple true false true)) _ (both (test (triple false false true)) _
    (both (test (triple true true false)) _ (both (test (triple false true false)) _ (both (test (triple true false false)) _ (both (test (triple false false false)) _ all).1).1).1).1).1).1).0
all-of test all true true true =
    (both (test (triple true true true)) _ (both (test (triple false true true)) _ (both (test (triple true false true)) _ (both (test (triple false false true)) _
    (both (test (triple true true false)) _ (both (test (triple false true false)) _ (both (test (triple true false false)) _ (both (test (triple false false false)) _ all).1).1).1).1).1).1).1).0

pub each-passes : (test : Enabled → Bool) → list_all test EACH ≡ true → (e : Enabled) → test e ≡ true
each-passes test all e = all-of test all e.interrupts e.server e.held

-- a test that one of them passes
any-of : (test : Enabled → Bool) (i p h : Bool) → test (triple i p h) ≡ true → list_any test EACH ≡ true
any-of test false false false passes = list_any_at test EACH 0 (triple false false false) (omega arith) passes
any-of test true false false passes = list_any_at test EACH 1 (triple false false false) (omega arith) passes
any-of test false true false passes = list_any_at test EACH 2 (triple false false false) (omega arith) passes
any-of test true true false passes = list_any_at test EACH 3 (triple false false false) (omega arith) passes
any-of test false false true passes = list_any_at test EACH 4 (triple false false false) (omega arith) passes
any-of test true false true passes = list_any_at test EACH 5 (triple false false false) (omega arith) passes
any-of test false true true passes = list_any_at test EACH 6 (triple false false false) (omega arith) passes
any-of test true true true passes = list_any_at test EACH 7 (triple false false false) (omega arith) passes

pub one-passes : (test : Enabled → Bool) (e : Enabled) → test e ≡ true → list_any test EACH ≡ true
one-passes test e passes = any-of test e.interrupts e.server e.held passes

-- ---- what is within what

so : (a b : Bool) → implies a b ≡ true → a ≡ true → b ≡ true
so true b h given = h
so false b h given = absurd (cc given)

pub within : (set part : EnabledSet) → includes set part ≡ true → (e : Enabled) → is_in part e ≡ true → is_in set e ≡ true
within set part h e there = so (is_in part e) (is_in set e) (each-passes (λ x. implies (is_in part x) (is_in set x)) h e) there

pub after-within : (work : Option Plan) (set before : EnabledSet) → includes_after work set before ≡ true → (e n : Enabled) → is_in before e ≡ true → may_leave work e n ≡ true → is_in set n ≡ true
after-within work set before h e n there leaves =
    let one : leaves_within work set e ≡ true = so (is_in before e) (leaves_within work set e) (each-passes (λ x. implies (is_in before x) (leaves_within work set x)) h e) there in
    so (may_leave work e n) (is_in set n) (each-passes (λ x. implies (may_leave work e x) (is_in set x)) one n) leaves

-- ---- two that are the same

equal-bits : (a b : Bool) → is_both a b ≡ true → a ≡ b
equal-bits true b h = sym h
equal-bits false true h = absurd (cc h)
equal-bits false false h = refl

equal-triples : (i p h j q k : Bool) → i ≡ j → p ≡ q → h ≡ k → triple i p h ≡ triple j q k
equal-triples i p h j q k x y z = rw (x, y, z) refl

pub equal : (a b : Enabled) → is_same a b ≡ true → a ≡ b
equal a b h =
    let one = both (is_both a.interrupts b.interrupts && is_both a.server b.server) (is_both a.held b.held) h in
    let two = both (is_both a.interrupts b.interrupts) (is_both a.server b.server) one.0 in
    equal-triples a.interrupts a.server a.held b.interrupts b.server b.held (equal-bits a.interrupts b.interrupts two.0) (equal-bits a.server b.server two.1) (equal-bits a.held b.held one.1)

-- ---- an empty set, and the first ones

none-of : (i p h : Bool) → is_in (record { bits = 0 }) (triple i p h) ≡ false
none-of false false false = refl
none-of true false false = refl
none-of false true false = refl
none-of true true false = refl
none-of false false true = refl
none-of true false true = refl
none-of false true true = refl
none-of true true true = refl

pub none-in : (e : Enabled) → is_in (record { bits = 0 }) e ≡ true → ⊥
none-in e there = let no : true ≡ false = sym there ∙ none-of e.interrupts e.server e.held in cc no

is-zero : (n : ℕ) → (n == 0) ≡ true → n ≡ 0
is-zero n h = grind (arith)

pub not-empty : (set : EnabledSet) (e : Enabled) → is_in set e ≡ true → (set.bits == 0) ≡ false
not-empty set e there = by (set.bits == 0) refl
  where
    by : (b : Bool) → (set.bits == 0) ≡ b → (set.bits == 0) ≡ false
    by false is = is
    by true is =
        let none : set.bits ≡ 0 = is-zero set.bits is in
        absurd (let no : true ≡ false = sym there ∙ ap (λ n. is_in (record { bits = n }) e) none ∙ none-of e.interrupts e.server e.held in cc no)

first-of : (i p h : Bool) → IsFirstWith (triple i p h)
first-of false false false = record { called = refl; entered = refl; interruptible = refl; at_reset = refl }
first-of true false false = record { called = refl; entered = refl; interruptible = refl; at_reset = refl }
first-of false true false = record { called = refl; entered = refl; interruptible = refl; at_reset = refl }
first-of true true false = record { called = refl; entered = refl; interruptible = refl; at_reset = refl }
first-of false false true = record { called = refl; entered = refl; interruptible = refl; at_reset = refl }
first-of true false true = record { called = refl; entered = refl; interruptible = refl; at_reset = refl }
first-of false true true = record { called = refl; entered = refl; interruptible = refl; at_reset = refl }
first-of true true true = record { called = refl; entered = refl; interruptible = refl; at_reset = refl }

pub first-sets : FirstSetsAre
first-sets e = first-of e.interrupts e.server e.held
