-- Which interrupt is entered where they are asked for.
use Rattle.std.proofs.Common.{◌≡◌, ℕ, zero, suc, Bool, true, false, not, ◌<◌, ◌&&◌, ◌||◌, inl, inr, is_none, if◌then◌else◌, Option, Some, None, refl, sym, ◌∙◌, ap, subst, arith}
use Rattle.std.proofs.lemmas.Bool.{cases_lt}
use Rattle.kc_base.specs.Bits.{bit}
use Rattle.kc_base.specs.Limits.{transfer_count}
use Rattle.kc_exec_spec.specs.Status.{has}
use Rattle.kc_intc.specs.declared.requests.Requests.{Requests}
use Rattle.kc_intc.specs.declared.requests.Choice.TheVariants as choice
use Rattle.kc_intc.specs.Choosing.{wants_cycle, wants_entry, greatest, or_else}
use Rattle.kc_machine_spec.specs.declared.doing.Activity.TheVariants.{Enters}
use Rattle.kc_machine_spec.specs.declared.doing.UnderWay.{UnderWay}
use Rattle.kc_machine_spec.specs.Machine.{Machine, goes_first, goes_on, fetches, serves, asked, chosen, current, current_of}
use Rattle.kc_bound_requests.specs.Enabled.{enabled_in, nmi_pends}
use Rattle.kc_bound_requests.specs.Asking.{asks, lets_interrupts_in, requests_in, IsRequested, IsHighest, HighestIsEntered}

both : (a b : Bool) → (a && b) ≡ true → (a ≡ true) × (b ≡ true)
both true b h = (refl, h)
both false b h = absurd (cc h)

is-none : {A : Type 0} (o : Option A) → is_none o ≡ true → o ≡ None
is-none None h = refl
is-none (Some a) h = absurd (cc h)

not-so : (b : Bool) → not b ≡ true → b ≡ false
not-so false h = refl
not-so true h = absurd (cc h)

-- what asks is a machine that lives, between two activities
pub record Asks {X : Type 0} (m : Machine X) : Type 0 where
  pub between : m.under_way ≡ None
  pub lives : m.ended ≡ None
  pub none_first : goes_first m.going ≡ false
  pub free : m.held ≡ false
  pub on : has 2 m.cpu.psw_high ≡ true

pub asks-so : {X : Type 0} (m : Machine X) → asks m ≡ true → Asks m
asks-so m h =
    let one = both (is_none m.under_way && is_none m.ended && not (goes_first m.going)) (lets_interrupts_in (enabled_in m)) h in
    let two = both (is_none m.under_way && is_none m.ended) (not (goes_first m.going)) one.0 in
    let three = both (is_none m.under_way) (is_none m.ended) two.0 in
    let four = both (has 2 m.cpu.psw_high) (not m.held) one.1 in
    record {
      between = is-none m.under_way three.0;
      lives = is-none m.ended three.1;
      none_first = not-so (goes_first m.going) two.1;
      free = not-so m.held four.1;
      on = four.0;
    }

-- ---- the greatest number below a limit

none-passes : (test : ℕ → Bool) (limit : ℕ) → ((k : ℕ) → k < limit → test k ≡ false) → greatest test limit ≡ None
unfolding greatest
none-passes test zero none = refl
none-passes test (suc limit) none = rw (none limit (omega arith)) (none-passes test limit (λ k less. none k (omega (arith, less))))

greatest-is : (test : ℕ → Bool) (limit n : ℕ) → n < limit → test n ≡ true → ((k : ℕ) → n < k → k < limit → test k ≡ false) → greatest test limit ≡ Some n
unfolding greatest
greatest-is test zero n less passes higher = absurd (omega (arith, less))
greatest-is test (suc limit) n less passes higher = elim (cases_lt n limit) [
  | inl below ↦ rw (higher limit below (omega arith)) (greatest-is test limit n below passes (λ k more few. higher k more (omega (arith, few))))
  | inr above ↦ let same : n ≡ limit = omega (arith, less, above) in rw (subst (λ k. test k ≡ true) same passes) (ap (λ k. Some k) (sym same))
]

wanted : (r : Requests) (n : ℕ) → bit r.pending n ≡ true → bit r.mask n ≡ true → bit r.select n ≡ false → wants_entry r n ≡ true
wanted r n pends masked free = rw (pends, masked, free) (or-true (bit r.service n))
  where
    or-true : (b : Bool) → (b || true) ≡ true
    or-true true = refl
    or-true false = refl

choice-is : (pse nmi : Bool) (cycle entry : Option ℕ) (n : ℕ) → nmi ≡ false → (pse ≡ true → cycle ≡ None) → entry ≡ Some n
    → (if nmi then choice.Nmi else or_else choice.Transfer (if pse then cycle else None) (or_else choice.Enter entry choice.Go)) ≡ choice.Enter n
choice-is pse true cycle entry n out none is = absurd (cc out)
choice-is true false cycle entry n out none is = rw (none refl, is) refl
choice-is false false cycle entry n out none is = rw is refl

asked-is : {X : Type 0} (number : ℕ) (m : Machine X) → has 2 m.cpu.psw_high ≡ true → IsRequested number m → IsHighest number m → asked m ≡ choice.Enter number
asked-is number m on r h =
    let entry : greatest (wants_entry (requests_in m)) transfer_count ≡ Some number = greatest-is (wants_entry (requests_in m)) transfer_count number r.below (wanted (requests_in m) number r.pends r.masked_in r.not_selected) h.no_higher in
    rw on (choice-is (has 4 m.cpu.psw_high) (nmi_pends m) (greatest (wants_cycle (requests_in m)) transfer_count) (greatest (wants_entry (requests_in m)) transfer_count) number h.no_nmi
    (λ pse. none-passes (wants_cycle (requests_in m)) transfer_count (h.no_cycle pse)) entry)

chosen-is : {X : Type 0} (number : ℕ) (m : Machine X) → Asks m → asked m ≡ choice.Enter number → (chosen m).doing ≡ Enters number
unfolding chosen
chosen-is number m a is =
    let so : (if goes_first m.going then goes_on m m.going else if m.held then fetches m else serves m (asked m)) ≡ serves m (asked m) = rw (a.none_first, a.free) refl in
    ap (λ (x : UnderWay). x.doing) so ∙ ap (λ c. (serves m c).doing) is

pub highest-entered : {X : Type 0} → HighestIsEntered X
highest-entered number m h r highest =
    let a : Asks m = asks-so m h in
    let now : current m ≡ chosen m = ap (current_of m) a.between in
    ap (λ (x : UnderWay). x.doing) now ∙ chosen-is number m a (asked-is number m a.on r highest)
