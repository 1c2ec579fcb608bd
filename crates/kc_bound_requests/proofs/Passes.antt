-- The moments of a pass.
use Rattle.std.proofs.Common.{◌≡◌, ℕ, zero, suc, Bool, true, false, not, ◌<◌, ◌≤◌, ◌==◌, ◌&&◌, inl, inr, nat_lt, if◌then◌else◌, Option, Some, None, List, [], refl, sym, ◌∙◌, ap, subst, arith}
use Rattle.std.proofs.lemmas.Grind.{common_steps}
use Rattle.std.proofs.lemmas.Bool.{cases_lt}
use Rattle.kc_extra.specs.Further.{Further}
use Rattle.kc_machine_spec.specs.declared.doing.Going.{Going}
use Rattle.kc_machine_spec.specs.declared.doing.Going.TheVariants.{Moving, Idling, Serving}
use Rattle.kc_machine_spec.specs.declared.doing.UnderWay.{UnderWay}
use Rattle.kc_intc.specs.declared.requests.Choice.{Choice}
use Rattle.kc_intc.specs.declared.requests.Choice.TheVariants as choice
use Rattle.kc_machine_spec.specs.Machine.{Machine, current, current_of, chosen, fetches, goes_on, goes_first, serves, asked}
use Rattle.kc_bound.specs.declared.notes.Notes.{Notes}
use Rattle.kc_bound.specs.Notes.{is_end}
use Rattle.kc_bound.specs.Passes.{is_own, moment, calls_at, is_over}
use Rattle.kc_bound.specs.Bounded.{IsImage, HoldsImage, IsPassFrom}
use Rattle.kc_bound.specs.Steps.{StatesAreSome, FoundIsDecoded}
use Rattle.kc_bound_requests.specs.declared.certificate.EnabledSet.{EnabledSet}
use Rattle.kc_bound_requests.specs.declared.certificate.RequestCertificate.{RequestCertificate}
use Rattle.kc_bound_requests.specs.Enabled.{enabled_in, may_serve, is_service}
use Rattle.kc_bound_requests.specs.Closed.{is_in, enabled_at, is_open_at, IsClosed, IsLeastOpen}
use Rattle.kc_bound_requests.specs.Requests.{RequestsAreOpen, IsRunFrom, OwnIfNoNmi, IsNotBelow, ClosedShowsServed}
use Rattle.kc_bound_requests.proofs.Sets.{within}
use Rattle.kc_bound_requests.proofs.Services.{fetches-own, no-service, may-serve}
use Rattle.kc_bound_requests.proofs.OnWay.{Account, IsOnWay, serves-open}
use Rattle.kc_bound_requests.proofs.Steps.{activity-goes}

not-past : (b : Bool) (a : ℕ) → (b && not (a == a)) ≡ false
not-past false a = refl
not-past true a = let e : (a == a) ≡ true = grind (arith, common_steps) in rw e refl

module _ {X : Type 0} (decoded : FoundIsDecoded X) (some : StatesAreSome) (f : Further X) (image : List ℕ) (notes : Notes) (from : ℕ) (first : EnabledSet) (c : RequestCertificate) where
  starts : (m : Machine X) → IsClosed image notes from first c → HoldsImage image m → m.cpu.pc ≡ from → m.under_way ≡ None → m.going ≡ None → is_in first (enabled_in m) ≡ true → IsOnWay image notes from c m []
  starts m closed holds pc between going there = record {
    is = record { between = between; holds = holds };
    free = λ held. going;
    account = subst (λ (g : Option Going). Account image notes from c g m.cpu.pc [] (enabled_in m)) (sym going)
        (subst (λ a. Account image notes from c None a [] (enabled_in m)) (sym pc) (
          not-past (is_end notes from) from,
          record { before = within (enabled_at c from).before first closed.begins (enabled_in m) there; returns = tt },
        ));
  }

  -- at each moment of a pass that goes on
  pub on-way : (k n : ℕ) (m : Machine X) → IsImage image → IsClosed image notes from first c → IsPassFrom f image notes from n m → is_in first (enabled_in m) ≡ true → k ≤ n → is_over f notes k m ≡ false → (moment f k m).ended ≡ None
      → IsOnWay image notes from c (moment f k m) (calls_at f k m)
  unfolding moment calls_at is_over
  on-way zero n m is closed p there less on lives = starts m closed p.rom p.begins p.pass.stretch.between p.pass.stretch.begins there
  on-way (suc k) n m is closed p there less on lives =
      let in_time : k < n = omega (arith, less) in
      let so_far : IsOnWay image notes from c (moment f k m) (calls_at f k m) = on-way k n m is closed p there (omega (arith, less)) (p.pass.goes_on k in_time) (p.pass.stretch.lives k in_time) in
      activity-goes decoded some f image notes from c (moment f k m) (calls_at f k m) is so_far
      (record {
        lives = p.pass.stretch.lives k in_time;
        own = p.pass.stretch.own k in_time;
        assumed = record {
          returns = λ is_so back more opens after. p.returns k back more in_time is_so opens after;
          goes = λ is_so targets noted after. p.keeps.goes k targets in_time is_so noted after;
        };
        after = lives;
        on = on;
      })
      closed.closed

  -- a request that may be served there
  pub served-open : (n k : ℕ) (m : Machine X) → IsImage image → IsClosed image notes from first c → IsPassFrom f image notes from n m → is_in first (enabled_in m) ≡ true → k ≤ n → is_over f notes k m ≡ false
      → may_serve (moment f k m) ≡ true → is_open_at image notes from c (moment f k m).cpu.pc ≡ true
  served-open n k m is closed p there less on may =
      let s = may-serve (moment f k m) may in
      serves-open image notes from c (moment f k m) (calls_at f k m) (on-way k n m is closed p there less on s.lives) s

  -- ---- where none is open

  -- what goes on is the routine's own
  goes-on-own : (g : Option Going) (m : Machine X) (calls : List ℕ) → Account image notes from c g m.cpu.pc calls (enabled_in m) → is_own (goes_on m g).doing ≡ true
  goes-on-own None m calls account = fetches-own m
  goes-on-own (Some (Moving i w)) m calls account = refl
  goes-on-own (Some Idling) m calls account = absurd account
  goes-on-own (Some (Serving number cycle)) m calls account = absurd account

  served-own : (m : Machine X) (calls : List ℕ) (asks : Choice) → Account image notes from c m.going m.cpu.pc calls (enabled_in m) → is_service (serves m asks).doing ≡ false → is_own (serves m asks).doing ≡ true
  served-own m calls choice.Nmi account none = absurd (cc none)
  served-own m calls (choice.Enter number) account none = absurd (cc none)
  served-own m calls (choice.Transfer number) account none = absurd (cc none)
  served-own m calls choice.Go account none = goes-on-own m.going m calls account

  chosen-own : (m : Machine X) (calls : List ℕ) (first_goes held : Bool) → Account image notes from c m.going m.cpu.pc calls (enabled_in m)
      → is_service (if first_goes then goes_on m m.going else if held then fetches m else serves m (asked m)).doing ≡ false → is_own (if first_goes then goes_on m m.going else if held then fetches m else serves m (asked m)).doing ≡ true
  chosen-own m calls true held account none = goes-on-own m.going m calls account
  chosen-own m calls false true account none = fetches-own m
  chosen-own m calls false false account none = served-own m calls (asked m) account none

  current-own : (m : Machine X) (calls : List ℕ) → IsOnWay image notes from c m calls → is_service (current m).doing ≡ false → is_own (current m).doing ≡ true
  unfolding chosen
  current-own m calls on none =
      let now : current m ≡ chosen m = ap (current_of m) on.is.between in
      ap (λ (a : UnderWay). is_own a.doing) now ∙ chosen-own m calls (goes_first m.going) m.held on.account (sym (ap (λ (a : UnderWay). is_service a.doing) now) ∙ none)

  no-open : (opens there : Bool) → (opens ≡ true → there ≡ true) → there ≡ false → opens ≡ false
  no-open false there h none = refl
  no-open true there h none = absurd (let e : true ≡ false = sym (h refl) ∙ none in cc e)

  -- the first so many activities
  shorter : (k n : ℕ) (m : Machine X) → k ≤ n → IsRunFrom f image notes from n m → ((j : ℕ) → j < k → is_own (current (moment f j m)).doing ≡ true) → IsPassFrom f image notes from k m
  shorter k n m less r own = record {
    rom = r.rom;
    begins = r.begins;
    pass = record {
      stretch = record { between = r.between; begins = r.fresh; lives = λ j h. r.lives j (omega (arith, h, less)); own = own };
      goes_on = λ j h. r.goes_on j (omega (arith, h, less));
    };
    returns = λ j back more h is_so opens after. r.returns j back more (omega (arith, h, less)) is_so opens after;
    keeps = record {
      loops = λ j l h there begun. r.keeps.loops j l (omega (arith, h, less)) there begun;
      goes = λ j targets h is_so noted after. r.keeps.goes j targets (omega (arith, h, less)) is_so noted after;
      words = λ j i w most h going noted. r.keeps.words j i w most (omega (arith, h, less)) going noted;
    };
  }

  abbrev OwnUpTo : ℕ → Machine X → Type 0
  OwnUpTo k m = (j : ℕ) → j < k → is_own (current (moment f j m)).doing ≡ true

  own-more : (k : ℕ) (m : Machine X) → OwnUpTo k m → is_own (current (moment f k m)).doing ≡ true → OwnUpTo (suc k) m
  own-more k m before here j h = elim (cases_lt j k) [
    | inl less ↦ before j less
    | inr more ↦ let same : k ≡ j = omega (arith, h, more) in subst (λ x. is_own (current (moment f x m)).doing ≡ true) same here
  ]

  own-up-to : (k n : ℕ) (m : Machine X) → IsImage image → IsClosed image notes from first c → ((a : ℕ) → is_open_at image notes from c a ≡ false) → k ≤ n → IsRunFrom f image notes from n m → is_in first (enabled_in m) ≡ true → OwnUpTo k m
  own-up-to zero n m is closed none less r there = λ j h. absurd (omega (arith, h))
  own-up-to (suc k) n m is closed none less r there =
      let in_time : k < n = omega (arith, less) in
      let few : k ≤ n = omega (arith, less) in
      let before : OwnUpTo k m = own-up-to k n m is closed none few r there in
      let p : IsPassFrom f image notes from k m = shorter k n m few r before in
      let on : IsOnWay image notes from c (moment f k m) (calls_at f k m) = on-way k k m is closed p there (omega arith) (r.goes_on k in_time) (r.lives k in_time) in
      let may : may_serve (moment f k m) ≡ false = no-open (may_serve (moment f k m)) (is_open_at image notes from c (moment f k m).cpu.pc) (λ is_so. served-open k k m is closed p there (omega arith) (r.goes_on k in_time) is_so) (none (moment f k m).cpu.pc) in
      let no : is_service (current (moment f k m)).doing ≡ false = no-service (moment f k m) on.is.between (r.lives k in_time) may (r.no_nmi k in_time) in
      own-more k m before (current-own (moment f k m) (calls_at f k m) on no)

pub requests-open : {X : Type 0} → FoundIsDecoded X → StatesAreSome → RequestsAreOpen X
requests-open decoded some f image notes from first c is closed n k m p there less on may = served-open decoded some f image notes from first c n k m is closed p there less on may

pub own-if-no-nmi : {X : Type 0} → FoundIsDecoded X → StatesAreSome → OwnIfNoNmi X
own-if-no-nmi decoded some f image notes from first c is closed none n m r there =
    shorter decoded some f image notes from first c n n m (omega arith) r (own-up-to decoded some f image notes from first c n n m is closed none (omega arith) r there)

-- ---- the least open address

not-below : (image : List ℕ) (notes : Notes) (from : ℕ) (c : RequestCertificate) (least : Option ℕ) (a : ℕ) → IsLeastOpen image notes from c least → is_open_at image notes from c a ≡ true → IsNotBelow least a
not-below image notes from c None a none opens = absurd (let e : true ≡ false = sym opens ∙ none a in cc e)
not-below image notes from c (Some least) a h opens = by (nat_lt a least) refl
  where
    by : (less : Bool) → nat_lt a least ≡ less → least ≤ a
    by true e = absurd (let x : true ≡ false = sym opens ∙ h.1 a e in cc x)
    by false e = grind (arith, common_steps)

pub closed-shows-served : {X : Type 0} → FoundIsDecoded X → StatesAreSome → ClosedShowsServed X
closed-shows-served decoded some f image notes from first c least is closed shown = record {
  served = λ n k m p there less on may. not-below image notes from c least (moment f k m).cpu.pc shown (requests-open decoded some f image notes from first c is closed n k m p there less on may);
  own = λ none n m r there. own-if-no-nmi decoded some f image notes from first c is closed (subst (IsLeastOpen image notes from c) none shown) n m r there;
}
