-- What a pass may still take at an address, with its open calls, by what a certificate has.
use Rattle.std.proofs.Common.{◌≡◌, ℕ, zero, suc, Bool, true, false, not, ◌+◌, ◌*◌, ◌<◌, ◌≤◌, ◌==◌, ◌&&◌, ◌||◌, nat_lt, nat_le, ◌⊎◌, inl, inr, if◌then◌else◌, Option, Some, None, List, [], ◌∷◌, length, refl, sym, ◌∙◌, ap, subst, arith}
use Rattle.std.proofs.Math.Nat.{mul-le-mul_left}
use Rattle.kc_bound.specs.declared.notes.Notes.{Notes}
use Rattle.kc_bound.specs.declared.way.Way.{Way}
use Rattle.kc_bound.specs.declared.way.Way.TheVariants.{To, Call, Back, Out}
use Rattle.kc_bound.specs.declared.certificate.Standing.{Standing}
use Rattle.kc_bound.specs.declared.certificate.Certificate.{Certificate}
use Rattle.kc_bound.specs.Notes.{is_end}
use Rattle.kc_bound.specs.Ways.{unless_end}
use Rattle.kc_bound.specs.Certified.{standing_at, pays}
use Rattle.kc_bound.proofs.Paid.{both, at-most, Follows, PaysOn, pays-on, PaysCall, pays-call}

-- the potential of an address
abbrev pub potential_of : Option Standing → ℕ
potential_of None = 0
potential_of (Some s) = s.potential

abbrev pub potential_at : Certificate → ℕ → ℕ
potential_at c a = potential_of (standing_at c a)

-- those of the addresses to which calls return
abbrev pub potentials : Certificate → List ℕ → ℕ
potentials c [] = 0
potentials c (b ∷ more) = potential_at c b + potentials c more

-- a floor for each open call
abbrev pub floors : Certificate → List ℕ → ℕ
floors c [] = 0
floors c (b ∷ more) = c.floor + floors c more

-- what is left of a call when it returns is above its floor, for each of these
abbrev pub Covers : Certificate → List ℕ → Type 0
Covers c calls = floors c calls ≤ potentials c calls

pub floors-length : (c : Certificate) (calls : List ℕ) → floors c calls ≡ c.floor * length calls
floors-length c [] = none c.floor
  where
    none : (f : ℕ) → 0 ≡ f * 0
    none f = omega arith
floors-length c (b ∷ more) = sum_of c.floor (floors c more) (length more) (floors-length c more)
  where
    sum_of : (f a n : ℕ) → a ≡ f * n → f + a ≡ f * suc n
    sum_of f a n e = rw e (omega arith)

pub floors-few : (c : Certificate) (calls : List ℕ) (rank : ℕ) → length calls ≤ rank → floors c calls ≤ c.floor * rank
floors-few c calls rank few =
    let more : c.floor * length calls ≤ c.floor * rank = mul-le-mul_left c.floor few in
    subst (λ n. n ≤ c.floor * rank) (sym (floors-length c calls)) more

-- the states of a way
abbrev pub states_on : Way → ℕ
states_on (To states target) = states
states_on (Call states target back) = states
states_on (Back states) = states
states_on (Out states) = states

-- ---- where a pass is

module _ (notes : Notes) (c : Certificate) (rank : ℕ) where
  -- at an address with a standing, with these calls open
  pub record Stands (a : ℕ) (calls : List ℕ) : Type 0 where
    pub standing : Standing
    pub is_there : standing_at c a ≡ Some standing
    pub few : length calls + standing.rank ≤ rank
    pub leaves : standing.leaves ≡ true → Covers c calls

  -- a call that is open, and those that were open before it
  pub record IsOpen (b : ℕ) (more : List ℕ) : Type 0 where
    pub behind : Stands b more
    pub last : is_end notes b ≡ true → (c.floor ≤ potential_at c b) × Covers c more

  abbrev pub AreOpen : List ℕ → Type 0
  AreOpen [] = Unit {0}
  AreOpen (b ∷ more) = IsOpen b more × AreOpen more

  -- an instruction begins at an address, where so many states have gone by, and loops have so much left
  pub record Ready (total a : ℕ) (calls : List ℕ) (spent turns : ℕ) : Type 0 where
    pub here : Stands a calls
    pub open_calls : AreOpen calls
    pub paid : spent + potential_at c a + potentials c calls + turns ≤ total + floors c calls

  -- a pass comes to an address: it is over there, or goes on
  abbrev pub Comes : ℕ → ℕ → List ℕ → ℕ → ℕ → Type 0
  Comes total a calls spent turns = ((is_end notes a ≡ true) × (spent + c.floor ≤ total)) ⊎ ((is_end notes a ≡ false) × Ready total a calls spent turns)

  potential-is : (a : ℕ) (s : Standing) → standing_at c a ≡ Some s → potential_at c a ≡ s.potential
  potential-is a s e = ap potential_of e

  -- at most so many states at any moment
  pub ready-most : (total a : ℕ) (calls : List ℕ) (spent turns : ℕ) → Ready total a calls spent turns → spent ≤ total + c.floor * rank
  ready-most total a calls spent turns r =
      let few : length calls + r.here.standing.rank ≤ rank = r.here.few in
      let floors_few : floors c calls ≤ c.floor * rank = floors-few c calls rank (omega (arith, few)) in
      most spent (potential_at c a) (potentials c calls) turns total (floors c calls) (c.floor * rank) r.paid floors_few
    where
      most : (s p q t n f r : ℕ) → s + p + q + t ≤ n + f → f ≤ r → s ≤ n + r
      most s p q t n f r paid few = omega arith

  pub comes-most : (total a : ℕ) (calls : List ℕ) (spent turns : ℕ) → Comes total a calls spent turns → spent ≤ total + c.floor * rank
  comes-most total a calls spent turns (inl over) = let e : spent + c.floor ≤ total = over.1 in omega (arith, e)
  comes-most total a calls spent turns (inr on) = ready-most total a calls spent turns on.1

  -- fewer states have gone by
  pub comes-sooner : (total a : ℕ) (calls : List ℕ) (spent less turns : ℕ) → less ≤ spent → Comes total a calls spent turns → Comes total a calls less turns
  comes-sooner total a calls spent less turns h (inl over) = inl (over.0, (let e : spent + c.floor ≤ total = over.1 in omega (arith, e, h)))
  comes-sooner total a calls spent less turns h (inr on) = inr (
    on.0,
    record {
      here = on.1.here;
      open_calls = on.1.open_calls;
      paid = sooner less spent (potential_at c a) (potentials c calls) turns (total + floors c calls) h on.1.paid;
    },
  )
    where
      sooner : (l s p q t n : ℕ) → l ≤ s → s + p + q + t ≤ n → l + p + q + t ≤ n
      sooner l s p q t n h paid = omega arith

  -- ---- what each way leaves, where an address has this standing, and its begin takes this from the loops

  -- what an address has, with the prices of loops that begin there, and what begins to be counted anew there
  pub record Begins (total a : ℕ) (calls : List ℕ) (spent turns after price credit : ℕ) : Type 0 where
    pub ready : Ready total a calls spent turns
    pub counted : after + price ≤ turns + credit

  module _ (total a : ℕ) (calls : List ℕ) (spent turns after price credit : ℕ) (b : Begins total a calls spent turns after price credit) where
    abbrev pub here : Standing
    here = b.ready.here.standing

    abbrev pub has : ℕ
    has = here.potential + price

    paid-here : spent + here.potential + potentials c calls + turns ≤ total + floors c calls
    paid-here = subst (λ p. spent + p + potentials c calls + turns ≤ total + floors c calls) (potential-is a here b.ready.here.is_there) b.ready.paid

    -- out of the pass
    pub leaves-out : (states now : ℕ) → now ≤ spent + states → pays notes c here has credit (Out states) ≡ true → now + c.floor ≤ total
    leaves-out states now soon h =
        let parts : (nat_le (states + credit + c.floor) has ≡ true) × (here.leaves ≡ true) = both (nat_le (states + credit + c.floor) has) here.leaves h in
        sums spent states now here.potential price credit c.floor turns after (potentials c calls) total (floors c calls) soon (at-most (states + credit + c.floor) has parts.0) paid-here b.counted (b.ready.here.leaves parts.1)
      where
        sums : (s st now p price credit floor t after q n f : ℕ) → now ≤ s + st → st + credit + floor ≤ p + price → s + p + q + t ≤ n + f → after + price ≤ t + credit → f ≤ q → now + floor ≤ n
        sums s st now p price credit floor t after q n f soon pay paid counted covers = omega arith

    -- on to an address
    comes-by : (end : Bool) (states target now : ℕ) → is_end notes target ≡ end → now ≤ spent + states → pays notes c here has credit (if end then Out states else To states target) ≡ true → Comes total target calls now after
    comes-by true states target now e soon h = inl (e, leaves-out states now soon h)
    comes-by false states target now e soon h =
        let on : PaysOn here has (states + credit) (standing_at c target) = pays-on here has (states + credit) (standing_at c target) h in
        let there : standing_at c target ≡ Some on.standing = on.is_there in
        let few : length calls + here.rank ≤ rank = b.ready.here.few in
        let less : on.standing.rank ≤ here.rank = on.keeps.rank in
        inr (
          e,
          record {
            here = record {
              standing = on.standing;
              is_there = there;
              few = omega (arith, few, less);
              leaves = λ yes. b.ready.here.leaves (on.keeps.leaves yes);
            };
            open_calls = b.ready.open_calls;
            paid = subst (λ p. now + p + potentials c calls + after ≤ total + floors c calls) (sym (potential-is target on.standing there))
                (sums spent states now here.potential price credit on.standing.potential turns after (potentials c calls) (total + floors c calls) soon on.falls paid-here b.counted);
          },
        )
      where
        sums : (s st now p price credit x t after q n : ℕ) → now ≤ s + st → (st + credit) + x ≤ p + price → s + p + q + t ≤ n → after + price ≤ t + credit → now + x + q + after ≤ n
        sums s st now p price credit x t after q n soon pay paid counted = omega arith

    pub comes-to : (states target now : ℕ) → now ≤ spent + states → pays notes c here has credit (unless_end notes (To states target)) ≡ true → Comes total target calls now after
    comes-to states target now soon h = comes-by (is_end notes target) states target now refl soon h

    -- into a routine
    calls-by : (end : Bool) (states target back now : ℕ) → is_end notes target ≡ end → now ≤ spent + states → pays notes c here has credit (if end then Out states else Call states target back) ≡ true → Comes total target (back ∷ calls) now after
    calls-by true states target back now e soon h = inl (e, leaves-out states now soon h)
    calls-by false states target back now e soon h =
        let on : PaysCall c.floor here has (states + credit) (is_end notes back) (standing_at c target) (standing_at c back) = pays-call c.floor here has (states + credit) (is_end notes back) (standing_at c target) (standing_at c back) h in
        let few : length calls + here.rank ≤ rank = b.ready.here.few in
        let deeper : on.inside.rank < here.rank = on.rank in
        let behind : on.back.rank ≤ here.rank = on.keeps.rank in
        let back_is : potential_at c back ≡ on.back.potential = potential-is back on.back on.is_behind in
        inr (
          e,
          record {
            here = record {
              standing = on.inside;
              is_there = on.is_there;
              few = (let n : suc (length calls) + on.inside.rank ≤ rank = omega (arith, few, deeper) in n);
              leaves = λ yes. (
                  let low : c.floor ≤ potential_at c back = subst (λ p. c.floor ≤ p) (sym back_is) (on.kept_back (rw yes refl)) in
                  let covers : floors c calls ≤ potentials c calls = b.ready.here.leaves (on.into.leaves yes) in
                  omega (arith, low, covers));
            };
            open_calls = (
              record {
                behind = record { standing = on.back; is_there = on.is_behind; few = omega (arith, few, behind); leaves = λ yes. b.ready.here.leaves (on.keeps.leaves yes) };
                last = λ yes. (subst (λ p. c.floor ≤ p) (sym back_is) (on.kept_back (or-right on.inside.leaves (is_end notes back) yes)), b.ready.here.leaves (on.last yes));
              },
              b.ready.open_calls,
            );
            paid = subst (λ p. now + p + potentials c (back ∷ calls) + after ≤ total + floors c (back ∷ calls)) (sym (potential-is target on.inside on.is_there))
                (subst (λ p. now + on.inside.potential + (p + potentials c calls) + after ≤ total + (c.floor + floors c calls)) (sym back_is)
                (sums spent states now here.potential price credit on.inside.potential on.back.potential c.floor turns after (potentials c calls) total (floors c calls) soon on.falls paid-here b.counted));
          },
        )
      where
        or-right : (x y : Bool) → y ≡ true → (x || y) ≡ true
        or-right true y h = refl
        or-right false y h = h

        sums : (s st now p price credit x y floor t after q n f : ℕ) → now ≤ s + st → (st + credit) + x + y ≤ (p + price) + floor → s + p + q + t ≤ n + f → after + price ≤ t + credit → now + x + (y + q) + after ≤ n + (floor + f)
        sums s st now p price credit x y floor t after q n f soon pay paid counted = omega arith

    pub comes-into : (states target back now : ℕ) → now ≤ spent + states → pays notes c here has credit (unless_end notes (Call states target back)) ≡ true → Comes total target (back ∷ calls) now after
    comes-into states target back now soon h = calls-by (is_end notes target) states target back now refl soon h

    -- what a return pays
    pub returns-paid : (states now : ℕ) → now ≤ spent + states → pays notes c here has credit (Back states) ≡ true → now + c.floor + potentials c calls + after ≤ total + floors c calls
    returns-paid states now soon h = sums spent states now here.potential price credit c.floor turns after (potentials c calls) (total + floors c calls) soon (at-most (states + credit + c.floor) has h) paid-here b.counted
      where
        sums : (s st now p price credit floor t after q n : ℕ) → now ≤ s + st → st + credit + floor ≤ p + price → s + p + q + t ≤ n → after + price ≤ t + credit → now + floor + q + after ≤ n
        sums s st now p price credit floor t after q n soon pay paid counted = omega arith

    -- at most so many states, where the activity that goes some way is broken off
    pub most-on-way : (way : Way) (now : ℕ) → now ≤ spent + states_on way → pays notes c here has credit (unless_end notes way) ≡ true → now ≤ total + c.floor * rank
    most-on-way (To states target) now soon h = comes-most total target calls now after (comes-to states target now soon h)
    most-on-way (Call states target back) now soon h = comes-most total target (back ∷ calls) now after (comes-into states target back now soon h)
    most-on-way (Back states) now soon h =
        let few : length calls + here.rank ≤ rank = b.ready.here.few in
        most now c.floor (potentials c calls) after total (floors c calls) (c.floor * rank) (returns-paid states now soon h) (floors-few c calls rank (omega (arith, few)))
      where
        most : (s p q t n f r : ℕ) → s + p + q + t ≤ n + f → f ≤ r → s ≤ n + r
        most s p q t n f r paid few = omega arith
    most-on-way (Out states) now soon h = let e : now + c.floor ≤ total = leaves-out states now soon h in omega (arith, e)

  -- ---- behind a return

  pub record Returns (total : ℕ) (calls : List ℕ) (now after : ℕ) : Type 0 where
    pub open_calls : AreOpen calls
    pub paid : now + c.floor + potentials c calls + after ≤ total + floors c calls

  pub returns-most : (total : ℕ) (calls : List ℕ) (now after : ℕ) → length calls ≤ rank → Returns total calls now after → now ≤ total + c.floor * rank
  returns-most total calls now after few r = most now c.floor (potentials c calls) after total (floors c calls) (c.floor * rank) r.paid (floors-few c calls rank few)
    where
      most : (s p q t n f r : ℕ) → s + p + q + t ≤ n + f → f ≤ r → s ≤ n + r
      most s p q t n f r paid few = omega arith

  -- the pass is over where no call is open
  pub returns-out : (total now after : ℕ) → Returns total [] now after → now + c.floor ≤ total
  returns-out total now after r = let e : now + c.floor + 0 + after ≤ total + 0 = r.paid in omega (arith, e)

  -- else it comes to where the last one returns
  behind-by : (end : Bool) (total back : ℕ) (more : List ℕ) (now after : ℕ) → is_end notes back ≡ end → Returns total (back ∷ more) now after → Comes total back more now after
  behind-by true total back more now after e r =
      let low : (c.floor ≤ potential_at c back) × Covers c more = r.open_calls.0.last e in
      inl (e, sums now c.floor (potential_at c back) (potentials c more) after total (floors c more) r.paid low.0 low.1)
    where
      sums : (now floor y q after n f : ℕ) → now + floor + (y + q) + after ≤ n + (floor + f) → floor ≤ y → f ≤ q → now + floor ≤ n
      sums now floor y q after n f paid low covers = omega arith
  behind-by false total back more now after e r = inr (
    e,
    record {
      here = r.open_calls.0.behind;
      open_calls = r.open_calls.1;
      paid = sums now c.floor (potential_at c back) (potentials c more) after total (floors c more) r.paid;
    },
  )
    where
      sums : (now floor y q after n f : ℕ) → now + floor + (y + q) + after ≤ n + (floor + f) → now + y + q + after ≤ n + f
      sums now floor y q after n f paid = omega arith

  pub comes-back : (total back : ℕ) (more : List ℕ) (now after : ℕ) → Returns total (back ∷ more) now after → Comes total back more now after
  comes-back total back more now after r = behind-by (is_end notes back) total back more now after refl r
