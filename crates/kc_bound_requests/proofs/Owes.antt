-- What may still go by before interrupts are asked for, by what a certificate of latency has.
use Rattle.std.proofs.Common.{◌≡◌, ℕ, Bool, true, false, ◌+◌, ◌≤◌, ◌&&◌, ◌||◌, ◌⊎◌, inl, inr, nat_le, if◌then◌else◌, Option, List, [], ◌∷◌, refl, sym, subst, arith}
use Rattle.std.specs.List.{list_all}
use Rattle.kc_exec_spec.specs.declared.plan.Plan.{Plan}
use Rattle.kc_bound.specs.declared.notes.Notes.{Notes}
use Rattle.kc_bound.specs.declared.way.Way.{Way}
use Rattle.kc_bound.specs.declared.way.Way.TheVariants.{To, Call, Back, Out}
use Rattle.kc_bound.specs.Notes.{is_end, words_at}
use Rattle.kc_bound.specs.Ways.{unless_end}
use Rattle.kc_bound.proofs.Paid.{both, at-most}
use Rattle.kc_bound_requests.specs.declared.enabled.Enabled.{Enabled}
use Rattle.kc_bound_requests.specs.declared.enabled.TheConstants.{EACH}
use Rattle.kc_bound_requests.specs.declared.certificate.EnabledSet.{EnabledSet}
use Rattle.kc_bound_requests.specs.Enabled.{may_leave}
use Rattle.kc_bound_requests.specs.Closed.{is_in, no_set, implies, includes}
use Rattle.kc_bound_requests.proofs.Sets.{each-passes, within, none-in}
use Rattle.kc_bound_requests.specs.declared.latency_certificate.LatencyCertificate.{LatencyCertificate}
use Rattle.kc_bound_requests.specs.Asking.{lets_interrupts_in}
use Rattle.kc_bound_requests.specs.Latency.{shut_at, returns_at, shut_behind, shut_next, returns_next, price_at, credit_at, shut_states, way_states, covers_next, covers_after, pays, covers, covers_return, hands_on}

pub so : (a b : Bool) → implies a b ≡ true → a ≡ true → b ≡ true
so true b h given = h
so false b h given = absurd (cc given)

-- what is asked of a way
abbrev pub is_kept : Notes → LatencyCertificate → Option Plan → ℕ → Enabled → Way → Bool
is_kept notes c work a e way = hands_on notes c a way && pays notes c work a e (shut_at c a e + price_at notes c a) (credit_at notes c a) way

covers-so : (most states : Enabled → ℕ) → covers most states ≡ true → (e : Enabled) → states e ≤ most e
covers-so most states h e = at-most (states e) (most e) (each-passes (λ x. nat_le (states x) (most x)) h e)

module _ (notes : Notes) (c : LatencyCertificate) where
  -- ---- nothing follows where interrupts are asked for, or where a pass is over

  stops-none : (a : ℕ) (e : Enabled) → (lets_interrupts_in e || is_end notes a) ≡ true → (shut_next notes c a e ≡ 0) × (returns_next notes c a e ≡ no_set)
  stops-none a e h = (rw h refl, rw h refl)

  stops-end : (a : ℕ) (e : Enabled) → is_end notes a ≡ true → (lets_interrupts_in e || is_end notes a) ≡ true
  stops-end a e end = by (lets_interrupts_in e)
    where
      by : (b : Bool) → (b || is_end notes a) ≡ true
      by true = refl
      by false = end

  stops-asked : (a : ℕ) (e : Enabled) → lets_interrupts_in e ≡ true → (lets_interrupts_in e || is_end notes a) ≡ true
  stops-asked a e on = rw on refl

  module _ (total : ℕ) where
    -- ---- an address, behind so many states, where these calls are open

    -- no more go by from where it is come to, nor behind the open calls
    abbrev pub Comes : List ℕ → ℕ → ℕ → Enabled → Type 0
    Comes [] x a e = x + shut_next notes c a e ≤ total
    Comes (back ∷ more) x a e = (x + shut_next notes c a e ≤ total) × ((n : Enabled) → is_in (returns_next notes c a e) n ≡ true → Comes more (x + shut_next notes c a e) back n)

    -- what follows behind the RET of the routine
    abbrev pub Follows : List ℕ → ℕ → EnabledSet → Type 0
    Follows [] x returns = Unit {0}
    Follows (back ∷ more) x returns = (n : Enabled) → is_in returns n ≡ true → Comes more x back n

    -- and from where an instruction begins
    abbrev pub Stands : List ℕ → ℕ → ℕ → Enabled → Type 0
    Stands calls x a e = (x + shut_at c a e ≤ total) × Follows calls (x + shut_at c a e) (returns_at c a e)

    pub comes-less : (calls : List ℕ) (x y a : ℕ) (e : Enabled) → y ≤ x → Comes calls x a e → Comes calls y a e
    comes-less [] x y a e less h = let sum : x + shut_next notes c a e ≤ total = h in omega (arith, less, sum)
    comes-less (back ∷ more) x y a e less h =
        let sum : x + shut_next notes c a e ≤ total = h.0 in
        (omega (arith, less, sum), λ n there. comes-less more (x + shut_next notes c a e) (y + shut_next notes c a e) back n (omega (arith, less)) (h.1 n there))

    pub comes-most : (calls : List ℕ) (x a : ℕ) (e : Enabled) → Comes calls x a e → x ≤ total
    comes-most [] x a e h = let sum : x + shut_next notes c a e ≤ total = h in omega (arith, sum)
    comes-most (back ∷ more) x a e h = let sum : x + shut_next notes c a e ≤ total = h.0 in omega (arith, sum)

    comes-of : (calls : List ℕ) (x a : ℕ) (e : Enabled) → x + shut_next notes c a e ≤ total → Follows calls (x + shut_next notes c a e) (returns_next notes c a e) → Comes calls x a e
    comes-of [] x a e sum follows = sum
    comes-of (back ∷ more) x a e sum follows = (sum, follows)

    follows-of : (calls : List ℕ) (x a : ℕ) (e : Enabled) → Comes calls x a e → (x + shut_next notes c a e ≤ total) × Follows calls (x + shut_next notes c a e) (returns_next notes c a e)
    follows-of [] x a e h = (h, tt)
    follows-of (back ∷ more) x a e h = h

    follows-less : (calls : List ℕ) (x y : ℕ) (set part : EnabledSet) → y ≤ x → ((n : Enabled) → is_in part n ≡ true → is_in set n ≡ true) → Follows calls x set → Follows calls y part
    follows-less [] x y set part less within_set h = tt
    follows-less (back ∷ more) x y set part less within_set h = λ n there. comes-less more x y back n less (h n (within_set n there))

    follows-none : (calls : List ℕ) (x : ℕ) → Follows calls x no_set
    follows-none [] x = tt
    follows-none (back ∷ more) x = λ n there. absurd (none-in n there)

    comes-stopped : (calls : List ℕ) (x a : ℕ) (e : Enabled) → (lets_interrupts_in e || is_end notes a) ≡ true → x ≤ total → Comes calls x a e
    comes-stopped calls x a e stops few =
        let none = stops-none a e stops in
        let no : shut_next notes c a e ≡ 0 = none.0 in
        comes-of calls x a e (omega (arith, no, few)) (subst (Follows calls (x + shut_next notes c a e)) (sym none.1) (follows-none calls (x + shut_next notes c a e)))

    pub comes-asked : (calls : List ℕ) (x a : ℕ) (e : Enabled) → lets_interrupts_in e ≡ true → x ≤ total → Comes calls x a e
    comes-asked calls x a e on few = comes-stopped calls x a e (stops-asked a e on) few

    pub comes-end : (calls : List ℕ) (x a : ℕ) (e : Enabled) → is_end notes a ≡ true → x ≤ total → Comes calls x a e
    comes-end calls x a e end few = comes-stopped calls x a e (stops-end a e end) few

    -- where an instruction begins that is come to
    pub stands-of : (calls : List ℕ) (x a : ℕ) (e : Enabled) → lets_interrupts_in e ≡ false → is_end notes a ≡ false → Comes calls x a e → Stands calls x a e
    stands-of calls x a e shut on h =
        let parts = follows-of calls x a e h in
        let next : shut_next notes c a e ≡ shut_at c a e = rw (shut, on) refl in
        let returns : returns_next notes c a e ≡ returns_at c a e = rw (shut, on) refl in
        (subst (λ k. x + k ≤ total) next parts.0, subst (λ k. Follows calls (x + k) (returns_at c a e)) next (subst (Follows calls (x + shut_next notes c a e)) returns parts.1))

    -- ---- behind a RET, for a time that begins in the routine

    -- so many cover what follows behind the open calls, by what the routine returns with
    abbrev pub Covers : List ℕ → (Enabled → ℕ) → Type 0
    Covers [] most = Unit {0}
    Covers (back ∷ more) most =
        (behind : Enabled → ℕ) × ((e : Enabled) → (shut_next notes c back e ≤ most e) × ((n : Enabled) → is_in (returns_next notes c back e) n ≡ true → shut_next notes c back e + behind n ≤ most e))
        × ((e : Enabled) → behind e ≤ shut_behind c back e) × Covers more behind

    covers-more : (calls : List ℕ) (most states : Enabled → ℕ) → ((e : Enabled) → states e ≤ most e) → Covers calls states → Covers calls most
    covers-more [] most states less h = tt
    covers-more (back ∷ more) most states less h = (
      h.0,
      (λ e.
          let few : states e ≤ most e = less e in
          let next : shut_next notes c back e ≤ states e = (h.1 e).0 in
          (omega (arith, few, next), λ n there. (let behind : shut_next notes c back e + h.0 n ≤ states e = (h.1 e).1 n there in omega (arith, few, behind)))),
      h.2,
      h.3,
    )

    pub covers-on : (calls : List ℕ) (a b : ℕ) → covers (shut_behind c b) (shut_behind c a) ≡ true → Covers calls (shut_behind c a) → Covers calls (shut_behind c b)
    covers-on calls a b h here = covers-more calls (shut_behind c b) (shut_behind c a) (covers-so (shut_behind c b) (shut_behind c a) h) here

    covers-call : (calls : List ℕ) (a target back : ℕ) → list_all (covers_return notes c a target back) EACH ≡ true → covers (shut_behind c back) (shut_behind c a) ≡ true → Covers calls (shut_behind c a) → Covers (back ∷ calls) (shut_behind c target)
    covers-call calls a target back h on here = (
      shut_behind c a,
      (λ e.
          let parts = both (nat_le (shut_next notes c back e) (shut_behind c target e)) (list_all (λ x. implies (is_in (returns_next notes c back e) x) (nat_le (shut_next notes c back e + shut_behind c a x) (shut_behind c target e))) EACH)
          (each-passes (covers_return notes c a target back) h e) in (
            at-most (shut_next notes c back e) (shut_behind c target e) parts.0,
            λ n there. at-most (shut_next notes c back e + shut_behind c a n) (shut_behind c target e)
                (so (is_in (returns_next notes c back e) n) (nat_le (shut_next notes c back e + shut_behind c a n) (shut_behind c target e))
                (each-passes (λ x. implies (is_in (returns_next notes c back e) x) (nat_le (shut_next notes c back e + shut_behind c a x) (shut_behind c target e))) parts.1 n) there),
          )),
      covers-so (shut_behind c back) (shut_behind c a) on,
      here,
    )

    pub covers-back : (more : List ℕ) (a back : ℕ) → Covers (back ∷ more) (shut_behind c a) → Covers more (shut_behind c back)
    covers-back more a back h = covers-more more (shut_behind c back) h.0 h.2 h.3

    -- a return to an address
    covers-comes : (more : List ℕ) (x back : ℕ) (most : Enabled → ℕ) (e : Enabled) → x + most e ≤ total → Covers (back ∷ more) most → Comes more x back e
    covers-comes [] x back most e few h = let next : shut_next notes c back e ≤ most e = (h.1 e).0 in omega (arith, few, next)
    covers-comes (last ∷ more) x back most e few h =
        let next : shut_next notes c back e ≤ most e = (h.1 e).0 in (
          omega (arith, few, next),
          λ n there.
              let behind : shut_next notes c back e + h.0 n ≤ most e = (h.1 e).1 n there in
              covers-comes more (x + shut_next notes c back e) last h.0 n (omega (arith, few, behind)) h.3,
        )

    pub covers-follows : (calls : List ℕ) (x : ℕ) (most : Enabled → ℕ) (returns : EnabledSet) → ((e : Enabled) → is_in returns e ≡ true → x + most e ≤ total) → Covers calls most → Follows calls x returns
    covers-follows [] x most returns few h = tt
    covers-follows (back ∷ more) x most returns few h = λ e there. covers-comes more x back most e (few e there) h

    -- ---- on each way

    -- a pass is over there, or goes on
    abbrev pub Ahead : ℕ → List ℕ → Type 0
    Ahead a calls = (is_end notes a ≡ true) ⊎ Covers calls (shut_behind c a)

    -- it comes to an address, so many states after interrupts were asked for, with so much left for turns
    pub record Owes (a : ℕ) (calls : List ℕ) (e : Enabled) (waited turns : ℕ) : Type 0 where
      pub ahead : Ahead a calls
      pub owed : Comes calls (waited + turns) a e

    module _ (work : Option Plan) (a : ℕ) (e : Enabled) where
      abbrev pub has : ℕ
      has = shut_at c a e + price_at notes c a

      abbrev kept : Way → Bool
      kept way = is_kept notes c work a e way

      abbrev pub spent : Way → ℕ
      spent way = shut_states work (words_at notes a) e (way_states way)

      -- what a way that pays says
      pub record Pays (way : Way) : Type 0 where
        pub falls : spent way + credit_at notes c a ≤ has
        pub after : (n : Enabled) → may_leave work e n ≡ true → covers_after notes c a e has (spent way + credit_at notes c a) way n ≡ true

      pays-so : (way : Way) → pays notes c work a e (shut_at c a e + price_at notes c a) (credit_at notes c a) way ≡ true → Pays way
      pays-so way h =
          let parts = both (nat_le (spent way + credit_at notes c a) has) (list_all (λ n. implies (may_leave work e n) (covers_after notes c a e has (spent way + credit_at notes c a) way n)) EACH) h in
          record {
            falls = at-most (spent way + credit_at notes c a) has parts.0;
            after = λ n leaves.
                so (may_leave work e n) (covers_after notes c a e has (spent way + credit_at notes c a) way n)
                (each-passes (λ x. implies (may_leave work e x) (covers_after notes c a e has (spent way + credit_at notes c a) way x)) parts.1 n) leaves;
          }

      kept-pays : (way : Way) → kept way ≡ true → Pays way
      kept-pays way h = pays-so way (both (hands_on notes c a way) (pays notes c work a e (shut_at c a e + price_at notes c a) (credit_at notes c a) way) h).1

      kept-hands : (way : Way) → kept way ≡ true → hands_on notes c a way ≡ true
      kept-hands way h = (both (hands_on notes c a way) (pays notes c work a e (shut_at c a e + price_at notes c a) (credit_at notes c a) way) h).0

      -- what is come to and what the routine returns with there are covered
      next-so : (spent target : ℕ) (n : Enabled) → covers_next notes c a e has spent target n ≡ true → (spent + shut_next notes c target n ≤ has) × ((x : Enabled) → is_in (returns_next notes c target n) x ≡ true → is_in (returns_at c a e) x ≡ true)
      next-so spent target n h =
          let parts = both (nat_le (spent + shut_next notes c target n) has) (includes (returns_at c a e) (returns_next notes c target n)) h in
          (at-most (spent + shut_next notes c target n) has parts.0, λ x there. within (returns_at c a e) (returns_next notes c target n) parts.1 x there)

      -- the states of a way are those of the same way out of the pass
      module _ (since turns left : ℕ) (calls : List ℕ) (paid : Stands calls (since + turns) a e) (counted : left + price_at notes c a ≤ turns + credit_at notes c a) (here : Covers calls (shut_behind c a)) where
        -- what is spent and what follows is what it has
        spends : (k s x : ℕ) → k ≤ s → (s + credit_at notes c a) + x ≤ has → ((since + k) + left) + x ≤ (since + turns) + shut_at c a e
        spends k s x few pay = sums since k s x (shut_at c a e) (price_at notes c a) (credit_at notes c a) turns left few pay counted
          where
            sums : (since k s x p price credit turns left : ℕ) → k ≤ s → (s + credit) + x ≤ p + price → left + price ≤ turns + credit → ((since + k) + left) + x ≤ (since + turns) + p
            sums since k s x p price credit turns left few pay counted = omega arith

        few-in-all : (k s x : ℕ) → k ≤ s → (s + credit_at notes c a) + x ≤ has → ((since + k) + left) + x ≤ total
        few-in-all k s x few pay =
            let one : ((since + k) + left) + x ≤ (since + turns) + shut_at c a e = spends k s x few pay in
            let two : (since + turns) + shut_at c a e ≤ total = paid.0 in
            omega (arith, one, two)

        -- at most so many states in all
        most-by : (way : Way) (k s : ℕ) → k ≤ s → s ≡ spent way → kept way ≡ true → (since + k) + left ≤ total
        most-by way k s few same h =
            let falls : spent way + credit_at notes c a ≤ has = (kept-pays way h).falls in
            let pay : (s + credit_at notes c a) + 0 ≤ has = (let e : s ≡ spent way = same in omega (arith, falls, e)) in
            let sum : ((since + k) + left) + 0 ≤ total = few-in-all k s 0 few pay in
            omega (arith, sum)

        pub way-most : (way : Way) (k : ℕ) → k ≤ spent way → kept (unless_end notes way) ≡ true → (since + k) + left ≤ total
        way-most (To s target) k few h = by (is_end notes target) h
          where
            by : (end : Bool) → kept (if end then Out s else To s target) ≡ true → (since + k) + left ≤ total
            by true h = most-by (Out s) k (spent (To s target)) few refl h
            by false h = most-by (To s target) k (spent (To s target)) few refl h
        way-most (Call s target back) k few h = by (is_end notes target) h
          where
            by : (end : Bool) → kept (if end then Out s else Call s target back) ≡ true → (since + k) + left ≤ total
            by true h = most-by (Out s) k (spent (Call s target back)) few refl h
            by false h = most-by (Call s target back) k (spent (Call s target back)) few refl h
        way-most (Back s) k few h = most-by (Back s) k (spent (Back s)) few refl h
        way-most (Out s) k few h = most-by (Out s) k (spent (Out s)) few refl h

        -- on to an address, behind so many states of a way
        comes-next : (k s target : ℕ) (n : Enabled) → k ≤ s → covers_next notes c a e has (s + credit_at notes c a) target n ≡ true → Comes calls ((since + k) + left) target n
        comes-next k s target n few h =
            let covered = next-so (s + credit_at notes c a) target n h in
            let sum : ((since + k) + left) + shut_next notes c target n ≤ (since + turns) + shut_at c a e = spends k s (shut_next notes c target n) few covered.0 in
            comes-of calls ((since + k) + left) target n (few-in-all k s (shut_next notes c target n) few covered.0)
            (follows-less calls ((since + turns) + shut_at c a e) (((since + k) + left) + shut_next notes c target n) (returns_at c a e) (returns_next notes c target n) sum covered.1 paid.1)

        -- with so many states left to spend
        to-by : (end : Bool) (s target k x : ℕ) (n : Enabled) → is_end notes target ≡ end → k + x ≤ spent (To s target) → may_leave work e n ≡ true → kept (if end then Out s else To s target) ≡ true
            → Ahead target calls × Comes calls ((since + (k + x)) + left) target n
        to-by true s target k x n end few leaves h = (inl end, comes-end calls ((since + (k + x)) + left) target n end (most-by (Out s) (k + x) (spent (To s target)) few refl h))
        to-by false s target k x n end few leaves h =
            (inr (covers-on calls a target (kept-hands (To s target) h) here), comes-next (k + x) (spent (To s target)) target n few ((kept-pays (To s target) h).after n leaves))

        pub owes-words : (s target k x : ℕ) (n : Enabled) → k + x ≤ spent (To s target) → may_leave work e n ≡ true → kept (unless_end notes (To s target)) ≡ true → Ahead target calls × Comes calls ((since + (k + x)) + left) target n
        owes-words s target k x n few leaves h = to-by (is_end notes target) s target k x n refl few leaves h

        no-words : (k : ℕ) → (since + k) + left ≤ (since + (k + 0)) + left
        no-words k = omega arith

        pub owes-to : (s target k : ℕ) (n : Enabled) → k ≤ spent (To s target) → may_leave work e n ≡ true → kept (unless_end notes (To s target)) ≡ true → Owes target calls n (since + k) left
        owes-to s target k n few leaves h =
            let o = owes-words s target k 0 n (omega (arith, few)) leaves h in
            record { ahead = o.0; owed = comes-less calls ((since + (k + 0)) + left) ((since + k) + left) target n (no-words k) o.1 }

        -- into a routine, and on where that returns to
        comes-call : (k s target back : ℕ) (n : Enabled) → k ≤ s → covers_after notes c a e has (s + credit_at notes c a) (Call s target back) n ≡ true → Comes (back ∷ calls) ((since + k) + left) target n
        comes-call k s target back n few h =
            let parts = both (nat_le ((s + credit_at notes c a) + shut_next notes c target n) has)
            (list_all (λ x. implies (is_in (returns_next notes c target n) x) (covers_next notes c a e has ((s + credit_at notes c a) + shut_next notes c target n) back x)) EACH) h in
            let inside : (s + credit_at notes c a) + shut_next notes c target n ≤ has = at-most ((s + credit_at notes c a) + shut_next notes c target n) has parts.0 in (
              few-in-all k s (shut_next notes c target n) few inside,
              λ x there.
                  let covered : covers_next notes c a e has ((s + credit_at notes c a) + shut_next notes c target n) back x ≡ true =
                  so (is_in (returns_next notes c target n) x) (covers_next notes c a e has ((s + credit_at notes c a) + shut_next notes c target n) back x)
                  (each-passes (λ y. implies (is_in (returns_next notes c target n) y) (covers_next notes c a e has ((s + credit_at notes c a) + shut_next notes c target n) back y)) parts.1 x) there in
                  behind-call k s (shut_next notes c target n) back x few covered,
            )
          where
            swap : (s credit next k left since : ℕ) → ((since + k) + left) + next ≤ (since + (k + next)) + left
            swap s credit next k left since = omega arith

            behind-call : (k s next back : ℕ) (x : Enabled) → k ≤ s → covers_next notes c a e has ((s + credit_at notes c a) + next) back x ≡ true → Comes calls (((since + k) + left) + next) back x
            behind-call k s next back x few covered =
                let same : (s + credit_at notes c a) + next ≡ (s + next) + credit_at notes c a = omega arith in
                comes-less calls ((since + (k + next)) + left) (((since + k) + left) + next) back x (swap s (credit_at notes c a) next k left since)
                (comes-next (k + next) (s + next) back x (omega (arith, few)) (subst (λ y. covers_next notes c a e has y back x ≡ true) same covered))

        into-by : (end : Bool) (s target back k : ℕ) (n : Enabled) → is_end notes target ≡ end → k ≤ spent (Call s target back) → may_leave work e n ≡ true → kept (if end then Out s else Call s target back) ≡ true → Owes target (back ∷ calls) n (since + k) left
        into-by true s target back k n end few leaves h =
            record { ahead = inl end; owed = comes-end (back ∷ calls) ((since + k) + left) target n end (most-by (Out s) k (spent (Call s target back)) few refl h) }
        into-by false s target back k n end few leaves h =
            let hands = both (list_all (covers_return notes c a target back) EACH) (covers (shut_behind c back) (shut_behind c a)) (kept-hands (Call s target back) h) in
            record {
              ahead = inr (covers-call calls a target back hands.0 hands.1 here);
              owed = comes-call k (spent (Call s target back)) target back n few ((kept-pays (Call s target back) h).after n leaves);
            }

        pub owes-into : (s target back k : ℕ) (n : Enabled) → k ≤ spent (Call s target back) → may_leave work e n ≡ true → kept (unless_end notes (Call s target back)) ≡ true → Owes target (back ∷ calls) n (since + k) left
        owes-into s target back k n few leaves h = into-by (is_end notes target) s target back k n refl few leaves h

        -- back out of the routine
        pub owes-back : (s back k : ℕ) (more : List ℕ) (n : Enabled) → calls ≡ back ∷ more → k ≤ spent (Back s) → may_leave work e n ≡ true → kept (Back s) ≡ true → Owes back more n (since + k) left
        owes-back s back k more n opens few leaves h =
            let pays : Pays (Back s) = kept-pays (Back s) h in
            let falls : spent (Back s) + credit_at notes c a ≤ has = pays.falls in
            let sum : ((since + k) + left) + 0 ≤ (since + turns) + shut_at c a e = spends k (spent (Back s)) 0 few (omega (arith, falls)) in
            let follows : Follows (back ∷ more) ((since + turns) + shut_at c a e) (returns_at c a e) = subst (λ l. Follows l ((since + turns) + shut_at c a e) (returns_at c a e)) opens paid.1 in
            record {
              ahead = inr (covers-back more a back (subst (λ l. Covers l (shut_behind c a)) opens here));
              owed = comes-less more ((since + turns) + shut_at c a e) ((since + k) + left) back n (omega (arith, sum)) (follows n (pays.after n leaves));
            }
