-- What holds at each moment of a pass, by what a certificate has.
use Rattle.std.proofs.Common.{◌≡◌, ℕ, Bool, true, false, not, ◌==◌, ◌&&◌, ◌||◌, ◌⊎◌, inl, inr, Option, Some, None, List, [], ◌∷◌, map, refl, sym, ◌∙◌, ap, subst}
use Rattle.std.specs.Prelude.{Contains}
use Rattle.std.specs.List.{list_all}
use Rattle.std.specs.Option.{option_map}
use Rattle.std.proofs.lemmas.List.Folds.{list_all-map}
use Rattle.std.proofs.lemmas.List.Sums.{AllPass-from_list_all}
use Rattle.std.proofs.lemmas.List.Elements.{All-contains}
use Rattle.kc_exec_spec.specs.declared.plan.Plan.{Plan}
use Rattle.kc_exec_spec.specs.Jumping.{next_pc}
use Rattle.kc_machine_spec.specs.declared.doing.Going.{Going}
use Rattle.kc_machine_spec.specs.declared.doing.Going.TheVariants.{Moving, Idling, Serving}
use Rattle.kc_machine_spec.specs.Machine.{Machine, goes_first}
use Rattle.kc_bound.specs.declared.notes.Notes.{Notes}
use Rattle.kc_bound.specs.declared.way.Way.{Way}
use Rattle.kc_bound.specs.declared.way.Way.TheVariants.{To, Call, Back}
use Rattle.kc_bound.specs.Notes.{is_end}
use Rattle.kc_bound.specs.Ways.{ways_to, unless_end}
use Rattle.kc_bound.proofs.Keeps.{IsBetween}
use Rattle.kc_bound_requests.specs.declared.enabled.Enabled.{Enabled}
use Rattle.kc_bound_requests.specs.declared.certificate.RequestCertificate.{RequestCertificate}
use Rattle.kc_bound_requests.specs.Enabled.{enabled_in, is_enabled, may_leave}
use Rattle.kc_bound_requests.specs.Closed.{is_in, includes, includes_after, enabled_at, work_at, is_past, is_interruptible, is_closed_on, is_closed_on_all, lets_in, is_open_at}
use Rattle.kc_bound_requests.proofs.Sets.{within, after-within, one-passes}
use Rattle.kc_bound_requests.proofs.Services.{MayServe}

pub both : (a b : Bool) → (a && b) ≡ true → (a ≡ true) × (b ≡ true)
both true b h = (refl, h)
both false b h = absurd (cc h)

either-false : (a b : Bool) → (a || b) ≡ false → (a ≡ false) × (b ≡ false)
either-false false b h = (refl, h)
either-false true b h = absurd (cc h)

-- while the words of a block move go on
abbrev pub unheld : Enabled → Enabled
unheld e = record { interrupts = e.interrupts; server = e.server; held = false }

module _ (image : List ℕ) (notes : Notes) (from : ℕ) (c : RequestCertificate) where
  -- what the open calls may return with is allowed behind them
  abbrev pub MayReturn : ℕ → List ℕ → Type 0
  MayReturn a [] = Unit {0}
  MayReturn a (back ∷ more) = ((e : Enabled) → is_in (enabled_at c a).behind e ≡ true → is_in (enabled_at c back).before e ≡ true) × MayReturn back more

  -- an instruction may begin at an address
  pub record Ready (a : ℕ) (calls : List ℕ) (e : Enabled) : Type 0 where
    pub before : is_in (enabled_at c a).before e ≡ true
    pub returns : MayReturn a calls

  -- a pass is over there, or an instruction may begin
  abbrev pub Comes : ℕ → List ℕ → Enabled → Type 0
  Comes a calls e = (is_end notes a ≡ true) ⊎ Ready a calls e

  may-return-on : (a b : ℕ) (calls : List ℕ) → includes (enabled_at c a).behind (enabled_at c b).behind ≡ true → MayReturn a calls → MayReturn b calls
  may-return-on a b [] h r = tt
  may-return-on a b (back ∷ more) h r = (λ e there. r.0 e (within (enabled_at c a).behind (enabled_at c b).behind h e there), r.1)

  -- ---- on each way

  -- an address whose work leaves something
  pub record IsLeft (work : Option Plan) (a : ℕ) (calls : List ℕ) (old new : Enabled) : Type 0 where
    pub ready : Ready a calls old
    pub leaves : may_leave work old new ≡ true

  module _ (work : Option Plan) (a : ℕ) (calls : List ℕ) (old new : Enabled) (l : IsLeft work a calls old new) where
    pub goes-to : (states target : ℕ) → is_closed_on c work (enabled_at c a) (To states target) ≡ true → Ready target calls new
    goes-to states target h =
        let parts = both (includes_after work (enabled_at c target).before (enabled_at c a).before) (includes (enabled_at c a).behind (enabled_at c target).behind) h in
        record {
          before = after-within work (enabled_at c target).before (enabled_at c a).before parts.0 old new l.ready.before l.leaves;
          returns = may-return-on a target calls parts.1 l.ready.returns;
        }

    pub goes-into : (states target back : ℕ) → is_closed_on c work (enabled_at c a) (Call states target back) ≡ true → Ready target (back ∷ calls) new
    goes-into states target back h =
        let parts = both (includes_after work (enabled_at c target).before (enabled_at c a).before) (includes (enabled_at c back).before (enabled_at c target).behind && includes (enabled_at c a).behind (enabled_at c back).behind) h in
        let behind = both (includes (enabled_at c back).before (enabled_at c target).behind) (includes (enabled_at c a).behind (enabled_at c back).behind) parts.1 in
        record {
          before = after-within work (enabled_at c target).before (enabled_at c a).before parts.0 old new l.ready.before l.leaves;
          returns = (λ e there. within (enabled_at c back).before (enabled_at c target).behind behind.0 e there, may-return-on a back calls behind.1 l.ready.returns);
        }

    pub goes-back : (states back : ℕ) (more : List ℕ) → calls ≡ back ∷ more → is_closed_on c work (enabled_at c a) (Back states) ≡ true → Ready back more new
    goes-back states back more opens h =
        let returns : MayReturn a (back ∷ more) = subst (MayReturn a) opens l.ready.returns in
        record {
          before = returns.0 new (after-within work (enabled_at c a).behind (enabled_at c a).before h old new l.ready.before l.leaves);
          returns = returns.1;
        }

    -- where no end is
    unless : (way : Way) → is_closed_on c work (enabled_at c a) (unless_end notes way) ≡ true → unless_end notes way ≡ way → is_closed_on c work (enabled_at c a) way ≡ true
    unless way h e = subst (λ w. is_closed_on c work (enabled_at c a) w ≡ true) e h

    comes-by : (end : Bool) (states target : ℕ) → is_end notes target ≡ end → is_closed_on c work (enabled_at c a) (unless_end notes (To states target)) ≡ true → Comes target calls new
    comes-by true states target e h = inl e
    comes-by false states target e h = inr (goes-to states target (unless (To states target) h (rw e refl)))

    pub comes-to : (states target : ℕ) → is_closed_on c work (enabled_at c a) (unless_end notes (To states target)) ≡ true → Comes target calls new
    comes-to states target h = comes-by (is_end notes target) states target refl h

    calls-by : (end : Bool) (states target back : ℕ) → is_end notes target ≡ end → is_closed_on c work (enabled_at c a) (unless_end notes (Call states target back)) ≡ true → Comes target (back ∷ calls) new
    calls-by true states target back e h = inl e
    calls-by false states target back e h = inr (goes-into states target back (unless (Call states target back) h (rw e refl)))

    pub comes-into : (states target back : ℕ) → is_closed_on c work (enabled_at c a) (unless_end notes (Call states target back)) ≡ true → Comes target (back ∷ calls) new
    comes-into states target back h = calls-by (is_end notes target) states target back refl h

  -- ---- the ways of an address

  module _ (work : Option Plan) (a : ℕ) where
    abbrev pub IsClosedOn : Way → Type 0
    IsClosedOn way = is_closed_on c work (enabled_at c a) (unless_end notes way) ≡ true

    abbrev pub AllClosed : Option (List Way) → Type 0
    AllClosed ways = is_closed_on_all c work (enabled_at c a) (option_map (map (unless_end notes)) ways) ≡ true

    pub first-closed : (way : Way) (more : List Way) → AllClosed (Some (way ∷ more)) → IsClosedOn way
    first-closed way more h = (both (is_closed_on c work (enabled_at c a) (unless_end notes way)) (list_all (is_closed_on c work (enabled_at c a)) (map (unless_end notes) more)) h).0

    pub second-closed : (first way : Way) (more : List Way) → AllClosed (Some (first ∷ way ∷ more)) → IsClosedOn way
    second-closed first way more h = first-closed way more (both (is_closed_on c work (enabled_at c a) (unless_end notes first)) (list_all (is_closed_on c work (enabled_at c a)) (map (unless_end notes) (way ∷ more))) h).1

    pub each-closed : (states : ℕ) (targets : List ℕ) (target : ℕ) → AllClosed (Some (ways_to states targets)) → Contains targets target → IsClosedOn (To states target)
    each-closed states targets target h there =
        let test : Way → Bool = is_closed_on c work (enabled_at c a) in
        let one : list_all test (map (unless_end notes) (ways_to states targets)) ≡ list_all (λ w. test (unless_end notes w)) (ways_to states targets) = list_all-map test (unless_end notes) (ways_to states targets) in
        let two : list_all (λ w. test (unless_end notes w)) (ways_to states targets) ≡ list_all (λ t. test (unless_end notes (To states t))) targets = list_all-map (λ w. test (unless_end notes w)) (λ t. To states t) targets in
        All-contains (λ t. test (unless_end notes (To states t)) ≡ true) targets target (AllPass-from_list_all (λ t. test (unless_end notes (To states t))) targets (sym two ∙ sym one ∙ h)) there

  -- ---- a pass that goes on

  -- at the begin of an instruction, and between the words of a block move
  abbrev pub Account : Option Going → ℕ → List ℕ → Enabled → Type 0
  Account None pc calls e = (is_past notes from pc ≡ false) × Ready pc calls e
  Account (Some (Moving i w)) pc calls e = (w.interruptible ≡ true → is_enabled e ≡ true → is_open_at image notes from c pc ≡ true) × Comes (next_pc i pc) calls (unheld e)
  Account (Some Idling) pc calls e = ⊥
  Account (Some (Serving number cycle)) pc calls e = ⊥

  -- ---- a request that may be served there

  lets-in : (work : Option Plan) (a : ℕ) (e : Enabled) → is_in (enabled_at c a).before e ≡ true → is_enabled e ≡ true → (not e.held || is_interruptible work) ≡ true → lets_in work (enabled_at c a).before ≡ true
  lets-in work a e there on opens = one-passes (λ x. is_in (enabled_at c a).before x && (is_enabled x && (not x.held || is_interruptible work))) e (rw (there, on, opens) refl)

  pub open-there : (a : ℕ) (e : Enabled) → is_past notes from a ≡ false → is_in (enabled_at c a).before e ≡ true → is_enabled e ≡ true → (not e.held || is_interruptible (work_at image a)) ≡ true → is_open_at image notes from c a ≡ true
  open-there a e asked there on opens = rw (asked, lets-in (work_at image a) a e there on opens) refl

  module _ {X : Type 0} where
    pub record IsOnWay (m : Machine X) (calls : List ℕ) : Type 0 where
      pub is : IsBetween image m
      pub free : m.held ≡ true → m.going ≡ None
      pub account : Account m.going m.cpu.pc calls (enabled_in m)

    -- it comes to an address at which no pass is over
    pub arrives : (target : ℕ) (n : Machine X) (calls : List ℕ) → IsBetween image n → n.going ≡ None → n.cpu.pc ≡ target → is_end notes n.cpu.pc ≡ false → Comes target calls (enabled_in n) → IsOnWay n calls
    arrives target n calls is going pc on (inl over) = absurd (let e : false ≡ true = sym on ∙ ap (is_end notes) pc ∙ over in cc e)
    arrives target n calls is going pc on (inr ready) = record {
      is = is;
      free = λ held. going;
      account = subst (λ (g : Option Going). Account g n.cpu.pc calls (enabled_in n)) (sym going)
          (ap (λ b. b && not (n.cpu.pc == from)) on, subst (λ a. Ready a calls (enabled_in n)) (sym pc) ready);
    }

    serves-by : (g : Option Going) (m : Machine X) (calls : List ℕ) → goes_first g ≡ false → MayServe m → Account g m.cpu.pc calls (enabled_in m) → is_open_at image notes from c m.cpu.pc ≡ true
    serves-by None m calls first s account = open-there m.cpu.pc (enabled_in m) account.0 account.1.before s.on (rw s.free refl)
    serves-by (Some (Moving i w)) m calls first s account = account.0 (not-not w.interruptible first) s.on
      where
        not-not : (b : Bool) → not b ≡ false → b ≡ true
        not-not true h = refl
        not-not false h = absurd (cc h)
    serves-by (Some Idling) m calls first s account = absurd account
    serves-by (Some (Serving number cycle)) m calls first s account = absurd account

    pub serves-open : (m : Machine X) (calls : List ℕ) → IsOnWay m calls → MayServe m → is_open_at image notes from c m.cpu.pc ≡ true
    serves-open m calls on s = serves-by m.going m calls s.none_first s on.account
