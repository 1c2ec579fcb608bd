-- Where requests may be served in the passes through a routine (this kit's own; which request is served is that of the 80C196KC
-- User's Manual, "Interrupts", "Peripheral Transaction Server").
use Rattle.std.specs.Prelude.{◌≡◌, ℕ, suc, true, false, not, ◌&&◌, ◌<◌, ◌≤◌, Option, Some, None, List}
use Rattle.kc_intc.specs.declared.requests.Requests.{Requests}
use Rattle.kc_extra.specs.Further.{Further}
use Rattle.kc_block_spec.specs.Writing.{with_requests}
use Rattle.kc_machine_spec.specs.Machine.{Machine, current, with_units}
use Rattle.kc_bound.specs.declared.notes.Notes.{Notes}
use Rattle.kc_bound.specs.Passes.{moment, is_over, IsStretch}
use Rattle.kc_bound.specs.Premises.{ReturnsProperly, KeepsNotes}
use Rattle.kc_bound.specs.Bounded.{IsImage, HoldsImage, IsPassFrom}
use Rattle.kc_bound_requests.specs.declared.enabled.Enabled.{Enabled}
use Rattle.kc_bound_requests.specs.declared.enabled.TheConstants.{CALLED, ENTERED, INTERRUPTIBLE, AT_RESET}
use Rattle.kc_bound_requests.specs.declared.certificate.EnabledSet.{EnabledSet}
use Rattle.kc_bound_requests.specs.declared.certificate.RequestCertificate.{RequestCertificate}
use Rattle.kc_bound_requests.specs.Enabled.{enabled_in, may_serve, is_service, nmi_pends, may_change}
use Rattle.kc_bound_requests.specs.Closed.{is_in, is_open_at, IsClosed, IsLeastOpen}

-- ---- one activity

-- where a request may not be served and NMI does not pend, no entry and no set-up comes next, whatever is requested
abbrev pub NoServiceIsDue : Type 0 → Type 0
NoServiceIsDue X = (m : Machine X) → m.under_way ≡ None → m.ended ≡ None → may_serve m ≡ false → nmi_pends m ≡ false → is_service (current m).doing ≡ false

-- the machine with other requests
abbrev pub requesting : {X : Type 0} → Machine X → Requests → Machine X
requesting m r = with_units m (with_requests m.board.units r)

-- where one may be served, an entry or a set-up does come next with some requests, of which NMI is none
abbrev pub ServiceMayBeDue : Type 0 → Type 0
ServiceMayBeDue X = (m : Machine X) → may_serve m ≡ true → (r : Requests) × (nmi_pends (requesting m r) ≡ false) × (is_service (current (requesting m r)).doing ≡ true)

-- each activity of a stretch leaves what it may leave, if the machine lives on
abbrev pub ActivitiesChange : Type 0 → Type 0
ActivitiesChange X =
    (f : Further X) (n k : ℕ) (m : Machine X) → IsStretch f n m → k < n → 0 < (current (moment f k m)).left → (moment f (suc k) m).ended ≡ None
    → may_change (current (moment f k m)).doing (enabled_in (moment f k m)) (enabled_in (moment f (suc k) m)) ≡ true

-- what passes begin with
pub record IsFirstWith (e : Enabled) : Type 0 where
  pub called : is_in CALLED e ≡ not e.held
  pub entered : is_in ENTERED e ≡ e.held
  pub interruptible : is_in INTERRUPTIBLE e ≡ (e.interrupts && not e.held)
  pub at_reset : is_in AT_RESET e ≡ (not e.interrupts && not e.server && not e.held)

-- a routine that is called, one that an interrupt enters, a main program whose interrupts are on, and a program at a reset
abbrev pub FirstSetsAre : Type 0
FirstSetsAre = (e : Enabled) → IsFirstWith e

-- ---- passes

-- at each moment of a pass at which a request may be served, the address is open
abbrev pub RequestsAreOpen : Type 0 → Type 0
RequestsAreOpen X =
    (f : Further X) (image : List ℕ) (notes : Notes) (from : ℕ) (first : EnabledSet) (c : RequestCertificate)
    → IsImage image → IsClosed image notes from first c
    → (n k : ℕ) (m : Machine X) → IsPassFrom f image notes from n m → is_in first (enabled_in m) ≡ true → k ≤ n → is_over f notes k m ≡ false
    → may_serve (moment f k m) ≡ true → is_open_at image notes from c (moment f k m).cpu.pc ≡ true

-- so many activities from an address, in which NMI does not pend and the premises hold; of none it is said that it is the routine's own
pub record IsRunFrom {X : Type 0} (f : Further X) (image : List ℕ) (notes : Notes) (from n : ℕ) (m : Machine X) : Type 0 where
  pub rom : HoldsImage image m
  pub begins : m.cpu.pc ≡ from
  pub between : m.under_way ≡ None
  pub fresh : m.going ≡ None
  pub lives : (k : ℕ) → k < n → (moment f k m).ended ≡ None
  pub goes_on : (k : ℕ) → k < n → is_over f notes k m ≡ false
  pub no_nmi : (k : ℕ) → k < n → nmi_pends (moment f k m) ≡ false
  pub returns : ReturnsProperly f n m
  pub keeps : KeepsNotes f notes n m

-- where no address is open, they are a pass: each of them is the routine's own
abbrev pub OwnIfNoNmi : Type 0 → Type 0
OwnIfNoNmi X =
    (f : Further X) (image : List ℕ) (notes : Notes) (from : ℕ) (first : EnabledSet) (c : RequestCertificate)
    → IsImage image → IsClosed image notes from first c → IsLeastOpen image notes from c None
    → (n : ℕ) (m : Machine X) → IsRunFrom f image notes from n m → is_in first (enabled_in m) ≡ true → IsPassFrom f image notes from n m

-- ---- what is said without a certificate

-- an address is not below the least open one; there is none where no address is open
abbrev pub IsNotBelow : Option ℕ → ℕ → Type 0
IsNotBelow None a = ⊥
IsNotBelow (Some least) a = least ≤ a

-- in the passes from an address that begin with something of a set, requests are served from the least open address on, or not at all
pub record ServedFrom {X : Type 0} (f : Further X) (image : List ℕ) (notes : Notes) (from : ℕ) (first : EnabledSet) (least : Option ℕ) : Type 0 where
  pub served : (n k : ℕ) (m : Machine X) → IsPassFrom f image notes from n m → is_in first (enabled_in m) ≡ true → k ≤ n → is_over f notes k m ≡ false
      → may_serve (moment f k m) ≡ true → IsNotBelow least (moment f k m).cpu.pc
  pub own : least ≡ None → (n : ℕ) (m : Machine X) → IsRunFrom f image notes from n m → is_in first (enabled_in m) ≡ true → IsPassFrom f image notes from n m

-- what a closed certificate shows is so
abbrev pub ClosedShowsServed : Type 0 → Type 0
ClosedShowsServed X =
    (f : Further X) (image : List ℕ) (notes : Notes) (from : ℕ) (first : EnabledSet) (c : RequestCertificate) (least : Option ℕ)
    → IsImage image → IsClosed image notes from first c → IsLeastOpen image notes from c least → ServedFrom f image notes from first least
