-- When a request is served.
use Rattle.std.proofs.Common.{◌≡◌, ℕ, Bool, true, false, not, ◌&&◌, ◌||◌, is_none, if◌then◌else◌, Option, Some, None, Result, Ok, Err, refl, ◌∙◌, ap}
use Rattle.kc_base.specs.declared.types.Kind.{Kind}
use Rattle.kc_base.specs.Limits.{transfer_count}
use Rattle.kc_isa.specs.declared.insn.Insn.{Insn}
use Rattle.kc_isa.specs.declared.insn.Place.{Place}
use Rattle.kc_code.specs.declared.reader.Decoded.{Decoded}
use Rattle.kc_code.specs.declared.reader.Decoded.TheVariants as says
use Rattle.kc_code.specs.Reading.{decode_of}
use Rattle.kc_exec_spec.specs.Status.{has}
use Rattle.kc_exec_spec.specs.Places.{place_of}
use Rattle.kc_intc.specs.declared.requests.Requests.{Requests}
use Rattle.kc_intc.specs.declared.requests.Choice.TheVariants as choice
use Rattle.kc_intc.specs.Choosing.{wants_cycle, wants_entry, greatest, or_else, choice_of}
use Rattle.kc_machine_spec.specs.declared.doing.Activity.{Activity}
use Rattle.kc_machine_spec.specs.declared.doing.Activity.TheVariants.{Executes, MovesWord, Traps, Enters, SetsUp, Transfers, Idles, Breaks}
use Rattle.kc_machine_spec.specs.declared.doing.Going.{Going}
use Rattle.kc_machine_spec.specs.declared.doing.Going.TheVariants.{Moving, Idling, Serving}
use Rattle.kc_machine_spec.specs.declared.doing.UnderWay.{UnderWay}
use Rattle.kc_machine_spec.specs.Board.{masks_of}
use Rattle.kc_machine_spec.specs.Scene.{byte}
use Rattle.kc_machine_spec.specs.Machine.{Machine, scene_of, fetched, placed, begins, fetches, goes_on, goes_first, serves, chosen, current, current_of}
use Rattle.kc_bound.specs.Passes.{is_own}
use Rattle.kc_bound_requests.specs.Enabled.{enabled_in, is_enabled, may_serve, is_service, nmi_pends}
use Rattle.kc_bound_requests.specs.Requests.{NoServiceIsDue, requesting, ServiceMayBeDue}

-- ---- what goes on is no service

-- an instruction that begins, or the undefined use found there
abbrev IsOwn : UnderWay → Type 0
IsOwn a = is_own a.doing ≡ true

placed-own : (i : Insn) (r : Result Place Kind) → IsOwn (placed i r)
placed-own i (Ok place) = refl
placed-own i (Err kind) = refl

begins-own : {X : Type 0} (m : Machine X) (d : Decoded) → IsOwn (begins m d)
begins-own m (says.Insn i n) = placed-own i (place_of i m.cpu (masks_of m.board.units) (byte (scene_of m)))
begins-own m says.Unimplemented = refl
begins-own m says.Undefined = refl
begins-own m says.Short = refl

pub fetches-own : {X : Type 0} (m : Machine X) → is_own (fetches m).doing ≡ true
unfolding fetches
fetches-own m = begins-own m (decode_of (fetched 7 m.board.memory m.cpu.pc))

own-no-service : (a : Activity) → is_own a ≡ true → is_service a ≡ false
own-no-service (Executes i) own = refl
own-no-service (MovesWord i w) own = refl
own-no-service Traps own = refl
own-no-service (Breaks kind) own = refl
own-no-service (Enters number) own = absurd (cc own)
own-no-service (SetsUp number) own = absurd (cc own)
own-no-service (Transfers number cycle) own = refl
own-no-service Idles own = refl

goes-on-no-service : {X : Type 0} (m : Machine X) (g : Option Going) → is_service (goes_on m g).doing ≡ false
goes-on-no-service m (Some (Moving i w)) = refl
goes-on-no-service m (Some Idling) = refl
goes-on-no-service m (Some (Serving number cycle)) = refl
goes-on-no-service m None = own-no-service (fetches m).doing (fetches-own m)

-- ---- by what is asked

chosen-by : {X : Type 0} (m : Machine X) (nmi pse i first held : Bool) (a b : Option ℕ) → (not first && not held && (i || pse)) ≡ false → nmi ≡ false
    → is_service (if first then goes_on m m.going else if held then fetches m else serves m (if nmi then choice.Nmi else or_else choice.Transfer (if pse then a else None) (or_else choice.Enter (if i then b else None) choice.Go))).doing ≡ false
chosen-by m nmi pse i true held a b shut out = goes-on-no-service m m.going
chosen-by m nmi pse i false true a b shut out = own-no-service (fetches m).doing (fetches-own m)
chosen-by m true pse i false false a b shut out = absurd (cc out)
chosen-by m false false false false false a b shut out = goes-on-no-service m m.going
chosen-by m false true false false false a b shut out = absurd (cc shut)
chosen-by m false false true false false a b shut out = absurd (cc shut)
chosen-by m false true true false false a b shut out = absurd (cc shut)

chosen-no-service : {X : Type 0} (m : Machine X) → (not (goes_first m.going) && not m.held && (has 2 m.cpu.psw_high || has 4 m.cpu.psw_high)) ≡ false → nmi_pends m ≡ false → is_service (chosen m).doing ≡ false
unfolding chosen
chosen-no-service m shut out =
    chosen-by m (nmi_pends m) (has 4 m.cpu.psw_high) (has 2 m.cpu.psw_high) (goes_first m.going) m.held
    (greatest (wants_cycle m.board.units.board_registers.requests) transfer_count) (greatest (wants_entry m.board.units.board_registers.requests) transfer_count) shut out

pub no-service : {X : Type 0} → NoServiceIsDue X
no-service m between lives shut out =
    let now : current m ≡ chosen m = ap (current_of m) between in
    let parts : (not (goes_first m.going) && not m.held && (has 2 m.cpu.psw_high || has 4 m.cpu.psw_high)) ≡ false = rw (between, lives) at shut in
    ap (λ (a : UnderWay). is_service a.doing) now ∙ chosen-no-service m parts out

-- ---- a request that is served

-- with the request of vector 0 masked in, selected for the transfer server or not
abbrev one-request : Bool → Requests
one-request selected = record { pending = 1; mask = 1; select = (if selected then 1 else 0); service = 0 }

entered-by-i : choice_of false true (one-request false) ≡ choice.Enter 0
unfolding greatest
entered-by-i = refl

served-by-pse : (i : Bool) → choice_of true i (one-request true) ≡ choice.Transfer 0
unfolding greatest
served-by-pse true = refl
served-by-pse false = refl

due-by : {X : Type 0} (m : Machine X) (first held pse i : Bool) → (not first && not held && (i || pse)) ≡ true
    → is_service (if first then goes_on m m.going else if held then fetches m else serves m (choice_of pse i (one-request pse))).doing ≡ true
due-by m true held pse i may = absurd (cc may)
due-by m false true pse i may = absurd (cc may)
due-by m false false true i may = rw (served-by-pse i) refl
due-by m false false false true may = rw entered-by-i refl
due-by m false false false false may = absurd (cc may)

both : (a b : Bool) → (a && b) ≡ true → (a ≡ true) × (b ≡ true)
both true b h = (refl, h)
both false b h = absurd (cc h)

is-none : {A : Type 0} (o : Option A) → is_none o ≡ true → o ≡ None
is-none None h = refl
is-none (Some a) h = absurd (cc h)

-- what may serve is a machine that lives, between two activities
pub record MayServe {X : Type 0} (m : Machine X) : Type 0 where
  pub between : m.under_way ≡ None
  pub lives : m.ended ≡ None
  pub none_first : goes_first m.going ≡ false
  pub free : m.held ≡ false
  pub on : is_enabled (enabled_in m) ≡ true

not-so : (b : Bool) → not b ≡ true → b ≡ false
not-so false h = refl
not-so true h = absurd (cc h)

pub may-serve : {X : Type 0} (m : Machine X) → may_serve m ≡ true → MayServe m
may-serve m h =
    let one = both (is_none m.under_way && is_none m.ended && not (goes_first m.going) && not m.held) (is_enabled (enabled_in m)) h in
    let two = both (is_none m.under_way && is_none m.ended && not (goes_first m.going)) (not m.held) one.0 in
    let three = both (is_none m.under_way && is_none m.ended) (not (goes_first m.going)) two.0 in
    let four = both (is_none m.under_way) (is_none m.ended) three.0 in
    record {
      between = is-none m.under_way four.0;
      lives = is-none m.ended four.1;
      none_first = not-so (goes_first m.going) three.1;
      free = not-so m.held two.1;
      on = one.1;
    }

due : {X : Type 0} (m : Machine X) → MayServe m → is_service (chosen (requesting m (one-request (has 4 m.cpu.psw_high)))).doing ≡ true
unfolding chosen
due m s =
    due-by (requesting m (one-request (has 4 m.cpu.psw_high))) (goes_first m.going) m.held (has 4 m.cpu.psw_high) (has 2 m.cpu.psw_high)
    (rw (s.none_first, s.free) s.on)

pub service-due : {X : Type 0} → ServiceMayBeDue X
service-due m may =
    let s : MayServe m = may-serve m may in
    let r : Requests = one-request (has 4 m.cpu.psw_high) in
    let now : current (requesting m r) ≡ chosen (requesting m r) = ap (current_of (requesting m r)) s.between in
    (r, refl, ap (λ (a : UnderWay). is_service a.doing) now ∙ due m s)
