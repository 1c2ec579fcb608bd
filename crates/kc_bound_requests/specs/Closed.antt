-- What a certificate of requests has to keep to (this kit's own).
--
-- It has for each address what a machine may allow before the instruction there, and what behind the RET of the routine in which that
-- stands. What an instruction leaves is among what its ways lead to; what a routine may return with is among what is allowed
-- where it returns to.
use Rattle.std.specs.Prelude.{◌≡◌, ℕ, Bool, true, false, not, ◌+◌, ◌-◌, ◌==◌, ◌&&◌, ◌||◌, nat_lt, if◌then◌else◌, Option, Some, None, List, slice_get}
use Rattle.std.specs.List.{list_all, list_any}
use Rattle.std.specs.Option.{unwrap_or}
use Rattle.kc_base.specs.Bits.{bit, weight}
use Rattle.kc_base.specs.Limits.{image_start, rom_end}
use Rattle.kc_code.specs.declared.reader.Decoded.{Decoded}
use Rattle.kc_code.specs.declared.reader.Decoded.TheVariants as says
use Rattle.kc_exec_spec.specs.declared.plan.Plan.{Plan}
use Rattle.kc_exec_spec.specs.declared.plan.Plan.TheVariants.{BlockMove, Trap}
use Rattle.kc_bound.specs.declared.notes.Notes.{Notes}
use Rattle.kc_bound.specs.declared.way.Way.{Way}
use Rattle.kc_bound.specs.declared.way.Way.TheVariants.{To, Call, Back, Out}
use Rattle.kc_bound.specs.Notes.{is_end}
use Rattle.kc_bound.specs.Passes.{plan_in}
use Rattle.kc_bound.specs.Ways.{found_at, ways_at}
use Rattle.kc_bound_requests.specs.declared.enabled.Enabled.{Enabled}
use Rattle.kc_bound_requests.specs.declared.enabled.TheConstants.{EACH}
use Rattle.kc_bound_requests.specs.declared.certificate.EnabledSet.{EnabledSet}
use Rattle.kc_bound_requests.specs.declared.certificate.EnabledAt.{EnabledAt}
use Rattle.kc_bound_requests.specs.declared.certificate.RequestCertificate.{RequestCertificate}
use Rattle.kc_bound_requests.specs.Enabled.{is_enabled, may_leave}

-- ---- sets

-- the place of its bit
abbrev pub number_of : Enabled → ℕ
number_of e = weight e.interrupts 1 + weight e.server 2 + weight e.held 4

abbrev pub is_in : EnabledSet → Enabled → Bool
is_in set e = bit set.bits (number_of e)

abbrev pub no_set : EnabledSet
no_set = record { bits = 0 }

abbrev pub implies : Bool → Bool → Bool
implies a b = not a || b

-- the second is within the first
abbrev pub includes : EnabledSet → EnabledSet → Bool
includes set part = list_all (λ e. implies (is_in part e) (is_in set e)) EACH

-- what an instruction may leave is within a set, where this was before it
abbrev pub leaves_within : Option Plan → EnabledSet → Enabled → Bool
leaves_within work set before = list_all (λ after. implies (may_leave work before after) (is_in set after)) EACH

-- the same where anything of a set was before it
abbrev pub includes_after : Option Plan → EnabledSet → EnabledSet → Bool
includes_after work set before = list_all (λ e. implies (is_in before e) (leaves_within work set e)) EACH

-- ---- addresses

-- what a certificate has of an address; nothing outside of the ROM
abbrev pub nothing : EnabledAt
nothing = record { before = no_set; behind = no_set }

abbrev pub enabled_at : RequestCertificate → ℕ → EnabledAt
enabled_at c a = if nat_lt a image_start || not (nat_lt a rom_end) then nothing else unwrap_or (slice_get c.places.items (a - image_start)) nothing

-- the kind of work at an address; an opcode that no instruction has is a trap, and an undefined one does none
abbrev pub work_of : Decoded → Option Plan
work_of (says.Insn insn length) = plan_in insn
work_of says.Unimplemented = Some Trap
work_of says.Undefined = None
work_of says.Short = None

abbrev pub work_at : List ℕ → ℕ → Option Plan
work_at image a = work_of (found_at image a)

-- a pass is over there, unless it begins there
abbrev pub is_past : Notes → ℕ → ℕ → Bool
is_past notes from a = is_end notes a && not (a == from)

-- ---- what is asked

abbrev pub is_closed_on : RequestCertificate → Option Plan → EnabledAt → Way → Bool
is_closed_on c work here (To states target) =
    includes_after work (enabled_at c target).before here.before && includes here.behind (enabled_at c target).behind
is_closed_on c work here (Call states target back) =
    includes_after work (enabled_at c target).before here.before
    && (includes (enabled_at c back).before (enabled_at c target).behind && includes here.behind (enabled_at c back).behind)
is_closed_on c work here (Back states) = includes_after work here.behind here.before
is_closed_on c work here (Out states) = true

-- each way on, where these are known
abbrev pub is_closed_on_all : RequestCertificate → Option Plan → EnabledAt → Option (List Way) → Bool
is_closed_on_all c work here None = false
is_closed_on_all c work here (Some ways) = list_all (is_closed_on c work here) ways

-- Nothing is asked of an address to which no pass comes, and of one at which a pass is over.
abbrev pub is_closed_at : List ℕ → Notes → ℕ → RequestCertificate → ℕ → Bool
is_closed_at image notes from c a =
    (enabled_at c a).before.bits == 0 || is_past notes from a || is_closed_on_all c (work_at image a) (enabled_at c a) (ways_at image notes a)

-- a certificate for an image and notes, and passes from an address that begin with something of a set
pub record IsClosed (image : List ℕ) (notes : Notes) (from : ℕ) (first : EnabledSet) (c : RequestCertificate) : Type 0 where
  pub begins : includes (enabled_at c from).before first ≡ true
  pub closed : (a : ℕ) → is_closed_at image notes from c a ≡ true

-- ---- what it says

-- between the words of BMOVI anything may come
abbrev pub is_interruptible : Option Plan → Bool
is_interruptible (Some (BlockMove interruptible)) = interruptible
is_interruptible _ = false

-- a request may be served before an instruction, or before a word of it
abbrev pub lets_in : Option Plan → EnabledSet → Bool
lets_in work set = list_any (λ e. is_in set e && (is_enabled e && (not e.held || is_interruptible work))) EACH

abbrev pub is_open_at : List ℕ → Notes → ℕ → RequestCertificate → ℕ → Bool
is_open_at image notes from c a = not (is_past notes from a) && lets_in (work_at image a) (enabled_at c a).before

-- the least address that is open, or none is
abbrev pub IsLeastOpen : List ℕ → Notes → ℕ → RequestCertificate → Option ℕ → Type 0
IsLeastOpen image notes from c None = (a : ℕ) → is_open_at image notes from c a ≡ false
IsLeastOpen image notes from c (Some least) = (is_open_at image notes from c least ≡ true) × ((a : ℕ) → nat_lt a least ≡ true → is_open_at image notes from c a ≡ false)
