-- What a certificate of latency has to keep to (this kit's own).
--
-- It has for each address, and for what a machine allows of requests there, how many states may go by before interrupts are asked
-- for, or up to behind the RET of the routine in which the address stands, and what the routine may have returned with by then. An
-- instruction spends its states from the first, and what is left covers the same of where it goes on, which is nothing where
-- interrupts are asked for. A call covers the routine that is called, and then what follows where that returns to. A time that begins
-- in a routine may go on behind its RET: what follows there stands beside, by what the routine returns with, for all places from which
-- it is called. Loops pay as in the bounds of routines. A time without interrupts may begin within a loop, so the prices of all turns
-- of the loops come once on top.
use Rattle.std.specs.Prelude.{◌≡◌, ℕ, Bool, true, false, not, ◌+◌, ◌-◌, ◌*◌, ◌==◌, ◌&&◌, ◌||◌, nat_lt, nat_le, if◌then◌else◌, Option, Some, None, List, [], slice_get}
use Rattle.std.specs.List.{list_all}
use Rattle.std.specs.Option.{unwrap_or}
use Rattle.kc_base.specs.Limits.{image_start, rom_end}
use Rattle.kc_exec_spec.specs.declared.plan.Plan.{Plan}
use Rattle.kc_bound.specs.declared.notes.Loop.{Loop}
use Rattle.kc_bound.specs.declared.notes.Notes.{Notes}
use Rattle.kc_bound.specs.declared.way.Way.{Way}
use Rattle.kc_bound.specs.declared.way.Way.TheVariants.{To, Call, Back, Out}
use Rattle.kc_bound.specs.Notes.{is_end, words_at, turns_at}
use Rattle.kc_bound.specs.Ways.{ways_at, word_states}
use Rattle.kc_bound.specs.Certified.{priced, begins_at}
use Rattle.kc_bound_requests.specs.declared.enabled.Enabled.{Enabled}
use Rattle.kc_bound_requests.specs.declared.enabled.TheConstants.{EACH}
use Rattle.kc_bound_requests.specs.declared.certificate.EnabledSet.{EnabledSet}
use Rattle.kc_bound_requests.specs.Enabled.{may_leave}
use Rattle.kc_bound_requests.specs.Closed.{number_of, is_in, no_set, implies, includes, enabled_at, work_at, is_past, is_interruptible, IsClosed}
use Rattle.kc_bound_requests.specs.declared.latency_certificate.LatencyCertificate.{LatencyCertificate}
use Rattle.kc_bound_requests.specs.Asking.{lets_interrupts_in}

-- ---- what a certificate has

-- of an address of the ROM, eight numbers each, by what is allowed there; nothing outside
abbrev pub states_at : List ℕ → ℕ → Enabled → ℕ
states_at states a e = if nat_lt a image_start || not (nat_lt a rom_end) then 0 else unwrap_or (slice_get states (8 * (a - image_start) + number_of e)) 0

-- and eight sets
abbrev pub set_at : List EnabledSet → ℕ → Enabled → EnabledSet
set_at sets a e = if nat_lt a image_start || not (nat_lt a rom_end) then no_set else unwrap_or (slice_get sets (8 * (a - image_start) + number_of e)) no_set

-- the most states before interrupts are asked for, or up to behind the RET of the routine
abbrev pub shut_at : LatencyCertificate → ℕ → Enabled → ℕ
shut_at c a e = states_at c.before.items a e

-- what the routine may have returned with by then
abbrev pub returns_at : LatencyCertificate → ℕ → Enabled → EnabledSet
returns_at c a e = set_at c.returns.items a e

-- the most states behind that RET, by what the routine returns with
abbrev pub shut_behind : LatencyCertificate → ℕ → Enabled → ℕ
shut_behind c a e = states_at c.behind.items a e

-- nothing where interrupts are asked for, or where a pass is over
abbrev pub shut_next : Notes → LatencyCertificate → ℕ → Enabled → ℕ
shut_next notes c a e = if lets_interrupts_in e || is_end notes a then 0 else shut_at c a e

abbrev pub returns_next : Notes → LatencyCertificate → ℕ → Enabled → EnabledSet
returns_next notes c a e = if lets_interrupts_in e || is_end notes a then no_set else returns_at c a e

-- ---- prices

-- of the loops whose head an address is, of all turns of the loops whose count starts anew there, and of all turns of all loops
abbrev pub price_at : Notes → LatencyCertificate → ℕ → ℕ
price_at notes c a = priced (begins_at a) notes.loops.items c.prices.items

abbrev pub credit_at : Notes → LatencyCertificate → ℕ → ℕ
credit_at notes c a = priced (turns_at a) notes.loops.items c.prices.items

abbrev pub most_turns : Loop → ℕ
most_turns l = l.most

abbrev pub all_turns : Notes → LatencyCertificate → ℕ
all_turns notes c = priced most_turns notes.loops.items c.prices.items

-- ---- what a way asks

-- between the words of a block move interrupts are asked for
abbrev pub asks_between_words : Option Plan → Enabled → Bool
asks_between_words work e = is_interruptible work && e.interrupts

-- the states of a way before they are: of a block move between whose words they are asked for, those of its set-up
abbrev pub shut_states : Option Plan → Option ℕ → Enabled → ℕ → ℕ
shut_states work words e states = if asks_between_words work e then states - word_states * unwrap_or words 0 else states

abbrev pub way_states : Way → ℕ
way_states (To states target) = states
way_states (Call states target back) = states
way_states (Back states) = states
way_states (Out states) = states

-- what an address has, of which so much is spent, covers what follows where another is come to with this
abbrev pub covers_next : Notes → LatencyCertificate → ℕ → Enabled → ℕ → ℕ → ℕ → Enabled → Bool
covers_next notes c a e has spent target after =
    nat_le (spent + shut_next notes c target after) has && includes (returns_at c a e) (returns_next notes c target after)

-- the same where a way goes on with this: a call goes on where it returns to, with what the routine may return with
abbrev pub covers_after : Notes → LatencyCertificate → ℕ → Enabled → ℕ → ℕ → Way → Enabled → Bool
covers_after notes c a e has spent (To states target) after = covers_next notes c a e has spent target after
covers_after notes c a e has spent (Call states target back) after =
    nat_le (spent + shut_next notes c target after) has
    && list_all (λ x. implies (is_in (returns_next notes c target after) x) (covers_next notes c a e has (spent + shut_next notes c target after) back x)) EACH
covers_after notes c a e has spent (Back states) after = is_in (returns_at c a e) after
covers_after notes c a e has spent (Out states) after = true

-- with what an address has, and what it spends beside its states
abbrev pub pays : Notes → LatencyCertificate → Option Plan → ℕ → Enabled → ℕ → ℕ → Way → Bool
pays notes c work a e has credit way =
    let spent = shut_states work (words_at notes a) e (way_states way) + credit in
    nat_le spent has && list_all (λ after. implies (may_leave work e after) (covers_after notes c a e has spent way after)) EACH

-- no more than these, by what is allowed
abbrev pub covers : (Enabled → ℕ) → (Enabled → ℕ) → Bool
covers most states = list_all (λ e. nat_le (states e) (most e)) EACH

-- what follows behind the RET of a routine that is called at an address covers what follows where it returns to, and that behind the
-- RET there
abbrev pub covers_return : Notes → LatencyCertificate → ℕ → ℕ → ℕ → Enabled → Bool
covers_return notes c a target back e =
    nat_le (shut_next notes c back e) (shut_behind c target e)
    && list_all (λ x. implies (is_in (returns_next notes c back e) x) (nat_le (shut_next notes c back e + shut_behind c a x) (shut_behind c target e))) EACH

-- what follows behind the RET of a routine stands at each of its addresses
abbrev pub hands_on : Notes → LatencyCertificate → ℕ → Way → Bool
hands_on notes c a (To states target) = covers (shut_behind c target) (shut_behind c a)
hands_on notes c a (Call states target back) = list_all (covers_return notes c a target back) EACH && covers (shut_behind c back) (shut_behind c a)
hands_on notes c a (Back states) = true
hands_on notes c a (Out states) = true

abbrev pub pays_from : Notes → LatencyCertificate → Option Plan → ℕ → List Way → Enabled → Bool
pays_from notes c work a ways e = list_all (pays notes c work a e (shut_at c a e + price_at notes c a) (credit_at notes c a)) ways

-- each way on, of which there is one or more, with each that may be allowed before the instruction
abbrev pub pays_all : Notes → LatencyCertificate → Option Plan → ℕ → EnabledSet → Option (List Way) → Bool
pays_all notes c work a before None = false
pays_all notes c work a before (Some []) = false
pays_all notes c work a before (Some ways) = list_all (hands_on notes c a) ways && list_all (λ e. implies (is_in before e) (pays_from notes c work a ways e)) EACH

-- Nothing is asked of an address to which no pass comes, and of one at which a pass is over.
abbrev pub is_sound_at : List ℕ → Notes → ℕ → LatencyCertificate → ℕ → Bool
is_sound_at image notes from c a =
    let before = (enabled_at c.requests a).before in
    before.bits == 0 || is_past notes from a || pays_all notes c (work_at image a) a before (ways_at image notes a)

-- ---- what it shows

-- from an address on no more states go by than these, with the prices of all turns: up to behind the RET of its routine, and behind that
abbrev pub is_most : Notes → LatencyCertificate → ℕ → ℕ → Enabled → Bool
is_most notes c most a e =
    nat_le (shut_at c a e + all_turns notes c) most
    && list_all (λ x. implies (is_in (returns_at c a e) x) (nat_le (shut_at c a e + shut_behind c a x + all_turns notes c) most)) EACH

-- the same in the routine of a pass, at whose RET that is over
abbrev pub is_first_most : Notes → LatencyCertificate → ℕ → ℕ → Enabled → Bool
is_first_most notes c most a e = nat_le (shut_at c a e + all_turns notes c) most

-- where interrupts are asked for before the instruction at an address, or between its words
abbrev pub asks_at : Option Plan → Enabled → Bool
asks_at work e = e.interrupts && (not e.held || is_interruptible work)

-- where they are asked for between words, a word goes by
abbrev pub has_word : Notes → LatencyCertificate → ℕ → Option Plan → Enabled → Bool
has_word notes c most work e = implies (asks_between_words work e) (nat_le (word_states + all_turns notes c) most)

abbrev pub is_most_at : List ℕ → Notes → ℕ → LatencyCertificate → ℕ → ℕ → Bool
is_most_at image notes from c most a =
    is_past notes from a || list_all (λ e. implies (is_in (enabled_at c.requests a).before e && asks_at (work_at image a) e) (is_most notes c most a e && has_word notes c most (work_at image a) e)) EACH

-- so many states at most go by without interrupts, in passes from an address that begin with something of a set
pub record ShowsShut (image : List ℕ) (notes : Notes) (from : ℕ) (first : EnabledSet) (c : LatencyCertificate) (most : ℕ) : Type 0 where
  pub closed : IsClosed image notes from first c.requests
  pub sound : (a : ℕ) → is_sound_at image notes from c a ≡ true
  pub first_most : list_all (λ e. implies (is_in first e) (is_first_most notes c most from e)) EACH ≡ true
  pub each_most : (a : ℕ) → is_most_at image notes from c most a ≡ true
