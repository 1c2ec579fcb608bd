-- One activity of a pass, and how long interrupts were not asked for behind it.
use Rattle.std.proofs.Common.{◌≡◌, ◌≢◌, ℕ, Bool, true, false, not, ◌+◌, ◌-◌, ◌*◌, ◌<◌, ◌≤◌, ◌&&◌, ◌||◌, inl, inr, nat_le, if◌then◌else◌, Option, Some, None, List, [], ◌∷◌, map, refl, sym, ◌∙◌, ap, subst, arith}
use Rattle.std.proofs.lemmas.Grind.{common_steps}
use Rattle.std.specs.List.{list_all}
use Rattle.std.specs.Option.{option_map}
use Rattle.kc_base.specs.Limits.{image_start, rom_end}
use Rattle.kc_isa.specs.declared.insn.Insn.{Insn}
use Rattle.kc_code.specs.declared.reader.Decoded.{Decoded}
use Rattle.kc_code.specs.declared.reader.Decoded.TheVariants as says
use Rattle.kc_exec_spec.specs.declared.cpu.Words.{Words}
use Rattle.kc_exec_spec.specs.declared.cpu.After.{After}
use Rattle.kc_exec_spec.specs.declared.plan.Plan.{Plan}
use Rattle.kc_exec_spec.specs.Jumping.{next_pc}
use Rattle.kc_exec_spec.specs.BlockMoves.{less_one, word_states_of}
use Rattle.kc_extra.specs.Further.{Further}
use Rattle.kc_machine_spec.specs.declared.doing.Activity.{Activity}
use Rattle.kc_machine_spec.specs.declared.doing.Activity.TheVariants.{MovesWord}
use Rattle.kc_machine_spec.specs.declared.doing.Going.{Going}
use Rattle.kc_machine_spec.specs.declared.doing.Going.TheVariants.{Moving, Idling, Serving}
use Rattle.kc_machine_spec.specs.declared.doing.UnderWay.{UnderWay}
use Rattle.kc_machine_spec.specs.Machine.{Machine, current, begins, fetches, goes_on, next_after}
use Rattle.kc_bound.specs.declared.notes.Notes.{Notes}
use Rattle.kc_bound.specs.declared.way.Way.{Way}
use Rattle.kc_bound.specs.declared.way.Way.TheVariants.{To, Call, Back, Out}
use Rattle.kc_bound.specs.Notes.{is_end, words_at}
use Rattle.kc_bound.specs.Passes.{is_own, begun, is_last, is_at_end, opened, after_activity}
use Rattle.kc_bound.specs.Ways.{found_at, ways_at, ways_of, unless_end}
use Rattle.kc_bound.specs.Bounded.{IsImage, HoldsImage}
use Rattle.kc_bound.specs.Steps.{StatesAreMost, StatesAreSome, FoundIsDecoded}
use Rattle.kc_bound.proofs.Activities.{own-goes_on}
use Rattle.kc_bound.proofs.Follows.{IsFollowed, MovesOn, word-moves}
use Rattle.kc_bound.proofs.Paid.{both, at-most}
use Rattle.kc_bound.proofs.Keeps.{begun-at, begun-none, at-end}
use Rattle.kc_bound_requests.specs.declared.enabled.Enabled.{Enabled}
use Rattle.kc_bound_requests.specs.Enabled.{enabled_in, may_leave, may_change}
use Rattle.kc_bound_requests.specs.Closed.{is_in, implies, enabled_at, work_at, is_past, is_interruptible}
use Rattle.kc_bound_requests.proofs.Sets.{each-passes, equal, not-empty}
use Rattle.kc_bound_requests.proofs.Activity.{activity-changes}
use Rattle.kc_bound_requests.proofs.OnWay.{unheld, Ready, Account as Allowed, IsOnWay}
use Rattle.kc_bound_requests.proofs.Steps.{in-rom}
use Rattle.kc_bound_requests.specs.declared.latency_certificate.LatencyCertificate.{LatencyCertificate}
use Rattle.kc_bound_requests.specs.declared.enabled.TheConstants.{EACH}
use Rattle.kc_bound_requests.specs.Asking.{asks, lets_interrupts_in}
use Rattle.kc_bound_requests.specs.Latency.{shut_at, returns_at, shut_behind, price_at, credit_at, all_turns, asks_between_words, shut_states, pays, hands_on, has_word, pays_from, pays_all, is_sound_at, is_most, asks_at, is_most_at}
use Rattle.kc_bound_requests.proofs.Choice.{Asks, asks-so}
use Rattle.kc_bound_requests.proofs.Ways.{AllPass, Passes, Takes, Leads, SetsUp, Went}
use Rattle.kc_bound_requests.proofs.Begins.{Assumed, lives-not, Begun, found-begun}
use Rattle.kc_bound_requests.proofs.Owes.{so, is_kept, Comes, Stands, Covers, Ahead, Owes, comes-less, comes-most, comes-asked, stands-of, covers-follows, way-most, owes-words, owes-to, owes-into, owes-back}

either-false : (a b : Bool) → (a || b) ≡ false → (a ≡ false) × (b ≡ false)
either-false false b h = (refl, h)
either-false true b h = absurd (cc h)

and-true : (a b : Bool) → a ≡ true → b ≡ true → (a && b) ≡ true
and-true true b g h = h
and-true false b g h = absurd (cc g)

-- ---- what is asked of an address

all-both : (one two : Way → Bool) (ways : List Way) → list_all one ways ≡ true → list_all two ways ≡ true → list_all (λ w. one w && two w) ways ≡ true
all-both one two [] g h = refl
all-both one two (w ∷ more) g h =
    let first = both (one w) (list_all one more) g in
    let second = both (two w) (list_all two more) h in
    and-true (one w && two w) (list_all (λ x. one x && two x) more) (and-true (one w) (two w) first.0 second.0) (all-both one two more first.1 second.1)

ways-are : (image : List ℕ) (notes : Notes) (a : ℕ) → ways_at image notes a ≡ option_map (map (unless_end notes)) (ways_of image notes (found_at image a) a)
unfolding ways_at
ways-are image notes a = refl

module _ (image : List ℕ) (notes : Notes) (from : ℕ) (c : LatencyCertificate) where
  -- what is known of the ways on from an address, where this may be allowed before it
  record Kept (work : Option Plan) (a : ℕ) (e : Enabled) (ways : Option (List Way)) : Type 0 where
    pub all : AllPass notes (is_kept notes c work a e) ways

  kept-by : (work : Option Plan) (a : ℕ) (e : Enabled) (ways : Option (List Way)) → is_in (enabled_at c.requests a).before e ≡ true
      → pays_all notes c work a (enabled_at c.requests a).before (option_map (map (unless_end notes)) ways) ≡ true → Kept work a e ways
  kept-by work a e None there h = absurd (cc h)
  kept-by work a e (Some []) there h = absurd (cc h)
  kept-by work a e (Some (way ∷ more)) there h =
      let list : List Way = map (unless_end notes) (way ∷ more) in
      let parts = both (list_all (hands_on notes c a) list) (list_all (λ x. implies (is_in (enabled_at c.requests a).before x) (pays_from notes c work a list x)) EACH) h in
      let mine : pays_from notes c work a list e ≡ true = so (is_in (enabled_at c.requests a).before e) (pays_from notes c work a list e) (each-passes (λ x. implies (is_in (enabled_at c.requests a).before x) (pays_from notes c work a list x)) parts.1 e) there in
      record {
        all = all-both (hands_on notes c a) (pays notes c work a e (shut_at c a e + price_at notes c a) (credit_at notes c a)) list parts.0 mine;
      }

  asked-kept : (a : ℕ) (e : Enabled) → is_in (enabled_at c.requests a).before e ≡ true → is_past notes from a ≡ false → is_sound_at image notes from c a ≡ true → Kept (work_at image a) a e (ways_of image notes (found_at image a) a)
  asked-kept a e there asked sound =
      let all : pays_all notes c (work_at image a) a (enabled_at c.requests a).before (ways_at image notes a) ≡ true = rw (not-empty (enabled_at c.requests a).before e there, asked) at sound in
      kept-by (work_at image a) a e (ways_of image notes (found_at image a) a) there
      (subst (λ w. pays_all notes c (work_at image a) a (enabled_at c.requests a).before w ≡ true) (ways-are image notes a) all)

  kept-whole : (a : ℕ) (e : Enabled) (work : Option Plan) (d : Decoded) → AllPass notes (is_kept notes c work a e) (ways_of image notes d a) → d ≢ says.Short
  kept-whole a e work d all = λ short. subst (λ x. AllPass notes (is_kept notes c work a e) (ways_of image notes x a)) short all

-- from where interrupts are asked for the states count anew
abbrev pub since_of : Bool → ℕ → ℕ
since_of true waited = 0
since_of false waited = waited

-- what a block move still owes between two of its words, where interrupts are asked for there, and where not
abbrev pub Words-left : Notes → LatencyCertificate → ℕ → Bool → ℕ → List ℕ → ℕ → ℕ → ℕ → Enabled → Type 0
Words-left notes c total true left calls since turns a e = since + 14 + turns ≤ total
Words-left notes c total false left calls since turns a e = Comes notes c total calls ((since + 14 * left) + turns) a e

module _ (image : List ℕ) (notes : Notes) (from : ℕ) (c : LatencyCertificate) (total : ℕ) where
  -- where interrupts are asked for
  asking-both : (a : ℕ) (e : Enabled) → is_most_at image notes from c total a ≡ true → is_past notes from a ≡ false → is_in (enabled_at c.requests a).before e ≡ true → asks_at (work_at image a) e ≡ true
      → (is_most notes c total a e && has_word notes c total (work_at image a) e) ≡ true
  asking-both a e each asked there on =
      let all : list_all (λ x. implies (is_in (enabled_at c.requests a).before x && asks_at (work_at image a) x) (is_most notes c total a x && has_word notes c total (work_at image a) x)) EACH ≡ true = rw asked at each in
      so (is_in (enabled_at c.requests a).before e && asks_at (work_at image a) e) (is_most notes c total a e && has_word notes c total (work_at image a) e)
      (each-passes (λ x. implies (is_in (enabled_at c.requests a).before x && asks_at (work_at image a) x) (is_most notes c total a x && has_word notes c total (work_at image a) x)) all e)
      (and-true (is_in (enabled_at c.requests a).before e) (asks_at (work_at image a) e) there on)

  asking-most : (a : ℕ) (e : Enabled) → is_most_at image notes from c total a ≡ true → is_past notes from a ≡ false → is_in (enabled_at c.requests a).before e ≡ true → asks_at (work_at image a) e ≡ true
      → (shut_at c a e + all_turns notes c ≤ total) × ((n : Enabled) → is_in (returns_at c a e) n ≡ true → shut_at c a e + shut_behind c a n + all_turns notes c ≤ total)
  asking-most a e each asked there on =
      let most : is_most notes c total a e ≡ true = (both (is_most notes c total a e) (has_word notes c total (work_at image a) e) (asking-both a e each asked there on)).0 in
      let parts = both (nat_le (shut_at c a e + all_turns notes c) total) (list_all (λ x. implies (is_in (returns_at c a e) x) (nat_le (shut_at c a e + shut_behind c a x + all_turns notes c) total)) EACH) most in (
        at-most (shut_at c a e + all_turns notes c) total parts.0,
        λ n returns. at-most (shut_at c a e + shut_behind c a n + all_turns notes c) total
            (so (is_in (returns_at c a e) n) (nat_le (shut_at c a e + shut_behind c a n + all_turns notes c) total)
            (each-passes (λ x. implies (is_in (returns_at c a e) x) (nat_le (shut_at c a e + shut_behind c a x + all_turns notes c) total)) parts.1 n) returns),
      )

  -- and between the words of a block move
  asking-word : (a : ℕ) (e : Enabled) → is_most_at image notes from c total a ≡ true → is_past notes from a ≡ false → is_in (enabled_at c.requests a).before e ≡ true → asks_at (work_at image a) e ≡ true → asks_between_words (work_at image a) e ≡ true → 14 + all_turns notes c ≤ total
  asking-word a e each asked there on between =
      at-most (14 + all_turns notes c) total (so (asks_between_words (work_at image a) e) (nat_le (14 + all_turns notes c) total) (both (is_most notes c total a e) (has_word notes c total (work_at image a) e) (asking-both a e each asked there on)).1 between)

  -- ---- at each moment

  -- so many states after interrupts were asked for, at the begin of an instruction, and between the words of a block move
  abbrev pub Account : Option Going → ℕ → List ℕ → Enabled → ℕ → ℕ → Type 0
  Account None pc calls e since turns = Covers notes c total calls (shut_behind c pc) × Stands notes c total calls (since + turns) pc e
  Account (Some (Moving i w)) pc calls e since turns =
      (0 < w.left) × Ahead notes c total (next_pc i pc) calls × Words-left notes c total (w.interruptible && e.interrupts) w.left calls since turns (next_pc i pc) (unheld e)
  Account (Some Idling) pc calls e since turns = ⊥
  Account (Some (Serving number cycle)) pc calls e since turns = ⊥

  behind-there : (a : ℕ) (calls : List ℕ) → is_end notes a ≡ false → Ahead notes c total a calls → Covers notes c total calls (shut_behind c a)
  behind-there a calls going_on (inl over) = absurd (let e : true ≡ false = sym over ∙ going_on in cc e)
  behind-there a calls going_on (inr behind) = behind

  words-by : (asking : Bool) (left : ℕ) (calls : List ℕ) (waited turns a : ℕ) (e : Enabled) → (asking ≡ true → 14 + turns ≤ total) → (asking ≡ false → Comes notes c total calls ((waited + 14 * left) + turns) a e)
      → Words-left notes c total asking left calls (since_of asking waited) turns a e
  words-by true left calls waited turns a e asked shut = let h : 14 + turns ≤ total = asked refl in omega (arith, h)
  words-by false left calls waited turns a e asked shut = shut refl

  module _ {X : Type 0} where
    abbrev pub Has : Machine X → List ℕ → ℕ → ℕ → Type 0
    Has m calls since turns = Account m.going m.cpu.pc calls (enabled_in m) since turns

    -- ---- where an instruction begins

    begins-allowed : (m : Machine X) (calls : List ℕ) → IsOnWay image notes from c.requests m calls → m.going ≡ None → (is_past notes from m.cpu.pc ≡ false) × Ready image notes from c.requests m.cpu.pc calls (enabled_in m)
    begins-allowed m calls on none = subst (λ (x : Option Going). Allowed image notes from c.requests x m.cpu.pc calls (enabled_in m)) none on.account

    asks-lets : (n : Machine X) → n.under_way ≡ None → n.ended ≡ None → n.going ≡ None → asks n ≡ lets_interrupts_in (enabled_in n)
    asks-lets n between lives none = rw (between, lives, none) refl

    module _ (each_most : (a : ℕ) → is_most_at image notes from c total a ≡ true) where
      anew : (n : Machine X) (calls : List ℕ) (turns : ℕ) → IsOnWay image notes from c.requests n calls → n.going ≡ None → asks n ≡ true → turns ≤ all_turns notes c → Covers notes c total calls (shut_behind c n.cpu.pc)
          → Stands notes c total calls (0 + turns) n.cpu.pc (enabled_in n)
      anew n calls turns on none asked few behind =
          let a : Asks n = asks-so n asked in
          let there = begins-allowed n calls on none in
          let may : asks_at (work_at image n.cpu.pc) (enabled_in n) ≡ true = rw (a.on, a.free) refl in
          let most = asking-most n.cpu.pc (enabled_in n) (each_most n.cpu.pc) there.0 there.1.before may in (
            few-turns turns (shut_at c n.cpu.pc (enabled_in n)) (all_turns notes c) few most.0,
            covers-follows notes c total calls ((0 + turns) + shut_at c n.cpu.pc (enabled_in n)) (shut_behind c n.cpu.pc) (returns_at c n.cpu.pc (enabled_in n))
                (λ e returns. few-behind turns (shut_at c n.cpu.pc (enabled_in n)) (shut_behind c n.cpu.pc e) (all_turns notes c) few (most.1 e returns)) behind,
          )
        where
          few-turns : (turns p all : ℕ) → turns ≤ all → p + all ≤ total → (0 + turns) + p ≤ total
          few-turns turns p all few sum = omega (arith, few, sum)

          few-behind : (turns p b all : ℕ) → turns ≤ all → p + b + all ≤ total → ((0 + turns) + p) + b ≤ total
          few-behind turns p b all few sum = omega (arith, few, sum)

      arrives-by : (asking : Bool) (n : Machine X) (calls : List ℕ) (waited turns : ℕ) → asks n ≡ asking → IsOnWay image notes from c.requests n calls → n.ended ≡ None → n.going ≡ None → is_end notes n.cpu.pc ≡ false → turns ≤ all_turns notes c
          → Covers notes c total calls (shut_behind c n.cpu.pc) → Comes notes c total calls (waited + turns) n.cpu.pc (enabled_in n) → Stands notes c total calls (since_of asking waited + turns) n.cpu.pc (enabled_in n)
      arrives-by true n calls waited turns is on lives none going_on few behind owed = anew n calls turns on none is few behind
      arrives-by false n calls waited turns is on lives none going_on few behind owed =
          let lets : lets_interrupts_in (enabled_in n) ≡ false = sym (asks-lets n on.is.between lives none) ∙ is in
          stands-of notes c total calls (waited + turns) n.cpu.pc (enabled_in n) lets going_on owed

      pub arrives : (n : Machine X) (target : ℕ) (calls : List ℕ) (waited turns : ℕ) → IsOnWay image notes from c.requests n calls → n.ended ≡ None → n.going ≡ None → n.cpu.pc ≡ target → is_end notes n.cpu.pc ≡ false → turns ≤ all_turns notes c
          → Owes notes c total target calls (enabled_in n) waited turns → Has n calls (since_of (asks n) waited) turns
      arrives n target calls waited turns on lives none pc going_on few o =
          let owes : Owes notes c total n.cpu.pc calls (enabled_in n) waited turns = subst (λ a. Owes notes c total a calls (enabled_in n) waited turns) (sym pc) o in
          let behind : Covers notes c total calls (shut_behind c n.cpu.pc) = behind-there n.cpu.pc calls going_on owes.ahead in
          subst (λ (g : Option Going). Account g n.cpu.pc calls (enabled_in n) (since_of (asks n) waited) turns) (sym none)
          (behind, arrives-by (asks n) n calls waited turns refl on lives none going_on few behind owes.owed)

    -- ---- between the words of a block move

    asks-words : (n : Machine X) (i : Insn) (w : Words) → n.under_way ≡ None → n.ended ≡ None → n.going ≡ Some (Moving i w) → n.held ≡ false → asks n ≡ (w.interruptible && (enabled_in n).interrupts)
    asks-words n i w between lives going free = rw (between, lives, going, free) (by w.interruptible (enabled_in n).interrupts)
      where
        by : (a b : Bool) → (not (not a) && (b && true)) ≡ (a && b)
        by true true = refl
        by true false = refl
        by false b = refl

    -- it stands there with so many words left, at an address
    pub stands-moving : (n : Machine X) (i : Insn) (w : Words) (a : ℕ) (calls : List ℕ) (waited turns : ℕ) → n.under_way ≡ None → n.ended ≡ None → n.going ≡ Some (Moving i w) → n.held ≡ false → n.cpu.pc ≡ a → 0 < w.left → Ahead notes c total (next_pc i a) calls
        → ((w.interruptible && (enabled_in n).interrupts) ≡ true → 14 + turns ≤ total) → ((w.interruptible && (enabled_in n).interrupts) ≡ false → Comes notes c total calls ((waited + 14 * w.left) + turns) (next_pc i a) (unheld (enabled_in n)))
        → Has n calls (since_of (asks n) waited) turns
    stands-moving n i w a calls waited turns between lives going free pc some ahead asked shut =
        let is : asks n ≡ (w.interruptible && (enabled_in n).interrupts) = asks-words n i w between lives going free in
        let owed : Words-left notes c total (w.interruptible && (enabled_in n).interrupts) w.left calls (since_of (w.interruptible && (enabled_in n).interrupts) waited) turns (next_pc i a) (unheld (enabled_in n)) =
        words-by (w.interruptible && (enabled_in n).interrupts) w.left calls waited turns (next_pc i a) (unheld (enabled_in n)) asked shut in
        let there : Account (Some (Moving i w)) a calls (enabled_in n) (since_of (asks n) waited) turns =
        (some, ahead, subst (λ b. Words-left notes c total (w.interruptible && (enabled_in n).interrupts) w.left calls (since_of b waited) turns (next_pc i a) (unheld (enabled_in n))) (sym is) owed) in
        subst (λ (g : Option Going). Account g n.cpu.pc calls (enabled_in n) (since_of (asks n) waited) turns) (sym going) (subst (λ x. Account (Some (Moving i w)) x calls (enabled_in n) (since_of (asks n) waited) turns) (sym pc) there)

-- ---- one activity

less-word : (waited left turns w : ℕ) → 0 < w → left ≤ 14 → ((waited + left) + 14 * (w - 1)) + turns ≤ (waited + 14 * w) + turns
less-word waited left turns w some few = omega (arith, some, few)

last-word : (waited left turns w : ℕ) → 0 < w → left ≤ 14 → (waited + left) + turns ≤ (waited + 14 * w) + turns
last-word waited left turns w some few = omega (arith, some, few)

word-some : (w : Words) → 0 < word_states_of w
word-some w = omega arith

word-few : (w : Words) → word_states_of w ≤ 14
word-few w = grind (arith, common_steps)

-- what the loops have left behind an activity
abbrev pub Counted : Notes → LatencyCertificate → Option ℕ → ℕ → ℕ → Type 0
Counted notes c None turns after = after ≡ turns
Counted notes c (Some a) turns after = after + price_at notes c a ≤ turns + credit_at notes c a

module _ {X : Type 0} (decoded : FoundIsDecoded X) (most : StatesAreMost) (some : StatesAreSome) (f : Further X) (image : List ℕ) (notes : Notes) (from : ℕ) (c : LatencyCertificate) (total : ℕ) where
  -- a certificate, as far as one activity needs it
  pub record IsShown : Type 0 where
    pub image_is : IsImage image
    pub sound : (a : ℕ) → is_sound_at image notes from c a ≡ true
    pub each_most : (a : ℕ) → is_most_at image notes from c total a ≡ true

  -- what is known of a moment
  pub record IsThere (m : Machine X) (calls : List ℕ) (turns after : ℕ) : Type 0 where
    pub allowed : IsOnWay image notes from c.requests m calls
    pub lives : m.ended ≡ None
    pub own : is_own (current m).doing ≡ true
    pub assumed : Assumed notes (current m).doing m.cpu.pc calls (after_activity f m)
    pub counted : Counted notes c (begun m) turns after
    pub few : after ≤ all_turns notes c

  -- behind its activity: so many states went by, and if the pass goes on, what is known there holds
  pub record Behaves (m : Machine X) (calls : List ℕ) (since after : ℕ) : Type 0 where
    pub most_there : since + (current m).left ≤ total
    pub goes : (after_activity f m).ended ≡ None → (is_last (current m).doing calls || is_at_end notes (after_activity f m)) ≡ false → IsOnWay image notes from c.requests (after_activity f m) (opened (current m).doing m.cpu.pc calls)
        → Has image notes from c total (after_activity f m) (opened (current m).doing m.cpu.pc calls) (since_of (asks (after_activity f m)) (since + (current m).left)) after

  -- what the machine fetches is what stands there
  fetches-so : (m : Machine X) → IsImage image → HoldsImage image m → image_start ≤ m.cpu.pc → m.cpu.pc < rom_end → found_at image m.cpu.pc ≢ says.Short → fetches m ≡ begins m (found_at image m.cpu.pc)
  unfolding fetches
  fetches-so m is holds low high whole = ap (begins m) (decoded image m m.cpu.pc is holds low high whole)

  -- ---- an instruction that begins

  module _ (s : IsShown) (m : Machine X) (calls : List ℕ) (since turns after : ℕ) (there : IsThere m calls turns after) where
    module _ (work : Option Plan) (behind : Covers notes c total calls (shut_behind c m.cpu.pc)) (paid : Stands notes c total calls (since + turns) m.cpu.pc (enabled_in m)) (counted : after + price_at notes c m.cpu.pc ≤ turns + credit_at notes c m.cpu.pc) where
      abbrev Kept-way : Way → Bool
      Kept-way way = is_kept notes c work m.cpu.pc (enabled_in m) way

      may-ask : (e : Enabled) (p : Option Plan) → asks_between_words p e ≡ true → asks_at p e ≡ true
      may-ask e p on = let parts = both (is_interruptible p) e.interrupts on in rw (parts.0, parts.1) (or-true (not e.held))
        where
          or-true : (b : Bool) → (b || true) ≡ true
          or-true true = refl
          or-true false = refl

      -- where it goes on
      module _ (n : Machine X) (now : List ℕ) (lives : n.ended ≡ None) (allowed : IsOnWay image notes from c.requests n now) (leaves : may_leave work (enabled_in m) (enabled_in n) ≡ true) (k : ℕ) where
        arrived : (way : Way) → Takes notes (is_kept notes c work m.cpu.pc (enabled_in m)) work m.cpu.pc (enabled_in m) k way → Passes notes (is_kept notes c work m.cpu.pc (enabled_in m)) way → n.going ≡ None → is_end notes n.cpu.pc ≡ false
            → Leads notes (is_kept notes c work m.cpu.pc (enabled_in m)) work m.cpu.pc (enabled_in m) k calls n now way → Has image notes from c total n now (since_of (asks n) (since + k)) after
        arrived (To states target) few pass going on leads =
            arrives image notes from c total s.each_most n target now (since + k) after allowed lives going leads.0 on there.few
            (subst (λ x. Owes notes c total target x (enabled_in n) (since + k) after) (sym leads.1) (owes-to notes c total work m.cpu.pc (enabled_in m) since turns after calls paid counted behind states target k (enabled_in n) few leaves pass))
        arrived (Call states target back) few pass going on leads =
            arrives image notes from c total s.each_most n target now (since + k) after allowed lives going leads.0 on there.few
            (subst (λ x. Owes notes c total target x (enabled_in n) (since + k) after) (sym leads.1) (owes-into notes c total work m.cpu.pc (enabled_in m) since turns after calls paid counted behind states target back k (enabled_in n) few leaves pass))
        arrived (Back states) few pass going on leads =
            arrives image notes from c total s.each_most n n.cpu.pc now (since + k) after allowed lives going refl on there.few
            (owes-back notes c total work m.cpu.pc (enabled_in m) since turns after calls paid counted behind states n.cpu.pc k now (enabled_in n) leads few leaves pass)
        arrived (Out states) few pass going on leads = absurd leads

        -- the words of a block move follow
        set-up : work ≡ work_at image m.cpu.pc → (u : SetsUp notes (is_kept notes c work m.cpu.pc (enabled_in m)) work m.cpu.pc (enabled_in m) k calls n now) → is_past notes from m.cpu.pc ≡ false → is_in (enabled_at c.requests m.cpu.pc).before (enabled_in m) ≡ true
            → Has image notes from c total n now (since_of (asks n) (since + k)) after
        set-up is_work u asked before =
            subst (λ x. Has image notes from c total n x (since_of (asks n) (since + k)) after) (sym u.calls_same)
            (stands-moving image notes from c total n u.insn u.words m.cpu.pc calls (since + k) after allowed.is.between lives u.going u.free u.pc u.some owed.0
            (λ asking. (
            let on : asks_between_words work (enabled_in m) ≡ true = sym between ∙ asking in
            let asks_here : asks_between_words (work_at image m.cpu.pc) (enabled_in m) ≡ true = subst (λ (p : Option Plan). asks_between_words p (enabled_in m) ≡ true) is_work on in
            let most : 14 + all_turns notes c ≤ total = asking-word image notes from c total m.cpu.pc (enabled_in m) (s.each_most m.cpu.pc) asked before (subst (λ (p : Option Plan). asks_at p (enabled_in m) ≡ true) is_work (may-ask (enabled_in m) work on)) asks_here in
            let few : after ≤ all_turns notes c = there.few in
            omega (arith, most, few)))
            (λ shut. subst (λ x. Comes notes c total calls (x + after) (next_pc u.insn m.cpu.pc) (unheld (enabled_in n))) (one-sum since k (14 * u.words.left))
            (subst (λ (e : Enabled). Comes notes c total calls ((since + (k + 14 * u.words.left)) + after) (next_pc u.insn m.cpu.pc) e) unheld-same
            (subst (λ b. Comes notes c total calls ((since + (k + (if b then 0 else 14 * u.words.left))) + after) (next_pc u.insn m.cpu.pc) (enabled_in n)) (sym between ∙ shut) owed.1))))
          where
            one-sum : (since k x : ℕ) → since + (k + x) ≡ (since + k) + x
            one-sum since k x = omega arith

            leaves-so : unheld (enabled_in m) ≡ enabled_in n
            leaves-so = equal (unheld (enabled_in m)) (enabled_in n) (subst (λ (p : Option Plan). may_leave p (enabled_in m) (enabled_in n) ≡ true) u.is leaves)

            unheld-same : enabled_in n ≡ unheld (enabled_in n)
            unheld-same = sym leaves-so ∙ ap unheld leaves-so

            between : (u.words.interruptible && (enabled_in n).interrupts) ≡ asks_between_words work (enabled_in m)
            between = ap (λ b. b && (enabled_in n).interrupts) u.same ∙ ap (λ (e : Enabled). u.interruptible && e.interrupts) (sym leaves-so) ∙ ap (λ (p : Option Plan). is_interruptible p && (enabled_in m).interrupts) (sym u.is)

            room : (b : Bool) (k su most left : ℕ) → k ≤ su → left ≤ most → k + (if b then 0 else 14 * left) ≤ (if b then (su + 14 * most) - 14 * most else su + 14 * most)
            room true k su most left h few = omega (arith, h)
            room false k su most left h few = omega (arith, h, few)

            enough : k + (if asks_between_words work (enabled_in m) then 0 else 14 * u.words.left) ≤ shut_states work (words_at notes m.cpu.pc) (enabled_in m) (u.set_up + 14 * u.most)
            enough = subst (λ (o : Option ℕ). k + (if asks_between_words work (enabled_in m) then 0 else 14 * u.words.left) ≤ shut_states work o (enabled_in m) (u.set_up + 14 * u.most)) (sym u.noted)
                (room (asks_between_words work (enabled_in m)) k u.set_up u.most u.words.left u.takes u.few)

            owed : Ahead notes c total (next_pc u.insn m.cpu.pc) calls × Comes notes c total calls ((since + (k + (if asks_between_words work (enabled_in m) then 0 else 14 * u.words.left))) + after) (next_pc u.insn m.cpu.pc) (enabled_in n)
            owed = owes-words notes c total work m.cpu.pc (enabled_in m) since turns after calls paid counted behind (u.set_up + 14 * u.most) (next_pc u.insn m.cpu.pc) k (if asks_between_words work (enabled_in m) then 0 else 14 * u.words.left) (enabled_in n) enough leaves u.passes

    -- the activity of an instruction that begins
    begin-behaves : m.going ≡ None → Covers notes c total calls (shut_behind c m.cpu.pc) → Stands notes c total calls (since + turns) m.cpu.pc (enabled_in m) → Behaves m calls since after
    begin-behaves none behind paid = record {
      most_there = (let sum : (since + (current m).left) + after ≤ total = way-most notes c total (work_at image m.cpu.pc) m.cpu.pc (enabled_in m) since turns after calls paid counted behind b.has.0 (current m).left b.has.1 b.has.2 in omega (arith, sum));
      goes = λ lives on allowed.
          let parts = either-false (is_last (current m).doing calls) (is_at_end notes (after_activity f m)) on in
          let change : may_change (current m).doing (enabled_in m) (enabled_in (after_activity f m)) ≡ true = activity-changes f m there.lives b.some_left there.own lives in
          went lives parts.1 allowed (b.leaves (enabled_in (after_activity f m)) change) (b.went lives parts.0);
    }
      where
        before : (is_past notes from m.cpu.pc ≡ false) × Ready image notes from c.requests m.cpu.pc calls (enabled_in m)
        before = begins-allowed image notes from c total m calls there.allowed none

        kept : Kept image notes from c (work_at image m.cpu.pc) m.cpu.pc (enabled_in m) (ways_of image notes (found_at image m.cpu.pc) m.cpu.pc)
        kept = asked-kept image notes from c m.cpu.pc (enabled_in m) before.1.before before.0 (s.sound m.cpu.pc)

        counted : after + price_at notes c m.cpu.pc ≤ turns + credit_at notes c m.cpu.pc
        counted = subst (λ (o : Option ℕ). Counted notes c o turns after) (begun-at m there.lives none) there.counted

        begins-so : current m ≡ begins m (found_at image m.cpu.pc)
        begins-so =
            let whole : found_at image m.cpu.pc ≢ says.Short = kept-whole image notes from c m.cpu.pc (enabled_in m) (work_at image m.cpu.pc) (found_at image m.cpu.pc) kept.all in
            let rom : (image_start ≤ m.cpu.pc) × (m.cpu.pc < rom_end) = in-rom c.requests m.cpu.pc (enabled_in m) before.1.before in
            own-goes_on m there.allowed.is.between there.allowed.free there.own ∙ ap (goes_on m) none ∙ fetches-so m s.image_is there.allowed.is.holds rom.0 rom.1 whole

        b : Begun most some f image notes (is_kept notes c (work_at image m.cpu.pc) m.cpu.pc (enabled_in m)) m calls (enabled_in m) (work_at image m.cpu.pc)
        b = found-begun most some f image notes (is_kept notes c (work_at image m.cpu.pc) m.cpu.pc (enabled_in m)) m calls (enabled_in m)
            (record { holds = there.allowed.is.holds; lives = there.lives; assumed = there.assumed }) (found_at image m.cpu.pc) begins-so kept.all

        went : (after_activity f m).ended ≡ None → is_at_end notes (after_activity f m) ≡ false → IsOnWay image notes from c.requests (after_activity f m) (opened (current m).doing m.cpu.pc calls)
            → may_leave (work_at image m.cpu.pc) (enabled_in m) (enabled_in (after_activity f m)) ≡ true
            → Went notes (is_kept notes c (work_at image m.cpu.pc) m.cpu.pc (enabled_in m)) (work_at image m.cpu.pc) m.cpu.pc (enabled_in m) (current m).left calls (after_activity f m) (opened (current m).doing m.cpu.pc calls)
            → Has image notes from c total (after_activity f m) (opened (current m).doing m.cpu.pc calls) (since_of (asks (after_activity f m)) (since + (current m).left)) after
        went lives on allowed leaves (inl a) =
            arrived (work_at image m.cpu.pc) behind paid counted (after_activity f m) (opened (current m).doing m.cpu.pc calls) lives allowed leaves (current m).left a.way a.takes a.passes a.going
            (sym (at-end notes (after_activity f m) lives a.going) ∙ on) a.leads
        went lives on allowed leaves (inr u) =
            set-up (work_at image m.cpu.pc) behind paid counted (after_activity f m) (opened (current m).doing m.cpu.pc calls) lives allowed leaves (current m).left refl u before.0 before.1.before

    -- ---- a word of a block move

    word-behaves : (i : Insn) (w : Words) → m.going ≡ Some (Moving i w) → 0 < w.left → Ahead notes c total (next_pc i m.cpu.pc) calls
        → Words-left notes c total (w.interruptible && (enabled_in m).interrupts) w.left calls since turns (next_pc i m.cpu.pc) (unheld (enabled_in m)) → Behaves m calls since after
    word-behaves i w going more ahead owed = record {
      most_there = word-most (w.interruptible && (enabled_in m).interrupts) owed;
      goes = λ lives on allowed.
          let on_there : is_at_end notes (after_activity f m) ≡ false = (either-false (is_last (current m).doing calls) (is_at_end notes (after_activity f m)) on).1 in
          subst (λ (d : Activity). Has image notes from c total (after_activity f m) (opened d m.cpu.pc calls) (since_of (asks (after_activity f m)) (since + (current m).left)) after) (sym is)
          (by lives on_there (subst (λ (d : Activity). IsOnWay image notes from c.requests (after_activity f m) (opened d m.cpu.pc calls)) is allowed) (follows lives) (follows lives).goes);
    }
      where
        so : current m ≡ record { doing = MovesWord i w; left = word_states_of w }
        so = own-goes_on m there.allowed.is.between there.allowed.free there.own ∙ ap (goes_on m) going

        is : (current m).doing ≡ MovesWord i w
        is = ap (λ (x : UnderWay). x.doing) so

        left : (current m).left ≡ word_states_of w
        left = ap (λ (x : UnderWay). x.left) so

        some_left : 0 < (current m).left
        some_left = subst (λ k. 0 < k) (sym left) (word-some w)

        few : (current m).left ≤ 14
        few = subst (λ k. k ≤ 14) (sym left) (word-few w)

        turns-same : turns ≡ after
        turns-same = sym (subst (λ (o : Option ℕ). Counted notes c o turns after) (begun-none m (Moving i w) there.lives going) there.counted)

        word-most : (asking : Bool) → Words-left notes c total asking w.left calls since turns (next_pc i m.cpu.pc) (unheld (enabled_in m)) → since + (current m).left ≤ total
        word-most true owed = omega (arith, few, owed)
        word-most false owed =
            let sum : (since + 14 * w.left) + turns ≤ total = comes-most notes c total calls ((since + 14 * w.left) + turns) (next_pc i m.cpu.pc) (unheld (enabled_in m)) owed in
            omega (arith, more, few, sum)

        owed-after : Words-left notes c total (w.interruptible && (enabled_in m).interrupts) w.left calls since after (next_pc i m.cpu.pc) (unheld (enabled_in m))
        owed-after = subst (λ t. Words-left notes c total (w.interruptible && (enabled_in m).interrupts) w.left calls since t (next_pc i m.cpu.pc) (unheld (enabled_in m))) turns-same owed

        follows : (after_activity f m).ended ≡ None → IsFollowed (MovesOn i w m.cpu.pc) i (after_activity f m)
        follows lives = lives-not (after_activity f m) lives (word-moves f i w m there.lives some_left is)

        same : (after_activity f m).ended ≡ None → unheld (enabled_in m) ≡ enabled_in (after_activity f m)
        same lives = equal (unheld (enabled_in m)) (enabled_in (after_activity f m)) (subst (λ (d : Activity). may_change d (enabled_in m) (enabled_in (after_activity f m)) ≡ true) is (activity-changes f m there.lives some_left there.own lives))

        owed-by : (asking : Bool) → (w.interruptible && (enabled_in m).interrupts) ≡ asking → Words-left notes c total asking w.left calls since after (next_pc i m.cpu.pc) (unheld (enabled_in m))
        owed-by asking e = subst (λ b. Words-left notes c total b w.left calls since after (next_pc i m.cpu.pc) (unheld (enabled_in m))) e owed-after

        -- behind the last word
        owed-last : (asking : Bool) → (w.interruptible && (enabled_in m).interrupts) ≡ asking → Comes notes c total calls ((since + (current m).left) + after) (next_pc i m.cpu.pc) (unheld (enabled_in m))
        owed-last true e =
            let on : (enabled_in m).interrupts ≡ true = (both w.interruptible (enabled_in m).interrupts e).1 in
            let sum : since + 14 + after ≤ total = owed-by true e in
            comes-asked notes c total calls ((since + (current m).left) + after) (next_pc i m.cpu.pc) (unheld (enabled_in m)) (rw on refl) (omega (arith, sum, few))
        owed-last false e =
            comes-less notes c total calls ((since + 14 * w.left) + after) ((since + (current m).left) + after) (next_pc i m.cpu.pc) (unheld (enabled_in m)) (last-word since (current m).left after w.left more few) (owed-by false e)

        by : (lives : (after_activity f m).ended ≡ None) → is_at_end notes (after_activity f m) ≡ false → IsOnWay image notes from c.requests (after_activity f m) calls → (h : IsFollowed (MovesOn i w m.cpu.pc) i (after_activity f m)) → MovesOn i w m.cpu.pc h.behind (after_activity f m).cpu.pc
            → Has image notes from c total (after_activity f m) calls (since_of (asks (after_activity f m)) (since + (current m).left)) after
        by lives on allowed h (inl none) =
            let goes_none : (after_activity f m).going ≡ None = h.going ∙ ap (λ (x : After). (next_after i x).going) none.0 in
            arrives image notes from c total s.each_most (after_activity f m) (next_pc i m.cpu.pc) calls (since + (current m).left) after allowed lives goes_none none.1 (sym (at-end notes (after_activity f m) lives goes_none) ∙ on) there.few
            (record {
              ahead = ahead;
              owed = subst (λ (e : Enabled). Comes notes c total calls ((since + (current m).left) + after) (next_pc i m.cpu.pc) e) (same lives) (owed-last (w.interruptible && (enabled_in m).interrupts) refl);
            })
        by lives on allowed h (inr rest) =
            let goes_more : (after_activity f m).going ≡ Some (Moving i (less_one w)) = h.going ∙ ap (λ (x : After). (next_after i x).going) rest.0 in
            let free : (after_activity f m).held ≡ false = h.held ∙ ap (λ (x : After). (next_after i x).held) rest.0 in
            let still : (w.interruptible && (enabled_in m).interrupts) ≡ (w.interruptible && (enabled_in (after_activity f m)).interrupts) = ap (λ (e : Enabled). w.interruptible && e.interrupts) (same lives) in
            stands-moving image notes from c total (after_activity f m) i (less_one w) m.cpu.pc calls (since + (current m).left) after allowed.is.between lives goes_more free rest.1 rest.2 ahead
            (λ asking. (let sum : since + 14 + after ≤ total = owed-by true (still ∙ asking) in omega (arith, sum)))
            (λ shut. subst (λ (e : Enabled). Comes notes c total calls (((since + (current m).left) + 14 * (w.left - 1)) + after) (next_pc i m.cpu.pc) e) (ap unheld (same lives))
            (comes-less notes c total calls ((since + 14 * w.left) + after) (((since + (current m).left) + 14 * (w.left - 1)) + after) (next_pc i m.cpu.pc) (unheld (enabled_in m))
            (less-word since (current m).left after w.left more few) (owed-by false (still ∙ shut))))

    moving-behaves : (g : Going) → m.going ≡ Some g → Account image notes from c total (Some g) m.cpu.pc calls (enabled_in m) since turns → Behaves m calls since after
    moving-behaves Idling going account = absurd account
    moving-behaves (Serving number cycle) going account = absurd account
    moving-behaves (Moving i w) going account = word-behaves i w going account.0 account.1 account.2

    -- ---- an activity

    pub behaves : Has image notes from c total m calls since turns → Behaves m calls since after
    behaves has = by m.going refl has
      where
        by : (g : Option Going) → m.going ≡ g → Account image notes from c total g m.cpu.pc calls (enabled_in m) since turns → Behaves m calls since after
        by None e account = begin-behaves e account.0 account.1
        by (Some g) e account = moving-behaves g e account
