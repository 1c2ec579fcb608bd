-- What an entry takes, and where it leads.
use Rattle.std.proofs.Common.{◌≡◌, ℕ, Bool, true, false, ◌+◌, ◌-◌, ◌*◌, ◌%◌, ◌<◌, ◌≤◌, ◌==◌, ◌⊎◌, inl, inr, nat_lt, if◌then◌else◌, Option, Some, None, Result as Answer, Ok, Err, List, slice_index, refl, sym, ◌∙◌, ap, subst, arith}
use Rattle.std.proofs.lemmas.Grind.{common_steps}
use Rattle.kc_base.specs.declared.types.Kind.{Kind}
use Rattle.kc_base.specs.Limits.{image_start}
use Rattle.kc_isa.specs.declared.insn.Insn.{Insn}
use Rattle.kc_isa.specs.declared.insn.Place.{Place}
use Rattle.kc_code.specs.declared.reader.Decoded.{Decoded}
use Rattle.kc_code.specs.declared.reader.Decoded.TheVariants as says
use Rattle.kc_exec_spec.specs.Effect.{End, Outcome, Done, Refused, run, ◌>>=◌}
use Rattle.kc_exec_spec.specs.Entering.{vector_at, entry}
use Rattle.kc_exec_spec.specs.Memory.{is_rom, is_hole}
use Rattle.kc_exec_spec.specs.Parts.{push, read_at}
use Rattle.kc_intc.specs.declared.requests.Choice.{Choice}
use Rattle.kc_intc.specs.declared.requests.Choice.TheVariants as choice
use Rattle.kc_extra.specs.Further.{Further}
use Rattle.kc_machine_spec.specs.declared.doing.Activity.TheVariants.{Enters}
use Rattle.kc_machine_spec.specs.declared.doing.Going.{Going}
use Rattle.kc_machine_spec.specs.declared.doing.Going.TheVariants.{Moving, Idling, Serving}
use Rattle.kc_machine_spec.specs.declared.doing.UnderWay.{UnderWay}
use Rattle.kc_machine_spec.specs.Scene.{Scene, scene_meaning}
use Rattle.kc_machine_spec.specs.Machine.{Machine, scene_of, placed, pushing_states, begins, fetches, goes_on, goes_first, asked, serves, chosen, current, current_of, entered, finished}
use Rattle.kc_bound.specs.Passes.{after_activity, moment}
use Rattle.kc_bound.specs.Bounded.{HoldsImage}
use Rattle.kc_bound.specs.Steps.{StatesAreSome, FoundIsDecoded}
use Rattle.kc_bound.specs.Ways.{image_word}
use Rattle.kc_bound.proofs.Rom.{LeavesRom, run-rom}
use Rattle.kc_bound.proofs.GoingOn.{done-bind, same-number}
use Rattle.kc_bound.proofs.Follows.{HasEnded}
use Rattle.kc_bound.proofs.Activities.{last_state, after-finished}
use Rattle.kc_bound_requests.specs.Enabled.{enabled_in}
use Rattle.kc_bound_requests.specs.Asking.{HighestIsEntered}
use Rattle.kc_bound_requests.specs.Gaps.{WaitsAreShort}
use Rattle.kc_bound_requests.specs.Entries.{EntriesAreShort, IsEntered, RoutinesBegin, LatencyIsShort}
use Rattle.kc_bound_requests.proofs.Sets.{first-sets}
use Rattle.kc_bound_requests.proofs.Passes.{on-way}
use Rattle.kc_bound_requests.proofs.OnWay.{IsOnWay}
use Rattle.kc_bound_requests.proofs.Choice.{Asks, asks-so}

-- ---- how long it takes

module _ {X : Type 0} (m : Machine X) where
  -- an entry takes so many states
  abbrev Takes : UnderWay → Type 0
  Takes u = (number : ℕ) → u.doing ≡ Enters number → u.left ≡ pushing_states m

  placed-takes : (i : Insn) (r : Answer Place Kind) → Takes (placed i r)
  placed-takes i (Ok place) number is = absurd (cc is)
  placed-takes i (Err kind) number is = absurd (cc is)

  begins-takes : (d : Decoded) → Takes (begins m d)
  begins-takes (says.Insn i size) = placed-takes i _
  begins-takes says.Unimplemented = λ number is. absurd (cc is)
  begins-takes says.Undefined = λ number is. absurd (cc is)
  begins-takes says.Short = λ number is. absurd (cc is)

  fetches-takes : Takes (fetches m)
  unfolding fetches
  fetches-takes = begins-takes _

  goes-takes : (going : Option Going) → Takes (goes_on m going)
  goes-takes None = fetches-takes
  goes-takes (Some (Moving i w)) = λ number is. absurd (cc is)
  goes-takes (Some Idling) = λ number is. absurd (cc is)
  goes-takes (Some (Serving n cycle)) = λ number is. absurd (cc is)

  serves-takes : (c : Choice) → Takes (serves m c)
  serves-takes choice.Nmi = λ number is. refl
  serves-takes (choice.Enter n) = λ number is. refl
  serves-takes (choice.Transfer n) = λ number is. absurd (cc is)
  serves-takes choice.Go = goes-takes m.going

  chosen-by : (first held : Bool) → Takes (if first then goes_on m m.going else if held then fetches m else serves m (asked m))
  chosen-by true held = goes-takes m.going
  chosen-by false true = fetches-takes
  chosen-by false false = serves-takes (asked m)

  chosen-takes : Takes (chosen m)
  unfolding chosen
  chosen-takes = chosen-by (goes_first m.going) m.held

  pushing-most : pushing_states m ≤ 14
  pushing-most = grind (arith, common_steps)

  pushing-some : 0 < pushing_states m
  pushing-some = grind (arith, common_steps)

  takes : m.under_way ≡ None → Takes (current m)
  takes between = subst Takes (sym (ap (current_of m) between)) chosen-takes

same-most : (a b : ℕ) → a ≡ b → b ≤ 14 → a ≤ 14
same-most a b e h = omega (arith, e, h)

same-some : (a b : ℕ) → a ≡ b → 0 < b → 0 < a
same-some a b e h = omega (arith, e, h)

pub entries-short : {X : Type 0} → EntriesAreShort X
entries-short number m between is =
    let left : (current m).left ≡ pushing_states m = takes m between number is in
    (left, same-most (current m).left (pushing_states m) left (pushing-most m))

-- ---- where it leads

-- where a vector stands
record IsVector (v : ℕ) : Type 0 where
  pub low : 0x2000 ≤ v
  pub high : v < 0x2040
  pub even : (v % 2 == 1) ≡ false

even-by : (v k : ℕ) → v ≡ 2 * k → (v % 2 == 1) ≡ false
even-by v k e = let none : v % 2 ≡ 0 = omega (arith, e) in rw none refl

vector-by : (number : ℕ) (small all trap : Bool) → nat_lt number 8 ≡ small → nat_lt number 16 ≡ all
    → IsVector (if small then 0x2000 + 2 * number else if all then 0x2030 + 2 * (number - 8) else if trap then 0x2010 else 0x2012)
vector-by number true all trap s a =
    let few : number < 8 = grind (arith, common_steps) in
    record { low = omega arith; high = omega (arith, few); even = even-by (0x2000 + 2 * number) (0x1000 + number) (omega arith) }
vector-by number false true trap s a =
    let few : number < 16 = grind (arith, common_steps) in
    record { low = omega arith; high = omega (arith, few); even = even-by (0x2030 + 2 * (number - 8)) (0x1018 + (number - 8)) (omega arith) }
vector-by number false false true s a = record { low = omega arith; high = omega arith; even = refl }
vector-by number false false false s a = record { low = omega arith; high = omega arith; even = refl }

vector-is : (number : ℕ) → IsVector (vector_at number)
vector-is number = vector-by number (nat_lt number 8) (nat_lt number 16) (number == 16) refl refl

two-bytes : (a b c d : ℕ) → a ≡ c → b ≡ d → a + 256 * b ≡ c + 256 * d
two-bytes a b c d x y = ap (λ n. n + 256 * b) x ∙ ap (λ n. c + 256 * n) y

module _ {X : Type 0} (f : Further X) where
  word-read : (v : ℕ) (s t : Scene X) (pc : ℕ) → IsVector v → run (scene_meaning f) (read_at false v) s ≡ Done pc t → slice_index s.board.memory v + 256 * slice_index s.board.memory (v + 1) ≡ pc
  unfolding read_at
  word-read v s t pc is d =
      let high : nat_lt v 24 ≡ false = (let low : 0x2000 ≤ v = is.low in grind (arith, common_steps)) in
      let there : is_hole v ≡ false = (let low : 0x2000 ≤ v = is.low in grind (arith, common_steps)) in
      same-number (slice_index s.board.memory v + 256 * slice_index s.board.memory (v + 1)) pc s t (rw (is.even, high, there) at d)

  entry-leads : (image : List ℕ) (v back : ℕ) (s t : Scene X) (pc : ℕ) → IsVector v → ((a : ℕ) → is_rom a ≡ true → slice_index s.board.memory a ≡ slice_index image (a - image_start))
      → run (scene_meaning f) (entry v back) s ≡ Done pc t → pc ≡ image_word image v
  unfolding entry
  entry-leads image v back s t pc is rom d =
      let by = done-bind (scene_meaning f) (read_at false v) (λ n. push back >>= λ pushed. End n) s pc t d in
      let behind = done-bind (scene_meaning f) (push back) (λ pushed. End by.first) by.between pc t by.two in
      let same : by.first ≡ pc = same-number by.first pc behind.between t behind.two in
      let low_rom : is_rom v ≡ true = (let low : 0x2000 ≤ v = is.low in let high : v < 0x2040 = is.high in grind (arith, common_steps)) in
      let high_rom : is_rom (v + 1) ≡ true = (let low : 0x2000 ≤ v = is.low in let high : v < 0x2040 = is.high in grind (arith, common_steps)) in
      sym same ∙ sym (word-read v s by.between by.first is by.one) ∙ two-bytes _ _ _ _ (rom v low_rom) (rom (v + 1) high_rom)

  entered-by : (image : List ℕ) (number : ℕ) (n : Machine X) (o : Outcome ℕ (Scene X)) → ((pc : ℕ) (scene : Scene X) → o ≡ Done pc scene → pc ≡ image_word image (vector_at number)) → LeavesRom f n.board.memory o → HoldsImage image n
      → HasEnded (entered n number o).machine ⊎ (IsEntered image number (entered n number o).machine × ((entered n number o).machine.time ≡ n.time + 1))
  entered-by image number n (Done pc scene) leads same holds = inr (
    record {
      rom = record { whole = same.count ∙ holds.whole; rom = λ a there. same.rom a there ∙ holds.rom a there };
      begins = leads pc scene refl;
      between = refl;
      fresh = refl;
      held = refl;
      allowed = (first-sets (enabled_in (entered n number (Done pc scene)).machine)).entered;
    },
    refl,
  )
  entered-by image number n (Refused kind scene) leads same holds = inl (_, refl)

  finished-enters : (image : List ℕ) (number : ℕ) (n : Machine X) → HoldsImage image n
      → HasEnded (finished f (Enters number) n).machine ⊎ (IsEntered image number (finished f (Enters number) n).machine × ((finished f (Enters number) n).machine.time ≡ n.time + 1))
  unfolding finished
  finished-enters image number n holds =
      entered-by image number n (run (scene_meaning f) (entry (vector_at number) n.cpu.pc) (scene_of n))
      (λ pc scene d. entry-leads image (vector_at number) n.cpu.pc (scene_of n) scene pc (vector-is number) holds.rom d)
      (run-rom f (entry (vector_at number) n.cpu.pc) (scene_of n)) holds

  all-states : (time left : ℕ) → 0 < left → (time + (left - 1)) + 1 ≡ time + left
  all-states time left some = omega (arith, some)

  enters-begins : (image : List ℕ) (number : ℕ) (m : Machine X) → HoldsImage image m → m.under_way ≡ None → m.ended ≡ None → (current m).doing ≡ Enters number → (after_activity f m).ended ≡ None
      → IsEntered image number (after_activity f m) × ((after_activity f m).time ≡ m.time + (current m).left)
  enters-begins image number m holds between lives is after =
      elim so [
        | inl ended ↦ absurd (let e : Some ended.0 ≡ None = sym ended.1 ∙ after in cc e)
        | inr there ↦ (there.0, there.1 ∙ all-states m.time (current m).left some)
      ]
    where
      some : 0 < (current m).left
      some = same-some (current m).left (pushing_states m) (takes m between number is) (pushing-some m)

      so : HasEnded (after_activity f m) ⊎ (IsEntered image number (after_activity f m) × ((after_activity f m).time ≡ (m.time + ((current m).left - 1)) + 1))
      so =
          subst (λ (n : Machine X). HasEnded n ⊎ (IsEntered image number n × (n.time ≡ (m.time + ((current m).left - 1)) + 1)))
          (sym (after-finished f m lives some ∙ ap (λ d. (finished f d (last_state f m)).machine) is))
          (finished-enters image number (last_state f m) (record { whole = holds.whole; rom = holds.rom }))

pub routines-begin : {X : Type 0} → RoutinesBegin X
routines-begin f image number m = enters-begins f image number m

-- ---- both

in-all : (t n i most left : ℕ) → t ≡ n + left → n ≤ i + most → left ≤ 14 → t ≤ i + most + 14
in-all t n i most left e waits few = omega (arith, e, waits, few)

pub latency-short : {X : Type 0} → FoundIsDecoded X → StatesAreSome → HighestIsEntered X → WaitsAreShort X → EntriesAreShort X → RoutinesBegin X → LatencyIsShort X
unfolding moment
latency-short decoded some entered waits short begin f image notes from first c most is shows number i n m p there w on asked requested highest after =
    let a : Asks (moment f n m) = asks-so (moment f n m) asked in
    let now : (current (moment f n m)).doing ≡ Enters number = entered number (moment f n m) asked requested highest in
    let way : IsOnWay image notes from c.requests (moment f n m) _ = on-way decoded some f image notes from first c.requests n n m is shows.closed p there (omega arith) on a.lives in
    let b = begin f image number (moment f n m) way.is.holds a.between a.lives now after in
    (b.0, in-all (after_activity f (moment f n m)).time (moment f n m).time (moment f i m).time most (current (moment f n m)).left b.1 (waits f image notes from first c most is shows number i n m p there w) (short number (moment f n m) a.between now).1)
