-- A history has one schedule of frames, and one of receptions.
use Rattle.std.proofs.Common.{◌≡◌, ℕ, zero, suc, ◌<◌, ◌≤◌, Bool, true, false, refl, sym, ◌∙◌, ap, arith, inl, inr, Option, Some, None}
use Rattle.std.proofs.lemmas.Bool.{cases_eq, false≢true}
use Rattle.kc_serial.specs.History.{Driven}
use Rattle.kc_serial.specs.Accesses.{log}
use Rattle.kc_serial.specs.Schedules.{Frames, end_of, IsFree, Ends, Waits, IsSchedule, SchedulesAreOne}
use Rattle.kc_serial.specs.Receptions.{Catches, IsReceiving, AreReceptions, ReceptionsAreOne}
use Rattle.kc_serial.proofs.AccessLaws.{none_some, written_before}

option_same : (o p : Option ℕ) → ((b : ℕ) → o ≡ Some b → p ≡ Some b) → ((b : ℕ) → p ≡ Some b → o ≡ Some b) → o ≡ p
option_same None None to back = refl
option_same None (Some b) to back = absurd (none_some b (back b refl))
option_same (Some b) p to back = sym (to b refl)

module _ (h : Driven) (t : ℕ) where
  abbrev Agree : Frames → Frames → Type 0
  Agree frames others = (u : ℕ) → u ≤ t → frames u ≡ others u

  free_too : (frames others : Frames) → Agree frames others → (w : ℕ) → w ≤ t → IsFree h frames w → IsFree h others w
  free_too frames others same w le free f byte is before = free f byte (same f (omega arith) ∙ is) before

  ends_too : (frames others : Frames) → Agree frames others → (e : ℕ) → e ≤ suc t → Ends h frames e → Ends h others e
  ends_too frames others same e le ends =
      let over : end_of h ends.begun ≡ e = ends.over in
      record { begun = ends.begun; byte = ends.byte; begins = sym (same ends.begun (omega arith)) ∙ ends.begins; over = over }

  waits_too : (frames others : Frames) → Agree frames others → (byte : ℕ) → Waits h frames (log h (suc t)) (suc t) byte → Waits h others (log h (suc t)) (suc t) byte
  waits_too frames others same byte w =
      let past : w.written < suc t = written_before h (suc t) w.written w.since w.earlier w.given.access w.given.place in
      record {
        written = w.written;
        since = w.since;
        earlier = w.earlier;
        given = w.given;
        behind = λ none free. w.behind none (free_too others frames (λ u le. sym (same u le)) w.written (omega arith) free);
        kept = w.kept;
        still = λ e later sooner ends. w.still e later sooner (ends_too others frames (λ u le. sym (same u le)) e (omega arith) ends);
      }

  next_same : (frames others : Frames) → Agree frames others → IsSchedule h frames → IsSchedule h others → (byte : ℕ) → frames (suc t) ≡ Some byte → others (suc t) ≡ Some byte
  next_same frames others same one two byte is = elim (one.begins t byte is) [
    | inl now ↦
        two.at_once t byte (record { since = now.since; earlier = now.earlier; given = now.given; first = now.first; free = free_too frames others same t (omega arith) now.free })
    | inr end ↦ two.later t byte (ends_too frames others same (suc t) (omega arith) end.0) (waits_too frames others same byte end.1)
  ]

all_same : (h : Driven) (frames others : Frames) → IsSchedule h frames → IsSchedule h others → (t u : ℕ) → u ≤ t → frames u ≡ others u
all_same h frames others one two zero u le =
    let none : u ≡ 0 = omega arith in
    ap frames none ∙ one.none ∙ sym two.none ∙ ap others (sym none)
all_same h frames others one two (suc t) u le = elim (cases_eq u (suc t)) [
  | inl now ↦
      ap frames now
      ∙ option_same (frames (suc t)) (others (suc t)) (next_same h t frames others (all_same h frames others one two t) one two)
      (next_same h t others frames (λ v lt. sym (all_same h frames others one two t v lt)) two one)
      ∙ ap others (sym now)
  | inr before ↦ all_same h frames others one two t u (omega (arith, before))
]

pub schedules_one : SchedulesAreOne
schedules_one h frames others one two t = all_same h frames others one two t t (omega arith)

bool_same : (a b : Bool) → (a ≡ true → b ≡ true) → (b ≡ true → a ≡ true) → a ≡ b
bool_same true b to back = sym (to refl)
bool_same false true to back = absurd (false≢true (back refl))
bool_same false false to back = refl

module _ (h : Driven) (t : ℕ) where
  receiving_too : (catches others : Catches) → ((u : ℕ) → u < t → catches u ≡ others u) → (e : ℕ) → IsReceiving h catches e t → IsReceiving h others e t
  receiving_too catches others same e r = record {
    caught = sym (same e r.past) ∙ r.caught;
    past = r.past;
    within = r.within;
    start_bit = r.start_bit;
    allowed = r.allowed;
  }

  caught_too : (catches others : Catches) → ((u : ℕ) → u < t → catches u ≡ others u) → AreReceptions h catches → AreReceptions h others → catches t ≡ true → others t ≡ true
  caught_too catches others same one two is =
      let may = (one t).0 is in
      (two t).1 (may.0, may.1, λ e r. may.2 e (receiving_too others catches (λ u lt. sym (same u lt)) e r))

all_caught : (h : Driven) (catches others : Catches) → AreReceptions h catches → AreReceptions h others → (t u : ℕ) → u < t → catches u ≡ others u
all_caught h catches others one two zero u lt = absurd (omega arith)
all_caught h catches others one two (suc t) u lt = elim (cases_eq u t) [
  | inl now ↦
      ap catches now
      ∙ bool_same (catches t) (others t) (caught_too h t catches others (all_caught h catches others one two t) one two)
      (caught_too h t others catches (λ v le. sym (all_caught h catches others one two t v le)) two one)
      ∙ ap others (sym now)
  | inr before ↦ all_caught h catches others one two t u (omega (arith, before))
]

pub receptions_one : ReceptionsAreOne
receptions_one h catches others one two t = all_caught h catches others one two (suc t) t (omega arith)
