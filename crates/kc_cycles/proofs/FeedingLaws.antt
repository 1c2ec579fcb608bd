-- The watchdog by the writes so far.
use Rattle.std.proofs.Common.{◌≡◌, ℕ, zero, suc, ◌+◌, ◌≤◌, ◌==◌, Bool, true, false, ◌&&◌, refl, sym, ◌∙◌, ap, subst, arith, Option, Some, None, List, [], ◌∷◌, length}
use Rattle.std.specs.Prelude.{if◌then◌else◌, fold}
use Rattle.std.proofs.lemmas.Bool.{and_parts, eqb-true, false≢true}
use Rattle.kc_extra.specs.Histories.{Access, Driven, accessed, started_if, data_at}
use Rattle.kc_cycles.specs.declared.watchdog.Watchdog.{Watchdog}
use Rattle.kc_cycles.specs.Watching.{patience, is_watchdog, fed, watchdog_further}
use Rattle.kc_cycles.specs.Feeding.{Written, written_by, writes_before, IsFeeding, IsLastFeeding, IsDeadline, watchdog_at, DeadlinesAreOfLastFeedings}

-- the last value written is the first of the two
is_half : List Written → Bool
is_half [] = false
is_half (w ∷ writes) = w.value == 0x1E

record Holds (writes : List Written) (d : Watchdog) : Type 0 where
  half : d.half_fed ≡ is_half writes
  deadline : IsDeadline writes d.deadline

head_same : (v w : Written) (vs ws : List Written) → v ∷ vs ≡ w ∷ ws → v ≡ w
head_same v w vs ws e = cc

tail_same : (v w : Written) (vs ws : List Written) → v ∷ vs ≡ w ∷ ws → vs ≡ ws
tail_same v w vs ws e = cc

-- a feeding is of a write that comes now, or stood before it
module _ (t value : ℕ) (writes : List Written) where
  abbrev now : Written
  now = record { at = t; value = value }

  feeds_now : (at first : ℕ) (earlier : List Written) → now ∷ writes ≡ record { at = at; value = 0xE1 } ∷ (record { at = first; value = 0x1E } ∷ earlier) →
      (is_half writes && (value == 0xE1)) ≡ true
  unfolding is_half
  feeds_now at first earlier e =
      let second : now ≡ record { at = at; value = 0xE1 } = head_same now (record { at = at; value = 0xE1 }) writes (record { at = first; value = 0x1E } ∷ earlier) e in
      let rest : writes ≡ record { at = first; value = 0x1E } ∷ earlier = tail_same now (record { at = at; value = 0xE1 }) writes (record { at = first; value = 0x1E } ∷ earlier) e in
      ap (λ ws. is_half ws && (value == 0xE1)) rest ∙ ap (λ w. w.value == 0xE1) second

  earlier_feeding : (others : List Written) (other : ℕ) → (is_half writes && (value == 0xE1)) ≡ false → IsFeeding (now ∷ writes) others other →
      (rest : List Written) × IsFeeding writes rest other × (length others ≡ suc (length rest))
  earlier_feeding [] other none feeds = absurd (false≢true (sym none ∙ feeds_now other feeds.first feeds.earlier feeds.place))
  earlier_feeding (w ∷ others) other none feeds =
      (others, record { first = feeds.first; earlier = feeds.earlier; place = tail_same now w writes _ feeds.place }, refl)

  feeding_on : (since : List Written) (at : ℕ) → IsFeeding writes since at → IsFeeding (now ∷ writes) (now ∷ since) at
  feeding_on since at feeds = record { first = feeds.first; earlier = feeds.earlier; place = ap (λ ws. now ∷ ws) feeds.place }

  stays : (deadline : Option ℕ) → (is_half writes && (value == 0xE1)) ≡ false → IsDeadline writes deadline → IsDeadline (now ∷ writes) deadline
  stays None none before = λ others other feeds. let back = earlier_feeding others other none feeds in before back.0 other back.1
  stays (Some deadline) none before =
      let was : IsLastFeeding writes before.0 = before.1 in (
        before.0,
        record {
          since = now ∷ was.since;
          feeds = feeding_on was.since before.0 was.feeds;
          last = λ others other feeds.
              let back = earlier_feeding others other none feeds in
              let least : length was.since ≤ length back.0 = was.last back.0 other back.1 in
              let longer : length others ≡ suc (length back.0) = back.2 in
              omega arith;
        },
        before.2,
      )

-- the last value written was the first of the two, and now comes the second
feeds : (t value : ℕ) (writes : List Written) → (is_half writes && (value == 0xE1)) ≡ true → IsLastFeeding (record { at = t; value = value } ∷ writes) t
unfolding is_half
feeds t value [] both = absurd (false≢true both)
feeds t value (w ∷ writes) both =
    let parts = and_parts (w.value == 0x1E) (value == 0xE1) both in
    record {
      since = [];
      feeds = record {
        first = w.at;
        earlier = writes;
        place =
            ap (λ n. record { at = t; value = n } ∷ (w ∷ writes)) (eqb-true value 0xE1 parts.1)
            ∙ ap (λ n. record { at = t; value = 0xE1 } ∷ (record { at = w.at; value = n } ∷ writes)) (eqb-true w.value 0x1E parts.0);
      };
      last = λ others other feeds. omega arith;
    }

deadline_next : (t value : ℕ) (writes : List Written) (deadline : Option ℕ) (both : Bool) → (is_half writes && (value == 0xE1)) ≡ both → IsDeadline writes deadline →
    IsDeadline (record { at = t; value = value } ∷ writes) (if both then Some (t + patience) else deadline)
deadline_next t value writes deadline true is before = (t, feeds t value writes is, refl)
deadline_next t value writes deadline false is before = stays t value writes deadline is before

fed_holds : (t value : ℕ) (writes : List Written) (d : Watchdog) → Holds writes d → Holds (record { at = t; value = value } ∷ writes) (fed value t d)
unfolding is_half
fed_holds t value writes d was = record {
  half = refl;
  deadline = deadline_next t value writes d.deadline (d.half_fed && (value == 0xE1)) (ap (λ b. b && (value == 0xE1)) (sym was.half)) was.deadline;
}

access_holds : (t : ℕ) (writes : List Written) (d : Watchdog) (a : Access) → Holds writes d → Holds (written_by t writes a) (accessed watchdog_further t d a)
access_holds t writes d a was = by a.is_write (is_watchdog a.window a.sfr)
  where
    by : (w own : Bool) →
        Holds (if w && own then record { at = t; value = a.value } ∷ writes else writes) (if w then (if own then fed a.value t d else d) else d)
    by true true = fed_holds t a.value writes d was
    by true false = was
    by false own = was

accesses_hold : (t : ℕ) (writes : List Written) (d : Watchdog) (accesses : List Access) → Holds writes d →
    Holds (fold (written_by t) writes accesses) (fold (accessed watchdog_further t) d accesses)
accesses_hold t writes d [] was = was
accesses_hold t writes d (a ∷ accesses) was = accesses_hold t (written_by t writes a) (accessed watchdog_further t d a) accesses (access_holds t writes d a was)

started_same : (starts : Bool) (t : ℕ) (d : Watchdog) → started_if watchdog_further starts t d ≡ d
started_same true t d = refl
started_same false t d = refl

none_fed : (since : List Written) (at : ℕ) → IsFeeding [] since at → ⊥
none_fed [] at feeds = let place = feeds.place in absurd (cc)
none_fed (w ∷ since) at feeds = let place = feeds.place in absurd (cc)

holds : (h : Driven) (t : ℕ) → Holds (writes_before h t) (watchdog_at h t)
unfolding data_at writes_before is_half
holds h zero = record { half = refl; deadline = none_fed }
holds h (suc t) =
    accesses_hold t (writes_before h t) (started_if watchdog_further (h.starts t) t (watchdog_at h t)) (h.accesses t)
    (subst (Holds (writes_before h t)) (sym (started_same (h.starts t) t (watchdog_at h t))) (holds h t))

pub deadlines_last : DeadlinesAreOfLastFeedings
deadlines_last h t = (holds h t).deadline
