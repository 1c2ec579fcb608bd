-- The receptions of the port by the falls of RXD.
use Rattle.std.proofs.Common.{◌≡◌, ℕ, zero, suc, ◌+◌, ◌*◌, ◌%◌, ◌<◌, ◌≤◌, Bool, true, false, not, ◌&&◌, ◌||◌, ◌⊎◌, refl, sym, ◌∙◌, ap, subst, arith, inl, inr, Option, Some, None, List, [], ◌∷◌}
use Rattle.std.specs.Prelude.{if◌then◌else◌, fold, nat_le, nat_lt, is_none}
use Rattle.std.specs.List.{list_any}
use Rattle.std.proofs.lemmas.Bool.{cases_Bool, cases_eq, and_parts, and_left, and_right, and_from, or_parts, or_from, leb-true, leb-false, le-leb, ltb-true, ltb-false, eqb-true, eqb-false, false≢true}
use Rattle.std.proofs.Math.Nat.{mod-eq_of_lt}
use Rattle.kc_extra.specs.Histories.{Access, accessed}
use Rattle.kc_serial.specs.Frames.{bit_length}
use Rattle.kc_serial.specs.Samples.{half_bit, is_sample, is_complete, completes, shifted, sampled, with_sample, reception_after, received_after}
use Rattle.kc_serial.specs.Port.{receives, ticked}
use Rattle.kc_serial.specs.Registers.{sbuf, baud_rate, sp_con}
use Rattle.kc_serial.specs.Unit.{serial_further}
use Rattle.kc_serial.specs.History.{Driven, falls, port_at, sample_state, number_of, byte_levels, IsReceived}
use Rattle.kc_serial.specs.declared.receiving.Reception.{Reception}
use Rattle.kc_serial.specs.declared.serial.Serial.{Serial}
use Rattle.kc_serial.proofs.SampleLaws.{half_some, two_halves}
use Rattle.kc_serial.proofs.HistoryLaws.{bytes_are_samples}
use Rattle.kc_serial.specs.Accesses.{log, is_write_of, is_read_of, control_before, rate_before, comes_since}
use Rattle.kc_serial.specs.Receptions.{sample_of, forbids, IsReceiving, catches_of, FallsAreCaught, IsCompletion, byte_of, IsLastByte, BytesAreLast}
use Rattle.kc_serial.proofs.AccessLaws.{View, view, OfByte, OfRate, OfControl, OfStatus, OfOther, fold_holds, byte_same, any_done, young}
use Rattle.kc_serial.proofs.ScheduleLaws.{registered_at}

-- a test over the accesses since a state, one state later
pub since_later : (such : Access → Bool) (h : Driven) (t s : ℕ) → s ≤ t → comes_since such s (log h (suc t)) ≡ (list_any (λ a. such a) (h.accesses t) || comes_since such s (log h t))
unfolding log
since_later such h t s le =
    any_done (λ d. nat_le s d.at && such d.access) t (log h t) (h.accesses t)
    ∙ ap (λ b. list_any (λ a. b && such a) (h.accesses t) || comes_since such s (log h t)) (le-leb s t le)

-- a write that forbids it ends a reception
access_reception : (t : ℕ) (d : Serial) (a : Access) → (accessed serial_further t d a).reception ≡ (if forbids a then None else d.reception)
access_reception t d a = by (accessed serial_further t d a) (view t d a)
  where
    kept : is_write_of sp_con a ≡ false → d.reception ≡ (if forbids a then None else d.reception)
    kept none = ap (λ b. if b && not (receives a.value) then None else d.reception) (sym none)

    either : (may : Bool) → (if may then d.reception else None) ≡ (if true && not may then None else d.reception)
    either true = refl
    either false = refl

    by : (e : Serial) → View a.value d e (is_write_of sbuf a) (is_write_of baud_rate a) (is_write_of sp_con a) (is_read_of sp_con a) →
        e.reception ≡ (if forbids a then None else d.reception)
    by e (OfByte byte rate control read is) = ap (λ x. x.reception) is ∙ byte_same (λ x. x.reception) (λ s w x. refl) a.value d ∙ kept control
    by e (OfRate byte rate control read is) = ap (λ x. x.reception) is ∙ kept control
    by e (OfControl byte rate control read is) =
        ap (λ x. x.reception) is ∙ either (receives a.value) ∙ ap (λ b. if b && not (receives a.value) then None else d.reception) (sym control)
    by e (OfStatus byte rate control read is) = ap (λ x. x.reception) is ∙ kept control
    by e (OfOther byte rate control read is) = ap (λ x. x.reception) is ∙ kept control

accesses_reception : (t : ℕ) (accesses : List Access) (d : Serial) →
    (fold (accessed serial_further t) d accesses).reception ≡ (if list_any (λ a. forbids a) accesses then None else d.reception)
accesses_reception t [] d = refl
accesses_reception t (a ∷ accesses) d =
    accesses_reception t accesses (accessed serial_further t d a)
    ∙ ap (λ o. if list_any (λ b. forbids b) accesses then None else o) (access_reception t d a)
    ∙ by (list_any (λ b. forbids b) accesses) (forbids a)
  where
    by : (x y : Bool) → (if x then None else (if y then None else d.reception)) ≡ (if y || x then None else d.reception)
    by true true = refl
    by true false = refl
    by false true = refl
    by false false = refl

reception_next : (h : Driven) (t : ℕ) →
    (port_at h (suc t)).reception
    ≡ (if list_any (λ a. forbids a) (h.accesses t) then None else reception_after (port_at h t).rate (h.levels t) (falls h t && receives (port_at h t).control) (port_at h t).reception)
unfolding port_at
reception_next h t = accesses_reception t (h.accesses t) (ticked (h.levels t) (falls h t) (port_at h t))

-- a sample drops a reception where it is the first and 1; else the reception goes on
sampled_cases : (high : Bool) (r : Reception) →
    ((sampled high r ≡ None) × (r.age ≡ half_bit r.rate) × (high ≡ true))
    ⊎ ((register : ℕ) × (sampled high r ≡ Some (record r { register = register })) × (r.age ≡ half_bit r.rate → high ≡ false))
sampled_cases high r = elim (cases_Bool (is_sample r.rate r.age)) [
  | inl there ↦
      let place : r.age % bit_length r.rate ≡ half_bit r.rate = eqb-true (r.age % bit_length r.rate) (half_bit r.rate) there in
      let step : sampled high r ≡ with_sample high r = ap (λ b. if b then with_sample high r else Some r) there in
      elim (cases_Bool (nat_lt r.age (bit_length r.rate))) [
        | inl first ↦
            let lt : r.age < bit_length r.rate = ltb-true r.age (bit_length r.rate) first in
            let at : r.age ≡ half_bit r.rate = sym (mod-eq_of_lt lt) ∙ place in
            let is : sampled high r ≡ (if high then None else Some r) =
            step ∙ ap (λ b. if b then (if high then None else Some r) else Some (record r { register = shifted high r.register })) first in
            start high is at
        | inr later ↦
            let ge : bit_length r.rate ≤ r.age = ltb-false r.age (bit_length r.rate) later in
            let double : bit_length r.rate ≡ half_bit r.rate + half_bit r.rate = two_halves r.rate in
            let pos : 0 < half_bit r.rate = half_some r.rate in
            inr (
              shifted high r.register,
              step ∙ ap (λ b. if b then (if high then None else Some r) else Some (record r { register = shifted high r.register })) later,
              λ at. absurd (omega arith),
            )
      ]
  | inr not_there ↦ inr (
    r.register,
    ap (λ b. if b then with_sample high r else Some r) not_there,
    λ at. absurd (eqb-false (r.age % bit_length r.rate) (half_bit r.rate) not_there (modulo at)),
  )
]
  where
    start : (up : Bool) → sampled up r ≡ (if up then None else Some r) → r.age ≡ half_bit r.rate →
        ((sampled up r ≡ None) × (r.age ≡ half_bit r.rate) × (up ≡ true))
        ⊎ ((register : ℕ) × (sampled up r ≡ Some (record r { register = register })) × (r.age ≡ half_bit r.rate → up ≡ false))
    start true is at = inl (is, at, refl)
    start false is at = inr (r.register, is, λ same. refl)

    modulo : r.age ≡ half_bit r.rate → r.age % bit_length r.rate ≡ half_bit r.rate
    modulo at =
        let double : bit_length r.rate ≡ half_bit r.rate + half_bit r.rate = two_halves r.rate in
        let pos : 0 < half_bit r.rate = half_some r.rate in
        let lt : r.age < bit_length r.rate = omega arith in
        mod-eq_of_lt lt ∙ at

-- a reception that is under way as state t begins
pub record Runs (h : Driven) (t : ℕ) (r : Reception) : Type 0 where
  pub from : ℕ
  pub under : IsReceiving h (catches_of h) from t
  pub rate : r.rate ≡ rate_before h from
  pub age : from + suc r.age ≡ t
  pub only : (e : ℕ) → IsReceiving h (catches_of h) e t → e ≡ from

abbrev pub Receives : Driven → ℕ → Option Reception → Type 0
Receives h t None = (e : ℕ) → IsReceiving h (catches_of h) e t → ⊥
Receives h t (Some r) = Runs h t r

-- the first and the last sample of a reception
first_at : (h : Driven) (t : ℕ) (r : Reception) (u : Runs h t r) → sample_of h u.from 0 ≡ u.from + half_bit r.rate
first_at h t r u = ap (λ n. sample_state u.from n 0) (sym u.rate) ∙ omega arith

last_at : (h : Driven) (t : ℕ) (r : Reception) (u : Runs h t r) → sample_of h u.from 9 ≡ u.from + half_bit r.rate + 9 * bit_length r.rate
last_at h t r u = ap (λ n. sample_state u.from n 9) (sym u.rate)

module _ (h : Driven) (t : ℕ) where
  abbrev d : Serial
  d = port_at h t

  -- one that is under way in the next state was so before, or begins
  back : (e : ℕ) → IsReceiving h (catches_of h) e (suc t) → e < t → IsReceiving h (catches_of h) e t
  back e r lt = record {
    caught = r.caught;
    past = lt;
    within = let within : suc t ≤ sample_of h e 9 = r.within in omega arith;
    start_bit = λ past. r.start_bit (omega arith);
    allowed = (or_parts _ _ (sym (since_later (λ a. forbids a) h t e (omega arith)) ∙ r.allowed)).1;
  }

  -- where a reception is under way none begins
  caught_none : (r : Reception) → d.reception ≡ Some r → catches_of h t ≡ false
  caught_none r is = and_right (falls h t && receives d.control) (is_none d.reception) (ap (λ o. is_none o) is)

  not_caught : (r : Reception) → d.reception ≡ Some r → IsReceiving h (catches_of h) t (suc t) → ⊥
  not_caught r is under = false≢true (sym (caught_none r is) ∙ under.caught)

  allowed_on : (e : ℕ) → e ≤ t → list_any (λ a. forbids a) (h.accesses t) ≡ false → comes_since forbids e (log h t) ≡ false → comes_since forbids e (log h (suc t)) ≡ false
  allowed_on e le none before = since_later (λ a. forbids a) h t e le ∙ or_from _ _ none before

  allowed_now : (e : ℕ) → IsReceiving h (catches_of h) e (suc t) → list_any (λ a. forbids a) (h.accesses t) ≡ false
  allowed_now e r = (or_parts _ _ (sym (since_later (λ a. forbids a) h t e (let past : e < suc t = r.past in omega arith)) ∙ r.allowed)).0

  begun_runs : list_any (λ a. forbids a) (h.accesses t) ≡ false → (falls h t && receives d.control) ≡ true → d.reception ≡ None → Receives h t None →
      Runs h (suc t) (record { rate = d.rate; age = 0; register = 0 })
  begun_runs none begins is was =
      let pos : 0 < half_bit (rate_before h t) = half_some (rate_before h t) in
      record {
        from = t;
        under = record {
          caught = and_from _ _ begins (ap (λ o. is_none o) is);
          past = omega arith;
          within = omega arith;
          start_bit = λ past. absurd (omega arith);
          allowed = allowed_on t (omega arith) none (young h t t (omega arith) (λ a. forbids a));
        };
        rate = (registered_at h t).rate;
        age = omega arith;
        only = λ e r. elim (cases_eq e t) [
          | inl now ↦ now
          | inr other ↦ absurd (was e (back e r (let past : e < suc t = r.past in omega (arith, other))))
        ];
      }

  none_begins : (falls h t && receives d.control) ≡ false → Receives h t None → Receives h (suc t) None
  none_begins none was e r = elim (cases_eq e t) [
    | inl now ↦ false≢true (sym (and_left (falls h t && receives d.control) (is_none d.reception) none) ∙ ap (catches_of h) (sym now) ∙ r.caught)
    | inr other ↦ was e (back e r (let past : e < suc t = r.past in omega (arith, other)))
  ]

  module _ (r : Reception) (is : d.reception ≡ Some r) (u : Runs h t r) where
    same : (e : ℕ) → IsReceiving h (catches_of h) e (suc t) → e ≡ u.from
    same e later = elim (cases_eq e t) [
      | inl now ↦ absurd (not_caught r is (subst (λ n. IsReceiving h (catches_of h) n (suc t)) now later))
      | inr other ↦ u.only e (back e later (let past : e < suc t = later.past in omega (arith, other)))
    ]

    pub complete_at : is_complete r ≡ true → sample_of h u.from 9 ≡ t
    complete_at done =
        let least : 9 * bit_length r.rate + half_bit r.rate ≤ r.age + 1 = leb-true (9 * bit_length r.rate + half_bit r.rate) (r.age + 1) done in
        let age : u.from + suc r.age ≡ t = u.age in
        let last : sample_of h u.from 9 ≡ u.from + half_bit r.rate + 9 * bit_length r.rate = last_at h t r u in
        let most : t ≤ sample_of h u.from 9 = u.under.within in
        omega arith

    completed : is_complete r ≡ true → Receives h (suc t) None
    completed done e later =
        let last : sample_of h u.from 9 ≡ t = complete_at done in
        let here : e ≡ u.from = same e later in
        let most : suc t ≤ sample_of h e 9 = later.within in
        let at : sample_of h e 9 ≡ sample_of h u.from 9 = ap (λ n. sample_of h n 9) here in
        omega arith

    dropped : r.age + 1 ≡ half_bit r.rate → h.levels t ≡ true → Receives h (suc t) None
    dropped place high e later =
        let here : e ≡ u.from = same e later in
        let age : u.from + suc r.age ≡ t = u.age in
        let first : sample_of h u.from 0 ≡ u.from + half_bit r.rate = first_at h t r u in
        let at : sample_of h e 0 ≡ sample_of h u.from 0 = ap (λ n. sample_of h n 0) here in
        let now : sample_of h e 0 ≡ t = omega arith in
        false≢true (sym (later.start_bit (omega arith)) ∙ ap h.levels now ∙ high)

    goes_on : (register : ℕ) → list_any (λ a. forbids a) (h.accesses t) ≡ false → is_complete r ≡ false → (r.age + 1 ≡ half_bit r.rate → h.levels t ≡ false) →
        Runs h (suc t) (record { rate = r.rate; age = r.age + 1; register = register })
    goes_on register none on low =
        let most : r.age + 1 < 9 * bit_length r.rate + half_bit r.rate = leb-false (9 * bit_length r.rate + half_bit r.rate) (r.age + 1) on in
        let age : u.from + suc r.age ≡ t = u.age in
        let first : sample_of h u.from 0 ≡ u.from + half_bit r.rate = first_at h t r u in
        let last : sample_of h u.from 9 ≡ u.from + half_bit r.rate + 9 * bit_length r.rate = last_at h t r u in
        record {
          from = u.from;
          under = record {
            caught = u.under.caught;
            past = omega arith;
            within = omega arith;
            start_bit = λ past. elim (cases_eq (sample_of h u.from 0) t) [
              | inl now ↦ ap h.levels now ∙ low (omega arith)
              | inr before ↦ u.under.start_bit (omega (arith, before))
            ];
            allowed = allowed_on u.from (omega arith) none u.under.allowed;
          };
          rate = u.rate;
          age = omega arith;
          only = same;
        }

    next_runs : list_any (λ a. forbids a) (h.accesses t) ≡ false → (begins : Bool) → Receives h (suc t) (reception_after d.rate (h.levels t) begins (Some r))
    next_runs none begins = elim (cases_Bool (is_complete r)) [
      | inl done ↦
          subst (Receives h (suc t)) (sym (ap (λ b. if b then None else sampled (h.levels t) (record r { age = r.age + 1 })) done)) (completed done)
      | inr on ↦
          subst (Receives h (suc t)) (sym (ap (λ b. if b then None else sampled (h.levels t) (record r { age = r.age + 1 })) on))
          (elim (sampled_cases (h.levels t) (record r { age = r.age + 1 })) [
            | inl drops ↦ subst (Receives h (suc t)) (sym drops.0) (dropped drops.1 drops.2)
            | inr goes ↦ subst (Receives h (suc t)) (sym goes.1) (goes_on goes.0 none on goes.2)
          ])
    ]

  ticked_receives : (o : Option Reception) → d.reception ≡ o → Receives h t o → list_any (λ a. forbids a) (h.accesses t) ≡ false → (begins : Bool) → (falls h t && receives d.control) ≡ begins →
      Receives h (suc t) (reception_after d.rate (h.levels t) begins o)
  ticked_receives None is was none true begins = begun_runs none begins is was
  ticked_receives None is was none false begins = none_begins begins was
  ticked_receives (Some r) is u none true begins = next_runs r is u none true
  ticked_receives (Some r) is u none false begins = next_runs r is u none false

  abbrev after : Option Reception
  after = reception_after d.rate (h.levels t) (falls h t && receives d.control) d.reception

  next_receives : Receives h t d.reception → Receives h (suc t) (port_at h (suc t)).reception
  next_receives was =
      subst (Receives h (suc t)) (sym (reception_next h t))
      (elim (cases_Bool (list_any (λ a. forbids a) (h.accesses t))) [
        | inl ended ↦
            subst (Receives h (suc t)) (sym (ap (λ b. if b then None else after) ended))
            (λ e r. false≢true (sym (allowed_now e r) ∙ ended))
        | inr none ↦
            subst (Receives h (suc t)) (sym (ap (λ b. if b then None else after) none)) (ticked_receives d.reception refl was none (falls h t && receives d.control) refl)
      ])

pub receives_at : (h : Driven) (t : ℕ) → Receives h t (port_at h t).reception
unfolding port_at
receives_at h zero = λ e r. let past : e < 0 = r.past in absurd (omega arith)
receives_at h (suc t) = next_receives h t (receives_at h t)

-- a reception begins where none is under way
none_receiving : (h : Driven) (t : ℕ) (o : Option Reception) → is_none o ≡ true → Receives h t o → (e : ℕ) → IsReceiving h (catches_of h) e t → ⊥
none_receiving h t None none was = was
none_receiving h t (Some r) none was = absurd (false≢true none)

receiving_none : (h : Driven) (t : ℕ) (o : Option Reception) → ((e : ℕ) → IsReceiving h (catches_of h) e t → ⊥) → Receives h t o → is_none o ≡ true
receiving_none h t None none was = refl
receiving_none h t (Some r) none u = absurd (none u.from u.under)

pub falls_caught : FallsAreCaught
falls_caught h t =
    let control : (port_at h t).control ≡ control_before h t = (registered_at h t).control in (
      λ is.
          let all = and_parts (falls h t && receives (port_at h t).control) (is_none (port_at h t).reception) is in
          let both = and_parts (falls h t) (receives (port_at h t).control) all.0 in
          (both.0, sym (ap (λ n. receives n) control) ∙ both.1, none_receiving h t (port_at h t).reception all.1 (receives_at h t)),
      λ may.
          and_from _ _ (and_from (falls h t) (receives (port_at h t).control) may.0 (ap (λ n. receives n) control ∙ may.1))
          (receiving_none h t (port_at h t).reception may.2 (receives_at h t)),
    )

-- the port's reception completes where one completes
module _ (h : Driven) (t : ℕ) where
  complete_is : (o : Option Reception) → (port_at h t).reception ≡ o → Receives h t o → completes o ≡ true → IsCompletion h (catches_of h) t
  complete_is None is was done = absurd (false≢true done)
  complete_is (Some r) is u done = (u.from, record { under = u.under; last = complete_at h t r is u done })

  completion_is : (o : Option Reception) → (port_at h t).reception ≡ o → Receives h t o → IsCompletion h (catches_of h) t → completes o ≡ true
  completion_is None is was done = absurd (was done.0 done.1.under)
  completion_is (Some r) is u done =
      let here : done.0 ≡ u.from = u.only done.0 done.1.under in
      let last : sample_of h done.0 9 ≡ t = done.1.last in
      let at : sample_of h done.0 9 ≡ sample_of h u.from 9 = ap (λ n. sample_of h n 9) here in
      let place : sample_of h u.from 9 ≡ u.from + half_bit r.rate + 9 * bit_length r.rate = last_at h t r u in
      let age : u.from + suc r.age ≡ t = u.age in
      le-leb (9 * bit_length r.rate + half_bit r.rate) (r.age + 1) (omega arith)

pub completes_at : (h : Driven) (t : ℕ) → (completes (port_at h t).reception ≡ true → IsCompletion h (catches_of h) t) × (IsCompletion h (catches_of h) t → completes (port_at h t).reception ≡ true)
completes_at h t = (complete_is h t (port_at h t).reception refl (receives_at h t), completion_is h t (port_at h t).reception refl (receives_at h t))

-- one reception at most completes in a state
pub one_completes : (h : Driven) (t e f : ℕ) → IsReceiving h (catches_of h) e t → IsReceiving h (catches_of h) f t → e ≡ f
one_completes h t e f one two = by (port_at h t).reception (receives_at h t)
  where
    by : (o : Option Reception) → Receives h t o → e ≡ f
    by None none = absurd (none e one)
    by (Some r) u = u.only e one ∙ sym (u.only f two)

-- the byte that was received last
access_received : (t : ℕ) (d : Serial) (a : Access) → (accessed serial_further t d a).received ≡ d.received
access_received t d a = by (accessed serial_further t d a) (view t d a)
  where
    by : (e : Serial) → View a.value d e (is_write_of sbuf a) (is_write_of baud_rate a) (is_write_of sp_con a) (is_read_of sp_con a) → e.received ≡ d.received
    by e (OfByte byte rate control read is) = ap (λ x. x.received) is ∙ byte_same (λ x. x.received) (λ s w x. refl) a.value d
    by e (OfRate byte rate control read is) = ap (λ x. x.received) is
    by e (OfControl byte rate control read is) = ap (λ x. x.received) is
    by e (OfStatus byte rate control read is) = ap (λ x. x.received) is
    by e (OfOther byte rate control read is) = ap (λ x. x.received) is

received_next : (h : Driven) (t : ℕ) → (port_at h (suc t)).received ≡ received_after (port_at h t).received (port_at h t).reception
unfolding port_at log
received_next h t =
    fold_holds (λ accesses d. d.received ≡ received_after (port_at h t).received (port_at h t).reception) t (λ accesses d a was. access_received t d a ∙ was)
    (log h t) (ticked (h.levels t) (falls h t) (port_at h t)) (h.accesses t) refl

module _ (h : Driven) (t : ℕ) where
  -- where none completes the last one stays
  byte_stays : (byte : ℕ) → (IsCompletion h (catches_of h) t → ⊥) → IsLastByte h (catches_of h) t byte → IsLastByte h (catches_of h) (suc t) byte
  byte_stays byte none was = elim was [
    | inl found ↦ inl (
      found.0,
      found.1,
      record {
        completes = found.2.completes;
        past = let past : found.1 < t = found.2.past in omega arith;
        last = λ other later sooner is. elim (cases_eq other t) [
          | inl now ↦ none (subst (IsCompletion h (catches_of h)) now is)
          | inr before ↦ found.2.last other later (omega (arith, before)) is
        ];
      },
      found.3,
    )
    | inr nothing ↦ inr (
      λ c past is. elim (cases_eq c t) [
        | inl now ↦ none (subst (IsCompletion h (catches_of h)) now is)
        | inr before ↦ nothing.0 c (omega (arith, before)) is
      ],
      nothing.1,
    )
  ]

  -- the byte of one that completes
  byte_is : (r : Reception) → (port_at h t).reception ≡ Some r → (u : Runs h t r) → is_complete r ≡ true → r.register ≡ byte_of h u.from
  byte_is r is u done =
      let found : IsReceived h t r = bytes_are_samples h t r is done in
      let last : sample_state found.edge r.rate 9 ≡ t = found.last in
      let here : sample_of h u.from 9 ≡ t = complete_at h t r is u done in
      let place : sample_of h u.from 9 ≡ u.from + half_bit r.rate + 9 * bit_length r.rate = last_at h t r u in
      let edge : found.edge ≡ u.from = omega arith in
      found.byte ∙ ap (λ e. number_of (byte_levels h.levels e r.rate)) edge ∙ ap (λ n. number_of (byte_levels h.levels u.from n)) u.rate

  byte_next : (o : Option Reception) (byte : ℕ) → (port_at h t).reception ≡ o → Receives h t o → IsLastByte h (catches_of h) t byte → IsLastByte h (catches_of h) (suc t) (received_after byte o)
  byte_next None byte is none was = byte_stays byte (λ done. none done.0 done.1.under) was
  byte_next (Some r) byte is u was = elim (cases_Bool (is_complete r)) [
    | inl done ↦
        subst (IsLastByte h (catches_of h) (suc t)) (sym (ap (λ b. if b then r.register else byte) done))
        (inl (
          u.from,
          t,
          record {
            completes = record { under = u.under; last = complete_at h t r is u done };
            past = omega arith;
            last = λ other later sooner again. omega arith;
          },
          byte_is r is u done,
        ))
    | inr on ↦
        subst (IsLastByte h (catches_of h) (suc t)) (sym (ap (λ b. if b then r.register else byte) on))
        (byte_stays byte (λ done. false≢true (sym on ∙ completion_is h t (Some r) is u done)) was)
  ]

pub bytes_last : BytesAreLast
unfolding port_at
bytes_last h zero = inr (λ c past is. omega arith, refl)
bytes_last h (suc t) =
    subst (IsLastByte h (catches_of h) (suc t)) (sym (received_next h t)) (byte_next h t (port_at h t).reception (port_at h t).received refl (receives_at h t) (bytes_last h t))
