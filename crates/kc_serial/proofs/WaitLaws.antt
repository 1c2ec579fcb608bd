-- Bytes that are written, and the one that waits.
use Rattle.std.proofs.Common.{◌≡◌, ℕ, suc, ◌==◌, Bool, true, false, not, ◌&&◌, ◌⊎◌, refl, sym, ◌∙◌, ap, subst, arith, inl, inr, List, [], ◌∷◌, ◌++◌}
use Rattle.std.specs.Prelude.{if◌then◌else◌}
use Rattle.std.specs.List.{list_any}
use Rattle.std.proofs.lemmas.Bool.{cases_Bool, and_parts, and_right, and_from, or_parts, or_from, or_left, or_right, eqb-true, eq-eqb, false≢true}
use Rattle.kc_extra.specs.Histories.{Access}
use Rattle.kc_serial.specs.Port.{is_on}
use Rattle.kc_serial.specs.Registers.{sbuf, sp_con}
use Rattle.kc_serial.specs.History.{Driven}
use Rattle.kc_serial.specs.Accesses.{Done, is_write_of, control_after}
use Rattle.kc_serial.specs.Schedules.{Frames, IsFree, is_given, IsGiven, gives_in, replaces, Waits}
use Rattle.kc_serial.proofs.AccessLaws.{head_same, tail_same}

abbrev pub done : ℕ → Access → Done
done t a = record { at = t; access = a }

pub given_on : (x : Done) (accesses since earlier : List Done) (w byte : ℕ) → IsGiven accesses since earlier w byte → IsGiven (x ∷ accesses) (x ∷ since) earlier w byte
given_on x accesses since earlier w byte g = record { access = g.access; place = ap (λ l. x ∷ l) g.place; given = g.given; value = g.value }

pub given_back : (x y : Done) (accesses since earlier : List Done) (w byte : ℕ) → IsGiven (x ∷ accesses) (y ∷ since) earlier w byte → IsGiven accesses since earlier w byte
given_back x y accesses since earlier w byte g = record {
  access = g.access;
  place = tail_same x y accesses (since ++ (done w g.access ∷ earlier)) g.place;
  given = g.given;
  value = g.value;
}

-- a byte that is the last access of all
pub given_now : (t : ℕ) (a : Access) (accesses earlier : List Done) (w byte : ℕ) → IsGiven (done t a ∷ accesses) [] earlier w byte →
    (is_given accesses a ≡ true) × (accesses ≡ earlier) × (t ≡ w) × (a.value ≡ byte)
given_now t a accesses earlier w byte g =
    let head : done t a ≡ done w g.access = head_same (done t a) (done w g.access) accesses earlier g.place in
    let tail : accesses ≡ earlier = tail_same (done t a) (done w g.access) accesses earlier g.place in (
      ap (λ l. is_given l a) tail ∙ ap (λ d. is_given earlier d.access) head ∙ g.given,
      tail,
      ap (λ d. d.at) head,
      ap (λ d. d.access.value) head ∙ g.value,
    )

pub given_last : (t : ℕ) (a : Access) (accesses : List Done) → is_given accesses a ≡ true → IsGiven (done t a ∷ accesses) [] accesses t a.value
given_last t a accesses given = record { access = a; place = refl; given = given; value = refl }

pub gives_at : (accesses since earlier : List Done) (w byte : ℕ) → IsGiven accesses since earlier w byte → gives_in w accesses ≡ true
gives_at accesses since earlier w byte g = ap (gives_in w) g.place ∙ by since
  where
    by : (s : List Done) → gives_in w (s ++ (done w g.access ∷ earlier)) ≡ true
    by [] = or_left _ _ (and_from (w == w) (is_given earlier g.access) (eq-eqb w w refl) g.given)
    by (x ∷ s) = or_right ((x.at == w) && is_given (s ++ (done w g.access ∷ earlier)) x.access) _ (by s)

-- a state has one first byte
pub one_first : (accesses s1 r1 s2 r2 : List Done) (w b1 b2 : ℕ) → IsGiven accesses s1 r1 w b1 → gives_in w r1 ≡ false → IsGiven accesses s2 r2 w b2 → gives_in w r2 ≡ false → b1 ≡ b2
one_first [] [] r1 s2 r2 w b1 b2 g1 n1 g2 n2 = let place = g1.place in absurd (cc)
one_first [] (x ∷ s1) r1 s2 r2 w b1 b2 g1 n1 g2 n2 = let place = g1.place in absurd (cc)
one_first (d ∷ accesses) [] r1 [] r2 w b1 b2 g1 n1 g2 n2 =
    sym (given_now d.at d.access accesses r1 w b1 g1).3 ∙ (given_now d.at d.access accesses r2 w b2 g2).3
one_first (d ∷ accesses) [] r1 (y ∷ s2) r2 w b1 b2 g1 n1 g2 n2 =
    let rest : accesses ≡ r1 = (given_now d.at d.access accesses r1 w b1 g1).1 in
    absurd (false≢true (sym n1 ∙ ap (gives_in w) (sym rest) ∙ gives_at accesses s2 r2 w b2 (given_back d y accesses s2 r2 w b2 g2)))
one_first (d ∷ accesses) (x ∷ s1) r1 [] r2 w b1 b2 g1 n1 g2 n2 =
    let rest : accesses ≡ r2 = (given_now d.at d.access accesses r2 w b2 g2).1 in
    absurd (false≢true (sym n2 ∙ ap (gives_in w) (sym rest) ∙ gives_at accesses s1 r1 w b1 (given_back d x accesses s1 r1 w b1 g1)))
one_first (d ∷ accesses) (x ∷ s1) r1 (y ∷ s2) r2 w b1 b2 g1 n1 g2 n2 =
    one_first accesses s1 r1 s2 r2 w b1 b2 (given_back d x accesses s1 r1 w b1 g1) n1 (given_back d y accesses s2 r2 w b2 g2) n2

-- a byte replaces what waits
pub given_replaces : (earlier : List Done) (a : Access) → is_given earlier a ≡ true → replaces a ≡ true
given_replaces earlier a given = or_left (is_write_of sbuf a) _ (and_parts (is_write_of sbuf a) (is_on (control_after earlier)) given).0

kept_head : (x y : Done) (accesses since earlier : List Done) (w byte : ℕ) → IsGiven (x ∷ accesses) (y ∷ since) earlier w byte →
    list_any (λ d. replaces d.access) (y ∷ since) ≡ false → replaces x.access ≡ false
kept_head x y accesses since earlier w byte g kept =
    let head : x ≡ y = head_same x y accesses (since ++ (done w g.access ∷ earlier)) g.place in
    ap (λ d. replaces d.access) head ∙ (or_parts (replaces y.access) (list_any (λ d. replaces d.access) since) kept).0

kept_tail : (y : Done) (since : List Done) → list_any (λ d. replaces d.access) (y ∷ since) ≡ false → list_any (λ d. replaces d.access) since ≡ false
kept_tail y since kept = (or_parts (replaces y.access) (list_any (λ d. replaces d.access) since) kept).1

-- one byte at most is replaced by none
pub one_kept : (accesses s1 r1 s2 r2 : List Done) (w1 w2 b1 b2 : ℕ) → IsGiven accesses s1 r1 w1 b1 → list_any (λ d. replaces d.access) s1 ≡ false →
    IsGiven accesses s2 r2 w2 b2 → list_any (λ d. replaces d.access) s2 ≡ false → b1 ≡ b2
one_kept [] [] r1 s2 r2 w1 w2 b1 b2 g1 k1 g2 k2 = let place = g1.place in absurd (cc)
one_kept [] (x ∷ s1) r1 s2 r2 w1 w2 b1 b2 g1 k1 g2 k2 = let place = g1.place in absurd (cc)
one_kept (d ∷ accesses) [] r1 [] r2 w1 w2 b1 b2 g1 k1 g2 k2 =
    sym (given_now d.at d.access accesses r1 w1 b1 g1).3 ∙ (given_now d.at d.access accesses r2 w2 b2 g2).3
one_kept (d ∷ accesses) [] r1 (y ∷ s2) r2 w1 w2 b1 b2 g1 k1 g2 k2 =
    absurd (false≢true (sym (kept_head d y accesses s2 r2 w2 b2 g2 k2) ∙ given_replaces accesses d.access (given_now d.at d.access accesses r1 w1 b1 g1).0))
one_kept (d ∷ accesses) (x ∷ s1) r1 [] r2 w1 w2 b1 b2 g1 k1 g2 k2 =
    absurd (false≢true (sym (kept_head d x accesses s1 r1 w1 b1 g1 k1) ∙ given_replaces accesses d.access (given_now d.at d.access accesses r2 w2 b2 g2).0))
one_kept (d ∷ accesses) (x ∷ s1) r1 (y ∷ s2) r2 w1 w2 b1 b2 g1 k1 g2 k2 =
    one_kept accesses s1 r1 s2 r2 w1 w2 b1 b2 (given_back d x accesses s1 r1 w1 b1 g1) (kept_tail x s1 k1) (given_back d y accesses s2 r2 w2 b2 g2) (kept_tail y s2 k2)

-- while a byte waits the port is on
off_replaces : (a : Access) → replaces a ≡ false → is_write_of sp_con a ≡ true → is_on a.value ≡ true
off_replaces a kept is = by (is_on a.value) (ap (λ w. w && not (is_on a.value)) (sym is) ∙ (or_parts (is_write_of sbuf a) (is_write_of sp_con a && not (is_on a.value)) kept).1)
  where
    by : (on : Bool) → not on ≡ false → on ≡ true
    by true e = refl
    by false e = sym e

pub kept_on : (accesses since earlier : List Done) (w byte : ℕ) → IsGiven accesses since earlier w byte → list_any (λ d. replaces d.access) since ≡ false →
    is_on (control_after accesses) ≡ true
kept_on [] [] earlier w byte g kept = let place = g.place in absurd (cc)
kept_on [] (x ∷ since) earlier w byte g kept = let place = g.place in absurd (cc)
kept_on (d ∷ accesses) [] earlier w byte g kept =
    let now = given_now d.at d.access accesses earlier w byte g in
    let both = and_parts (is_write_of sbuf d.access) (is_on (control_after accesses)) now.0 in
    ap (λ b. is_on (if b then d.access.value else control_after accesses)) (other d.access both.0) ∙ both.1
  where
    other : (a : Access) → is_write_of sbuf a ≡ true → is_write_of sp_con a ≡ false
    other a is =
        let parts = and_parts a.is_write ((a.window == 0) && (a.sfr == sbuf)) is in
        let more = and_parts (a.window == 0) (a.sfr == sbuf) parts.1 in
        and_right a.is_write _ (and_right (a.window == 0) _ (ap (λ n. n == sp_con) (eqb-true a.sfr sbuf more.1)))
kept_on (d ∷ accesses) (x ∷ since) earlier w byte g kept =
    let before : is_on (control_after accesses) ≡ true = kept_on accesses since earlier w byte (given_back d x accesses since earlier w byte g) (kept_tail x since kept) in
    let same : replaces d.access ≡ false = kept_head d x accesses since earlier w byte g kept in
    elim (cases_Bool (is_write_of sp_con d.access)) [
      | inl is ↦ ap (λ b. is_on (if b then d.access.value else control_after accesses)) is ∙ off_replaces d.access same is
      | inr not_control ↦ ap (λ b. is_on (if b then d.access.value else control_after accesses)) not_control ∙ before
    ]

-- the byte that waits, an access later
module _ (h : Driven) (frames : Frames) (t : ℕ) where
  -- one that is written now
  pub now_waits : (accesses : List Done) (a : Access) → is_given accesses a ≡ true → (gives_in t accesses ≡ false → IsFree h frames t → ⊥) →
      Waits h frames (done t a ∷ accesses) (suc t) a.value
  now_waits accesses a given behind = record {
    written = t;
    since = [];
    earlier = accesses;
    given = given_last t a accesses given;
    behind = behind;
    kept = refl;
    still = λ e later sooner ends. omega arith;
  }

  pub waits_on : (n : ℕ) (accesses : List Done) (a : Access) (byte : ℕ) → replaces a ≡ false → Waits h frames accesses n byte → Waits h frames (done t a ∷ accesses) n byte
  waits_on n accesses a byte keeps w = record {
    written = w.written;
    since = done t a ∷ w.since;
    earlier = w.earlier;
    given = given_on (done t a) accesses w.since w.earlier w.written byte w.given;
    behind = w.behind;
    kept = or_from (replaces a) _ keeps w.kept;
    still = w.still;
  }

  -- one that waits behind an access was written before it, or by it
  pub waits_split : (n : ℕ) (accesses : List Done) (a : Access) (byte : ℕ) → Waits h frames (done t a ∷ accesses) n byte →
      ((is_given accesses a ≡ true) × (gives_in t accesses ≡ false → IsFree h frames t → ⊥)) ⊎ ((replaces a ≡ false) × Waits h frames accesses n byte)
  waits_split n accesses a byte w = by w.since w.given w.kept
    where
      by : (since : List Done) → IsGiven (done t a ∷ accesses) since w.earlier w.written byte → list_any (λ d. replaces d.access) since ≡ false →
          ((is_given accesses a ≡ true) × (gives_in t accesses ≡ false → IsFree h frames t → ⊥)) ⊎ ((replaces a ≡ false) × Waits h frames accesses n byte)
      by [] g kept =
          let now = given_now t a accesses w.earlier w.written byte g in
          inl (
            now.0,
            λ none free. w.behind
                (ap (λ l. gives_in w.written l) (sym now.1) ∙ ap (λ n. gives_in n accesses) (sym now.2) ∙ none)
                (subst (IsFree h frames) now.2 free),
          )
      by (x ∷ since) g kept = inr (
        kept_head (done t a) x accesses since w.earlier w.written byte g kept,
        record {
          written = w.written;
          since = since;
          earlier = w.earlier;
          given = given_back (done t a) x accesses since w.earlier w.written byte g;
          behind = w.behind;
          kept = kept_tail x since kept;
          still = w.still;
        },
      )
