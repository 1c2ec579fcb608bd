-- A distance is at most a time where it is at most its whole part and the states in its rest.
use Rattle.std.proofs.Common.{◌≡◌, ℕ, ◌+◌, ◌*◌, ◌/◌, ◌≤◌, ◌<◌, leb, sym, ap, ◌∙◌, inl, inr, arith}
use Rattle.std.proofs.lemmas.Bool.{cases_lt, le-leb, lt-leb}
use Rattle.kc_rules.specs.Amounts.{parts_in_state}

near_by_parts : (size whole rest : ℕ) → leb (parts_in_state * size) (whole * parts_in_state + rest) ≡ leb size (whole + rest / parts_in_state)
near_by_parts size whole rest = elim (cases_lt (whole + rest / parts_in_state) size) [
  | inl far ↦
      let less : whole * parts_in_state + rest < parts_in_state * size = omega arith in
      lt-leb (parts_in_state * size) (whole * parts_in_state + rest) less ∙ sym (lt-leb size (whole + rest / parts_in_state) far)
  | inr near ↦
      let most : parts_in_state * size ≤ whole * parts_in_state + rest = omega arith in
      le-leb (parts_in_state * size) (whole * parts_in_state + rest) most ∙ sym (le-leb size (whole + rest / parts_in_state) near)
]

pub near_in_time : (den states parts size : ℕ) →
    leb (parts_in_state * size) (den * (states * parts_in_state + parts)) ≡ leb size (den * states + den * parts / parts_in_state)
near_in_time den states parts size =
    let apart : den * (states * parts_in_state + parts) ≡ den * states * parts_in_state + den * parts = grind arith in
    ap (λ n. leb (parts_in_state * size) n) apart ∙ near_by_parts size (den * states) (den * parts)
