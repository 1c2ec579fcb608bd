-- The register that a search of a table finds is the one that its list of registers has at that address.
use Rattle.std.proofs.Common.{◌≡◌, ℕ, ◌==◌, Bool, true, false, ◌&&◌, if◌then◌else◌, refl, sym, ◌∙◌, subst, Option, Some, None, List, [], ◌∷◌, ◌++◌}
use Rattle.std.specs.Prelude.{not, find, cond}
use Rattle.std.specs.List.{cons_option, list_all}
use Rattle.std.specs.Option.{option_and_then, option_or, option_map}
use Rattle.std.proofs.lemmas.Bool.{eqb-true}
use Rattle.kc_block_spec.specs.declared.table.Uses.{Uses}
use Rattle.kc_block_spec.specs.declared.table.Register.{Register}
use Rattle.kc_block_spec.specs.declared.table.TheConstants.{EVERYWHERE}
use Rattle.kc_block_spec.specs.declared.registers.Window.{Window}
use Rattle.kc_block_spec.specs.declared.registers.Window.TheVariants.{Window0, Window1, Window15}
use Rattle.kc_block_spec.specs.Registers.{row_at, own_registers, registers, uses_in, uses_at, byte_read_by, byte_written_by, word_read_by, word_written_by, that_have, bytes_read, bytes_read_everywhere, bytes_written, bytes_written_everywhere, words_read, words_written}

-- a table after another
pub uses_after : (first second : List Register) (addr : ℕ) → uses_in (first ++ second) addr ≡ option_or (uses_in first addr) (uses_in second addr)
unfolding uses_in
uses_after [] second addr = refl
uses_after (r ∷ first) second addr = by (addr == r.address) (uses_after first second addr)
  where
    by : (here : Bool) → uses_in (first ++ second) addr ≡ option_or (uses_in first addr) (uses_in second addr) →
        option_map (λ r. r.uses) (cond here (Some r) (find (λ r. addr == r.address) (first ++ second)))
        ≡ option_or (option_map (λ r. r.uses) (cond here (Some r) (find (λ r. addr == r.address) first))) (uses_in second addr)
    by true rest = refl
    by false rest = rest

-- no register of a table stands at an address, and no two at the same
abbrev pub leaves : ℕ → List Register → Bool
leaves addr table = list_all (λ r. not (addr == r.address)) table

abbrev pub are_apart : List Register → Bool
are_apart [] = true
are_apart (r ∷ table) = leaves r.address table && are_apart table

both : (a b : Bool) → (a && b) ≡ true → (a ≡ true) × (b ≡ true)
both true b h = (refl, h)
both false b h = absurd (cc h)

module _ {R : Type 0} (part : Uses → Option R) where
  none_left : (table : List Register) (addr : ℕ) → leaves addr table ≡ true → row_at (that_have part table) addr ≡ None
  none_left [] addr h = refl
  none_left (r ∷ table) addr h = by (part r.uses) (addr == r.address) refl (both _ _ h).0 (none_left table addr (both _ _ h).1)
    where
      by : (used : Option R) (here : Bool) → (addr == r.address) ≡ here → not here ≡ true → row_at (that_have part table) addr ≡ None →
          row_at (cons_option (option_map (λ used. (r.address, used)) used) (that_have part table)) addr ≡ None
      by None here e h rest = rest
      by (Some used) true e h rest = absurd (cc h)
      by (Some used) false e h rest = rw e rest

  pub found_is_row : (table : List Register) (addr : ℕ) → are_apart table ≡ true → row_at (that_have part table) addr ≡ option_and_then part (uses_in table addr)
  unfolding uses_in
  found_is_row [] addr h = refl
  found_is_row (r ∷ table) addr h =
      by (part r.uses) (addr == r.address) refl refl
      (λ here. none_left table addr (subst (λ a. leaves a table ≡ true) (sym (eqb-true addr r.address here)) (both _ _ h).0))
      (found_is_row table addr (both _ _ h).1)
    where
      by : (used : Option R) (here : Bool) → part r.uses ≡ used → (addr == r.address) ≡ here → ((addr == r.address) ≡ true → row_at (that_have part table) addr ≡ None) →
          row_at (that_have part table) addr ≡ option_and_then part (uses_in table addr) → row_at (that_have part (r ∷ table)) addr ≡ option_and_then part (uses_in (r ∷ table) addr)
      by None true e h gone rest = rw (e, h) (gone h ∙ sym e)
      by None false e h gone rest = rw (e, h) rest
      by (Some used) true e h gone rest = rw (e, h) (sym e)
      by (Some used) false e h gone rest = rw (e, h) rest

window_apart : (w : Window) → are_apart (registers w) ≡ true
unfolding registers
window_apart Window0 = refl
window_apart Window1 = refl
window_apart Window15 = refl

pub bytes_read_at : (w : Window) (addr : ℕ) → row_at (bytes_read w) addr ≡ option_and_then byte_read_by (uses_at w addr)
unfolding bytes_read uses_at
bytes_read_at w addr = found_is_row byte_read_by (registers w) addr (window_apart w)

pub bytes_written_at : (w : Window) (addr : ℕ) → row_at (bytes_written w) addr ≡ option_and_then byte_written_by (uses_at w addr)
unfolding bytes_written uses_at
bytes_written_at w addr = found_is_row byte_written_by (registers w) addr (window_apart w)

pub words_read_at : (w : Window) (addr : ℕ) → row_at (words_read w) addr ≡ option_and_then word_read_by (uses_at w addr)
unfolding words_read uses_at
words_read_at w addr = found_is_row word_read_by (registers w) addr (window_apart w)

pub words_written_at : (w : Window) (addr : ℕ) → row_at (words_written w) addr ≡ option_and_then word_written_by (uses_at w addr)
unfolding words_written uses_at
words_written_at w addr = found_is_row word_written_by (registers w) addr (window_apart w)

pub everywhere_read_at : (addr : ℕ) → row_at bytes_read_everywhere addr ≡ option_and_then byte_read_by (uses_in EVERYWHERE addr)
unfolding bytes_read_everywhere
everywhere_read_at addr = found_is_row byte_read_by EVERYWHERE addr refl

pub everywhere_written_at : (addr : ℕ) → row_at bytes_written_everywhere addr ≡ option_and_then byte_written_by (uses_in EVERYWHERE addr)
unfolding bytes_written_everywhere
everywhere_written_at addr = found_is_row byte_written_by EVERYWHERE addr refl

-- where no register of two tables stands at an address, none of the second does
none_behind : {R : Type 0} (part : Uses → Option R) (first second : List Register) (addr : ℕ) → row_at (that_have part (first ++ second)) addr ≡ None → row_at (that_have part second) addr ≡ None
none_behind part [] second addr none = none
none_behind {R = R} part (r ∷ first) second addr none = none_behind part first second addr (by (part r.uses) none)
  where
    past : (here : Bool) (used : R) (rest : Option R) → (if here then Some used else rest) ≡ None → rest ≡ None
    past true used rest e = absurd (cc e)
    past false used rest e = e

    by : (used : Option R) → row_at (cons_option (option_map (λ used. (r.address, used)) used) (that_have part (first ++ second))) addr ≡ None → row_at (that_have part (first ++ second)) addr ≡ None
    by None e = e
    by (Some used) e = past (addr == r.address) used (row_at (that_have part (first ++ second)) addr) e

pub not_read_everywhere : (w : Window) (addr : ℕ) → row_at (bytes_read w) addr ≡ None → row_at bytes_read_everywhere addr ≡ None
unfolding bytes_read bytes_read_everywhere registers
not_read_everywhere w addr none = none_behind byte_read_by (own_registers w) EVERYWHERE addr none

pub not_written_everywhere : (w : Window) (addr : ℕ) → row_at (bytes_written w) addr ≡ None → row_at bytes_written_everywhere addr ≡ None
unfolding bytes_written bytes_written_everywhere registers
not_written_everywhere w addr none = none_behind byte_written_by (own_registers w) EVERYWHERE addr none
