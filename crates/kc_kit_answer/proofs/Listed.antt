-- How far a listing has come.
use Rattle.std.proofs.Common.{◌≡◌, ℕ, zero, suc, ◌+◌, ◌-◌, ◌<◌, ◌≤◌, true, false, List, [], ◌++◌, refl, sym, ◌∙◌, ap, subst, arith}
use Rattle.std.specs.Prelude.{nat_le}
use Rattle.std.proofs.lemmas.Bool.Decides.{nat_tests}
use Rattle.std.proofs.lemmas.List.{append-nil, append_assoc}
use Rattle.kc_trace.specs.Out.{Out, Puts}
use Rattle.kc_trace.proofs.Outs.{Puts-append, Puts-nothing}
use Rattle.kc_code.specs.Listing.{listing, lines_from, line_at, next_after}

-- some lines of the listing are put, and the rest stands from an address on
pub record IsListed (image : List ℕ) (first last at : ℕ) (old now : Out) : Type 0 where
  pub low : 0x2000 ≤ at
  pub high : at ≤ 65536
  pub done : List ℕ
  pub fuel : ℕ
  pub whole : listing image first last ≡ done ++ lines_from fuel image at last
  pub enough : last + 1 ≤ at + fuel
  pub put : Puts old done now

-- past the last address nothing is left
pub lines_past : (fuel : ℕ) (image : List ℕ) (at last : ℕ) → last < at → lines_from fuel image at last ≡ []
unfolding lines_from
lines_past zero image at last past = refl
lines_past (suc n) image at last past =
    let over : nat_le at last ≡ false = grind (arith, nat_tests) in
    rw over refl

pub lines_next : (n : ℕ) (image : List ℕ) (at last : ℕ) → at ≤ last → lines_from (suc n) image at last ≡ line_at image at ++ lines_from n image (next_after image at) last
unfolding lines_from
lines_next n image at last within =
    let under : nat_le at last ≡ true = grind (arith, nat_tests) in
    rw under refl

-- nothing is put yet
pub IsListed-start : (image : List ℕ) (first last : ℕ) (now : Out) → 0x2000 ≤ first → first ≤ last → last < 65536 → IsListed image first last first now now
IsListed-start image first last now low order within = record {
  low = low;
  high = omega arith;
  done = [];
  fuel = last + 1 - first;
  whole = refl;
  enough = omega arith;
  put = Puts-nothing now;
}

-- one line more is put
pub IsListed-next : (image : List ℕ) (first last at next : ℕ) (old mid now : Out) → at ≤ last → next ≡ next_after image at → at + 1 ≤ next → next ≤ 65536 →
    (text : List ℕ) → text ≡ line_at image at → Puts mid text now → IsListed image first last at old mid → IsListed image first last next old now
IsListed-next image first last at next old mid now within e more high text said put h = by_fuel h.fuel refl
  where
    line : Puts mid (line_at image at) now
    line = subst (λ t. Puts mid t now) said put

    by_fuel : (fuel : ℕ) → h.fuel ≡ fuel → IsListed image first last next old now
    by_fuel zero f = absurd (omega (arith, h.enough, f, within))
    by_fuel (suc n) f = record {
      low = omega (arith, h.low, more);
      high = high;
      done = h.done ++ line_at image at;
      fuel = n;
      whole = h.whole ∙ ap (λ k. h.done ++ lines_from k image at last) f ∙ ap (λ rest. h.done ++ rest) (lines_next n image at last within)
          ∙ sym (append_assoc h.done (line_at image at) (lines_from n image (next_after image at) last))
          ∙ ap (λ a. (h.done ++ line_at image at) ++ lines_from n image a last) (sym e);
      enough = omega (arith, h.enough, f, more);
      put = Puts-append old h.done mid (line_at image at) now h.put line;
    }

-- all lines are put
pub IsListed-whole : (image : List ℕ) (first last at : ℕ) (old now : Out) → last < at → IsListed image first last at old now → Puts old (listing image first last) now
IsListed-whole image first last at old now past h =
    subst (λ text. Puts old text now) (sym (h.whole ∙ ap (λ rest. h.done ++ rest) (lines_past h.fuel image at last past) ∙ append-nil h.done)) h.put
