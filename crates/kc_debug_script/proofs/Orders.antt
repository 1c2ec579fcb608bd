-- The order of a line map, entry by entry, and what a binary search finds in it.
use Rattle.kc_base.specs.Limits.{image_start}
use Rattle.std.proofs.Common.{◌≡◌, ℕ, zero, suc, ◌-◌, ◌<◌, ◌≤◌, true, false, ◌&&◌, eqb, ltb, leb, Option, Some, None, List, [], ◌∷◌, ◌++◌, length, get_or, refl, sym, ap, ◌∙◌, arith}
use Rattle.std.specs.Prelude.{slice_get, All}
use Rattle.std.specs.List.Sorted.{IsNonDecreasingBy}
use Rattle.std.proofs.lemmas.List.Elements.{All-append}
use Rattle.std.proofs.lemmas.Bool.{ltb-true, lt-ltb, leb-true, le-leb, eq-eqb, ne_eqb, and_parts}
use Rattle.kc_debug_script.specs.declared.line_map.MapEntry.{MapEntry}
use Rattle.kc_debug_script.specs.LineMap.{entry_of, is_below, may_come, map_of, Rises, IsOrdered, entry_at}
use Rattle.kc_debug_script.specs.Laws.{MapsAreEntries}
use Rattle.kc_debug_script.proofs.Grammar.{IsRule, reads}

-- ---- the last entry

last : List MapEntry → Option MapEntry
last es = slice_get es (length es - 1)

last-same : (es : List MapEntry) → slice_get es (length es - 1) ≡ last es
unfolding last
last-same es = refl

last-none : last [] ≡ None
unfolding last
last-none = refl

last-one : (e : MapEntry) → last (e ∷ []) ≡ Some e
unfolding last
last-one e = refl

last-more : (e f : MapEntry) (es : List MapEntry) → last (e ∷ f ∷ es) ≡ last (f ∷ es)
unfolding last
last-more e f es =
    let outer : length (e ∷ f ∷ es) - 1 ≡ suc (length es) = omega arith in
    let inner : length (f ∷ es) - 1 ≡ length es = omega arith in
    ap (slice_get (e ∷ f ∷ es)) outer ∙ ap (slice_get (f ∷ es)) (sym inner)

-- ---- rising addresses

rises-push : (es : List MapEntry) (e : MapEntry) → Rises es → is_below e.addr (last es) ≡ true → Rises (es ++ e ∷ [])
rises-push [] e rises above = tt
rises-push (d ∷ []) e rises above = (ltb-true d.addr e.addr (ap (is_below e.addr) (sym (last-one d)) ∙ above), tt)
rises-push (d ∷ f ∷ es) e rises above = (rises.0, rises-push (f ∷ es) e rises.1 (ap (is_below e.addr) (sym (last-more d f es)) ∙ above))

rises-pull : (es : List MapEntry) (e : MapEntry) → Rises (es ++ e ∷ []) → is_below e.addr (last es) ≡ true
rises-pull [] e rises = ap (is_below e.addr) last-none
rises-pull (d ∷ []) e rises = ap (is_below e.addr) (last-one d) ∙ lt-ltb d.addr e.addr rises.0
rises-pull (d ∷ f ∷ es) e rises = ap (is_below e.addr) (last-more d f es) ∙ rises-pull (f ∷ es) e rises.1

rises-cut : (es more : List MapEntry) → Rises (es ++ more) → Rises es
rises-cut [] more rises = tt
rises-cut (d ∷ []) more rises = tt
rises-cut (d ∷ f ∷ es) more rises = (rises.0, rises-cut (f ∷ es) more rises.1)

rises-tail : (e : MapEntry) (es : List MapEntry) → Rises (e ∷ es) → Rises es
rises-tail e [] rises = tt
rises-tail e (f ∷ es) rises = rises.1

-- ---- a rule of each entry

one : (P : MapEntry → Type 0) (e : MapEntry) → P e → (k : ℕ) (d : MapEntry) → k < length (e ∷ []) → P (get_or (e ∷ []) k d)
one P e h zero d lt = h
one P e h (suc k) d lt = absurd (omega arith)

all-cut : (P : MapEntry → Type 0) (es more : List MapEntry) → All P (es ++ more) → (k : ℕ) (d : MapEntry) → k < length es → P (get_or es k d)
all-cut P [] more all k d lt = absurd (omega arith)
all-cut P (e ∷ es) more all zero d lt = all zero d (omega arith)
all-cut P (e ∷ es) more all (suc k) d lt = all-cut P es more (λ j b less. all (suc j) b (omega arith)) k d (omega arith)

all-last : (P : MapEntry → Type 0) (es : List MapEntry) (e : MapEntry) → All P (es ++ e ∷ []) → P e
all-last P [] e all = all 0 e (omega arith)
all-last P (d ∷ es) e all = all-last P es e (λ j b less. all (suc j) b (omega arith))

-- ---- the order of a map

pub ordered_none : IsOrdered []
ordered_none = record { high = λ k d lt. absurd (omega arith); rises = tt }

pub ordered_push : (es : List MapEntry) (e : MapEntry) → IsOrdered es → may_come es e ≡ true → IsOrdered (es ++ e ∷ [])
ordered_push es e ordered may =
    let both = and_parts (leb image_start e.addr) (is_below e.addr (slice_get es (length es - 1))) may in
    record {
      high = All-append (λ x. image_start ≤ x.addr) es (e ∷ []) ordered.high (one (λ x. image_start ≤ x.addr) e (leb-true image_start e.addr both.0));
      rises = rises-push es e ordered.rises (ap (is_below e.addr) (sym (last-same es)) ∙ both.1);
    }

pull : (es : List MapEntry) (e : MapEntry) → IsOrdered (es ++ e ∷ []) → may_come es e ≡ true
pull es e ordered =
    let high : leb image_start e.addr ≡ true = le-leb image_start e.addr (all-last (λ x. image_start ≤ x.addr) es e ordered.high) in
    ap (λ b. b && is_below e.addr (slice_get es (length es - 1))) high ∙ ap (is_below e.addr) (last-same es) ∙ rises-pull es e ordered.rises

orders : IsRule may_come IsOrdered
orders = record {
  none = ordered_none;
  push = ordered_push;
  pull = pull;
  cut = λ es more ordered. record { high = all-cut (λ x. image_start ≤ x.addr) es more ordered.high; rises = rises-cut es more ordered.rises };
}

pub maps_are_entries : MapsAreEntries
maps_are_entries = reads entry_of may_come IsOrdered orders map_of (λ text. refl)

-- ---- finding

-- the first address of rising ones is the least
rises-least : (e : MapEntry) (es : List MapEntry) (j : ℕ) (d : MapEntry) → Rises (e ∷ es) → j < length (e ∷ es) → e.addr ≤ (get_or (e ∷ es) j d).addr
rises-least e es zero d rises lt = omega arith
rises-least e [] (suc j) d rises lt = absurd (omega arith)
rises-least e (f ∷ es) (suc j) d rises lt =
    let next : f.addr ≤ (get_or (f ∷ es) j d).addr = rises-least f es j d rises.1 (omega arith) in
    let first : e.addr < f.addr = rises.0 in
    omega arith

rises-order : (es : List MapEntry) → Rises es → (i j : ℕ) (d : MapEntry) → i ≤ j → j < length es → (get_or es i d).addr ≤ (get_or es j d).addr
rises-order [] rises i j d le lt = absurd (omega arith)
rises-order (e ∷ es) rises zero j d le lt = rises-least e es j d rises lt
rises-order (e ∷ es) rises (suc i) zero d le lt = absurd (omega arith)
rises-order (e ∷ es) rises (suc i) (suc j) d le lt = rises-order es (rises-tail e es rises) i j d (omega arith) (omega arith)

pub ordered_by : (es : List MapEntry) → Rises es → IsNonDecreasingBy (λ e. e.addr) es
ordered_by es rises = rises-order es rises

-- where the search ended at an entry of the address
pub found : (es : List MapEntry) (addr n : ℕ) (d : MapEntry) → ((k : ℕ) (b : MapEntry) → k < n → k < length es → ltb (get_or es k b).addr addr ≡ true) →
    n < length es → (get_or es n d).addr ≡ addr → entry_at es addr ≡ Some (get_or es n d)
found [] addr n d low lt is = absurd (omega arith)
found (e ∷ es) addr zero d low lt is = let same : eqb e.addr addr ≡ true = eq-eqb e.addr addr is in rw same refl
found (e ∷ es) addr (suc n) d low lt is =
    let less : e.addr < addr = ltb-true e.addr addr (low zero e (omega arith) (omega arith)) in
    let other : eqb e.addr addr ≡ false = ne_eqb e.addr addr (λ same. omega arith) in
    rw other (found es addr n d (λ k b below within. low (suc k) b (omega arith) (omega arith)) (omega arith) is)

none-above : (e : MapEntry) (es : List MapEntry) (addr : ℕ) → Rises (e ∷ es) → addr < e.addr → entry_at (e ∷ es) addr ≡ None
none-above e [] addr rises lt = let other : eqb e.addr addr ≡ false = ne_eqb e.addr addr (λ same. omega arith) in rw other refl
none-above e (f ∷ es) addr rises lt =
    let other : eqb e.addr addr ≡ false = ne_eqb e.addr addr (λ same. omega arith) in
    let next : e.addr < f.addr = rises.0 in
    rw other (none-above f es addr rises.1 (omega arith))

-- where it ended at another entry, or behind all of them
pub lost : (es : List MapEntry) (addr n : ℕ) → Rises es → ((k : ℕ) (b : MapEntry) → k < n → k < length es → ltb (get_or es k b).addr addr ≡ true) →
    ((d : MapEntry) → n < length es → addr < (get_or es n d).addr) → entry_at es addr ≡ None
lost [] addr n rises low above = refl
lost (e ∷ es) addr zero rises low above = none-above e es addr rises (above e (omega arith))
lost (e ∷ es) addr (suc n) rises low above =
    let less : e.addr < addr = ltb-true e.addr addr (low zero e (omega arith) (omega arith)) in
    let other : eqb e.addr addr ≡ false = ne_eqb e.addr addr (λ same. omega arith) in
    rw other (lost es addr n (rises-tail e es rises) (λ k b below within. low (suc k) b (omega arith) (omega arith)) (λ d within. above d (omega arith)))
