-- Places put one after the other.
use Rattle.std.proofs.Common.{◌≡◌, ℕ, ◌+◌, ◌-◌, Bool, true, false, not, ◌&&◌, ◌||◌, cond, Bor, List, [], ◌∷◌, ◌++◌, length, length-append, Option, Some, None, refl, sym, ap, ◌∙◌, arith}
use Rattle.std.specs.Prelude.{nat_lt, nat_le, ◌==◌, is_some}
use Rattle.std.specs.Option.{option_copied}
use Rattle.std.specs.HashMap.{HashMap, get}
use Rattle.std.specs.HashSet.{HashSet, contains}
use Rattle.std.proofs.lemmas.Bool.{and_parts, eqb-true}
use Rattle.std.proofs.lemmas.Bool.Decides.{nat_tests}
use Rattle.kc_obj_module.specs.declared.parts.Content.{Content}
use Rattle.kc_obj_module.specs.declared.parts.Fixup.{Fixup}
use Rattle.kc_obj_module.specs.Contents.{covers}
use Rattle.kc_obj_module.specs.Numbers.{width}
use Rattle.kc_obj_module.specs.Fixups.{fills}
use Rattle.kc_obj_fields.specs.Records.{place_of, is_under}
use Rattle.kc_obj_fields.specs.Places.{same_place, or_else, place_in_run, PutsRun, IsTable, Covers, CoversNumber, HasCovered}

-- on plain numbers: the byte behind n bytes of a run
one_plain : (q f n s p o : ℕ) (x : Option ℕ) → or_else (or_else x (place_in_run q f s n p o)) (place_in_run q (f + n) (s + n) 1 p o) ≡ or_else x (place_in_run q f s (n + 1) p o)
one_plain q f n s p o (Some x) = refl
one_plain q f n s p o None = grind (arith, nat_tests)

pub one_more_place : {S : Type 0} (a b c : HashMap (ℕ × ℕ) ℕ S) (piece offset start n : ℕ) → PutsRun a b piece offset start n → PutsRun b c piece (offset + n) (start + n) 1 → PutsRun a c piece offset start (n + 1)
one_more_place a b c piece offset start n h k p o = k p o ∙ ap (λ x. or_else x (place_in_run piece (offset + n) (start + n) 1 p o)) (h p o) ∙ one_plain piece offset n start p o (get same_place a (p, o))

one_byte : (q f p o : ℕ) → ((q == p) && nat_le f o && nat_lt o (f + 1)) ≡ ((q == p) && (f == o))
one_byte q f p o = grind (arith, nat_tests)

or_none : (x : Option ℕ) → x ≡ or_else x None
or_none None = refl
or_none (Some x) = refl

pub inserted : {S : Type 0} (old new : HashMap (ℕ × ℕ) ℕ S) (q f s : ℕ) → get same_place old (q, f) ≡ None → ((k : ℕ × ℕ) → get same_place new k ≡ cond ((q == k.0) && (f == k.1)) (Some s) (get same_place old k)) → PutsRun old new q f s 1
inserted old new q f s none puts p o =
    puts (p, o)
    ∙ (elim ((q == p) && (f == o)) as (λ b. ((q == p) && (f == o)) ≡ b → cond b (Some s) (get same_place old (p, o)) ≡ or_else (get same_place old (p, o)) (cond b (Some (s + (o - f))) None)) [
      | true ↦ λ e.
          let both = and_parts (q == p) (f == o) e in
          let same_p : q ≡ p = eqb-true q p both.0 in
          let same_o : f ≡ o = eqb-true f o both.1 in
          let here : get same_place old (p, o) ≡ None = (λ i. get same_place old (sym same_p i, sym same_o i)) ∙ none in
          let sum : s + (o - f) ≡ s = omega arith in
          sym (ap (λ x. or_else x (Some (s + (o - f)))) here ∙ ap (λ n. Some n) sum)
      | false ↦ λ e. or_none (get same_place old (p, o))
    ] refl)
    ∙ ap (λ b. or_else (get same_place old (p, o)) (cond b (Some (s + (o - f))) None)) (sym (one_byte q f p o))

pub nothing_copied : (r : Option (Bor ℕ)) (b : Bool) → is_some r ≡ not b → b ≡ true → option_copied r ≡ None
nothing_copied None b h e = refl
nothing_copied (Some x) b h e = absurd (cc (ap not e))

-- ---- the table of all runs

pub no_places : (p o : ℕ) → place_of [] [] p o ≡ None
unfolding place_of
no_places p o = refl

place_push : (cs : List Content) (starts : List ℕ) (c : Content) (start p o : ℕ) → length cs ≡ length starts → place_of (cs ++ c ∷ []) (starts ++ start ∷ []) p o ≡ or_else (place_of cs starts p o) (place_in_run c.piece c.offset start (length c.bytes) p o)
unfolding place_of
place_push [] [] c start p o len = refl
place_push [] (s ∷ starts) c start p o len = absurd (omega arith)
place_push (d ∷ cs) [] c start p o len = absurd (omega arith)
place_push (d ∷ cs) (s ∷ starts) c start p o len =
    elim (covers d p o) as (λ b. cond b (Some (s + (o - d.offset))) (place_of (cs ++ c ∷ []) (starts ++ start ∷ []) p o) ≡ or_else (cond b (Some (s + (o - d.offset))) (place_of cs starts p o)) (place_in_run c.piece c.offset start (length c.bytes) p o)) [
      | true ↦ refl
      | false ↦ place_push cs starts c start p o (omega arith)
    ]

pub table_none : {S : Type 0} (places : HashMap (ℕ × ℕ) ℕ S) (contents : List Content) (starts : List ℕ) → places.entries ≡ [] → contents ≡ [] → starts ≡ [] → IsTable places contents starts
table_none {S} places contents starts empty no_contents no_starts = rw (no_contents, no_starts) (record { counted = refl; has = λ p o. none_in places p o empty ∙ sym (no_places p o) })
  where
    none_in : (m : HashMap (ℕ × ℕ) ℕ S) (p o : ℕ) → m.entries ≡ [] → get same_place m (p, o) ≡ None
    none_in m p o h = rw h refl

pub table_push : {S : Type 0} (old new : HashMap (ℕ × ℕ) ℕ S) (cs : List Content) (starts : List ℕ) (c : Content) (start : ℕ) → IsTable old cs starts → PutsRun old new c.piece c.offset start (length c.bytes) → IsTable new (cs ++ c ∷ []) (starts ++ start ∷ [])
table_push old new cs starts c start table puts =
    record {
      counted = length-append cs (c ∷ []) ∙ ap (λ n. n + 1) table.counted ∙ sym (length-append starts (start ∷ []));
      has = λ p o. puts p o ∙ ap (λ x. or_else x (place_in_run c.piece c.offset start (length c.bytes) p o)) (table.has p o) ∙ sym (place_push cs starts c start p o table.counted);
    }

-- ---- the bytes under relocations

under_push : (fs : List Fixup) (x : Fixup) (p o : ℕ) → is_under (fs ++ x ∷ []) p o ≡ (is_under fs p o || fills p o x)
under_push [] x p o = or_last (fills p o x)
  where
    or_last : (b : Bool) → (b || false) ≡ (false || b)
    or_last true = refl
    or_last false = refl
under_push (f ∷ fs) x p o =
    elim (fills p o f) as (λ b. (b || is_under (fs ++ x ∷ []) p o) ≡ ((b || is_under fs p o) || fills p o x)) [ true ↦ refl | false ↦ under_push fs x p o ]

pub covered_push : {S : Type 0} (old new : HashSet (ℕ × ℕ) S) (fs : List Fixup) (x : Fixup) → HasCovered old fs → CoversNumber old new x → HasCovered new (fs ++ x ∷ [])
covered_push old new fs x has covers p o = covers p o ∙ ap (λ b. b || fills p o x) (has p o) ∙ sym (under_push fs x p o)

pub covered_none : {S : Type 0} (under : HashSet (ℕ × ℕ) S) (fs : List Fixup) → under.keys ≡ [] → fs ≡ [] → HasCovered under fs
covered_none {S} under fs empty none p o = none_in under p o empty ∙ ap (λ (xs : List Fixup). is_under xs p o) (sym none)
  where
    none_in : (m : HashSet (ℕ × ℕ) S) (p o : ℕ) → m.keys ≡ [] → contains same_place m (p, o) ≡ false
    none_in m p o h = rw h refl

one_over : (q f p o : ℕ) (old : Bool) → (old || ((q == p) && (f == o))) ≡ (old || ((q == p) && nat_le f o && nat_lt o (f + 1)))
one_over q f p o old = ap (λ b. old || b) (sym (one_byte q f p o))

two_over : (q f p o : ℕ) (old : Bool) → ((old || ((q == p) && (f == o))) || ((q == p) && (f + 1 == o))) ≡ (old || ((q == p) && nat_le f o && nat_lt o (f + 2)))
two_over q f p o true = refl
two_over q f p o false = grind (arith, nat_tests)

width_plain : (b : Bool) (P : ℕ → Type 0) → ((cond {A = ℕ} b 1 2 ≡ 2 → ⊥) → P 1) → (cond {A = ℕ} b 1 2 ≡ 2 → P 2) → P (cond {A = ℕ} b 1 2)
width_plain true P f g = f (λ e. omega arith)
width_plain false P f g = g refl

width_is : (kind : ℕ) (P : ℕ → Type 0) → ((width kind ≡ 2 → ⊥) → P 1) → (width kind ≡ 2 → P 2) → P (width kind)
width_is kind P f g = width_plain ((kind == 1) || (kind == 2)) P f g

pub put_or : (b x : Bool) → cond b true x ≡ (x || b)
put_or true true = refl
put_or true false = refl
put_or false true = refl
put_or false false = refl

pub covers_one : {S : Type 0} (old new : HashSet (ℕ × ℕ) S) (x : Fixup) → (width x.kind ≡ 2 → ⊥) → Covers old new x.piece x.offset → CoversNumber old new x
covers_one old new x other covers p o =
    covers p o ∙ one_over x.piece x.offset p o (contains same_place old (p, o))
    ∙ width_is x.kind (λ w. (contains same_place old (p, o) || ((x.piece == p) && nat_le x.offset o && nat_lt o (x.offset + 1))) ≡ (contains same_place old (p, o) || ((x.piece == p) && nat_le x.offset o && nat_lt o (x.offset + w)))) (λ e. refl) (λ e. absurd (other e))

pub covers_two : {S : Type 0} (old now new : HashSet (ℕ × ℕ) S) (x : Fixup) → width x.kind ≡ 2 → Covers old now x.piece x.offset → Covers now new x.piece (x.offset + 1) → CoversNumber old new x
covers_two old now new x two first second p o =
    second p o ∙ ap (λ b. b || ((x.piece == p) && (x.offset + 1 == o))) (first p o) ∙ two_over x.piece x.offset p o (contains same_place old (p, o))
    ∙ ap (λ w. contains same_place old (p, o) || ((x.piece == p) && nat_le x.offset o && nat_lt o (x.offset + w))) (sym two)
