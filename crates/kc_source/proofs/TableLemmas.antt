-- What a table has of a name after one more use, and the faults of the uses one by one.
use Rattle.std.proofs.Common.{◌≡◌, ℕ, ◌+◌, Bool, true, false, cond, ◌&&◌, List, [], ◌∷◌, Option, Some, None, refl, sym, ap, subst, ◌∙◌}
use Rattle.std.specs.Prelude.{nat_le, unwrap_or}
use Rattle.std.specs.Map.{lookup, KeepsOthers}
use Rattle.std.specs.Str.{bytes_eq}
use Rattle.std.specs.Global.{Vec}
use Rattle.std.specs.Cmp.Lexicographic.{bytes_decides, nat_list_eq_equiv}
use Rattle.kc_base.proofs.NameLemmas.{is_named, apart}
use Rattle.kc_source.specs.declared.names.Known.{Known}
use Rattle.kc_source.specs.declared.uses.Use.{Use}
use Rattle.kc_source.specs.declared.uses.UseKind.{UseKind}
use Rattle.kc_source.specs.declared.uses.UseKind.TheVariants.{Once, Again, Taken, Given}
use Rattle.kc_source.specs.Faults.{Fault, lesser, least, at_line, has_use, brings_name, name_count, is_one_too_many, use_code, name_faults}
use Rattle.kc_source.specs.Known.{nothing, known_at, joined, summary, IsTable, brings, known_code}
use Rattle.kc_lex.proofs.FaultLemmas.{lesser_assoc, least_one}

-- ---- the entries of a map

pub noted_here : (fs : List (Vec ℕ × Known)) (k : Vec ℕ) (name : List ℕ) (v : Known) → k.items ≡ name → lookup (is_named k.items) fs ≡ Some v → known_at fs name ≡ v
noted_here fs k name v same at_key = ap (λ n. known_at fs n) (sym same) ∙ ap (λ o. unwrap_or o nothing) at_key

pub noted_others : (es fs : List (Vec ℕ × Known)) (k : Vec ℕ) (name : List ℕ) → k.items ≡ name → KeepsOthers (λ (x y : Vec ℕ). bytes_eq x.items y.items) (is_named k.items) es fs
    → (other : List ℕ) → bytes_eq name other ≡ false → known_at fs other ≡ known_at es other
unfolding KeepsOthers
noted_others es fs k name same others q e =
    let e' : bytes_eq k.items q ≡ false = ap (λ n. bytes_eq n q) same ∙ e in
    ap (λ o. unwrap_or o nothing) (others (is_named q) (λ x y. nat_list_eq_equiv.congr q x.items y.items) (apart k.items q e'))

-- ---- one more use

no_use : (name : List ℕ) → nothing ≡ summary [] name
unfolding has_use
no_use name = refl

pub empty_table : (es : List (Vec ℕ × Known)) → es ≡ [] → IsTable es []
empty_table es none name = ap (λ es. known_at es name) none ∙ no_use name

joined_here : (line : ℕ) (kind : UseKind) (name : List ℕ) (us : List Use) → bytes_eq name name ≡ true → joined (summary us name) kind ≡ summary (record { line = line; name = name; kind = kind } ∷ us) name
unfolding has_use
joined_here line Once name us e = rw e refl
joined_here line Again name us e = rw e refl
joined_here line Taken name us e = rw e refl
joined_here line Given name us e = refl

others_same : (line : ℕ) (kind : UseKind) (name q : List ℕ) (us : List Use) → bytes_eq q name ≡ false → summary us q ≡ summary (record { line = line; name = name; kind = kind } ∷ us) q
unfolding has_use
others_same line Once name q us e = rw e refl
others_same line Again name q us e = rw e refl
others_same line Taken name q us e = rw e refl
others_same line Given name q us e = refl

same_name : (name : List ℕ) → bytes_eq name name ≡ true
same_name name = nat_list_eq_equiv.refl name

pub table_grows : (es fs : List (Vec ℕ × Known)) (us : List Use) (u : Use) → IsTable es us → known_at fs u.name ≡ joined (known_at es u.name) u.kind
    → ((other : List ℕ) → bytes_eq u.name other ≡ false → known_at fs other ≡ known_at es other) → IsTable fs (u ∷ us)
table_grows es fs us u table here others q =
    elim (bytes_eq u.name q) as (λ b. bytes_eq u.name q ≡ b → known_at fs q ≡ summary (u ∷ us) q) [
      | true ↦ λ e. subst (λ n. known_at fs n ≡ summary (u ∷ us) n) ((bytes_decides u.name q).0 e) (here ∙ ap (λ k. joined k u.kind) (table u.name) ∙ joined_here u.line u.kind u.name us (same_name u.name))
      | false ↦ λ e. others q e ∙ table q ∙ others_same u.line u.kind u.name q us (nat_list_eq_equiv.symm q u.name ∙ e)
    ] refl

-- ---- the faults of the uses

-- how far the uses are checked
pub record Checked (all : List Use) (es : List (Vec ℕ × Known)) (count : ℕ) (found : Option Fault) (rest : List Use) : Type 0 where
  pub earlier : List Use
  pub table : IsTable es earlier
  pub counts : count ≡ name_count earlier
  pub same : lesser found (least (name_faults all earlier rest)) ≡ least (name_faults all [] all)

code_is : (kind : UseKind) (name : List ℕ) (too_many : Bool) (all earlier : List Use) → known_code kind (summary earlier name) (summary all name) too_many ≡ use_code kind name too_many all earlier
code_is Once name too_many all earlier = refl
code_is Again name too_many all earlier = refl
code_is Taken name too_many all earlier = refl
code_is Given name too_many all earlier = refl

counted : (u : Use) (earlier : List Use) (count : ℕ) → count ≡ name_count earlier → count + cond (brings_name u earlier) 1 0 ≡ name_count (u ∷ earlier)
unfolding name_count
counted u earlier count is = ap (λ n. n + cond (brings_name u earlier) 1 0) is

one_fault : (all earlier us : List Use) (u : Use) → least (name_faults all earlier (u ∷ us)) ≡ lesser (at_line u.line (use_code u.kind u.name (is_one_too_many u earlier) all earlier)) (least (name_faults all (u ∷ earlier) us))
unfolding name_faults
one_fault all earlier us u = least_one (at_line u.line (use_code u.kind u.name (is_one_too_many u earlier) all earlier)) (name_faults all (u ∷ earlier) us)

pub starts : (uses : List Use) (es : List (Vec ℕ × Known)) → es ≡ [] → Checked uses es 0 None uses
unfolding name_count
starts uses es none = record { earlier = []; table = empty_table es none; counts = refl; same = refl }

pub checks : (all us : List Use) (u : Use) (es fs everywhere : List (Vec ℕ × Known)) (count : ℕ) (found : Option Fault) → Checked all es count found (u ∷ us) → IsTable everywhere all
    → known_at fs u.name ≡ joined (known_at es u.name) u.kind → ((other : List ℕ) → bytes_eq u.name other ≡ false → known_at fs other ≡ known_at es other)
    → Checked all fs (count + cond (brings u.kind (known_at es u.name)) 1 0)
    (lesser found (at_line u.line (known_code u.kind (known_at es u.name) (known_at everywhere u.name) (brings u.kind (known_at es u.name) && nat_le 16384 count)))) us
checks all us u es fs everywhere count found so_far every here others =
    let before : known_at es u.name ≡ summary so_far.earlier u.name = so_far.table u.name in
    let new : brings u.kind (known_at es u.name) ≡ brings_name u so_far.earlier = ap (brings u.kind) before in
    let many : (brings u.kind (known_at es u.name) && nat_le 16384 count) ≡ is_one_too_many u so_far.earlier = λ i. new i && nat_le 16384 (so_far.counts i) in
    let code : known_code u.kind (known_at es u.name) (known_at everywhere u.name) (brings u.kind (known_at es u.name) && nat_le 16384 count) ≡ use_code u.kind u.name (is_one_too_many u so_far.earlier) all so_far.earlier
    = (λ i. known_code u.kind (before i) (every u.name i) (many i)) ∙ code_is u.kind u.name (is_one_too_many u so_far.earlier) all so_far.earlier in
    record {
      earlier = u ∷ so_far.earlier;
      table = table_grows es fs so_far.earlier u so_far.table here others;
      counts = ap (λ b. count + cond b 1 0) new ∙ counted u so_far.earlier count so_far.counts;
      same = lesser_assoc found (at_line u.line (known_code u.kind (known_at es u.name) (known_at everywhere u.name) (brings u.kind (known_at es u.name) && nat_le 16384 count))) (least (name_faults all (u ∷ so_far.earlier) us))
          ∙ ap (λ k. lesser found (lesser (at_line u.line k) (least (name_faults all (u ∷ so_far.earlier) us)))) code
          ∙ ap (lesser found) (sym (one_fault all so_far.earlier us u)) ∙ so_far.same;
    }

pub all_checked : (all : List Use) (es : List (Vec ℕ × Known)) (count : ℕ) (found : Option Fault) → Checked all es count found [] → found ≡ least (name_faults all [] all)
unfolding name_faults least
all_checked all es count None so_far = so_far.same
all_checked all es count (Some f) so_far = so_far.same
