-- One line on the way through an expansion.
use Rattle.std.proofs.Common.{◌≡◌, ℕ, ◌+◌, ◌-◌, ◌≤◌, true, false, eqb, List, [], ◌∷◌, ◌++◌, drop, take, length, get_or, take_all, append_assoc, refl, sym, ap, ◌∙◌, subst, arith}
use Rattle.std.specs.Prelude.{All, if◌then◌else◌}
use Rattle.std.proofs.lemmas.List.Elements.{All-drop}
use Rattle.kc_lex.specs.declared.token.Line.{Line}
use Rattle.kc_lex.specs.declared.token.Token.{Token}
use Rattle.kc_source_statement.specs.Operands.{is_nil}
use Rattle.kc_asm_layout.specs.declared.size_record.SizeRecord.{SizeRecord}
use Rattle.kc_asm_layout.specs.Bounds.{IsBounded}
use Rattle.kc_asm_layout.specs.declared.location.Location.{Location}
use Rattle.kc_asm_list.specs.declared.spot.Spot.{Spot}
use Rattle.kc_asm_list.specs.Spots.{first_spot, spots_from}

-- size records behind the first are bounded as all are
pub all_behind : (size_records rest : List SizeRecord) → rest ≡ drop 1 size_records → All IsBounded size_records → All IsBounded rest
all_behind size_records rest e h = subst (All IsBounded) (sym e) (All-drop IsBounded 1 size_records h)

pub no_tokens : (ts : List Token) → is_nil ts ≡ eqb (length ts) 0
no_tokens [] = refl
no_tokens (t ∷ ts) = refl

-- a line with a statement
pub said : (left : List Line) (l : Line) (ds : List ℕ) (ns : List SizeRecord) (ss : List Location) (spots whole : List Spot) → 1 ≤ length left → l ≡ get_or left 0 l → is_nil l.tokens ≡ false
    → spots ++ spots_from left ds ns ss ≡ whole
    → (spots ++ first_spot l ds ns ss) ++ spots_from (take (length left - 1) (drop 1 left)) (drop 1 ds) (drop 1 ns) (drop 1 ss) ≡ whole
unfolding spots_from
said [] l ds ns ss spots whole some is full e = absurd (omega (arith, some))
said (x ∷ left) l ds ns ss spots whole some is full e =
    let rest : take (length (x ∷ left) - 1) left ≡ left = take_all (length (x ∷ left) - 1) left (omega arith) in
    let one : spots_from (x ∷ left) ds ns ss ≡ first_spot l ds ns ss ++ spots_from left (drop 1 ds) (drop 1 ns) (drop 1 ss) =
    ap (λ (y : Line). spots_from (y ∷ left) ds ns ss) (sym is) ∙ (λ i. if full i then spots_from left (drop 1 ds) ns ss else first_spot l ds ns ss ++ spots_from left (drop 1 ds) (drop 1 ns) (drop 1 ss)) in
    append_assoc spots (first_spot l ds ns ss) (spots_from (take (length (x ∷ left) - 1) left) (drop 1 ds) (drop 1 ns) (drop 1 ss))
    ∙ ap (λ (ls : List Line). spots ++ (first_spot l ds ns ss ++ spots_from ls (drop 1 ds) (drop 1 ns) (drop 1 ss))) rest
    ∙ ap (λ (more : List Spot). spots ++ more) (sym one) ∙ e

-- a blank one
pub blank : (left : List Line) (l : Line) (ds : List ℕ) (ns : List SizeRecord) (ss : List Location) (spots whole : List Spot) → 1 ≤ length left → l ≡ get_or left 0 l → is_nil l.tokens ≡ true
    → spots ++ spots_from left ds ns ss ≡ whole
    → spots ++ spots_from (take (length left - 1) (drop 1 left)) (drop 1 ds) ns ss ≡ whole
unfolding spots_from
blank [] l ds ns ss spots whole some is empty e = absurd (omega (arith, some))
blank (x ∷ left) l ds ns ss spots whole some is empty e =
    let rest : take (length (x ∷ left) - 1) left ≡ left = take_all (length (x ∷ left) - 1) left (omega arith) in
    let one : spots_from (x ∷ left) ds ns ss ≡ spots_from left (drop 1 ds) ns ss = ap (λ (y : Line). spots_from (y ∷ left) ds ns ss) (sym is) ∙ (λ i. if empty i then spots_from left (drop 1 ds) ns ss else first_spot l ds ns ss ++ spots_from left (drop 1 ds) (drop 1 ns) (drop 1 ss)) in
    ap (λ (ls : List Line). spots ++ spots_from ls (drop 1 ds) ns ss) rest ∙ ap (λ (more : List Spot). spots ++ more) (sym one) ∙ e
