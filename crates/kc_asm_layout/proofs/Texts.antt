-- One statement: the place behind its text, and the forms that are left there.
use Rattle.std.proofs.Common.{◌≡◌, ℕ, zero, suc, Bool, true, false, ◌+◌, ◌-◌, ◌%◌, ◌&&◌, ◌||◌, cond, eqb, leb, Option, Some, None, List, [], ◌∷◌, length, refl, sym, ap, ◌∙◌, arith}
use Rattle.std.proofs.lemmas.Bool.Decides.{nat_tests}
use Rattle.std.proofs.lemmas.List.{length-append}
use Rattle.kc_asm_symbols.specs.declared.segments.Segment.{Segment}
use Rattle.kc_asm_symbols.specs.Located.{is_absolute}
use Rattle.kc_branch.specs.declared.piece.Form.{Form}
use Rattle.kc_branch.specs.declared.piece.Form.TheVariants.{First}
use Rattle.kc_branch.specs.declared.piece.Piece.{Piece}
use Rattle.kc_branch.specs.declared.piece.Piece.TheVariants as piece
use Rattle.kc_branch.specs.Forms.{size, head_form}
use Rattle.kc_asm_emit.specs.Alignment.{gap}
use Rattle.kc_asm_layout.specs.declared.size_record.Body.{Body}
use Rattle.kc_asm_layout.specs.declared.size_record.Body.TheVariants.{Bytes, Upto, Even, Branch}
use Rattle.kc_asm_layout.specs.declared.size_record.SizeRecord.{SizeRecord}
use Rattle.kc_asm_layout.specs.Numbered.{is_code, aligns_well}
use Rattle.kc_asm_layout.specs.Places.{passed}
use Rattle.kc_asm_layout.specs.Text.{Target, nowhere, bytes_text, body_text, lead, own_text, main_text, absolute_text, opening, is_main, is_branch, left_behind, form_for, is_main_branch, is_absolute_branch}
use Rattle.kc_asm_layout.proofs.Walking.{here_after, forms_behind, behind_append, after_append, bytes_after, bytes_behind}

-- ---- what leads to it

abbrev even_if : Bool → List Piece
even_if b = cond b (piece.Even ∷ []) []

even_gap : (e : ℕ) → e + e % 2 ≡ e + (2 - e % 2) % 2
even_gap e = omega arith

no_gap : (e : ℕ) → e ≡ e + (1 - e % 1) % 1
no_gap e = omega arith

even_after : (align e : ℕ) (fs : List Form) → (eqb align 1 || eqb align 2) ≡ true → here_after (even_if (eqb align 2)) fs e ≡ e + gap e align
even_after zero e fs w = absurd (cc w)
even_after (suc zero) e fs w = no_gap e
even_after (suc (suc zero)) e fs w = even_gap e
even_after (suc (suc (suc align))) e fs w = absurd (grind (arith, nat_tests))

lead_after_by : (code : Bool) (align g e : ℕ) (fs : List Form) → cond code (eqb align 1 || eqb align 2) true ≡ true → (code ≡ false → g ≡ gap e align)
    → here_after (cond code (even_if (eqb align 2)) (bytes_text g)) fs e ≡ e + gap e align
lead_after_by true align g e fs w h = even_after align e fs w
lead_after_by false align g e fs w h = bytes_after g fs e ∙ ap (λ x. e + x) (h refl)

even_behind : (b : Bool) (fs : List Form) → forms_behind (even_if b) fs ≡ fs
even_behind true fs = refl
even_behind false fs = refl

lead_behind_by : (code : Bool) (align g : ℕ) (fs : List Form) → forms_behind (cond code (even_if (eqb align 2)) (bytes_text g)) fs ≡ fs
lead_behind_by true align g fs = even_behind (eqb align 2) fs
lead_behind_by false align g fs = bytes_behind g fs

pub lead_after : (g e : ℕ) (n : SizeRecord) (fs : List Form) → aligns_well n ≡ true → (is_code n.segment ≡ false → g ≡ gap e n.alignment)
    → here_after (lead g n) fs e ≡ e + gap e n.alignment
lead_after g e n fs w h = lead_after_by (is_code n.segment) n.alignment g e fs w h

pub lead_behind : (g : ℕ) (n : SizeRecord) (fs : List Form) → forms_behind (lead g n) fs ≡ fs
lead_behind g n fs = lead_behind_by (is_code n.segment) n.alignment g fs

-- ---- its body

-- what is known of the form of a statement in a segment of code or not, where these forms are left
pub record Has (code branch : Bool) (f : Form) (fs : List Form) : Type 0 where
  pub in_code : (code && branch) ≡ true → f ≡ head_form fs
  pub elsewhere : code ≡ false → f ≡ First

pub body_after : (target : Target) (g : Segment) (b : Body) (fs : List Form) (f : Form) (p : ℕ) → Has (is_code g) (is_branch b) f fs
    → here_after (body_text target g b) fs p ≡ passed f p b
body_after target g (Bytes n) fs f p h = bytes_after n fs p
body_after target g (Upto to) fs f p h = refl
body_after target g Even fs f p h = refl
body_after target g (Branch kind a) fs f p h =
    elim (is_code g) as (λ c. Has c true f fs → here_after (cond c (piece.Branch kind (target g a) ∷ []) (piece.Bytes (size kind First) ∷ [])) fs p ≡ p + size kind f) [
      | true ↦ λ k. ap (λ x. p + size kind x) (sym (k.in_code refl))
      | false ↦ λ k. ap (λ x. p + size kind x) (sym (k.elsewhere refl))
    ] h

no_branch : (code : Bool) (fs : List Form) → fs ≡ left_behind (code && false) fs
no_branch true fs = refl
no_branch false fs = refl

pub body_behind : (target : Target) (g : Segment) (b : Body) (fs : List Form) → forms_behind (body_text target g b) fs ≡ left_behind (is_code g && is_branch b) fs
body_behind target g (Bytes n) fs = bytes_behind n fs ∙ no_branch (is_code g) fs
body_behind target g (Upto to) fs = no_branch (is_code g) fs
body_behind target g Even fs = no_branch (is_code g) fs
body_behind target g (Branch kind a) fs =
    elim (is_code g) as (λ c. forms_behind (cond c (piece.Branch kind (target g a) ∷ []) (piece.Bytes (size kind First) ∷ [])) fs ≡ left_behind (c && true) fs) [
      | true ↦ refl
      | false ↦ refl
    ]

body_length : (target : Target) (g : Segment) (b : Body) → length (body_text nowhere g b) ≡ length (body_text target g b)
body_length target g (Bytes n) = refl
body_length target g (Upto to) = refl
body_length target g Even = refl
body_length target g (Branch kind a) =
    elim (is_code g) as (λ c. length (cond c (piece.Branch kind (nowhere g a) ∷ []) (piece.Bytes (size kind First) ∷ [])) ≡ length (cond c (piece.Branch kind (target g a) ∷ []) (piece.Bytes (size kind First) ∷ []))) [
      | true ↦ refl
      | false ↦ refl
    ]

-- ---- both

pub own_after : (target : Target) (g e : ℕ) (n : SizeRecord) (fs : List Form) (f : Form) → aligns_well n ≡ true → (is_code n.segment ≡ false → g ≡ gap e n.alignment)
    → Has (is_code n.segment) (is_branch n.body) f fs → here_after (own_text target g n) fs e ≡ passed f (e + gap e n.alignment) n.body
own_after target g e n fs f w h has =
    after_append (lead g n) (body_text target n.segment n.body) fs e
    ∙ ap (λ gs. here_after (body_text target n.segment n.body) gs (here_after (lead g n) fs e)) (lead_behind g n fs)
    ∙ ap (λ p. here_after (body_text target n.segment n.body) fs p) (lead_after g e n fs w h)
    ∙ body_after target n.segment n.body fs f (e + gap e n.alignment) has

pub own_behind : (target : Target) (g : ℕ) (n : SizeRecord) (fs : List Form) → forms_behind (own_text target g n) fs ≡ left_behind (is_code n.segment && is_branch n.body) fs
own_behind target g n fs =
    behind_append (lead g n) (body_text target n.segment n.body) fs
    ∙ ap (forms_behind (body_text target n.segment n.body)) (lead_behind g n fs)
    ∙ body_behind target n.segment n.body fs

own_length : (target : Target) (g : ℕ) (n : SizeRecord) → length (own_text nowhere g n) ≡ length (own_text target g n)
own_length target g n =
    length-append (lead g n) (body_text nowhere n.segment n.body)
    ∙ ap (λ k. length (lead g n) + k) (body_length target n.segment n.body)
    ∙ sym (length-append (lead g n) (body_text target n.segment n.body))

-- ---- in the relocatable code, and in absolute pieces

if_length : (b : Bool) (xs ys : List Piece) → length xs ≡ length ys → length (cond b xs []) ≡ length (cond b ys [])
if_length true xs ys e = e
if_length false xs ys e = refl

pub main_length : (target : Target) (g : ℕ) (n : SizeRecord) → length (main_text nowhere g n) ≡ length (main_text target g n)
main_length target g n = if_length (is_main n.segment) (own_text nowhere g n) (own_text target g n) (own_length target g n)

pub absolute_length : (target : Target) (g : ℕ) (n : SizeRecord) → length (absolute_text nowhere g n) ≡ length (absolute_text target g n)
absolute_length target g n =
    length-append (cond (is_absolute n.segment) (own_text nowhere g n) []) (opening n.opens)
    ∙ ap (λ k. k + length (opening n.opens)) (if_length (is_absolute n.segment) (own_text nowhere g n) (own_text target g n) (own_length target g n))
    ∙ sym (length-append (cond (is_absolute n.segment) (own_text target g n) []) (opening n.opens))

behind_if : (m c : Bool) (xs : List Piece) (fs : List Form) → forms_behind xs fs ≡ left_behind c fs → forms_behind (cond m xs []) fs ≡ left_behind (m && c) fs
behind_if true c xs fs e = e
behind_if false c xs fs e = refl

pub main_behind : (target : Target) (g : ℕ) (n : SizeRecord) (fs : List Form) → forms_behind (main_text target g n) fs ≡ left_behind (is_main_branch n) fs
main_behind target g n fs = behind_if (is_main n.segment) (is_code n.segment && is_branch n.body) (own_text target g n) fs (own_behind target g n fs)

opening_behind : (opens : Option ℕ) (fs : List Form) → forms_behind (opening opens) fs ≡ fs
opening_behind None fs = refl
opening_behind (Some address) fs = refl

pub absolute_behind : (target : Target) (g : ℕ) (n : SizeRecord) (fs : List Form) → forms_behind (absolute_text target g n) fs ≡ left_behind (is_absolute_branch n) fs
absolute_behind target g n fs =
    behind_append (cond (is_absolute n.segment) (own_text target g n) []) (opening n.opens) fs
    ∙ opening_behind n.opens (forms_behind (cond (is_absolute n.segment) (own_text target g n) []) fs)
    ∙ behind_if (is_absolute n.segment) (is_code n.segment && is_branch n.body) (own_text target g n) fs (own_behind target g n fs)

-- ---- which form it has

form_main : (m a c b : Bool) (x y : Form) → m ≡ true → (c && b) ≡ true → cond (m && (c && b)) x (cond (a && (c && b)) y First) ≡ x
form_main true a true true x y p q = refl
form_main true a true false x y p q = absurd (cc q)
form_main true a false b x y p q = absurd (cc q)
form_main false a c b x y p q = absurd (cc p)

form_absolute : (m a c b : Bool) (x y : Form) → m ≡ false → a ≡ true → (c && b) ≡ true → cond (m && (c && b)) x (cond (a && (c && b)) y First) ≡ y
form_absolute false true true true x y o p q = refl
form_absolute false true true false x y o p q = absurd (cc q)
form_absolute false true false b x y o p q = absurd (cc q)
form_absolute false false c b x y o p q = absurd (cc p)
form_absolute true a c b x y o p q = absurd (cc o)

form_elsewhere : (m a c b : Bool) (x y : Form) → c ≡ false → cond (m && (c && b)) x (cond (a && (c && b)) y First) ≡ First
form_elsewhere true true false b x y p = refl
form_elsewhere true false false b x y p = refl
form_elsewhere false true false b x y p = refl
form_elsewhere false false false b x y p = refl
form_elsewhere m a true b x y p = absurd (cc p)

not_both : (p : ℕ) → leb 3 p ≡ true → eqb p 1 ≡ false
not_both p h = grind (arith, nat_tests)

abbrev pub HasForm : SizeRecord → Form → List Form → Type 0
HasForm n f fs = Has (is_code n.segment) (is_branch n.body) f fs

pub has_main : (n : SizeRecord) (main absolute : List Form) → is_main n.segment ≡ true → HasForm n (form_for n main absolute) main
has_main n main absolute m = record {
  in_code = λ q. form_main (is_main n.segment) (is_absolute n.segment) (is_code n.segment) (is_branch n.body) (head_form main) (head_form absolute) m q;
  elsewhere = λ q. form_elsewhere (is_main n.segment) (is_absolute n.segment) (is_code n.segment) (is_branch n.body) (head_form main) (head_form absolute) q;
}

pub has_absolute : (n : SizeRecord) (main absolute : List Form) → is_absolute n.segment ≡ true → HasForm n (form_for n main absolute) absolute
has_absolute n main absolute a = record {
  in_code = λ q. form_absolute (is_main n.segment) (is_absolute n.segment) (is_code n.segment) (is_branch n.body) (head_form main) (head_form absolute) (not_both n.segment.piece a) a q;
  elsewhere = λ q. form_elsewhere (is_main n.segment) (is_absolute n.segment) (is_code n.segment) (is_branch n.body) (head_form main) (head_form absolute) q;
}

pub first_elsewhere : (n : SizeRecord) (main absolute : List Form) → is_code n.segment ≡ false → form_for n main absolute ≡ First
first_elsewhere n main absolute q =
    form_elsewhere (is_main n.segment) (is_absolute n.segment) (is_code n.segment) (is_branch n.body) (head_form main) (head_form absolute) q
