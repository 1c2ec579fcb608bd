-- What it says of a statement that it has no fault.
use Rattle.std.proofs.Common.{◌≡◌, ℕ, ◌<◌, ◌≤◌, Bool, true, false, ◌&&◌, cond, ltb, List, [], ◌∷◌, refl, sym, ap, ◌∙◌, arith}
use Rattle.std.specs.Prelude.{Option, Some, None, unwrap_or, Ok, Err, slice_get, nat_lt}
use Rattle.std.proofs.lemmas.Bool.Decides.{nat_tests}
use Rattle.kc_obj_module.specs.declared.parts.SegKind.{SegKind}
use Rattle.kc_expr.specs.declared.values.Value.{Value}
use Rattle.kc_expr.specs.declared.values.NoValue.TheVariants.{Fault, ReportedElsewhere}
use Rattle.kc_expr.specs.Tree.{Tree}
use Rattle.kc_expr.specs.Meaning.{Answer, answer_by, is_fixed}
use Rattle.kc_expr.proofs.UnreportedLemmas.{AreUnreported, expression_unreported, is_reported}
use Rattle.kc_source_statement.specs.Trees.{ActionTree}
use Rattle.kc_source_statement.specs.Trees as trees
use Rattle.kc_asm_symbols.specs.declared.segments.Segment.{Segment}
use Rattle.kc_asm_symbols.specs.Located.{Located}
use Rattle.kc_branch.specs.declared.piece.Form.{Form}
use Rattle.kc_asm_emit.specs.Alignment.{alignment}
use Rattle.kc_asm_emit.specs.Arguments.{Look, fixed_of, fixed_in}
use Rattle.kc_asm_emit.specs.Content.{Content, Nothing, Upto, content, upto, reserved}
use Rattle.kc_asm_emit.specs.Faults.{faults_of, fixed_faults, unless_fixed}
use Rattle.kc_asm_layout.specs.declared.location.Location.{Location}
use Rattle.kc_asm_check.specs.Codes.{Regions, when, branch_faults, relocatable_faults, place_faults, public_faults, label_faults, goes_on, goes_on_faults, end_faults, back_faults, is_below, opening_faults, opening, most_of, leaves}
use Rattle.kc_asm_check.specs.Checking.{own_codes, codes_of}
use Rattle.kc_asm_unlinked_laws.proofs.Lists.{nothing_left}

pub record IsFaultless (look : Look) (last : List ℕ → Answer) (regions : Regions) (sum : ℕ) (l : Located) (s : Location) : Type 0 where
  pub values : faults_of look l.action ≡ []
  pub relocatable_bytes : relocatable_faults look l.action l.segment s (content look s.form l.here l.action) ≡ []
  pub ends : goes_on_faults regions l.action l.segment s ≡ []
  pub back : back_faults look l.action s.before ≡ []
  pub opens : opening_faults (opening look l.action) ≡ []
  pub publics : public_faults last l.action ≡ []

pub faultless : (look : Look) (last : List ℕ → Answer) (regions : Regions) (sum : ℕ) (l : Located) (s : Location) → codes_of look last regions sum l s ≡ [] → IsFaultless look last regions sum l s
faultless look last regions sum l s e =
    let c = content look s.form l.here l.action in
    let own = nothing_left (own_codes look regions sum l s) _ e in
    let a = nothing_left (faults_of look l.action) _ own.0 in
    let b = nothing_left (branch_faults look s.body l.action) _ a.1 in
    let o = nothing_left (relocatable_faults look l.action l.segment s c) _ b.1 in
    let r = nothing_left (place_faults regions look l.label l.action l.segment s) _ o.1 in
    let t = nothing_left (label_faults l.label s.place) _ r.0 in
    let u = nothing_left (goes_on_faults regions l.action l.segment s) _ t.1 in
    let v = nothing_left (back_faults look l.action s.before) _ u.1 in
    record { values = a.0; relocatable_bytes = o.0; ends = u.0; back = v.0; opens = v.1; publics = own.1 }

pub unless : (b : Bool) (code : ℕ) → when b code ≡ [] → b ≡ false
unless true code e = absurd (cc e)
unless false code e = refl

-- ---- how far

-- what does not go on puts nothing, at any place
pub record IsQuiet (look : Look) (form : Form) (here : Value) (kind : SegKind) (action : ActionTree) : Type 0 where
  pub nothing : content look form here action ≡ Nothing
  pub anywhere : alignment kind action ≡ 1

goes : (b : Bool) → b ≡ true → b ≡ false → ⊥
goes true e f = cc
goes false e f = cc

pub quiet : (look : Look) (form : Form) (here : Value) (kind : SegKind) (action : ActionTree) → goes_on action ≡ false → IsQuiet look form here kind action
quiet look form here kind (trees.Define size items) e = absurd (goes true refl e)
quiet look form here kind (trees.Reserve size count) e = absurd (goes true refl e)
quiet look form here kind (trees.Org x) e = absurd (goes true refl e)
quiet look form here kind trees.Even e = absurd (goes true refl e)
quiet look form here kind (trees.Operation word args) e = absurd (goes true refl e)
quiet look form here kind trees.Bare e = record { nothing = refl; anywhere = refl }
quiet look form here kind (trees.Module name stack) e = record { nothing = refl; anywhere = refl }
quiet look form here kind (trees.Cseg at) e = record { nothing = refl; anywhere = refl }
quiet look form here kind (trees.Dseg at) e = record { nothing = refl; anywhere = refl }
quiet look form here kind (trees.Rseg at) e = record { nothing = refl; anywhere = refl }
quiet look form here kind (trees.Sseg size) e = record { nothing = refl; anywhere = refl }
quiet look form here kind (trees.Public names) e = record { nothing = refl; anywhere = refl }
quiet look form here kind (trees.Extrn names) e = record { nothing = refl; anywhere = refl }
quiet look form here kind (trees.Equ name x) e = record { nothing = refl; anywhere = refl }
quiet look form here kind (trees.Set name x) e = record { nothing = refl; anywhere = refl }
quiet look form here kind trees.End e = record { nothing = refl; anywhere = refl }

-- ORG goes forward, from any place
pub record GoesForward (kind : SegKind) (action : ActionTree) (place to : ℕ) : Type 0 where
  pub forward : place ≤ to
  pub anywhere : alignment kind action ≡ 1

no_place : (c : Content) (to : ℕ) → (c ≡ Nothing) → c ≡ Upto to → ⊥
no_place c to e f = cc

upto_place : (o : Option ℕ) (to : ℕ) → upto o ≡ Upto to → o ≡ Some to
upto_place None to e = absurd (cc e)
upto_place (Some n) to e = let q : n ≡ to = cc e in ap (λ (m : ℕ). Some m) q

reserved_place : (size : ℕ) (o : Option ℕ) (to : ℕ) → reserved size o ≡ Upto to → ⊥
reserved_place size None to e = cc
reserved_place size (Some n) to e = cc

not_before : (to place : ℕ) → ltb to place ≡ false → place ≤ to
not_before to place e = grind (arith, nat_tests)

org_forward : (o : Option ℕ) (to place : ℕ) → o ≡ Some to → when (is_below o place) 17 ≡ [] → place ≤ to
org_forward o to place e f = not_before to place (sym (ap (λ (p : Option ℕ). is_below p place) e) ∙ unless (is_below o place) 17 f)

pub forward : (look : Look) (form : Form) (here : Value) (kind : SegKind) (action : ActionTree) (place to : ℕ)
    → content look form here action ≡ Upto to → back_faults look action place ≡ [] → GoesForward kind action place to
forward look form here kind (trees.Org x) place to e f = record { forward = org_forward (fixed_of look x) to place (upto_place (fixed_of look x) to e) f; anywhere = refl }
forward look form here kind (trees.Reserve size count) place to e f = absurd (reserved_place size (fixed_of look count) to e)
forward look form here kind _ place to e f = absurd (cc e)

-- ---- ends

pub at_most : (most after : ℕ) → ltb most after ≡ false → after ≤ most
at_most most after e = not_before most after e

pub record EndsWell (regions : Regions) (g : Segment) (s : Location) : Type 0 where
  pub most : s.after ≤ most_of g
  pub stays : s.before < s.after → leaves g.kind (unwrap_or (slice_get regions g.piece) None) s.after ≡ false

within : (before after : ℕ) (b : Bool) → (ltb before after && b) ≡ false → before < after → b ≡ false
within before after b e h = by (ltb before after) (let t : ltb before after ≡ true = grind (arith, nat_tests) in t) e
  where
    by : (t : Bool) → t ≡ true → (t && b) ≡ false → b ≡ false
    by true h e = e
    by false h e = absurd (goes false h refl)

pub ends_well : (regions : Regions) (g : Segment) (s : Location) → end_faults regions g s ≡ [] → EndsWell regions g s
ends_well regions g s e =
    let parts = nothing_left (when (nat_lt (most_of g) s.after) 17) _ e in
    record {
      most = at_most (most_of g) s.after (unless (nat_lt (most_of g) s.after) 17 parts.0);
      stays = within s.before s.after (leaves g.kind (unwrap_or (slice_get regions g.piece) None) s.after) (unless (nat_lt s.before s.after && leaves g.kind (unwrap_or (slice_get regions g.piece) None) s.after) 22 parts.1);
    }

-- ---- addresses

-- a fixed number where nothing is reported elsewhere
fixed_value : (a : Answer) → is_reported a ≡ false → unless_fixed a ≡ [] → (n : ℕ) × (fixed_in a ≡ Some n)
fixed_value (Ok v) h e = (v.number, by (is_fixed v.base) e)
  where
    by : (b : Bool) → cond {A = List ℕ} b [] (10 ∷ []) ≡ [] → cond b (Some v.number) None ≡ Some v.number
    by true e = refl
    by false e = absurd (cc e)
fixed_value (Err (Fault code)) h e = absurd cc
fixed_value (Err ReportedElsewhere) h e = absurd cc

pub fixed_number : (look : Look) → AreUnreported look → (x : Tree) → fixed_faults look x ≡ [] → (n : ℕ) × (fixed_of look x ≡ Some n)
fixed_number look h x e = fixed_value (answer_by look x) (expression_unreported look h x) e
