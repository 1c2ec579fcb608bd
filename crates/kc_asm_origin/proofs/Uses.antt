-- A search among the uses of names, use by use and line by line.
use Rattle.std.proofs.Common.{◌≡◌, ℕ, Bool, true, false, cond, ◌&&◌, ◌||◌, List, [], ◌∷◌, ◌++◌, reverse, Option, Some, None, Result, refl, sym, ap, subst, ◌∙◌, append_assoc}
use Rattle.std.specs.Prelude.{is_some}
use Rattle.std.specs.List.{list_any}
use Rattle.std.specs.Option.{option_or}
use Rattle.std.specs.Str.{bytes_eq}
use Rattle.std.proofs.lemmas.Bool.{false≢true}
use Rattle.std.proofs.lemmas.List.{append-nil, reverse-append}
use Rattle.std.proofs.lemmas.List.Sorted.{list_any-IsPermutation, IsPermutation-reverse}
use Rattle.kc_lex.specs.declared.token.Line.{Line}
use Rattle.kc_source_statement.specs.Operands.{is_nil}
use Rattle.kc_source_statement.specs.Statements.{label_in, statement_in}
use Rattle.kc_source_statement.specs.Trees.{ActionTree}
use Rattle.kc_source.specs.declared.uses.Use.{Use}
use Rattle.kc_source.specs.declared.uses.UseKind.{UseKind}
use Rattle.kc_source.specs.Faults.{said, all_said, label_uses, read_uses, uses_of, all_uses, has_use, is_once, is_again, is_taken}
use Rattle.kc_asm_symbols.specs.Tables.{is_marked, no_name, updated}
use Rattle.kc_asm_origin.specs.declared.names.Known.{Known}
use Rattle.kc_asm_origin.specs.declared.names.Search.{Search}
use Rattle.kc_asm_origin.specs.Uses.{is_refused, used_from}
use Rattle.kc_asm_origin.specs.Seeking.{IsKnown, IsSeeking}

-- ---- what is known of names

pub none_known : (k : Known) → is_marked k.once ≡ no_name → is_marked k.again ≡ no_name → is_marked k.taken ≡ no_name → IsKnown k []
unfolding has_use
none_known k once again taken = record { once = once; again = again; taken = taken }

or_cond : (b c : Bool) → cond b true c ≡ (b || c)
or_cond true c = refl
or_cond false c = refl

-- a use of a kind marks its name
pub marked : (of_kind : UseKind → Bool) (u : Use) (us : List Use) (name : List ℕ) (old new : List ℕ → Bool) → of_kind u.kind ≡ true → u.name ≡ name
    → new ≡ updated name true old → old ≡ (λ n. has_use of_kind n us) → new ≡ (λ n. has_use of_kind n (u ∷ us))
unfolding has_use
marked of_kind u us name old new kind named set known =
    set ∙ (λ i. updated (sym named i) true (known i))
    ∙ (λ i n. or_cond (bytes_eq n u.name) (list_any (λ v. of_kind v.kind && bytes_eq n v.name) us) i)
    ∙ (λ i n. (sym kind i && bytes_eq n u.name) || list_any (λ v. of_kind v.kind && bytes_eq n v.name) us)

pub kept : (of_kind : UseKind → Bool) (u : Use) (us : List Use) (old new : List ℕ → Bool) → of_kind u.kind ≡ false → new ≡ old → old ≡ (λ n. has_use of_kind n us) → new ≡ (λ n. has_use of_kind n (u ∷ us))
unfolding has_use
kept of_kind u us old new kind same known =
    same ∙ known ∙ (λ i n. (sym kind i && bytes_eq n u.name) || list_any (λ v. of_kind v.kind && bytes_eq n v.name) us)

-- in either order
turned : (of_kind : UseKind → Bool) (us : List Use) (n : List ℕ) → has_use of_kind n us ≡ has_use of_kind n (reverse us)
unfolding has_use
turned of_kind us n = list_any-IsPermutation (λ (u : Use). of_kind u.kind && bytes_eq n u.name) us (reverse us) (IsPermutation-reverse us)

pub known_turned : (k : Known) (us whole : List Use) → reverse us ++ [] ≡ whole → IsKnown k us → IsKnown k whole
known_turned k us whole is known = subst (IsKnown k) (sym (append-nil (reverse us)) ∙ is) (record {
  once = known.once ∙ (λ i n. turned is_once us n i);
  again = known.again ∙ (λ i n. turned is_again us n i);
  taken = known.taken ∙ (λ i n. turned is_taken us n i);
})

-- ---- one use

one_more : (line code : ℕ) (all earlier us : List Use) (u : Use)
    → used_from line code all earlier (u ∷ us) ≡ cond (is_refused line code all earlier u) (Some u.name) (used_from line code all (u ∷ earlier) us)
unfolding used_from
one_more line code all earlier us u = refl

no_more : (line code : ℕ) (all earlier : List Use) → used_from line code all earlier [] ≡ None
unfolding used_from
no_more line code all earlier = refl

first_found : (found : Option (List ℕ)) (b : Bool) (name : List ℕ) (rest : Option (List ℕ)) → option_or (option_or found (cond b (Some name) None)) rest ≡ option_or found (cond b (Some name) rest)
first_found None true name rest = refl
first_found None false name rest = refl
first_found (Some n) b name rest = refl

-- what a look at one use leaves
pub found_already : (found : Option (List ℕ)) (o : Option (List ℕ)) → is_some found ≡ true → found ≡ option_or found o
found_already None o some = absurd (false≢true some)
found_already (Some n) o some = refl

pub found_none : (found : Option (List ℕ)) (b : Bool) (n : List ℕ) → is_some found ≡ false → b ≡ false → found ≡ option_or found (cond b (Some n) None)
found_none None b n none off = ap (λ c. cond c (Some n) None) (sym off)
found_none (Some m) b n none off = absurd (false≢true (sym none))

pub found_now : (found : Option (List ℕ)) (b : Bool) (n : List ℕ) → is_some found ≡ false → b ≡ true → Some n ≡ option_or found (cond b (Some n) None)
found_now None b n none on = ap (λ c. cond c (Some n) None) (sym on)
found_now (Some m) b n none on = absurd (false≢true (sym none))

pub starts : (s : Search) (line code : ℕ) (uses whole : List Use) → s.line ≡ line → s.code ≡ code → s.found ≡ None → IsKnown s.all uses → IsKnown s.before [] → IsSeeking s line code uses whole whole
starts s line code uses whole at of none all before = record {
  line_is = at;
  code_is = of;
  known = all;
  earlier = [];
  passed = refl;
  before = before;
  found = ap (λ f. option_or f (used_from line code uses [] whole)) none;
}

pub one_use : (s t : Search) (line code : ℕ) (all rest whole : List Use) (u : Use) → t.line ≡ s.line → t.code ≡ s.code → t.all ≡ s.all
    → ((earlier : List Use) → IsKnown s.before earlier → IsKnown t.before (u ∷ earlier))
    → ((earlier : List Use) → IsKnown s.all all → IsKnown s.before earlier → t.found ≡ option_or s.found (cond (is_refused s.line s.code all earlier u) (Some u.name) None))
    → IsSeeking s line code all (u ∷ rest) whole → IsSeeking t line code all rest whole
one_use s t line code all rest whole u at of same noted found r =
    let here = r.earlier in
    let later = used_from line code all (u ∷ here) rest in
    record {
      line_is = at ∙ r.line_is;
      code_is = of ∙ r.code_is;
      known = subst (λ (k : Known). IsKnown k all) (sym same) r.known;
      earlier = u ∷ here;
      passed = ap (λ us. us ++ rest) (reverse-append (u ∷ []) here) ∙ append_assoc (reverse here) (u ∷ []) rest ∙ r.passed;
      before = noted here r.before;
      found = ap (λ f. option_or f later) (found here r.known r.before ∙ (λ i. option_or s.found (cond (is_refused (r.line_is i) (r.code_is i) all here u) (Some u.name) None)))
          ∙ first_found s.found (is_refused line code all here u) u.name later
          ∙ ap (option_or s.found) (sym (one_more line code all here rest u)) ∙ r.found;
    }

or_none : (found : Option (List ℕ)) → option_or found None ≡ found
or_none None = refl
or_none (Some n) = refl

pub ends : (s : Search) (line code : ℕ) (all whole : List Use) → IsSeeking s line code all [] whole → s.found ≡ used_from line code all [] whole
ends s line code all whole r = sym (or_none s.found) ∙ ap (option_or s.found) (sym (no_more line code all r.earlier)) ∙ r.found

-- ---- one line

-- its label, and what stands behind it
pub label_first : (l : Line) (label : Option (List ℕ)) (read : Result ActionTree ℕ) (rest : List Use) → label_in l.tokens ≡ label → statement_in l.tokens ≡ read
    → uses_of (said l) ++ rest ≡ label_uses l.number label ++ (read_uses l.number read ++ rest)
label_first l label read rest p q = (λ i. (label_uses l.number (p i) ++ read_uses l.number (q i)) ++ rest) ∙ append_assoc (label_uses l.number label) (read_uses l.number read) rest

pub blank : (l : Line) (ls : List Line) → is_nil l.tokens ≡ true → all_uses (all_said (l ∷ ls)) ≡ all_uses (all_said ls)
unfolding all_said
blank l ls e = ap all_uses (rw e refl)

pub words : (l : Line) (ls : List Line) → is_nil l.tokens ≡ false → all_uses (all_said (l ∷ ls)) ≡ uses_of (said l) ++ all_uses (all_said ls)
unfolding all_said all_uses
words l ls e = rw e refl

pub no_lines : all_uses (all_said []) ≡ []
unfolding all_said all_uses
no_lines = refl
