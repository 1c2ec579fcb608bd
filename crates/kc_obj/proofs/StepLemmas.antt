-- Steps of the reading one after the other.
use Rattle.std.proofs.Common.{◌≡◌, ℕ, zero, suc, ◌+◌, ◌-◌, ◌<◌, ◌≤◌, Bool, true, false, cond, List, length, take, drop, drop-drop, Some, None, Result, Ok, Err, sym, ap, ◌∙◌, arith}
use Rattle.std.specs.Prelude.{IfOk}
use Rattle.std.proofs.lemmas.Bool.{le-ltb, ne_eqb}
use Rattle.kc_obj.specs.declared.step.Step.{Step}
use Rattle.kc_obj_fields.specs.Fields.{word_at, noted}
use Rattle.kc_obj_module.specs.Object.{Object}
use Rattle.kc_obj_module.specs.Rules.{is_module, checked}
use Rattle.kc_obj.specs.Reading.{Read, Answer, fits, after_record, stopped, bodied, sized, typed, step_answer, read_on, first_fault}

pub on_step : (n : ℕ) (file : List ℕ) (at : ℕ) (r now : Read) (s : Step) (answer : Answer) → ((goes_on : ℕ → Read → Answer) → typed first_fault goes_on file at (drop at file) r ≡ step_answer goes_on s now) → read_on first_fault (suc n) file at r ≡ answer → step_answer (read_on first_fault n file) s now ≡ answer
unfolding read_on
on_step n file at r now s answer step so_far = sym (step (read_on first_fault n file)) ∙ so_far

pub one_less : (n : ℕ) (file : List ℕ) (at : ℕ) (r : Read) (answer : Answer) → 0 < n → read_on first_fault n file at r ≡ answer → read_on first_fault (suc (n - 1)) file at r ≡ answer
one_less n file at r answer lt so_far = let e : suc (n - 1) ≡ n = omega arith in ap (λ m. read_on first_fault m file at r) e ∙ so_far

pub no_more : (n : ℕ) (file : List ℕ) (at : ℕ) (r : Read) (answer : Answer) → n ≤ 0 → read_on first_fault n file at r ≡ answer → stopped first_fault r (length file) 2 ≡ answer
unfolding read_on
no_more zero file at r answer h so_far = so_far
no_more (suc n) file at r answer h so_far = absurd (omega arith)

-- a whole record that is not the end
pub goes_behind : (file : List ℕ) (at kind len : ℕ) (r now : Read) → len ≤ length (drop at file) → (kind ≡ 127 → ⊥) → now ≡ after_record noted kind at len file (take len (drop at file)) r
    → (goes_on : ℕ → Read → Answer) → bodied first_fault goes_on file at kind len (drop at file) r ≡ goes_on (at + len) now
goes_behind file at kind len r now le ne is goes_on = rw (le-ltb (length (drop at file)) len le, ne_eqb kind 127 ne) (ap (goes_on (at + len)) (sym is))

-- a record whose length fits
pub sized_on : (file : List ℕ) (at kind len : ℕ) (r : Read) → 2 ≤ length (drop 1 (drop at file)) → fits kind (word_at (drop 1 (drop at file)) 0) (drop 2 (drop 1 (drop at file))) ≡ true → len ≡ word_at (drop 1 (drop at file)) 0
    → (goes_on : ℕ → Read → Answer) → sized first_fault goes_on file at kind (drop 1 (drop at file)) r ≡ bodied first_fault goes_on file (at + 3) kind len (drop (at + 3) file) r
sized_on file at kind len r more fit is goes_on =
    let sum : at + 1 + 2 ≡ at + 3 = omega arith in
    let places : drop 2 (drop 1 (drop at file)) ≡ drop (at + 3) file = ap (drop 2) (drop-drop 1 at file) ∙ drop-drop 2 (at + 1) file ∙ ap (λ k. drop k file) sum in
    rw (le-ltb (length (drop 1 (drop at file))) 2 more, fit) (λ i. bodied first_fault goes_on file (at + 3) kind (sym is i) (places i) r)

pub if_ok_map : {A E : Type 0} (r : Result A E) (P Q : A → Type 0) → ((x : A) → P x → Q x) → IfOk r P → IfOk r Q
if_ok_map (Ok x) P Q f h = f x h
if_ok_map (Err e) P Q f h = h

some_same : (m x : Object) (b : Bool) → Some x ≡ cond b (Some m) None → m ≡ x
some_same m x true h = cc
some_same m x false h = cc

pub checked_some : (m x : Object) → Some x ≡ checked m → m ≡ x
checked_some m x h = some_same m x (is_module m) h
