-- Files that options name for reading, and stimulus files.
use Rattle.std.proofs.Common.{◌≡◌, ℕ, ◌-◌, ◌≤◌, ◌<◌, Bool, cond, List, [], ◌∷◌, length, take, drop, get_or, Option, Some, None, refl, sym, ◌∙◌, ap, subst, arith}
use Rattle.std.specs.Global.{Vec}
use Rattle.std.proofs.lemmas.List.{take_all}
use Rattle.kc_kit_files.specs.Reads.{AllShort}
use Rattle.kc_kit_words.specs.declared.inputs.Role.{Role}
use Rattle.kc_kit_inputs.specs.Inputs.{is_role, input_for}
use Rattle.kc_kit_messages.proofs.Words.{texts_in}
use Rattle.kc_stim.specs.declared.fault.StimFault.{StimFault}
use Rattle.kc_stim.specs.declared.fault.StimFault.TheVariants as faults
use Rattle.kc_stim.specs.Reading.{nothing, first_fault, items_of, IsRefusal}
use Rattle.kc_kit_words.specs.Inputs.{first_of}
use Rattle.kc_kit_inputs.specs.Stimuli.{by_fault, stimuli_of}

-- ---- the first of some inputs

abbrev whole_of : {A : Type 0} → Option (A × List A) → List A
whole_of None = []
whole_of (Some first) = first.0 ∷ first.1

whole_of-first : {A : Type 0} (xs : List A) → whole_of (first_of xs) ≡ xs
whole_of-first [] = refl
whole_of-first (x ∷ xs) = refl

pub first-some : {A : Type 0} (xs : List A) (x : A) (more : List A) → Some (x, more) ≡ first_of xs → xs ≡ x ∷ more
first-some xs x more e = sym (whole_of-first xs) ∙ ap whole_of (sym e)

-- ---- the input that is there for a role

pub texts-first : (ts : List (Vec ℕ)) (t : Vec ℕ) → 1 ≤ length ts → t ≡ get_or ts 0 t → texts_in ts ≡ t.items ∷ texts_in (take (length ts - 1) (drop 1 ts))
texts-first [] t some e = absurd (omega (arith, some))
texts-first (a ∷ ts) t some e =
    let whole : take (length (a ∷ ts) - 1) ts ≡ ts = take_all (length (a ∷ ts) - 1) ts (omega arith) in
    rw e (ap (λ l. a.items ∷ texts_in l) (sym whole))

pub input-at : (role : Role) (inputs : List (Role × List ℕ)) (ts : List (Vec ℕ)) (i : Role × List ℕ) (others : List (Role × List ℕ)) (t : Vec ℕ) (b : Bool) →
    inputs ≡ i ∷ others → 1 ≤ length ts → t ≡ get_or ts 0 t → is_role i.0 role ≡ b →
    input_for role inputs (texts_in ts) ≡ cond b (Some (i.1, t.items)) (input_for role others (texts_in (take (length ts - 1) (drop 1 ts))))
input-at role inputs ts i others t b e some f h =
    ap (λ l. input_for role l (texts_in ts)) e ∙ ap (input_for role (i ∷ others)) (texts-first ts t some f)
    ∙ ap (λ c. cond c (Some (i.1, t.items)) (input_for role others (texts_in (take (length ts - 1) (drop 1 ts))))) h

pub input-none : (role : Role) (inputs : List (Role × List ℕ)) (texts : List (List ℕ)) → None ≡ first_of inputs → input_for role inputs texts ≡ None
input-none role [] texts e = refl
input-none role (i ∷ inputs) texts e = absurd (cc)

pub no-texts : (role : Role) (inputs : List (Role × List ℕ)) (ts : List (Vec ℕ)) → length ts < 1 → input_for role inputs (texts_in ts) ≡ None
no-texts role [] [] h = refl
no-texts role (i ∷ inputs) [] h = refl
no-texts role inputs (t ∷ ts) h = absurd (omega (arith, h))

pub short-first : (ts : List (Vec ℕ)) (t : Vec ℕ) → 1 ≤ length ts → t ≡ get_or ts 0 t → AllShort (texts_in ts) → (length t.items ≤ 1048576) × AllShort (texts_in (take (length ts - 1) (drop 1 ts)))
short-first ts t some e h = subst AllShort (texts-first ts t some e) h

-- ---- a stimulus file

-- without a fault
pub stimuli-read : (name text : List ℕ) (fault : Option StimFault) → first_fault 0 nothing (items_of text) ≡ fault → stimuli_of name text ≡ by_fault name text fault
stimuli-read name text fault e = ap (by_fault name text) e

-- with one that is reported
pub stimuli-refused : (name text : List ℕ) (fault : StimFault) (P : Type 0) → IsRefusal text fault → (fault ≡ faults.NoMemory → P) → (stimuli_of name text ≡ by_fault name text (Some fault) → P) → P
stimuli-refused name text faults.NoMemory P h none some = none refl
stimuli-refused name text (faults.BadLine line) P h none some = some (stimuli-read name text (Some (faults.BadLine line)) h)
stimuli-refused name text (faults.Wired line) P h none some = some (stimuli-read name text (Some (faults.Wired line)) h)
stimuli-refused name text (faults.Falling line) P h none some = some (stimuli-read name text (Some (faults.Falling line)) h)
stimuli-refused name text (faults.Twice line) P h none some = some (stimuli-read name text (Some (faults.Twice line)) h)
stimuli-refused name text (faults.TooMany line) P h none some = some (stimuli-read name text (Some (faults.TooMany line)) h)
