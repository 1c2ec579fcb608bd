-- No least code, no code; no least fault, no fault of any statement.
use Rattle.std.proofs.Common.{◌≡◌, ℕ, List, [], ◌∷◌, ◌++◌, refl}
use Rattle.std.specs.Prelude.{Option, Some, None}
use Rattle.std.specs.Option.{option_to_list}
use Rattle.kc_lex.specs.LineFaults.{Fault, at_line}
use Rattle.kc_lex.proofs.FaultLemmas.{no_least}
use Rattle.kc_asm_symbols.specs.Located.{Located}
use Rattle.kc_asm_symbols.specs.Meanings.{meaning, in_all}
use Rattle.kc_lex.specs.Codes.{lesser_number}
use Rattle.kc_asm_emit.specs.Faults.{least}
use Rattle.kc_asm_layout.specs.declared.location.Location.{Location}
use Rattle.kc_asm_check.specs.Codes.{Regions, regions_after, stack_after, first_regions}
use Rattle.kc_asm_check.specs.Checking.{codes_of, faults_from, standing, location_list}
use Rattle.kc_asm_check.specs.Laws.{AreSound, SoundStatements}

lesser_some : (m : ℕ) (o : Option ℕ) → lesser_number (Some m) o ≡ None → ⊥
lesser_some m None e = cc
lesser_some m (Some n) e = cc

pub no_code : (codes : List ℕ) → least codes ≡ None → codes ≡ []
unfolding least
no_code [] e = refl
no_code (c ∷ cs) e = absurd (lesser_some c (least cs) e)

-- a statement's codes, and the faults behind it
none_at : (line : ℕ) (code : Option ℕ) (fs : List Fault) → option_to_list (at_line line code) ++ fs ≡ [] → (code ≡ None) × (fs ≡ [])
none_at line None fs e = (refl, e)
none_at line (Some c) fs e = absurd (cc)

are_sound : (all : List Located) (regions : Regions) (sum : ℕ) (before ls : List Located) (ss : List Location)
    → faults_from all regions sum before ls ss ≡ [] → AreSound all regions sum before ls ss
unfolding faults_from AreSound
are_sound all regions sum before [] ss e = tt
are_sound all regions sum before (l ∷ ls) [] e = tt
are_sound all regions sum before (l ∷ ls) (s ∷ ss) e =
    let parts = none_at l.line (least (codes_of (meaning all before l) (in_all all) regions sum l s))
    (faults_from all (regions_after (meaning all before l) regions l.action) (stack_after (meaning all before l) sum l.action) (l ∷ before) ls ss) e in
    (no_code _ parts.0, are_sound all (regions_after (meaning all before l) regions l.action) (stack_after (meaning all before l) sum l.action) (l ∷ before) ls ss parts.1)

pub sound_statements : SoundStatements
sound_statements stmts none =
    are_sound (standing stmts) first_regions 0 [] (standing stmts) (location_list stmts) (no_least _ none)
