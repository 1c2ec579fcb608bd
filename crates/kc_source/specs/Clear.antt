-- What lines without a fault keep of their names. A name is defined by one label or one EQU, or by SET alone; a name that
-- EXTRN takes is taken once and defined nowhere; a name that PUBLIC gives is defined.
use Rattle.std.specs.Prelude.{◌≡◌, ℕ, true, false, List, ◌∷◌, ◌++◌, None}
use Rattle.kc_lex.specs.declared.token.Line.{Line}
use Rattle.kc_source.specs.declared.uses.Use.{Use}
use Rattle.kc_source.specs.declared.uses.UseKind.{UseKind}
use Rattle.kc_source.specs.declared.uses.UseKind.TheVariants.{Once, Again, Taken, Given}
use Rattle.kc_source.specs.Faults.{has_use, is_once, is_taken, is_defined, least, faults_of, all_said, all_uses}

-- a use among all uses, behind those before it
abbrev pub IsClear : UseKind → List ℕ → List Use → List Use → Type 0
IsClear Once name before all = is_defined name before ≡ false
IsClear Again name before all = has_use is_once name before ≡ false
IsClear Taken name before all = (has_use is_taken name before ≡ false) × (is_defined name all ≡ false)
IsClear Given name before all = is_defined name all ≡ true

abbrev pub NamesAreClear : Type 0
NamesAreClear =
    (ls : List Line) → least (faults_of ls) ≡ None → (before after : List Use) (u : Use) → all_uses (all_said ls) ≡ before ++ u ∷ after
    → IsClear u.kind u.name before (all_uses (all_said ls))
