-- The unlinked module of a module: what its statements write, each at its location (after the MCS-96 Macro Assembler User's Guide,
-- "Assembler Directives").
use Rattle.std.specs.Prelude.{◌≡◌, ℕ, ◌-◌, ◌%◌, if◌then◌else◌, List, [], ◌∷◌, ◌++◌, replicate, codes, Option, Some, None, unwrap_or, Ok, Err, slice_get, slice_set}
use Rattle.std.specs.List.{list_any}
use Rattle.std.specs.Str.{bytes_eq}
use Rattle.kc_obj_module.specs.declared.parts.SegKind.{SegKind}
use Rattle.kc_obj_module.specs.declared.parts.SegKind.TheVariants.{Reg, Code, Ram, Stack}
use Rattle.kc_expr.specs.Meaning.{Answer}
use Rattle.kc_source_statement.specs.declared.statement.Stmt.{Stmt}
use Rattle.kc_source_statement.specs.Trees.{ActionTree, Module, Cseg, Dseg, Rseg}
use Rattle.kc_source_statement.specs.Formed.{given_names}
use Rattle.kc_asm_symbols.specs.Located.{Located}
use Rattle.kc_asm_symbols.specs.Externals.{externals}
use Rattle.kc_asm_symbols.specs.Meanings.{meaning, in_all}
use Rattle.kc_asm_encode.specs.declared.relocatable_byte.RelocatableByte.TheVariants.{Plain}
use Rattle.kc_asm_section.specs.declared.unlinked.UnlinkedModule.{UnlinkedModule}
use Rattle.kc_asm_section.specs.declared.unlinked.Public.{Public as Given}
use Rattle.kc_asm_section.specs.Section.{Section, blank, laid, skipped, written}
use Rattle.kc_asm_emit.specs.Arguments.{Look}
use Rattle.kc_asm_emit.specs.Content.{Content, Nothing, RelocatableBytes, Reserved, Upto, Even, content}
use Rattle.kc_asm_layout.specs.declared.location.Location.{Location}
use Rattle.kc_asm_check.specs.Checking.{location_list, standing}
use Rattle.kc_asm_check.specs.Putting.{Put, put_of, stack_of}

-- ---- pieces

-- bytes that lead on to a place: FFH in code, else nothing stands there
abbrev pub led : SegKind → ℕ → Section → Section
led Code count t = laid (replicate count (Plain 255)) t
led kind count t = skipped count t

-- what a statement that stands at a place puts there
abbrev pub put_content : ℕ → SegKind → ℕ → Content → Section → Section
put_content line kind place Nothing t = t
put_content line kind place (RelocatableBytes os) t = written line os t
put_content line kind place (Reserved n) t = skipped n t
put_content line kind place (Upto to) t = skipped (to - place) t
put_content line kind place Even t = led kind (place % 2) t

abbrev pub section_with : Content → Located → Location → Section → Section
section_with c l s t = put_content l.line l.segment.kind s.place c (led l.segment.kind (s.place - s.before) t)

abbrev pub section_after : Look → Located → Location → Section → Section
section_after look l s t = section_with (content look s.form l.here l.action) l s t

abbrev pub kind_opened : ActionTree → SegKind
kind_opened (Cseg at) = Code
kind_opened (Dseg at) = Ram
kind_opened (Rseg at) = Reg
kind_opened action = Stack

abbrev pub with_opened : SegKind → Option ℕ → List Section → List Section
with_opened kind None parts = parts
with_opened kind (Some address) parts = parts ++ blank kind (Some address) ∷ []

abbrev pub first_section : Section
first_section = blank Code None

-- the pieces behind a statement that puts this
abbrev pub parts_with : Put → Located → Location → List Section → List Section
parts_with p l s parts =
    with_opened (kind_opened l.action) p.opens
    (slice_set parts l.segment.piece (section_with p.content l s (unwrap_or (slice_get parts l.segment.piece) first_section)))

abbrev pub parts_after : Look → Located → Location → List Section → List Section
parts_after look l s parts = parts_with (put_of look l s) l s parts

unfoldable pub parts_from : List Located → List Located → List Located → List Location → List Section → List Section
parts_from all before [] ss parts = parts
parts_from all before (l ∷ ls) [] parts = parts
parts_from all before (l ∷ ls) (s ∷ ss) parts =
    parts_from all (l ∷ before) ls ss (parts_after (meaning all before l) l s parts)

abbrev pub first_parts : List Section
first_parts = blank Reg None ∷ blank Code None ∷ blank Ram None ∷ []

-- ---- the name, public names

-- the name in MODULE, else NONAME
abbrev pub name_or : Option (List ℕ) → List ℕ → List ℕ
name_or None other = other
name_or (Some name) other = name

abbrev pub name_by : ActionTree → List ℕ → List ℕ
name_by (Module name stack) other = name_or name other
name_by action other = other

unfoldable pub name_of : List Located → List ℕ
name_of [] = codes "NONAME"
name_of (l ∷ ls) = name_by l.action (name_of ls)

-- the names that PUBLIC gives, each where it is given first
unfoldable pub all_given : List Located → List (List ℕ)
all_given [] = []
all_given (l ∷ ls) = given_names l.action ++ all_given ls

unfoldable pub distinct_from : List (List ℕ) → List (List ℕ) → List (List ℕ)
distinct_from seen [] = []
distinct_from seen (n ∷ ns) = if list_any (bytes_eq n) seen then distinct_from seen ns else n ∷ distinct_from (n ∷ seen) ns

-- with the values that they have by all statements
abbrev pub given_as : List ℕ → Answer → List Given
given_as name (Ok v) = record { name = name; value = v } ∷ []
given_as name (Err fault) = []

unfoldable pub publics_of : (List ℕ → Answer) → List (List ℕ) → List Given
publics_of last [] = []
publics_of last (n ∷ ns) = given_as n (last n) ++ publics_of last ns

-- ---- the whole

pub record IsUnlinkedModuleOf (stmts : List Stmt) (d : UnlinkedModule) : Type 0 where
  pub name : d.name ≡ name_of (standing stmts)
  pub parts : d.parts.items ≡ parts_from (standing stmts) [] (standing stmts) (location_list stmts) first_parts
  pub stack : d.stack ≡ stack_of stmts
  pub externals : d.externals.items ≡ externals (standing stmts)
  pub publics : d.publics.items ≡ publics_of (in_all (standing stmts)) (distinct_from [] (all_given (standing stmts)))
