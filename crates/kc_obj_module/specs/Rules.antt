-- The rules that a module keeps (this kit's own).
use Rattle.std.specs.Prelude.{◌≡◌, ℕ, Bool, true, not, ◌&&◌, nat_lt, if◌then◌else◌, Option, Some, None, List, [], ◌∷◌, length}
use Rattle.std.specs.List.{list_all}
use Rattle.kc_obj_module.specs.declared.parts.Segment.{Segment}
use Rattle.kc_obj_module.specs.declared.parts.Taken.{Taken}
use Rattle.kc_obj_module.specs.declared.parts.Given.{Given}
use Rattle.kc_obj_module.specs.declared.parts.Content.{Content}
use Rattle.kc_obj_module.specs.declared.parts.Fixup.{Fixup}
use Rattle.kc_obj_module.specs.Names.{is_name, is_stack_name, is_below}
use Rattle.kc_obj_module.specs.Pieces.{is_placed, segments_in_order, all_kept}
use Rattle.kc_obj_module.specs.Contents.{content_is_sound, contents_in_order}
use Rattle.kc_obj_module.specs.Fixups.{fixup_is_sound, fixups_in_order, has_room}
use Rattle.kc_obj_module.specs.LineEntries.{lines_are_sound}
use Rattle.kc_obj_module.specs.Object.{Object}
use Rattle.kc_obj_module.specs.Widths.{numbers_fit}

-- absolute pieces within their regions, pieces in order, and no empty piece that nothing names
abbrev pub segments_are_sound : List Segment → List Given → List Fixup → Bool
segments_are_sound segments publics fixups = list_all is_placed segments && segments_in_order segments && all_kept publics fixups 0 segments

abbrev pub externals_are_sound : List Taken → Bool
externals_are_sound externals = list_all (λ t. is_name t.name) externals

-- a number, or a piece of the module; FFFFH is no number of a piece
abbrev pub names_piece : ℕ → Option ℕ → Bool
names_piece count None = true
names_piece count (Some piece) = nat_lt piece count && nat_lt piece 0xFFFF

abbrev pub given_is_sound : ℕ → Given → Bool
given_is_sound count g = is_name g.name && not (is_stack_name g.name) && names_piece count g.piece

-- by rising name, no name twice
unfoldable pub publics_in_order : List Given → Bool
publics_in_order [] = true
publics_in_order (g ∷ []) = true
publics_in_order (g ∷ h ∷ gs) = is_below g.name h.name && publics_in_order (h ∷ gs)

abbrev pub publics_are_sound : ℕ → List Given → Bool
publics_are_sound count publics = list_all (given_is_sound count) publics && publics_in_order publics

abbrev pub contents_are_sound : List Segment → List Content → Bool
contents_are_sound segments contents = list_all (content_is_sound segments) contents && contents_in_order contents

abbrev pub fixups_are_sound : List Segment → List Taken → List Content → List Fixup → Bool
fixups_are_sound segments externals contents fixups =
    list_all (fixup_is_sound segments externals) fixups && fixups_in_order fixups && list_all (has_room contents) fixups

abbrev pub is_module : Object → Bool
is_module m =
    is_name m.name
    && segments_are_sound m.segments m.publics m.fixups
    && externals_are_sound m.externals
    && publics_are_sound (length m.segments) m.publics
    && contents_are_sound m.segments m.contents
    && fixups_are_sound m.segments m.externals m.contents m.fixups
    && lines_are_sound m.segments m.lines

-- the module, where it keeps the rules
abbrev pub checked : Object → Option Object
checked m = if is_module m then Some m else None

-- what is true of each module: the rules, and that its numbers fit
pub record IsSound (m : Object) : Type 0 where
  pub rules : is_module m ≡ true
  pub numbers : numbers_fit m ≡ true
