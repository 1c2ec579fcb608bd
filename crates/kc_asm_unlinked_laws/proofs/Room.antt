-- What the statements of a source without a fault write has room in its pieces.
use Rattle.std.proofs.Common.{ℕ, List, [], ◌∷◌}
use Rattle.kc_asm_symbols.specs.Located.{Located}
use Rattle.kc_asm_symbols.specs.Meanings.{meaning, in_all}
use Rattle.kc_asm_section.specs.Section.{Section}
use Rattle.kc_asm_emit.specs.Content.{content}
use Rattle.kc_asm_layout.specs.SizesLaws.{SizesStay, SizesHaveLengths}
use Rattle.kc_asm_layout.specs.declared.location.Location.{Location}
use Rattle.kc_asm_check.specs.Codes.{Regions, regions_after, stack_after}
use Rattle.kc_asm_check.specs.Checking.{standing, location_list}
use Rattle.kc_asm_check.specs.Codes.{first_regions}
use Rattle.kc_asm_check.specs.Laws.{SoundStatements}
use Rattle.kc_asm_check.specs.Putting.{put_of}
use Rattle.kc_asm_unlinked_laws.specs.Collecting.{parts_after, first_parts}
use Rattle.kc_asm_unlinked_laws.specs.Writable.{IsWritable, AllWritable, PartsAreWritable}
use Rattle.kc_asm_unlinked_laws.proofs.Standing.{Fits, fits}
use Rattle.kc_asm_unlinked_laws.proofs.Walking.{IsStep, AllSteps, walked}

pub step_fits : (all before : List Located) (regions : Regions) (sum : ℕ) (l : Located) (s : Location) (parts : List Section) (h : IsStep all before regions sum l s parts)
    → Fits (content (meaning all before l) s.form l.here l.action) s h.t
step_fits all before regions sum l s parts h = fits (meaning all before l) (in_all all) regions sum l s h.t h.stands h.faultless

writable : (all before : List Located) (regions : Regions) (sum : ℕ) (l : Located) (s : Location) (parts : List Section) → IsStep all before regions sum l s parts → IsWritable (put_of (meaning all before l) l s) l s parts
writable all before regions sum l s parts h =
    let f = step_fits all before regions sum l s parts h in
    record { t = h.t; part = h.part; kind = h.stands.kind; forward = f.forward; gap = f.gap; room = f.room }

all_writable : (all : List Located) (regions : Regions) (sum : ℕ) (before ls : List Located) (ss : List Location) (parts : List Section) → AllSteps all regions sum before ls ss parts → AllWritable all before ls ss parts
unfolding AllSteps
all_writable all regions sum before [] ss parts h = tt
all_writable all regions sum before (l ∷ ls) [] parts h = h
all_writable all regions sum before (l ∷ ls) (s ∷ ss) parts h =
    let look = meaning all before l in
    (writable all before regions sum l s parts h.0, all_writable all (regions_after look regions l.action) (stack_after look sum l.action) (l ∷ before) ls ss (parts_after look l s parts) h.1)

pub parts_writable : SizesStay → SizesHaveLengths → SoundStatements → PartsAreWritable
parts_writable stay lengths statements stmts none =
    let w = walked stay lengths statements stmts none in
    all_writable (standing stmts) first_regions 0 [] (standing stmts) (location_list stmts) first_parts w.steps
