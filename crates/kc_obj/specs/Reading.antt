-- An object read record by record: the module or the first fault, and all faults (this kit's own format and codes).
use Rattle.std.specs.Prelude.{◌≡◌, ℕ, ◌≤◌, zero, suc, Bool, true, false, not, ◌+◌, ◌-◌, ◌*◌, ◌/◌, ◌==◌, ◌&&◌, ◌||◌, nat_lt, nat_le, if◌then◌else◌, Option, Some, None, is_none, Result, Ok, Err, List, [], ◌∷◌, ◌++◌, length, take, drop, slice_index, slice_get}
use Rattle.kc_obj_fields.specs.declared.faults.Fault.{Fault}
use Rattle.kc_obj_fields.specs.declared.faults.ObjFault.{ObjFault}
use Rattle.kc_obj_fields.specs.declared.faults.ObjFault.TheVariants as faults
use Rattle.kc_obj_module.specs.declared.parts.Segment.{Segment}
use Rattle.kc_obj_module.specs.declared.parts.Taken.{Taken}
use Rattle.kc_obj_module.specs.declared.parts.Given.{Given}
use Rattle.kc_obj_module.specs.declared.parts.Content.{Content}
use Rattle.kc_obj_module.specs.declared.parts.Fixup.{Fixup}
use Rattle.kc_obj_module.specs.declared.parts.Lines.{Lines}
use Rattle.kc_obj_module.specs.declared.module.Module.{Module}
use Rattle.kc_obj.specs.declared.step.Step.{Step}
use Rattle.kc_obj.specs.declared.step.Step.TheVariants as steps
use Rattle.kc_obj_module.specs.Object.{Object, object_of}
use Rattle.kc_obj_module.specs.Pieces.{all_kept}
use Rattle.kc_obj_fields.specs.Codes.{wrong_order, too_short, other_spelling, bytes_behind}
use Rattle.kc_obj_fields.specs.Fields.{last_of, word_at, name_at, fault_at, Noting, noted, listed}
use Rattle.kc_obj_fields.specs.Records.{head_faults, segment_at, segment_faults, taken_at, taken_faults, given_at, given_faults, run_at, run_faults, fixup_at, fixup_place_faults, under_faults, target_faults, entry_at, entry_faults, block_faults}

-- what was read: the place of the last record in the order of types, the parts of the module so far, where in the file
-- the bytes of each run begin, how many entries the last record of lines had, and what was taken down of faults
pub record ReadBy (C : Type 0) : Type 0 where
  pub stage : ℕ
  pub name : List ℕ
  pub segments : List Segment
  pub externals : List Taken
  pub publics : List Given
  pub contents : List Content
  pub fixups : List Fixup
  pub has_lines : Bool
  pub lines : List Lines
  pub starts : List ℕ
  pub block : ℕ
  pub fault : C

-- with the first fault alone
abbrev pub Read : Type 0
Read = ReadBy (Option Fault)

abbrev pub begun : {C : Type 0} → C → ReadBy C
begun none = record { stage = 0; name = []; segments = []; externals = []; publics = []; contents = []; fixups = []; has_lines = false; lines = []; starts = []; block = 0; fault = none }

abbrev pub nothing_read : Read
nothing_read = begun None

abbrev pub object_read : {C : Type 0} → ReadBy C → Object
object_read r = object_of r.name r.segments r.externals r.publics r.contents r.fixups (if r.has_lines then Some r.lines else None)

-- ---- the order of types, and the lengths that a record can have

-- 0 for a type that there is not
abbrev pub stage_of : ℕ → ℕ
stage_of kind =
    if kind == 0x01 then 1 else (if kind == 0x02 then 2 else (if kind == 0x05 then 3 else (if kind == 0x06 then 4
    else (if kind == 0x03 then 5 else (if kind == 0x04 then 6 else (if kind == 0x07 then 7 else (if kind == 0x7F then 8 else 0)))))))

-- the name first, then each type not before its own; line entries only in version 2
abbrev pub may_come : {C : Type 0} → ReadBy C → ℕ → Bool
may_come r kind =
    if r.stage == 0 then kind == 0x01
    else (nat_le 2 (stage_of kind) && nat_le r.stage (stage_of kind) && (r.has_lines || not (kind == 0x07)))

-- a name after `prefix` bytes and before `back` bytes; where its length byte is cut off, any length byte will do
abbrev pub fits_name : ℕ → ℕ → ℕ → List ℕ → Bool
fits_name prefix back len body =
    if nat_lt prefix (length body) then len == prefix + slice_index body prefix + 1 + back
    else (nat_le (prefix + 1 + back) len && nat_le len (prefix + 256 + back))

abbrev pub fits_lines : ℕ → Bool
fits_lines len = nat_le 8 len && ((len - 2) / 6 * 6 == len - 2) && nat_le ((len - 2) / 6) 1024

-- (body: all that the file has after the length)
abbrev pub fits : ℕ → ℕ → List ℕ → Bool
fits kind len body =
    if kind == 0x01 then fits_name 1 0 len body
    else (if kind == 0x02 then len == 6
    else (if kind == 0x05 then fits_name 0 1 len body
    else (if kind == 0x06 then fits_name 0 4 len body
    else (if kind == 0x03 then nat_le 5 len && nat_le len 1028
    else (if kind == 0x04 then len == 10
    else (if kind == 0x07 then fits_lines len
    else len == 0))))))

-- ---- what each record adds (at: where its body begins)

abbrev pub after_head : {C : Type 0} → Noting C → ℕ → List ℕ → ReadBy C → ReadBy C
after_head note at body r = record r { name = name_at (drop 1 body); has_lines = not (slice_index body 0 == 1); fault = head_faults note at body r.fault }

abbrev pub after_segment : {C : Type 0} → Noting C → ℕ → List ℕ → ReadBy C → ReadBy C
after_segment note at body r = record r { segments = r.segments ++ segment_at body ∷ []; fault = segment_faults note at (last_of r.segments) body r.fault }

abbrev pub after_taken : {C : Type 0} → Noting C → ℕ → List ℕ → ReadBy C → ReadBy C
after_taken note at body r = record r { externals = r.externals ++ taken_at body ∷ []; fault = taken_faults note at body r.fault }

abbrev pub after_given : {C : Type 0} → Noting C → ℕ → List ℕ → ReadBy C → ReadBy C
after_given note at body r = record r { publics = r.publics ++ given_at body ∷ []; fault = given_faults note at (last_of r.publics) (length r.segments) body r.fault }

abbrev pub with_run : {C : Type 0} → Content → ℕ → ReadBy C → ReadBy C
with_run run start r = record r { contents = r.contents ++ run ∷ []; starts = r.starts ++ start ∷ [] }

abbrev pub new_run_faults : {C : Type 0} → Noting C → ℕ → ℕ → List ℕ → ReadBy C → C
new_run_faults note at len body r = run_faults note at (last_of r.contents) (slice_get r.segments (word_at body 0)) len body r.fault

abbrev pub after_run : {C : Type 0} → Noting C → ℕ → ℕ → List ℕ → ReadBy C → ReadBy C
after_run note at len body r = with_run (run_at body) (at + 4) (record r { fault = new_run_faults note at len body r })

abbrev pub fixup_faults : {C : Type 0} → Noting C → ℕ → List ℕ → List ℕ → ReadBy C → C
fixup_faults note at file body r =
    target_faults note at (length r.segments) (length r.externals) body
    (under_faults note at file (length r.segments) r.contents r.starts r.fixups body
    (fixup_place_faults note at (last_of r.fixups) (length r.segments) body r.fault))

abbrev pub after_fixup : {C : Type 0} → Noting C → ℕ → List ℕ → List ℕ → ReadBy C → ReadBy C
after_fixup note at file body r = record r { fixups = r.fixups ++ fixup_at body ∷ []; fault = fixup_faults note at file body r }

abbrev pub after_entry : {C : Type 0} → Noting C → ℕ → Option Segment → ℕ → List ℕ → ReadBy C → ReadBy C
after_entry note at segment piece body r =
    record r { lines = r.lines ++ entry_at piece body ∷ []; fault = entry_faults note at (last_of r.lines) segment piece body r.fault }

-- n entries
unfoldable pub after_entries : {C : Type 0} → Noting C → ℕ → ℕ → Option Segment → ℕ → List ℕ → ReadBy C → ReadBy C
after_entries note zero at segment piece body r = r
after_entries note (suc n) at segment piece body r = after_entries note n (at + 6) segment piece (drop 6 body) (after_entry note at segment piece body r)

abbrev pub opened_faults : {C : Type 0} → Noting C → ℕ → List ℕ → ReadBy C → C
opened_faults note at body r = block_faults note at (last_of r.lines) r.block (slice_get r.segments (word_at body 0)) body r.fault

abbrev pub opened_block : {C : Type 0} → Noting C → ℕ → List ℕ → ReadBy C → ReadBy C
opened_block note at body r = record r { fault = opened_faults note at body r }

abbrev pub after_block : {C : Type 0} → Noting C → ℕ → ℕ → List ℕ → ReadBy C → ReadBy C
after_block note at len body r =
    record (after_entries note ((len - 2) / 6) (at + 2) (slice_get r.segments (word_at body 0)) (word_at body 0) (drop 2 body) (opened_block note at body r)) { block = (len - 2) / 6 }

abbrev pub after_record : {C : Type 0} → Noting C → ℕ → ℕ → ℕ → List ℕ → List ℕ → ReadBy C → ReadBy C
after_record note kind at len file body r =
    if kind == 0x01 then after_head note at body r
    else (if kind == 0x02 then after_segment note at body r
    else (if kind == 0x05 then after_taken note at body r
    else (if kind == 0x06 then after_given note at body r
    else (if kind == 0x03 then after_run note at len body r
    else (if kind == 0x04 then after_fixup note at file body r
    else (if kind == 0x07 then after_block note at len body r
    else r))))))

-- ---- the whole file, reported in one of two ways: by the first fault, or by each

-- how a fault is taken down, whether an empty piece that nothing names is looked for, and what is reported in the end
pub record Reporting (C A : Type 0) : Type 0 where
  pub note : Noting C
  pub looks_on : C → Bool
  pub report : C → Object → A

abbrev pub Answer : Type 0
Answer = Result Object Fault

abbrev pub reported : Option Fault → Object → Answer
reported None m = Ok m
reported (Some fault) m = Err fault

-- a fault that was found stands before the end record, and goes first
abbrev pub first_fault : Reporting (Option Fault) Answer
first_fault = record { note = noted; looks_on = is_none; report = reported }

abbrev pub each_fault : Reporting (List Fault) (List Fault)
each_fault = record { note = listed; looks_on = λ faults. true; report = λ faults m. faults }

-- no more is read
abbrev pub stopped : {C A : Type 0} → Reporting C A → ReadBy C → ℕ → ℕ → A
stopped by r at code = by.report (by.note r.fault true at code) (object_read r)

-- the end: nothing may stand behind it
abbrev pub ended : {C A : Type 0} → Reporting C A → ReadBy C → ℕ → ℕ → A
ended by r at behind = if behind == 0 then by.report r.fault (object_read r) else stopped by r at bytes_behind

-- an empty piece that nothing names is reported at the end record
abbrev pub at_stage : {C A : Type 0} → Reporting C A → ℕ → ℕ → ReadBy C → ReadBy C
at_stage by at kind r =
    record r { stage = stage_of kind; fault = by.note r.fault ((kind == 0x7F) && by.looks_on r.fault && not (all_kept r.publics r.fixups 0 r.segments)) at other_spelling }

abbrev pub behind_record : {C A : Type 0} → Reporting C A → (ℕ → ReadBy C → A) → ℕ → ℕ → ℕ → ℕ → ReadBy C → A
behind_record by goes_on at kind len behind r = if kind == 0x7F then ended by r at behind else goes_on (at + len) r

-- (at: where the body begins; body: all that the file has from there on)
abbrev pub bodied : {C A : Type 0} → Reporting C A → (ℕ → ReadBy C → A) → List ℕ → ℕ → ℕ → ℕ → List ℕ → ReadBy C → A
bodied by goes_on file at kind len body r =
    if nat_lt (length body) len then stopped by (after_record by.note kind at len file body r) (length file) too_short
    else behind_record by goes_on at kind len (length body) (after_record by.note kind at len file (take len body) r)

-- (rest: all that the file has after the type)
abbrev pub sized : {C A : Type 0} → Reporting C A → (ℕ → ReadBy C → A) → List ℕ → ℕ → ℕ → List ℕ → ReadBy C → A
sized by goes_on file at kind rest r =
    if nat_lt (length rest) 2 then stopped by r (length file) too_short
    else (if fits kind (word_at rest 0) (drop 2 rest) then bodied by goes_on file (at + 3) kind (word_at rest 0) (drop 2 rest) r
    else stopped by r (at + 1) other_spelling)

-- (rest: all that the file has from the record on)
abbrev pub typed : {C A : Type 0} → Reporting C A → (ℕ → ReadBy C → A) → List ℕ → ℕ → List ℕ → ReadBy C → A
typed by goes_on file at rest r =
    if length rest == 0 then stopped by r at too_short
    else (if may_come r (slice_index rest 0) then sized by goes_on file at (slice_index rest 0) (drop 1 rest) (at_stage by at (slice_index rest 0) r)
    else stopped by r at wrong_order)

-- from an offset on, at most n records
unfoldable pub read_on : {C A : Type 0} → Reporting C A → ℕ → List ℕ → ℕ → ReadBy C → A
read_on by zero file at r = stopped by r (length file) too_short
read_on by (suc n) file at r = typed by (read_on by n file) file at (drop at file) r

abbrev pub answer_of : List ℕ → Answer
answer_of file = read_on first_fault (length file + 1) file 0 nothing_read

-- all faults, the last that was found first. They are those of the records up to one whose type may not come there, whose
-- length is not that of its body, or in which the file ends: where a record behind it would begin is not known
abbrev pub faults_of : List ℕ → List Fault
faults_of file = read_on each_fault (length file + 1) file 0 (begun [])

-- what a step of the reading comes to
abbrev pub step_answer : (ℕ → Read → Answer) → Step → Read → Answer
step_answer goes_on (steps.On next) r = goes_on next r
step_answer goes_on steps.End r = reported r.fault (object_read r)
step_answer goes_on (steps.Stop fault) r = Err fault

-- the next record begins within the file
abbrev pub IsWithin : ℕ → Step → Type 0
IsWithin len (steps.On next) = next ≤ len
IsWithin len steps.End = Unit {0}
IsWithin len (steps.Stop fault) = Unit {0}

-- what a call answers
abbrev pub IsDecoded : Result Module ObjFault → Answer → Type 0
IsDecoded (Ok m) answer = answer ≡ Ok m
IsDecoded (Err (faults.At at code)) answer = answer ≡ Err (fault_at at code)
IsDecoded (Err faults.NoMemory) answer = Unit {0}
