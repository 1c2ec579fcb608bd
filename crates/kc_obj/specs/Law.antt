-- The laws of the format (this kit's own): the bytes that are read as a module are the one spelling of that module, and the
-- spelling of each module is read as it; of all faults the first is reported.
use Rattle.std.specs.Prelude.{◌≡◌, ℕ, ◌≤◌, Result, Ok, Err, List, [], length}
use Rattle.kc_base.specs.Bytes.{IsBytes}
use Rattle.kc_obj_module.specs.declared.module.Module.{Module}
use Rattle.kc_obj_module.specs.Object.{Object}
use Rattle.kc_obj_module.specs.Spelled.{IsSpelled}
use Rattle.kc_obj_fields.specs.declared.faults.Fault.{Fault}
use Rattle.kc_obj_fields.specs.declared.faults.ObjFault.{ObjFault}
use Rattle.kc_obj_fields.specs.declared.faults.ObjFault.TheVariants as faults
use Rattle.kc_obj_fields.specs.Fields.{fault_at, IsFirst}
use Rattle.kc_obj.specs.Reading.{Answer, answer_of, faults_of}

abbrev pub DecodedIsSpelled : Type 0
DecodedIsSpelled = (bytes : List ℕ) (m : Object) → IsBytes bytes → answer_of bytes ≡ Ok m → IsSpelled bytes m

abbrev pub SpelledIsDecoded : Type 0
SpelledIsDecoded = (bytes : List ℕ) (m : Object) → IsSpelled bytes m → answer_of bytes ≡ Ok m

-- a call gives the module of which the bytes are the spelling, and a fault only where they are that of none
abbrev pub ReportsSpelling : List ℕ → Result Module ObjFault → Type 0
ReportsSpelling bytes (Ok m) = IsSpelled bytes m
ReportsSpelling bytes (Err (faults.At at code)) = (m : Object) → IsSpelled bytes m → ⊥
ReportsSpelling bytes (Err faults.NoMemory) = Unit {0}

-- ---- all faults

-- the first of them, or that there is none
abbrev pub IsFirstOf : List Fault → Answer → Type 0
IsFirstOf found (Ok m) = found ≡ []
IsFirstOf found (Err fault) = IsFirst fault found

abbrev pub FirstIsReported : Type 0
FirstIsReported = (bytes : List ℕ) → IsFirstOf (faults_of bytes) (answer_of bytes)

-- a call gives a module only where there is no fault, and else the first, which stands within the bytes or at their end
abbrev pub ReportsFirst : List ℕ → Result Module ObjFault → Type 0
ReportsFirst bytes (Ok m) = faults_of bytes ≡ []
ReportsFirst bytes (Err (faults.At at code)) = IsFirst (fault_at at code) (faults_of bytes) × (at ≤ length bytes)
ReportsFirst bytes (Err faults.NoMemory) = Unit {0}
