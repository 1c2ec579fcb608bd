-- What a call reports of the spelling.
use Rattle.std.proofs.Common.{◌≡◌, ℕ, ◌+◌, true, List, length, Result, Ok, Err, sym, ap, subst, ◌∙◌, arith}
use Rattle.kc_obj_module.specs.declared.module.Module.{Module}
use Rattle.kc_obj_module.specs.Object.{Object}
use Rattle.kc_obj_module.specs.Rules.{is_module}
use Rattle.kc_obj_fields.specs.declared.faults.ObjFault.{ObjFault}
use Rattle.kc_obj_fields.specs.declared.faults.ObjFault.TheVariants as faults
use Rattle.kc_obj_fields.specs.declared.faults.Fault.{Fault}
use Rattle.kc_obj_fields.specs.Fields.{fault_at}
use Rattle.kc_obj.specs.Reading.{Answer, answer_of, faults_of, IsDecoded}
use Rattle.kc_obj.proofs.Least.{least, first_is, none_is, least_within}
use Rattle.kc_obj.proofs.Seen.{fault_in, agrees}
use Rattle.kc_base.specs.Bytes.{IsBytes}
use Rattle.kc_obj.specs.Law.{ReportsSpelling, IsFirstOf, ReportsFirst}
use Rattle.kc_obj.proofs.Decoded.{decoded_spelled}
use Rattle.kc_obj.proofs.Spelled.{spelled_decoded}

pub reports : (bytes : List ℕ) (r : Result Module ObjFault) → IsBytes bytes → IsDecoded r (answer_of bytes) → ReportsSpelling bytes r
reports bytes (Ok m) h is = decoded_spelled bytes m h is
reports bytes (Err (faults.At at code)) h is = λ m spelled. let ok = spelled_decoded bytes m spelled in absurd (cc (ok, is))
reports bytes (Err faults.NoMemory) h is = tt

-- what the bytes say is a module, where it is one without a fault
pub module_reported : (bytes : List ℕ) (answer : Answer) (m : Object) → IsBytes bytes → answer ≡ answer_of bytes → answer ≡ Ok m → is_module m ≡ true
module_reported bytes answer m h is ok = (decoded_spelled bytes m h (sym is ∙ ok)).sound

-- ---- all faults

first_of : (answer : Answer) (found : List Fault) → fault_in answer ≡ least found → IsFirstOf found answer
first_of (Ok m) found h = none_is found (sym h)
first_of (Err f) found h = first_is found f (sym h)

pub first_reported : (bytes : List ℕ) → IsFirstOf (faults_of bytes) (answer_of bytes)
first_reported bytes = first_of (answer_of bytes) (faults_of bytes) (agrees bytes).first

pub reports_first : (bytes : List ℕ) (r : Result Module ObjFault) → IsDecoded r (answer_of bytes) → ReportsFirst bytes r
reports_first bytes (Ok m) is = subst (IsFirstOf (faults_of bytes)) is (first_reported bytes)
reports_first bytes (Err (faults.At at code)) is =
    let it = agrees bytes in
    let low = least_within (length bytes + 1) (faults_of bytes) (fault_at at code) it.within (sym it.first ∙ ap fault_in is) in
    (subst (IsFirstOf (faults_of bytes)) is (first_reported bytes), omega (arith, low))
reports_first bytes (Err faults.NoMemory) is = tt
