use Rattle.std.proofs.Common.{◌≡◌, Ok, Err, List, ℕ, Result, sym, subst}
use Rattle.std.specs.Result.{IsErrAnd}
use Rattle.kc_base.proofs.ByteLemmas.{bytes_are}
use Rattle.kc_obj_module.specs.Object.{Object}
use Rattle.kc_lib.specs.declared.faults.LibFault.{LibFault}
use Rattle.kc_lib.specs.Answers.{IsCause, ReportsLibrary}
use Rattle.kc_lib.specs.Format.{IsLibrary}
use Rattle.kc_lib.specs.Reading.{read_answer}
use Rattle.kc_lib.proofs.ReadingLemmas.{read_is_library, read_can_be, reported_no_library}
use Rattle.kc_lib.proofs.library.Library.read.Goals as goal

-- the fault that `?` hands on
reported_on : (bytes : List ℕ) (r : Result (List Object) LibFault) (fault : LibFault) → IsErrAnd r (λ reported. reported ≡ fault) → IsCause fault (read_answer bytes ≡ Err fault) → ReportsLibrary bytes r
reported_on bytes (Ok ms) fault is h = absurd is
reported_on bytes (Err reported) fault is h = subst (λ (f : LibFault). IsCause f ((ms : List Object) → IsLibrary bytes ms → ⊥)) (sym is) (reported_no_library bytes fault h)

pub returns-in_err-members-clause-format : goal.returns-in_err-members-clause-format
returns-in_err-members-clause-format c = reported_on c.args.bytes.now c.from_residual.result c.in_err-members.field-0.0 c.from_residual.ensures.1 c.in_err-members.ensures

pub invariant_of-result : goal.invariant_of-result
invariant_of-result c = read_can_be c.args.bytes.now c.in_ok-members.members.items (bytes_are c.args.bytes.now c.type_inv.bytes) c.in_ok-members.ensures

pub returns-clause-format : goal.returns-clause-format
returns-clause-format c = read_is_library c.args.bytes.now c.in_ok-members.members.items (bytes_are c.args.bytes.now c.type_inv.bytes) c.in_ok-members.ensures
