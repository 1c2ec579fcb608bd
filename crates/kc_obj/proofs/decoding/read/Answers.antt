use Rattle.std.proofs.Common.{◌≡◌, ◌-◌, Err, sym, ap, subst, ◌∙◌, arith}
use Rattle.kc_obj_fields.specs.declared.faults.Fault.{Fault}
use Rattle.kc_obj.specs.declared.step.Step.TheVariants as steps
use Rattle.kc_obj.specs.Reading.{Answer, reported, object_read, answer_of, IsDecoded}
use Rattle.kc_obj.proofs.StepLemmas.{on_step, one_less, no_more}
use Rattle.kc_base.proofs.ByteLemmas.{bytes_are}
use Rattle.kc_obj.proofs.FirstReported.{module_reported}
use Rattle.kc_obj.proofs.decoding.read.Goals as goal

pub loop-left-preserved : goal.loop-left-preserved
loop-left-preserved c =
    let file = c.args.bytes.now in
    let r = c.loop-left.reading in
    let so_far = one_less c.loop-left.left file c.loop-left.at r (answer_of file) (omega arith) c.loop-left.invariant.read in
    let step = rw c.in-Ok-On.field-0-is at c.in-Ok-On.ensures.step in
    record {
      read = on_step (c.loop-left.left - 1) file c.loop-left.at r c.step.new.reading (steps.On c.in-Ok-On.next) (answer_of file) step so_far;
      within = rw c.in-Ok-On.field-0-is at c.in-Ok-On.ensures.within;
    }

pub returns-in-Ok-End : goal.returns-in-Ok-End
returns-in-Ok-End c =
    let file = c.args.bytes.now in
    let r = c.loop-left.reading in
    let so_far = one_less c.loop-left.left file c.loop-left.at r (answer_of file) (omega arith) c.loop-left.invariant.read in
    let step = rw c.in-Ok-End.field-0-is at c.in-Ok-End.ensures.step in
    let is : reported c.step.new.reading.fault (object_read c.step.new.reading) ≡ answer_of file = on_step (c.loop-left.left - 1) file c.loop-left.at r c.step.new.reading steps.End (answer_of file) step so_far in
    subst (λ (a : Answer). IsDecoded c.finished.result a) is c.finished.ensures

pub returns-in-Ok-Stop : goal.returns-in-Ok-Stop
returns-in-Ok-Stop c =
    let file = c.args.bytes.now in
    let r = c.loop-left.reading in
    let so_far = one_less c.loop-left.left file c.loop-left.at r (answer_of file) (omega arith) c.loop-left.invariant.read in
    let step = rw c.in-Ok-Stop.field-0-is at c.in-Ok-Stop.ensures.step in
    sym (on_step (c.loop-left.left - 1) file c.loop-left.at r c.step.new.reading (steps.Stop c.in-Ok-Stop.fault) (answer_of file) step so_far)

pub returns : goal.returns
returns c =
    let file = c.args.bytes.now in
    sym (no_more c.loop-left.left file c.loop-left.at c.loop-left.reading (answer_of file) (omega arith) c.loop-left.invariant.read) ∙ ap (λ (f : Fault). Err f) (sym c.stop-fault.ensures)

pub finished-requires : goal.finished-requires
finished-requires c =
    let file = c.args.bytes.now in
    let r = c.loop-left.reading in
    let so_far = one_less c.loop-left.left file c.loop-left.at r (answer_of file) (omega arith) c.loop-left.invariant.read in
    let step = rw c.in-Ok-End.field-0-is at c.in-Ok-End.ensures.step in
    let is : reported c.step.new.reading.fault (object_read c.step.new.reading) ≡ answer_of file = on_step (c.loop-left.left - 1) file c.loop-left.at r c.step.new.reading steps.End (answer_of file) step so_far in
    λ m. module_reported file (reported c.step.new.reading.fault (object_read c.step.new.reading)) m (bytes_are file c.type_inv.bytes) is
