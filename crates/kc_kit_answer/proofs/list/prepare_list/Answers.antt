use Rattle.kc_base.specs.Causes.{Rose}
use Rattle.std.proofs.Common.{refl}
use Rattle.kc_code.specs.Listing.{listing}
use Rattle.kc_kit_files.specs.declared.status.Status.TheVariants as status
use Rattle.kc_kit_files.specs.Response.{says}
use Rattle.kc_kit_answer.specs.Answer.{OneText}
use Rattle.kc_kit_answer.specs.Hex.{ListAnswer, ListingOf}
use Rattle.kc_kit_answer.proofs.AnswerSteps.{one-missed, hex-job, hex-bad}
use Rattle.kc_kit_answer.proofs.list.prepare_list.Goals as goal

pub returns-in-Err : goal.returns-in-Err
returns-in-Err g c =
    let name = c.args.list.now.file.now in
    let rose : Type 0 = Rose (g.F.Files.read_faults c.args.files.now) (g.F.Files.read_faults c.read_file.new.files) in
    record {
      answer = one-missed name (OneText (ListAnswer name c.args.list.now.first c.args.list.now.last)) (g.F.Files.held c.args.files.now) rose c.in-Err.refusal c.in-Err.ensures.read;
      only_read = c.read_file.ensures.stays;
    }

pub returns-in-Ok-image_of : goal.returns-in-Ok-image_of
returns-in-Ok-image_of g c =
    let name = c.args.list.now.file.now in
    let rose : Type 0 = Rose (g.F.Files.read_faults c.args.files.now) (g.F.Files.read_faults c.read_file.new.files) in
    record {
      answer = (
        hex-job name c.in-Ok.text.items c.deref.result.now c.in-Ok-image_of.image (ListingOf c.args.list.now.first c.args.list.now.last) (g.F.Files.held c.args.files.now) rose (says status.Done (listing c.in-Ok-image_of.image c.args.list.now.first c.args.list.now.last))
            c.deref.ensures.value c.in-Ok.ensures.read.0 c.in-Ok.ensures.read.1 c.in-Ok-image_of.ensures.image refl,
        c.requires,
      );
      only_read = c.read_file.ensures.stays;
    }

pub returns : goal.returns
returns g c =
    let name = c.args.list.now.file.now in
    let rose : Type 0 = Rose (g.F.Files.read_faults c.args.files.now) (g.F.Files.read_faults c.read_file.new.files) in
    record {
      answer = hex-bad name c.in-Ok.text.items c.deref.result.now (ListingOf c.args.list.now.first c.args.list.now.last) (g.F.Files.held c.args.files.now) rose c.in-Err-image_of.refusal
          c.deref.ensures.value c.in-Ok.ensures.read.0 c.in-Ok.ensures.read.1 c.in-Err-image_of.ensures.refusal;
      only_read = c.read_file.ensures.stays;
    }
