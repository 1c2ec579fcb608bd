use Rattle.std.proofs.Common.{inl, inr, subst}
use Rattle.kc_kit_files.specs.declared.status.Status.{Status}
use Rattle.kc_kit_files.specs.Outside.{kept}
use Rattle.kc_kit_words.specs.Asked.{behind_in}
use Rattle.kc_kit_running.specs.Profiled.{writes_of}
use Rattle.kc_kit_running.specs.Writing.{AreWrittenBy}
use Rattle.kc_kit_running.proofs.profile_run.finish.Goals as goal

pub returns-in-Done-clause-finished : goal.returns-in-Done-clause-finished
returns-in-Done-clause-finished g c =
    let old = kept (g.F.Files.held c.args.files.now) (g.F.Files.write_faults c.args.files.now) in
    let new = kept (g.F.Files.held c.write-wrote.new.files) (g.F.Files.write_faults c.write-wrote.new.files) in
    let ws = writes_of (behind_in c.args.behind) (record { profile = c.args.watched.accounts.profile.items; cover = c.args.watched.accounts.cover.items }) in
    inl (c.ended_run.ensures, subst (λ (s : Status). AreWrittenBy old ws s c.write-wrote.result.said new) c.in-Done.is c.write-wrote.ensures.written.written)

pub returns-clause-finished : goal.returns-clause-finished
returns-clause-finished g c = inr (c.in_default.not-Done, c.write-wrote.ensures.written)
