use Rattle.std.proofs.Common.{◌≡◌, Err, ap}
use Rattle.kc_base.specs.declared.files.FileFault.TheVariants as faults
use Rattle.kc_kit_streams.proofs.CallLemmas.{calm_read}
use Rattle.kc_kit_streams.proofs.memory.MemFilesStreams.open.Goals as goal

pub returns-in-Ok-clause-calm : goal.returns-in-Ok-clause-calm
returns-in-Ok-clause-calm c = λ h. calm_read c.args.self.now c.read.new.self (λ e. let failed = c.read.ensures.fails.0 e in absurd (cc)) c.read.ensures.same c.read.ensures.later

pub returns-in-Err-TooLong-clause-calm : goal.returns-in-Err-TooLong-clause-calm
returns-in-Err-TooLong-clause-calm c = λ h. calm_read c.args.self.now c.read.new.self (λ e. let failed = c.read.ensures.fails.0 e in absurd (cc)) c.read.ensures.same c.read.ensures.later

pub returns-in-Err-clause-calm : goal.returns-in-Err-clause-calm
returns-in-Err-clause-calm c = λ h. calm_read c.args.self.now c.read.new.self
    (λ e. let failed = c.read.ensures.fails.0 e in let same : c.in-Err.fault ≡ faults.Failed = cc in h (ap Err same)) c.read.ensures.same c.read.ensures.later
