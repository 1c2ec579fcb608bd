use Rattle.std.proofs.Common.{List, ◌++◌, sym, ◌∙◌, ap, append-nil, append_assoc}
use Rattle.kc_vcd.specs.declared.variable.Variable.{Variable}
use Rattle.kc_vcd.specs.Variables.{channels, channel_at}
use Rattle.kc_vcd.proofs.Pieces.{channels-none, channels-more}
use Rattle.kc_vcd.proofs.shown.push_channels.Goals as goal

pub loop-channel-init : goal.loop-channel-init
loop-channel-init c = sym (ap (λ (t : List Variable). c.args.variables.now.items ++ t) (channels-none c.args.samples.now) ∙ append-nil c.args.variables.now.items)

pub loop-channel-preserved : goal.loop-channel-preserved
loop-channel-preserved c =
    let before = c.args.variables.now.items in
    let done = c.loop-channel.channel in
    c.in_ok-push_channel.ensures
    ∙ ap (λ (t : List Variable). t ++ channel_at c.args.samples.now done) c.loop-channel.invariant
    ∙ append_assoc before (channels c.args.samples.now done) (channel_at c.args.samples.now done)
    ∙ ap (λ (t : List Variable). before ++ t) (sym (channels-more c.args.samples.now done))
