use Rattle.std.specs.Prelude.{◌++◌, codes}
use Rattle.kc_trace.specs.Trace.{out_of}
use Rattle.kc_trace.proofs.Outs.{Puts-append}
use Rattle.kc_kit_files.specs.Shown.{word_shown}
use Rattle.kc_kit_words.proofs.usage.put_bad_value.Goals as goal

pub returns : goal.returns
returns g c =
    Puts-append (out_of g.N.Sink.written g.N.Sink.faults c.args.diagnostics.now) (codes "bad value " ++ word_shown c.args.value.now) (out_of g.N.Sink.written g.N.Sink.faults c.put_word.new.diagnostics) (codes " of option " ++ word_shown c.args.option.now)
    (out_of g.N.Sink.written g.N.Sink.faults c.put_word-2.new.diagnostics) c.put_word.ensures c.put_word-2.ensures
