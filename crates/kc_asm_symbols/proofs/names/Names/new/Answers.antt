use Rattle.std.proofs.Common.{map, sym, ap, ◌∙◌}
use Rattle.kc_asm_symbols.specs.declared.names.Listed.{Listed}
use Rattle.kc_asm_symbols.specs.Externals.{external_in}
use Rattle.kc_asm_symbols.specs.Tables.{answers, is_defined_by_set, label_number}
use Rattle.kc_asm_symbols.proofs.names.Names.new.Goals as goal

pub returns : goal.returns
returns c =
    let is = c.in_ok-listed.ensures.ok in
    record {
      labels = ap (λ (l : Listed). l.labels.items) is ∙ c.in_ok-labels.ensures ∙ ap (λ (l : Listed). map (λ s. label_number l.numbers s.label) c.args.stmts.now) (sym is);
      set = λ values. ap (λ (l : Listed). is_defined_by_set l.numbers) is ∙ c.in_ok-numbers.ensures values;
      external = λ values. ap (λ (l : Listed). answers l.numbers l.taken) is ∙ c.in_ok-taken.ensures ∙ ap (external_in 0) (c.requires.taken values);
    }
