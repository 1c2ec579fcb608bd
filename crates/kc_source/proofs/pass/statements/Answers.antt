use Rattle.std.proofs.Common.{◌≡◌, [], Err, sym, ap, subst, ◌∙◌}
use Rattle.kc_lex.specs.declared.fault.SourceFault.{SourceFault}
use Rattle.kc_source.specs.Faults.{least, name_faults, faults_of, IsStatements}
use Rattle.kc_lex.proofs.FaultLemmas.{nothing_found}
use Rattle.kc_source.proofs.PassLemmas.{first_fault, all_stmts}
use Rattle.kc_source.proofs.pass.statements.Goals as goal

pub returns-in-Some : goal.returns-in-Some
returns-in-Some c =
    let pass = c.in_ok-pass.pass in
    let names : c.in_ok-names.names ≡ least (name_faults pass.uses.items [] pass.uses.items) = c.in_ok-names.ensures ∙ ap (λ us. least (name_faults us [] us)) c.deref.ensures.value in
    let first : least (faults_of c.args.lines.now) ≡ c.lesser.result = sym (first_fault pass c.args.lines.now c.in_ok-names.names c.in_ok-pass.ensures names) ∙ sym c.lesser.ensures in
    subst (λ (e : SourceFault). IsStatements (Err e) c.args.lines.now) (sym c.from.ensures) (first ∙ c.in-Some.is)

pub returns-in-None : goal.returns-in-None
returns-in-None c =
    let pass = c.in_ok-pass.pass in
    let names : c.in_ok-names.names ≡ least (name_faults pass.uses.items [] pass.uses.items) = c.in_ok-names.ensures ∙ ap (λ us. least (name_faults us [] us)) c.deref.ensures.value in
    let first : least (faults_of c.args.lines.now) ≡ c.lesser.result = sym (first_fault pass c.args.lines.now c.in_ok-names.names c.in_ok-pass.ensures names) ∙ sym c.lesser.ensures in
    record {
      sound = first ∙ c.in-None.is;
      said_by = all_stmts pass c.args.lines.now c.in_ok-pass.ensures (nothing_found pass.found c.in_ok-names.names (sym c.lesser.ensures ∙ c.in-None.is));
    }
