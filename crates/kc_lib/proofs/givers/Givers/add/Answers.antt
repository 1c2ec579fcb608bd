use Rattle.std.proofs.Common.{subst}
use Rattle.std.specs.Prelude.{List, OnOk, Result, Ok, Err}
use Rattle.kc_obj_module.specs.declared.parts.Given.{Given}
use Rattle.kc_base.specs.declared.types.NoMemory.{NoMemory}
use Rattle.kc_lib.proofs.GiverLemmas.{IsNoted, knows_more}
use Rattle.kc_lib.proofs.givers.Givers.add.Goals as goal

on_ok : (r : Result (Unit {0}) NoMemory) (P Q : Type 0) → (P → Q) → OnOk r P → OnOk r Q
on_ok (Ok x) P Q f h = f h
on_ok (Err e) P Q f h = h

pub returns : goal.returns
returns c =
    let es = c.args.self.now.numbers.entries in
    let fs = c.note_all.new.self.numbers.entries in
    on_ok c.note_all.result (IsNoted es fs c.args.number c.publics.result.now) _
    (λ noted before e k. knows_more es fs before c.args.module.now c.args.number e (subst (λ (gs : List Given). IsNoted es fs c.args.number gs) c.publics.ensures noted) k)
    c.note_all.ensures
