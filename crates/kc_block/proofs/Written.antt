-- The kind that a refused write reports, and what a write leaves.
use Rattle.std.proofs.Common.{◌≡◌, Some, None, sym, ap}
use Rattle.std.specs.Prelude.{Result, Ok, Err, IfErr, IfOk, OnOk}
use Rattle.kc_base.specs.declared.types.Kind.{Kind}
use Rattle.kc_block_spec.specs.RegisterLaws.{refusal}

pub kind_of : {A B : Type 0} (r : Result A Kind) (w : Result B Kind) → refusal r ≡ refusal w → IfErr r (λ kind. w ≡ Err kind)
kind_of (Ok a) w e = tt
kind_of (Err k) (Ok b) e = absurd (let no : Some k ≡ None = e in cc)
kind_of (Err k) (Err l) e = let same : k ≡ l = cc in ap Err (sym same)

pub ok_of : {A B : Type 0} (r : Result A Kind) (w : Result B Kind) (new : B) → refusal r ≡ refusal w → IfOk w (λ b. new ≡ b) → OnOk r (w ≡ Ok new)
ok_of (Ok a) (Ok b) new e same = ap Ok (sym same)
ok_of (Ok a) (Err l) new e same = absurd (let no : None ≡ Some l = e in cc)
ok_of (Err k) w new e same = tt
