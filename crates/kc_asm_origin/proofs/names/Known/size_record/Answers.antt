use Rattle.std.proofs.Common.{refl, ap, ◌∙◌}
use Rattle.kc_source.specs.Faults.{is_once, is_again, is_taken}
use Rattle.kc_asm_origin.proofs.Uses.{marked, kept}
use Rattle.kc_asm_origin.proofs.names.Known.size_record.Goals as goal

pub returns-in_ok-mark-in-Once : goal.returns-in_ok-mark-in-Once
returns-in_ok-mark-in-Once c = λ us u kind named known. record {
  once = marked is_once u us c.args.name.now _ _ (ap is_once (kind ∙ c.in-Once.is)) named c.in_ok-mark-in-Once.ensures known.once;
  again = kept is_again u us _ _ (ap is_again (kind ∙ c.in-Once.is)) refl known.again;
  taken = kept is_taken u us _ _ (ap is_taken (kind ∙ c.in-Once.is)) refl known.taken;
}

pub returns-in_ok-mark-in-Again : goal.returns-in_ok-mark-in-Again
returns-in_ok-mark-in-Again c = λ us u kind named known. record {
  once = kept is_once u us _ _ (ap is_once (kind ∙ c.in-Again.is)) refl known.once;
  again = marked is_again u us c.args.name.now _ _ (ap is_again (kind ∙ c.in-Again.is)) named c.in_ok-mark-in-Again.ensures known.again;
  taken = kept is_taken u us _ _ (ap is_taken (kind ∙ c.in-Again.is)) refl known.taken;
}

pub returns-in_ok-mark-in-Taken : goal.returns-in_ok-mark-in-Taken
returns-in_ok-mark-in-Taken c = λ us u kind named known. record {
  once = kept is_once u us _ _ (ap is_once (kind ∙ c.in-Taken.is)) refl known.once;
  again = kept is_again u us _ _ (ap is_again (kind ∙ c.in-Taken.is)) refl known.again;
  taken = marked is_taken u us c.args.name.now _ _ (ap is_taken (kind ∙ c.in-Taken.is)) named c.in_ok-mark-in-Taken.ensures known.taken;
}

pub returns-in-Given : goal.returns-in-Given
returns-in-Given c = λ us u kind named known. record {
  once = kept is_once u us _ _ (ap is_once (kind ∙ c.in-Given.is)) refl known.once;
  again = kept is_again u us _ _ (ap is_again (kind ∙ c.in-Given.is)) refl known.again;
  taken = kept is_taken u us _ _ (ap is_taken (kind ∙ c.in-Given.is)) refl known.taken;
}
