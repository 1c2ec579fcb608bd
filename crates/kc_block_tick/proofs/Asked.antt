-- What was asked holds on while other slots are set.
use Rattle.std.proofs.Common.{◌≡◌, ℕ, sym, subst, Option}
use Rattle.kc_block_units.specs.declared.scheduler.Scheduler.{Scheduler}

-- a fact of deferred units that does not speak of other slots
pub carried : {X : Type 0} (P : Scheduler X → Option ℕ → Option ℕ → Type 0) (a b : Scheduler X) {old old' new new' : Option ℕ} → b ≡ record a { due = b.due } →
    old ≡ old' → new' ≡ new → (P a old' new' → P (record a { due = b.due }) old' new') → P a old new → P b old' new'
carried P a b {old = old} {old' = old'} {new = new} {new' = new'} rest same_old same_new turn is =
    subst (λ l. P l old' new') (sym rest) (turn (subst (λ o. P a o new') same_old (subst (λ n. P a old n) (sym same_new) is)))
