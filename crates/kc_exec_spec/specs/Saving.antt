-- What PUSHF, POPF, PUSHA and POPA do, access by access; each ends with the new high byte of the PSW (80C196KC User's Manual,
-- "Interrupts").
use Rattle.std.specs.Prelude.{ℕ, ◌+◌, ◌*◌, ◌/◌, ◌%◌}
use Rattle.kc_exec_spec.specs.declared.access.Masks.{Masks}
use Rattle.kc_exec_spec.specs.declared.plan.Saving.{Saving}
use Rattle.kc_exec_spec.specs.declared.plan.Saving.TheVariants.{PushStatus, PopStatus, PushAll, PopAll}
use Rattle.kc_exec_spec.specs.Access.{SetMasks}
use Rattle.kc_exec_spec.specs.Effect.{Effect, End, Look, Ask, ◌>>=◌}
use Rattle.kc_exec_spec.specs.Parts.{push, pop}

-- the masks as they stand, changed
abbrev pub change_masks : (Masks → Masks) → Effect (Unit {0})
change_masks change = Look (λ m. Ask (SetMasks (change m)) (λ u. End tt))

unfoldable pub push_status : ℕ → Effect (Unit {0})
push_status psw = do
  pushed ← Look (λ m. push (0x100 * psw + m.int_mask))
  change_masks (λ m. record { int_mask = 0; int_mask1 = m.int_mask1; wsr = m.wsr })

unfoldable pub pop_status : Effect ℕ
pop_status = do
  n ← pop
  changed ← change_masks (λ m. record { int_mask = n % 0x100; int_mask1 = m.int_mask1; wsr = m.wsr })
  End (n / 0x100)

-- INT_MASK1 and WSR
unfoldable pub push_masks : Effect (Unit {0})
push_masks = do
  pushed ← Look (λ m. push (0x100 * m.int_mask1 + m.wsr))
  change_masks (λ m. record { int_mask = m.int_mask; int_mask1 = 0; wsr = m.wsr })

unfoldable pub pop_masks : Effect (Unit {0})
pop_masks = do
  n ← pop
  change_masks (λ m. record { int_mask = m.int_mask; int_mask1 = n / 0x100; wsr = n % 0x100 })

-- the PSW first, and the other way back
unfoldable pub push_all : ℕ → Effect (Unit {0})
push_all psw = push_status psw >>= λ u. push_masks

unfoldable pub pop_all : Effect ℕ
pop_all = pop_masks >>= λ u. pop_status

unfoldable pub save : Saving → ℕ → Effect ℕ
save PushStatus psw = push_status psw >>= λ u. End 0
save PopStatus psw = pop_status
save PushAll psw = push_all psw >>= λ u. End 0
save PopAll psw = pop_all
