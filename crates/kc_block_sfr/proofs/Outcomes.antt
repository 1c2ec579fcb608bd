-- Answers and refusals.
use Rattle.std.proofs.Common.{◌≡◌, ℕ, Bool, true, false, refl, ◌∙◌, ap, Some, None, Result, Ok, Err}
use Rattle.std.specs.Prelude.{IfOk, OnErr, OnOk, if◌then◌else◌}
use Rattle.std.proofs.lemmas.Bool.{false≢true}
use Rattle.kc_base.specs.declared.types.Kind.{Kind}
use Rattle.kc_exec_spec.specs.Window.{is_wsr}
use Rattle.kc_extra.specs.Further.{Further}
use Rattle.kc_block_spec.specs.declared.board_registers.BoardRegisters.{BoardRegisters}
use Rattle.kc_block_spec.specs.declared.registers.WritableByte.{WritableByte}
use Rattle.kc_block_spec.specs.declared.registers.WritableByte.TheVariants.{Zeros, IntMask, IntMask1, IntPend, IntPend1, Wsr, HsiMode, HsoCommand, Port1, Port2, Ioc0, Ioc1, Ioc2, Ioc3}
use Rattle.kc_block_spec.specs.Units.{Units}
use Rattle.kc_block_spec.specs.Writing.{board_registers_with, with_byte}
use Rattle.kc_block_spec.specs.RegisterLaws.{refusal, IsMildRead}
use Rattle.kc_block_spec.proofs.Named.{if_ok}
use Rattle.kc_block_units.specs.Scheduler.{Scheduler, IsLeft}
use Rattle.kc_block_sfr.specs.Costs.{is_plain}
use Rattle.kc_block_sfr.specs.Left.{AreUnread}

-- what refuses is the error
pub refused_is : {A : Type 0} (r : Result A Kind) (kind : Kind) → Some kind ≡ refusal r → Err kind ≡ r
refused_is (Ok a) kind e = cc
refused_is (Err k) kind e = let same : kind ≡ k = cc in ap Err same

-- what does not refuse is an answer, of which holds what holds of each answer
pub answer_of : {A : Type 0} (P Q : A → Type 0) (r : Result A Kind) → refusal r ≡ None → IfOk r P → IfOk r Q → (a : A) × P a × Q a
answer_of P Q (Ok a) defined p q = (a, p, q)
answer_of P Q (Err kind) defined p q = cc

pub weaker : {A : Type 0} (P Q : A → Type 0) (r : Result A Kind) → ((a : A) → P a → Q a) → IfOk r P → IfOk r Q
weaker P Q (Ok a) to p = to a p
weaker P Q (Err kind) to p = tt

pub none_of_refused : {A : Type 0} (P : A → Type 0) (r : Result A Kind) (kind : Kind) → Some kind ≡ refusal r → IfOk r P
none_of_refused P (Ok a) kind e = cc
none_of_refused P (Err k) kind e = tt

-- only WSR and IOC2 refuse a byte
pub plain_refusal : {X : Type 0} (u : Units X) (r : WritableByte) (n : ℕ) → (r ≡ Wsr → ⊥) → (r ≡ Ioc2 → ⊥) → None ≡ refusal (with_byte u r n)
plain_refusal u Zeros n p q = refl
plain_refusal u IntMask n p q = refl
plain_refusal u IntMask1 n p q = refl
plain_refusal u IntPend n p q = refl
plain_refusal u IntPend1 n p q = refl
plain_refusal u Wsr n p q = absurd (p refl)
plain_refusal u HsiMode n p q = refl
plain_refusal u HsoCommand n p q = refl
plain_refusal u Port1 n p q = refl
plain_refusal u Port2 n p q = refl
plain_refusal u Ioc0 n p q = refl
plain_refusal u Ioc1 n p q = refl
plain_refusal u Ioc2 n p q = absurd (q refl)
plain_refusal u Ioc3 n p q = refl

pub refusal_if_not : {A : Type 0} (c : Bool) (a : A) (kind : Kind) → (if c then None else Some kind) ≡ refusal (if c then Ok a else Err kind)
refusal_if_not true a kind = refl
refusal_if_not false a kind = refl

pub refusal_if : {A : Type 0} (c : Bool) (a : A) (kind : Kind) → (if c then Some kind else None) ≡ refusal (if c then Err kind else Ok a)
refusal_if true a kind = refl
refusal_if false a kind = refl

-- a register that no unit holds
other : {P : Type 0} → ◌≡◌ {A = Bool} false true → P
other e = absurd (false≢true e)

pub plain_written : {X : Type 0} (P : Units X → Type 0) (u : Units X) (r : WritableByte) (n : ℕ) → is_plain r ≡ true → P (record u { board_registers = board_registers_with u.board_registers r n }) →
    IfOk (with_byte u r n) P
plain_written P u Zeros n plain p = p
plain_written P u IntMask n plain p = p
plain_written P u IntMask1 n plain p = p
plain_written P u IntPend n plain p = p
plain_written P u IntPend1 n plain p = p
plain_written P u Wsr n plain p = if_ok P (is_wsr n) _ _ (λ e. p)
plain_written P u HsiMode n plain p = other plain
plain_written P u HsoCommand n plain p = other plain
plain_written P u Port1 n plain p = p
plain_written P u Port2 n plain p = p
plain_written P u Ioc0 n plain p = other plain
plain_written P u Ioc1 n plain p = other plain
plain_written P u Ioc2 n plain p = other plain
plain_written P u Ioc3 n plain p = other plain

pub plain_unread : (s : BoardRegisters) (r : WritableByte) (n : ℕ) → is_plain r ≡ true → AreUnread s (board_registers_with s r n)
plain_unread s Zeros n plain = refl
plain_unread s IntMask n plain = refl
plain_unread s IntMask1 n plain = refl
plain_unread s IntPend n plain = refl
plain_unread s IntPend1 n plain = refl
plain_unread s Wsr n plain = refl
plain_unread s HsiMode n plain = other plain
plain_unread s HsoCommand n plain = other plain
plain_unread s Port1 n plain = refl
plain_unread s Port2 n plain = refl
plain_unread s Ioc0 n plain = other plain
plain_unread s Ioc1 n plain = other plain
plain_unread s Ioc2 n plain = other plain
plain_unread s Ioc3 n plain = other plain

-- the profile of the deferred units is that of the units that they show
pub profile_left : {X : Type 0} (f : Further X) (agrees : ℕ → ℕ → X → Type 0) (now : ℕ) (h : Scheduler X) (u : Units X) → IsLeft f agrees now h u →
    is_wsr u.board_registers.wsr ≡ true → is_wsr h.board_registers.wsr ≡ true
profile_left f agrees now h u left is = ap (λ v. is_wsr v.board_registers.wsr) left.shows ∙ is

pub profile_read : {X : Type 0} (f : Further X) (agrees : ℕ → ℕ → X → Type 0) (now : ℕ) (h : Scheduler X) (old new : Units X) → IsLeft f agrees now h new →
    IsMildRead old new → is_wsr old.board_registers.wsr ≡ true → is_wsr h.board_registers.wsr ≡ true
profile_read f agrees now h old new left mild is = profile_left f agrees now h new left (ap is_wsr mild.wsr ∙ is)

pub both_of : {A : Type 0} (P Q : A → Type 0) (r : Result A Kind) → IfOk r P → IfOk r Q → IfOk r (λ a. P a × Q a)
both_of P Q (Ok a) p q = (p, q)
both_of P Q (Err kind) p q = tt

-- what follows from each answer, and from a refusal that changes nothing, holds
pub either_way : {A B : Type 0} (result : Result A Kind) (r : Result B Kind) (P : B → Type 0) (Same Q : Type 0) → refusal result ≡ refusal r → IfOk r P → OnErr result Same →
    ((b : B) → P b → Q) → (Same → Q) → Q
either_way (Ok a) (Ok b) P Same Q e left same from_left from_same = from_left b left
either_way (Ok a) (Err kind) P Same Q e left same from_left from_same = cc
either_way (Err kind) r P Same Q e left same from_left from_same = from_same same

pub ok_or_err : {A : Type 0} (r : Result A Kind) (P Q R : Type 0) → OnOk r P → OnErr r Q → (P → R) → (Q → R) → R
ok_or_err (Ok a) P Q R p q from_ok from_err = from_ok p
ok_or_err (Err kind) P Q R p q from_ok from_err = from_err q
