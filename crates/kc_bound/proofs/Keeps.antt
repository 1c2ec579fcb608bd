-- What holds behind an activity of a pass: whether the pass is over there, or goes on.
use Rattle.std.proofs.Common.{◌≡◌, ℕ, Bool, true, false, not, ◌+◌, ◌-◌, ◌*◌, ◌<◌, ◌≤◌, ◌==◌, ◌&&◌, ◌||◌, ◌⊎◌, inl, inr, if◌then◌else◌, Option, Some, None, List, [], ◌∷◌, refl, sym, ◌∙◌, ap, subst, arith}
use Rattle.std.specs.Prelude.{is_some}
use Rattle.kc_isa.specs.declared.insn.Insn.{Insn}
use Rattle.kc_exec_spec.specs.declared.cpu.Words.{Words}
use Rattle.kc_exec_spec.specs.declared.cpu.After.{After}
use Rattle.kc_exec_spec.specs.declared.cpu.After.TheVariants.{Next, Held, Idle as Idles, Powerdown, Reset as Resets, MoreWords}
use Rattle.kc_exec_spec.specs.Jumping.{next_pc}
use Rattle.kc_machine_spec.specs.declared.doing.Going.{Going}
use Rattle.kc_machine_spec.specs.declared.doing.Going.TheVariants.{Moving, Idling, Serving}
use Rattle.kc_machine_spec.specs.declared.doing.End.{End as Ending}
use Rattle.kc_machine_spec.specs.Machine.{Machine, next_after}
use Rattle.kc_bound.specs.declared.notes.Notes.{Notes}
use Rattle.kc_bound.specs.declared.certificate.Certificate.{Certificate}
use Rattle.kc_bound.specs.Notes.{is_end}
use Rattle.kc_bound.specs.Passes.{begun, is_at_end}
use Rattle.kc_bound.specs.Bounded.{HoldsImage}
use Rattle.kc_bound.proofs.GoingOn.{IsPlain}
use Rattle.kc_bound.proofs.Follows.{HasEnded, IsFollowed}
use Rattle.kc_bound.proofs.Ahead.{Ready, Comes, ready-most, comes-most}

-- a machine between two activities, over an image
pub record IsBetween {X : Type 0} (image : List ℕ) (m : Machine X) : Type 0 where
  pub between : m.under_way ≡ None
  pub holds : HoldsImage image m

-- a machine at which an instruction begins at an address
pub record IsGoing {X : Type 0} (target : ℕ) (n : Machine X) : Type 0 where
  pub pc : n.cpu.pc ≡ target
  pub going : n.going ≡ None
  pub ended : n.ended ≡ None

-- what follows an instruction, where the next may begin
pub record GoesPlainly (i : Insn) (a : After) : Type 0 where
  pub going : (next_after i a).going ≡ None
  pub ended : (next_after i a).ended ≡ None

pub plainly : (i : Insn) (a : After) → IsPlain a → GoesPlainly i a
plainly i Next h = record { going = refl; ended = refl }
plainly i Held h = record { going = refl; ended = refl }
plainly i Idles h = absurd h
plainly i Powerdown h = absurd h
plainly i Resets h = absurd h
plainly i (MoreWords w) h = absurd h

-- a machine that has ended, or is at an address
abbrev pub EndsOrGoes : {X : Type 0} → ℕ → Machine X → Type 0
EndsOrGoes target n = HasEnded n ⊎ IsGoing target n

pub goes-plainly : {X : Type 0} (P : After → ℕ → Type 0) (i : Insn) (n : Machine X) (target : ℕ) → (h : IsFollowed P i n) → IsPlain h.behind → n.cpu.pc ≡ target → IsGoing target n
goes-plainly P i n target h plain pc =
    let p : GoesPlainly i h.behind = plainly i h.behind plain in
    record { pc = pc; going = h.going ∙ p.going; ended = h.ended ∙ p.ended }

-- ---- whether a pass is over there

pub at-end : {X : Type 0} (notes : Notes) (n : Machine X) → n.ended ≡ None → n.going ≡ None → is_at_end notes n ≡ is_end notes n.cpu.pc
at-end notes n ended going = rw (ended, going) refl

pub no-end : {X : Type 0} (notes : Notes) (n : Machine X) (how : Ending) → n.ended ≡ Some how → is_at_end notes n ≡ false
no-end notes n how ended = rw ended refl

pub moves-no-end : {X : Type 0} (notes : Notes) (n : Machine X) (going : Going) → n.ended ≡ None → n.going ≡ Some going → is_at_end notes n ≡ false
moves-no-end notes n g ended going = rw (ended, going) refl

pub begun-at : {X : Type 0} (m : Machine X) → m.ended ≡ None → m.going ≡ None → begun m ≡ Some m.cpu.pc
begun-at m ended going = rw (ended, going) refl

pub begun-none : {X : Type 0} (m : Machine X) (g : Going) → m.ended ≡ None → m.going ≡ Some g → begun m ≡ None
begun-none m g ended going = rw (ended, going) refl

-- ---- a pass that goes on

-- an address of which something is asked
abbrev pub IsAsked : Notes → ℕ → ℕ → Type 0
IsAsked notes from a = (is_end notes a && not (a == from)) ≡ false

module _ (image : List ℕ) (notes : Notes) (from : ℕ) (c : Certificate) (rank total : ℕ) where
  -- at the begin of an instruction, and between the words of a block move
  abbrev pub Account : Option Going → ℕ → List ℕ → ℕ → ℕ → Type 0
  Account None pc calls spent turns = IsAsked notes from pc × Ready notes c rank total pc calls spent turns
  Account (Some (Moving i w)) pc calls spent turns = (0 < w.left) × Comes notes c rank total (next_pc i pc) calls (spent + 14 * w.left) turns
  Account (Some Idling) pc calls spent turns = ⊥
  Account (Some (Serving number cycle)) pc calls spent turns = ⊥

  module _ {X : Type 0} where
    pub record IsOnWay (m : Machine X) (calls : List ℕ) (spent turns : ℕ) : Type 0 where
      pub is : IsBetween image m
      pub free : m.held ≡ true → m.going ≡ None
      pub account : Account m.going m.cpu.pc calls spent turns

    -- with so many states gone by
    pub record Keeps (over : Bool) (n : Machine X) (calls : List ℕ) (now turns : ℕ) : Type 0 where
      pub at_end : over ≡ true → now + c.floor ≤ total
      pub always : now ≤ total + c.floor * rank
      pub goes : over ≡ false → n.ended ≡ None → IsOnWay n calls now turns

    pub keeps-last : (n : Machine X) (calls : List ℕ) (now turns : ℕ) → now + c.floor ≤ total → Keeps true n calls now turns
    keeps-last n calls now turns h = record { at_end = λ yes. h; always = omega (arith, h); goes = λ no. absurd (cc no) }

    pub keeps-ended : (last : Bool) (n : Machine X) (calls : List ℕ) (now turns : ℕ) → HasEnded n → (last ≡ true → now + c.floor ≤ total) → now ≤ total + c.floor * rank → Keeps (last || is_at_end notes n) n calls now turns
    keeps-ended last n calls now turns ended paid most = record {
      at_end = λ yes. paid (only last (is_at_end notes n) (no-end notes n ended.0 ended.1) yes);
      always = most;
      goes = λ no lives. absurd (let e : Some ended.0 ≡ None = sym ended.1 ∙ lives in cc e);
    }
      where
        only : (a b : Bool) → b ≡ false → (a || b) ≡ true → a ≡ true
        only true b none h = refl
        only false b none h = sym none ∙ h

    arrives-by : (n : Machine X) (calls : List ℕ) (now turns : ℕ) → IsBetween image n → n.going ≡ None → is_at_end notes n ≡ is_end notes n.cpu.pc → Comes notes c rank total n.cpu.pc calls now turns → Keeps (is_at_end notes n) n calls now turns
    arrives-by n calls now turns is going end (inl over) = record {
      at_end = λ yes. over.1;
      always = comes-most notes c rank total n.cpu.pc calls now turns (inl over);
      goes = λ no lives. absurd (let e : true ≡ false = sym over.0 ∙ sym end ∙ no in cc e);
    }
    arrives-by n calls now turns is going end (inr on) = record {
      at_end = λ yes. absurd (let e : false ≡ true = sym on.0 ∙ sym end ∙ yes in cc e);
      always = ready-most notes c rank total n.cpu.pc calls now turns on.1;
      goes = λ no lives. record {
        is = is;
        free = λ held. going;
        account = subst (λ (g : Option Going). Account g n.cpu.pc calls now turns) (sym going) (ap (λ b. b && not (n.cpu.pc == from)) on.0, on.1);
      };
    }

    pub keeps-arrived : (target : ℕ) (n : Machine X) (calls : List ℕ) (now turns : ℕ) → IsBetween image n → IsGoing target n → Comes notes c rank total target calls now turns → Keeps (is_at_end notes n) n calls now turns
    keeps-arrived target n calls now turns is at comes =
        arrives-by n calls now turns is at.going (at-end notes n at.ended at.going) (subst (λ a. Comes notes c rank total a calls now turns) (sym at.pc) comes)

    pub keeps-moving : (i : Insn) (w : Words) (a : ℕ) (n : Machine X) (calls : List ℕ) (now turns : ℕ) → IsBetween image n → n.ended ≡ None → n.going ≡ Some (Moving i w) → n.held ≡ false → n.cpu.pc ≡ a → 0 < w.left
        → Comes notes c rank total (next_pc i a) calls (now + 14 * w.left) turns → Keeps (is_at_end notes n) n calls now turns
    keeps-moving i w a n calls now turns is ended going free pc some comes =
        let most : now + 14 * w.left ≤ total + c.floor * rank = comes-most notes c rank total (next_pc i a) calls (now + 14 * w.left) turns comes in
        record {
          at_end = λ yes. absurd (let e : false ≡ true = sym (moves-no-end notes n (Moving i w) ended going) ∙ yes in cc e);
          always = omega (arith, most);
          goes = λ no lives. record {
            is = is;
            free = λ held. absurd (let e : false ≡ true = sym free ∙ held in cc e);
            account = subst (λ (g : Option Going). Account g n.cpu.pc calls now turns) (sym going) (some, subst (λ x. Comes notes c rank total (next_pc i x) calls (now + 14 * w.left) turns) (sym pc) comes);
          };
        }
