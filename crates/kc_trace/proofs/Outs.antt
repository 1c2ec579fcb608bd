-- Texts put one after the other.
use Rattle.std.proofs.Common.{◌≡◌, ℕ, Bool, true, false, List, [], ◌++◌, Option, refl, sym, ◌∙◌, ap, subst, append_assoc, arith}
use Rattle.kc_base.specs.Causes.{Rose, Grew, GrewByPart}
use Rattle.kc_base.proofs.Growth.{Grew-append, Grew-nothing}
use Rattle.kc_trace.specs.Out.{Out, Puts}

-- no text
pub Puts-nothing : (a : Out) → Puts a [] a
Puts-nothing a = record {
  whole = λ h. Grew-nothing a.written a.written refl;
  part = ([], [], refl, Grew-nothing a.written a.written refl);
  cause = λ h k. cc;
  later = omega arith;
  calm = λ h. refl;
  stays = λ h. h;
  silent = λ h. refl;
}

-- what is a prefix of a text is a prefix of a longer one
pub GrewByPart-longer : (a : Option (List ℕ)) (x y : List ℕ) (b : Option (List ℕ)) → GrewByPart a x b → GrewByPart a (x ++ y) b
GrewByPart-longer a x y b h = (h.0, h.1 ++ y, ap (λ t. t ++ y) h.2 ∙ append_assoc h.0 h.1 y, h.3)

-- a whole text, and then a prefix of another
GrewByPart-after : (a : Option (List ℕ)) (x : List ℕ) (b : Option (List ℕ)) (y : List ℕ) (c : Option (List ℕ)) → Grew a x b → GrewByPart b y c → GrewByPart a (x ++ y) c
GrewByPart-after a x b y c h k = (x ++ k.0, k.1, ap (λ t. x ++ t) k.2 ∙ sym (append_assoc x k.0 k.1), Grew-append a x b k.0 c h k.3)

-- one text, and then another
pub Puts-append : (a : Out) (x : List ℕ) (b : Out) (y : List ℕ) (c : Out) → Puts a x b → Puts b y c → Puts a (x ++ y) c
Puts-append a x b y c h k = record {
  whole = λ e. by_whole b.failed refl e;
  part = by_part b.failed refl;
  cause = λ e f. by_cause b.failed refl e f;
  later = omega (arith, h.later, k.later);
  calm = λ e. by_calm b.failed refl e;
  stays = λ e. k.stays (h.stays e);
  silent = λ e. k.silent (h.stays e) ∙ h.silent e;
}
  where
    by_whole : (f : Bool) → b.failed ≡ f → c.failed ≡ false → Grew a.written (x ++ y) c.written
    by_whole true e g = absurd (let i = k.stays e in cc)
    by_whole false e g = Grew-append a.written x b.written y c.written (h.whole e) (k.whole g)

    by_calm : (f : Bool) → b.failed ≡ f → c.failed ≡ false → c.faults ≡ a.faults
    by_calm true e g = absurd (let i = k.stays e in cc)
    by_calm false e g = k.calm g ∙ h.calm e

    by_part : (f : Bool) → b.failed ≡ f → GrewByPart a.written (x ++ y) c.written
    by_part true e = GrewByPart-longer a.written x y c.written (subst (λ w. GrewByPart a.written x w) (sym (k.silent e)) h.part)
    by_part false e = GrewByPart-after a.written x b.written y c.written (h.whole e) k.part

    by_cause : (f : Bool) → b.failed ≡ f → a.failed ≡ false → c.failed ≡ true → Rose a.faults c.faults
    by_cause true e i j = let r = h.cause i e in omega (arith, r, h.later, k.later)
    by_cause false e i j = let r = k.cause e j in omega (arith, r, h.later, k.later)

-- a trace that has failed has put a prefix of any longer text
pub Puts-longer : (a : Out) (x y : List ℕ) (b : Out) → b.failed ≡ true → Puts a x b → Puts a (x ++ y) b
Puts-longer a x y b over h = record {
  whole = λ e. absurd (let t : true ≡ false = sym over ∙ e in cc);
  part = GrewByPart-longer a.written x y b.written h.part;
  cause = h.cause;
  later = h.later;
  calm = λ e. absurd (let t : true ≡ false = sym over ∙ e in cc);
  stays = h.stays;
  silent = h.silent;
}
