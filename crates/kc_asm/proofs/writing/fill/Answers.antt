use Rattle.std.proofs.Common.{◌≡◌, ◌+◌, ◌-◌, ap, sym, ◌∙◌, arith}
use Rattle.std.specs.Prelude.{replicate}
use Rattle.kc_asm_encode.specs.declared.relocatable_byte.RelocatableByte.TheVariants.{Plain}
use Rattle.kc_asm_section.specs.Section.{Section, laid}
use Rattle.kc_asm.proofs.FillLemmas.{laid_more, laid_none}
use Rattle.kc_asm.proofs.writing.fill.Goals as goal

pub loop-left-preserved : goal.loop-left-preserved
loop-left-preserved c =
    let left = c.loop-left.left in
    let size : c.push.new.self.length ≡ c.loop-left.part.length + 1 = ap (λ (t : Section). t.length) c.in_ok-push.ensures.ok in
    record {
      few = omega (arith, size, c.loop-left.invariant.few, c.loop-left-test.true);
      so_far = ap (laid (replicate (left - 1) (Plain 255))) c.in_ok-push.ensures.ok
          ∙ laid_more (left - 1) left c.loop-left.part (omega (arith, c.loop-left-test.true)) ∙ c.loop-left.invariant.so_far;
    }

pub returns : goal.returns
returns c = sym (laid_none c.loop-left.left c.loop-left.part (omega (arith, c.loop-left-test.false))) ∙ c.loop-left.invariant.so_far
