-- Parts: without a step, with one more, with another part, and so many times.
use Rattle.std.proofs.Common.{◌≡◌, ℕ, zero, suc, true, Option, Some, None, List, [], ◌∷◌, ◌++◌, map, refl, sym, ap, ◌∙◌, subst, append_assoc, ◌≤◌, arith}
use Rattle.std.proofs.Math.Logic.{∥∥₁_map, ∥∥₁_prop, ∥∥₁_elim}
use Rattle.std.proofs.lemmas.List.{append-nil}
use Rattle.kc_bound.specs.declared.notes.Notes.{Notes}
use Rattle.kc_bound.specs.declared.way.Way.{Way}
use Rattle.kc_bound.specs.Ways.{ways_at}
use Rattle.kc_bound_walk.specs.declared.lines.Spent.{Spent}
use Rattle.kc_bound_walk.specs.declared.turns.Turns.{Turns}
use Rattle.kc_bound_walk.specs.Walks.{after_way, IsOneOf, Leads, with_spent, with_all, spent_by, spent_in, WalkOf}
use Rattle.kc_bound_walk.specs.Parts.{none_taken, with_step, with_part, repeated, are_enough, times_more, KeepsAll, StepsOf}
use Rattle.kc_bound_walk.proofs.Leading.{leads_on, no_steps, one_step, beside, copies, leads_round}
use Rattle.kc_bound_walk.proofs.Turning.{none_keeps, all_step, all_joined, all_repeated, all_kept}
use Rattle.kc_bound_walk.proofs.Spending.{spent_joined, spent_step, spent_copies, all-none}

module _ (image : List ℕ) (notes : Notes) where
  pub no_part : (at : ℕ) (open_calls : List ℕ) (turns : List (Option Turns)) (lines : List Spent) → open_calls ≡ [] → turns ≡ none_taken notes.loops.items → lines ≡ []
      → ∥ StepsOf image notes at at open_calls turns lines ∥₁
  no_part at open_calls turns lines none e empty = ∣ record {
    steps = [];
    leads = λ base. subst (λ cs. Leads image notes (Some (record { at = at; open_calls = base })) [] (Some (record { at = at; open_calls = cs ++ base }))) (sym none) (no_steps image notes (Some (record { at = at; open_calls = base })));
    keeps = subst (λ ts. KeepsAll [] notes.loops.items ts) (sym e) (none_keeps notes.loops.items);
    spends = all-none [] ∙ sym empty;
  } ∣₁

  pub part_step : (begins at next : ℕ) (open_calls next_calls : List ℕ) (turns more : List (Option Turns)) (lines all : List Spent) (way : Way)
      → IsOneOf (ways_at image notes at) way → after_way notes way open_calls ≡ Some (record { at = next; open_calls = next_calls })
      → more ≡ with_step notes.loops.items turns at → all ≡ with_spent lines (spent_by (record { at = at; way = way }))
      → ∥ StepsOf image notes begins at open_calls turns lines ∥₁ → ∥ StepsOf image notes begins next next_calls more all ∥₁
  part_step begins at next open_calls next_calls turns more lines all way there goes taken spent part = ∥∥₁_map part (λ x. record {
    steps = x.steps ++ record { at = at; way = way } ∷ [];
    leads = λ base. leads_on image notes (Some (record { at = begins; open_calls = base })) (Some (record { at = at; open_calls = open_calls ++ base })) (Some (record { at = next; open_calls = next_calls ++ base })) x.steps (record { at = at; way = way } ∷ []) (x.leads base)
        (subst (λ p. Leads image notes (Some (record { at = at; open_calls = open_calls ++ base })) (record { at = at; way = way } ∷ []) p) (beside notes way open_calls base (record { at = next; open_calls = next_calls }) goes) (one_step image notes at (open_calls ++ base) way there));
    keeps = subst (λ ts. KeepsAll (x.steps ++ record { at = at; way = way } ∷ []) notes.loops.items ts) (sym taken) (all_step notes.loops.items turns x.steps (record { at = at; way = way }) at refl x.keeps);
    spends = spent_step x.steps (record { at = at; way = way }) ∙ ap (λ ls. with_spent ls (spent_by (record { at = at; way = way }))) x.spends ∙ sym spent;
  })

  pub part_over : (begins at : ℕ) (open_calls : List ℕ) (turns more : List (Option Turns)) (lines all : List Spent) (way : Way)
      → IsOneOf (ways_at image notes at) way → after_way notes way open_calls ≡ None
      → more ≡ with_step notes.loops.items turns at → are_enough notes.loops.items more ≡ true → all ≡ with_spent lines (spent_by (record { at = at; way = way }))
      → ∥ StepsOf image notes begins at open_calls turns lines ∥₁ → ∥ WalkOf image notes begins all ∥₁
  part_over begins at open_calls turns more lines all way there goes taken enough spent part = ∥∥₁_map part (λ x. record {
    steps = x.steps ++ record { at = at; way = way } ∷ [];
    walk = record {
      leads = leads_on image notes (Some (record { at = begins; open_calls = [] })) (Some (record { at = at; open_calls = open_calls ++ [] })) None x.steps (record { at = at; way = way } ∷ []) (x.leads [])
          (subst (λ p. Leads image notes (Some (record { at = at; open_calls = open_calls ++ [] })) (record { at = at; way = way } ∷ []) p) (ap (after_way notes way) (append-nil open_calls) ∙ goes) (one_step image notes at (open_calls ++ []) way there));
      keeps = all_kept notes.loops.items more (x.steps ++ record { at = at; way = way } ∷ []) enough
          (subst (λ ts. KeepsAll (x.steps ++ record { at = at; way = way } ∷ []) notes.loops.items ts) (sym taken) (all_step notes.loops.items turns x.steps (record { at = at; way = way }) at refl x.keeps));
    };
    spends = spent_step x.steps (record { at = at; way = way }) ∙ ap (λ ls. with_spent ls (spent_by (record { at = at; way = way }))) x.spends ∙ sym spent;
  })

  pub part_part : (begins at from next : ℕ) (open_calls others calls : List ℕ) (turns more both : List (Option Turns)) (lines spent all : List Spent)
      → from ≡ at → calls ≡ others ++ open_calls → both ≡ with_part turns more → all ≡ with_all lines spent
      → ∥ StepsOf image notes begins at open_calls turns lines ∥₁ → ∥ StepsOf image notes from next others more spent ∥₁ → ∥ StepsOf image notes begins next calls both all ∥₁
  part_part begins at from next open_calls others calls turns more both lines spent all same is taken sum first later = ∥∥₁_elim first ∥∥₁_prop (λ x. ∥∥₁_map (subst (λ a. ∥ StepsOf image notes a next others more spent ∥₁) same later) (λ y. record {
    steps = x.steps ++ y.steps;
    leads = λ base. leads_on image notes (Some (record { at = begins; open_calls = base })) (Some (record { at = at; open_calls = open_calls ++ base })) (Some (record { at = next; open_calls = calls ++ base })) x.steps y.steps (x.leads base)
        (subst (λ cs. Leads image notes (Some (record { at = at; open_calls = open_calls ++ base })) y.steps (Some (record { at = next; open_calls = cs }))) (sym (ap (λ cs. cs ++ base) is ∙ append_assoc others open_calls base)) (y.leads (open_calls ++ base)));
    keeps = subst (λ ts. KeepsAll (x.steps ++ y.steps) notes.loops.items ts) (sym taken) (all_joined notes.loops.items turns more x.steps y.steps x.keeps y.keeps);
    spends = spent_joined x.steps y.steps ∙ ap (λ ls. with_all ls (spent_in y.steps)) x.spends ∙ ap (with_all lines) y.spends ∙ sym sum;
  }))

  pub part_times : (begins at times : ℕ) (open_calls : List ℕ) (turns all : List (Option Turns)) (lines more : List Spent)
      → 2 ≤ times → begins ≡ at → open_calls ≡ [] → all ≡ map (repeated times) turns → more ≡ map (times_more times) lines
      → ∥ StepsOf image notes begins at open_calls turns lines ∥₁ → ∥ StepsOf image notes begins at open_calls all more ∥₁
  part_times begins at zero open_calls turns all lines more two round none taken sum part = absurd (omega (arith, two))
  part_times begins at (suc n) open_calls turns all lines more two round none taken sum part = ∥∥₁_map part (λ x. record {
    steps = copies (suc n) x.steps;
    leads = λ base. subst (λ cs. Leads image notes (Some (record { at = begins; open_calls = base })) (copies (suc n) x.steps) (Some (record { at = at; open_calls = cs ++ base }))) (sym none)
        (subst (λ a. Leads image notes (Some (record { at = begins; open_calls = base })) (copies (suc n) x.steps) (Some (record { at = a; open_calls = base }))) round
        (leads_round image notes (Some (record { at = begins; open_calls = base })) x.steps
        (subst (λ a. Leads image notes (Some (record { at = begins; open_calls = base })) x.steps (Some (record { at = a; open_calls = base }))) (sym round)
        (subst (λ cs. Leads image notes (Some (record { at = begins; open_calls = base })) x.steps (Some (record { at = at; open_calls = cs ++ base }))) none (x.leads base)))
        (suc n)));
    keeps = subst (λ ts. KeepsAll (copies (suc n) x.steps) notes.loops.items ts) (sym taken) (all_repeated notes.loops.items turns x.steps n x.keeps);
    spends = spent_copies n x.steps ∙ ap (map (times_more (suc n))) x.spends ∙ sym sum;
  })
