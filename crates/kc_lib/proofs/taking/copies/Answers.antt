use Rattle.std.proofs.Common.{◌≡◌, ◌+◌, ◌<◌, ◌∙◌, ◌++◌, ◌∷◌, [], true, false, sym, ap, arith, List, drop, length, append_assoc, append-nil}
use Rattle.kc_obj_module.specs.Object.{Object}
use Rattle.kc_lib.specs.Taking.{chosen_from}
use Rattle.kc_lib.specs.Standings.{is_in}
use Rattle.kc_lib.proofs.StandingLemmas.{chosen_here, chosen_not, chosen_end, stands_so}
use Rattle.kc_lib.proofs.taking.copies.Goals.{then-is_needed+in_ok-copy_of+in_ok-push, else-is_needed}
use Rattle.kc_lib.proofs.taking.copies.Goals as goal

pub loop-number-preserved : goal.loop-number-preserved
loop-number-preserved c =
    let st = c.args.standings.now in
    let set = is_in st in
    let ms = c.args.members.now in
    let n = c.loop-number.number in
    let m = c.index-members-number.result in
    let within : n < length st = omega (arith, c.requires) in
    let rest = chosen_from (n + 1) set (drop (n + 1) ms) in
    elim c.if-is_needed.branch [
      | then-is_needed+in_ok-copy_of+in_ok-push w ↦
          let new : c.if-is_needed.taken.items ≡ c.loop-number.taken.items ++ m ∷ [] =
          ap (λ v. v.items) w.taken-is ∙ (w.in_ok-push.ensures.items ∙ ap (λ (x : Object). c.loop-number.taken.items ++ x ∷ []) w.in_ok-copy_of.ensures) in
          let here : set n ≡ true = stands_so st n true within (sym w.if-is_needed.true ∙ c.is_needed.ensures) in
          let step = chosen_here set ms n m c.loop-number-test.true c.index-members-number.is here in
          ap (λ (l : List Object). l ++ rest) new ∙ (append_assoc c.loop-number.taken.items (m ∷ []) rest ∙ (ap (λ (l : List Object). c.loop-number.taken.items ++ l) (sym step) ∙ c.loop-number.invariant))
      | else-is_needed w ↦
          let here : set n ≡ false = stands_so st n false within (sym w.if-is_needed.false ∙ c.is_needed.ensures) in
          let step = chosen_not set ms n m c.loop-number-test.true c.index-members-number.is here in
          ap (λ v. v.items ++ rest) w.taken-is ∙ (ap (λ (l : List Object). c.loop-number.taken.items ++ l) (sym step) ∙ c.loop-number.invariant)
    ]

pub returns : goal.returns
returns c =
    let set = is_in c.args.standings.now in
    let end = chosen_end set c.args.members.now c.loop-number.number c.loop-number-test.false in
    sym (append-nil c.loop-number.taken.items) ∙ (ap (λ (l : List Object). c.loop-number.taken.items ++ l) (sym end) ∙ c.loop-number.invariant)
