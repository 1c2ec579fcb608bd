-- What steps take of the turns of loops.
use Rattle.std.proofs.Common.{◌≡◌, ℕ, zero, suc, Bool, true, false, ◌+◌, ◌-◌, ◌*◌, ◌^◌, ◌≤◌, ◌==◌, ◌&&◌, cond, Option, Some, None, List, [], ◌∷◌, ◌++◌, map, refl, sym, ap, ◌∙◌, subst, arith}
use Rattle.std.proofs.lemmas.Bool.{leb-true, and_parts, ne_eqb}
use Rattle.std.specs.Prelude.{nat_lt, nat_le, is_some, Contains, if◌then◌else◌}
use Rattle.kc_bound.specs.declared.notes.Loop.{Loop}
use Rattle.kc_bound.specs.Notes.{is_among, turns_at_first}
use Rattle.kc_bound.specs.Premises.{turns_after}
use Rattle.kc_bound_walk.specs.declared.turns.Turns.{Turns}
use Rattle.kc_bound_walk.specs.Walks.{Step, turns_behind, KeepsLoop}
use Rattle.kc_bound_walk.specs.Parts.{left_behind, turns_of, joined_turns, joined, repeated_turns, repeated, none_taken, with_step, with_part, is_enough, are_enough, KeepsTurns, KeepsAll}
use Rattle.kc_bound_walk.proofs.Leading.{copies}

-- ---- steps behind steps

pub behind_steps : (l : Loop) (r t : ℕ) (xs ys : List Step) → turns_behind l r xs ≡ Some t → turns_behind l r (xs ++ ys) ≡ turns_behind l t ys
unfolding turns_behind
behind_steps l r t [] ys e = ap (λ o. elim o [ None ↦ turns_behind l r ys | Some n ↦ turns_behind l n ys ]) e
behind_steps l r t (s ∷ xs) ys e =
    (elim ((l.head == s.at) && (r == 0)) as (λ b. cond b None (turns_behind l (turns_after l (Some s.at) r) xs) ≡ Some t → cond b None (turns_behind l (turns_after l (Some s.at) r) (xs ++ ys)) ≡ turns_behind l t ys) [
      | true ↦ λ f. absurd (cc f)
      | false ↦ λ f. behind_steps l (turns_after l (Some s.at) r) t xs ys f
    ]) e

-- ---- one step

minus-none : (r : ℕ) → r - 0 ≡ r
minus-none r = omega arith

step-cases : (among same : Bool) (most r : ℕ) → cond same 1 0 ≤ r
    → cond (same && (r == 0)) None (Some (cond among most (cond same (r - 1) r))) ≡ Some (elim (cond among (Some most) None) [ None ↦ r - cond same 1 0 | Some left ↦ left ])
step-cases true false most r some = refl
step-cases false false most r some = ap (λ n. Some n) (sym (minus-none r))
step-cases among true most zero some = absurd (omega (arith, some))
step-cases true true most (suc r) some = ap (λ b. cond b None (Some most)) (ne_eqb (suc r) 0 (λ e. omega (arith, e)))
step-cases false true most (suc r) some = ap (λ b. cond b None (Some (suc r - 1))) (ne_eqb (suc r) 0 (λ e. omega (arith, e)))

pub step_keeps : (l : Loop) (s : Step) (a : ℕ) → s.at ≡ a → KeepsTurns (s ∷ []) l (Some (turns_of l a))
unfolding turns_behind
step_keeps l s a e = subst (λ b. KeepsTurns (s ∷ []) l (Some (turns_of l b))) e (λ turns some. step-cases (is_among l.per.items s.at) (l.head == s.at) l.most turns some)

-- ---- parts joined

minus-sum : (t u r : ℕ) → (r - t) - u ≡ r - (t + u)
minus-sum t u r = omega arith

pub joined_keeps : (l : Loop) (xs ys : List Step) (t u : Option Turns) → KeepsTurns xs l t → KeepsTurns ys l u → KeepsTurns (xs ++ ys) l (joined t u)
joined_keeps l xs ys None u first later = tt
joined_keeps l xs ys (Some t) None first later = tt
joined_keeps l xs ys (Some t) (Some u) first later = by-left t.left refl
  where
    by-left : (left : Option ℕ) → t.left ≡ left → KeepsTurns (xs ++ ys) l (joined_turns t u)
    by-left None e = subst (λ o. KeepsTurns (xs ++ ys) l (elim o [ None ↦ if nat_lt (t.needed + u.needed) (2 ^ 64) then Some (record { needed = t.needed + u.needed; left = u.left }) else None | Some left ↦ if nat_le u.needed left then Some (record { needed = t.needed; left = Some (left_behind u left) }) else None ])) (sym e)
        (elim (nat_lt (t.needed + u.needed) (2 ^ 64)) as (λ b. KeepsTurns (xs ++ ys) l (cond b (Some (record { needed = t.needed + u.needed; left = u.left })) None)) [
          | true ↦ both_count
          | false ↦ tt
        ])
      where
        both_count : KeepsTurns (xs ++ ys) l (Some (record { needed = t.needed + u.needed; left = u.left }))
        both_count turns some =
            let one : turns_behind l turns xs ≡ Some (turns - t.needed) = first turns (omega (arith, some)) ∙ ap (λ o. Some (elim o [ None ↦ turns - t.needed | Some left ↦ left ])) e in
            let two : turns_behind l (turns - t.needed) ys ≡ Some (left_behind u (turns - t.needed)) = later (turns - t.needed) (omega (arith, some)) in
            behind_steps l turns (turns - t.needed) xs ys one ∙ two ∙ ap (λ n. Some (elim u.left [ None ↦ n | Some left ↦ left ])) (minus-sum t.needed u.needed turns)
    by-left (Some left) e = subst (λ o. KeepsTurns (xs ++ ys) l (elim o [ None ↦ if nat_lt (t.needed + u.needed) (2 ^ 64) then Some (record { needed = t.needed + u.needed; left = u.left }) else None | Some left ↦ if nat_le u.needed left then Some (record { needed = t.needed; left = Some (left_behind u left) }) else None ])) (sym e)
        ((elim (nat_le u.needed left) as (λ b. nat_le u.needed left ≡ b → KeepsTurns (xs ++ ys) l (cond b (Some (record { needed = t.needed; left = Some (left_behind u left) })) None)) [
          | true ↦ anew
          | false ↦ λ f. tt
        ]) refl)
      where
        anew : nat_le u.needed left ≡ true → KeepsTurns (xs ++ ys) l (Some (record { needed = t.needed; left = Some (left_behind u left) }))
        anew f turns some =
            let one : turns_behind l turns xs ≡ Some left = first turns some ∙ ap (λ o. Some (elim o [ None ↦ turns - t.needed | Some n ↦ n ])) e in
            behind_steps l turns left xs ys one ∙ later left (leb-true u.needed left f)

-- ---- parts repeated

-- where the count does not begin anew
repeated-down : (l : Loop) (xs : List Step) (needed : ℕ) → KeepsTurns xs l (Some (record { needed = needed; left = None })) → (n : ℕ) → KeepsTurns (copies n xs) l (Some (record { needed = n * needed; left = None }))
unfolding copies turns_behind
repeated-down l xs needed keeps zero = λ turns some. ap (λ n. Some n) (none turns)
  where
    none : (k : ℕ) → k ≡ k - 0 * needed
    none k = omega arith
repeated-down l xs needed keeps (suc n) = λ turns some.
    let here : needed ≤ turns = enough n needed turns some in
    let rest : n * needed ≤ turns - needed = others n needed turns some in
    behind_steps l turns (turns - needed) xs (copies n xs) (keeps turns here) ∙ repeated-down l xs needed keeps n (turns - needed) rest ∙ ap (λ k. Some k) (all n needed turns)
  where
    enough : (n k turns : ℕ) → suc n * k ≤ turns → k ≤ turns
    enough n k turns some = omega (arith, some)

    others : (n k turns : ℕ) → suc n * k ≤ turns → n * k ≤ turns - k
    others n k turns some = omega (arith, some)

    all : (n k turns : ℕ) → (turns - k) - n * k ≡ turns - suc n * k
    all n k turns = omega arith

-- where it does
repeated-anew : (l : Loop) (xs : List Step) (needed left : ℕ) → needed ≤ left → KeepsTurns xs l (Some (record { needed = needed; left = Some left })) → (n : ℕ) → KeepsTurns (copies (suc n) xs) l (Some (record { needed = needed; left = Some left }))
unfolding copies turns_behind
repeated-anew l xs needed left fits keeps zero = λ turns some. behind_steps l turns left xs [] (keeps turns some)
repeated-anew l xs needed left fits keeps (suc n) = λ turns some.
    behind_steps l turns left xs (copies (suc n) xs) (keeps turns some) ∙ repeated-anew l xs needed left fits keeps n left fits

pub repeated_keeps : (l : Loop) (xs : List Step) (n : ℕ) (t : Option Turns) → KeepsTurns xs l t → KeepsTurns (copies (suc n) xs) l (repeated (suc n) t)
repeated_keeps l xs n None keeps = tt
repeated_keeps l xs n (Some t) keeps = by-left t.left refl
  where
    by-left : (left : Option ℕ) → t.left ≡ left → KeepsTurns (copies (suc n) xs) l (repeated_turns (suc n) t)
    by-left None e = subst (λ o. KeepsTurns (copies (suc n) xs) l (elim o [ None ↦ if nat_lt (suc n * t.needed) (2 ^ 64) then Some (record { needed = suc n * t.needed; left = None }) else None | Some left ↦ if nat_le t.needed left then Some t else None ])) (sym e)
        (elim (nat_lt (suc n * t.needed) (2 ^ 64)) as (λ b. KeepsTurns (copies (suc n) xs) l (cond b (Some (record { needed = suc n * t.needed; left = None })) None)) [
          | true ↦ repeated-down l xs t.needed (subst (λ o. KeepsTurns xs l (Some (record { needed = t.needed; left = o }))) e keeps) (suc n)
          | false ↦ tt
        ])
    by-left (Some left) e = subst (λ o. KeepsTurns (copies (suc n) xs) l (elim o [ None ↦ if nat_lt (suc n * t.needed) (2 ^ 64) then Some (record { needed = suc n * t.needed; left = None }) else None | Some left ↦ if nat_le t.needed left then Some t else None ])) (sym e)
        ((elim (nat_le t.needed left) as (λ b. nat_le t.needed left ≡ b → KeepsTurns (copies (suc n) xs) l (cond b (Some t) None)) [
          | true ↦ λ f. subst (λ o. KeepsTurns (copies (suc n) xs) l (Some (record { needed = t.needed; left = o }))) (sym e)
              (repeated-anew l xs t.needed left (leb-true t.needed left f) (subst (λ o. KeepsTurns xs l (Some (record { needed = t.needed; left = o }))) e keeps) n)
          | false ↦ λ f. tt
        ]) refl)

-- ---- each loop

pub none_keeps : (loops : List Loop) → KeepsAll [] loops (none_taken loops)
unfolding KeepsAll none_taken turns_behind
none_keeps [] = tt
none_keeps (l ∷ loops) = (λ turns some. ap (λ n. Some n) (sym (minus-none turns)), none_keeps loops)

pub all_step : (loops : List Loop) (turns : List (Option Turns)) (xs : List Step) (s : Step) (a : ℕ) → s.at ≡ a → KeepsAll xs loops turns → KeepsAll (xs ++ s ∷ []) loops (with_step loops turns a)
unfolding KeepsAll with_step
all_step [] turns xs s a e keeps = tt
all_step (l ∷ loops) [] xs s a e keeps = tt
all_step (l ∷ loops) (t ∷ turns) xs s a e keeps = (joined_keeps l xs (s ∷ []) t (Some (turns_of l a)) keeps.0 (step_keeps l s a e), all_step loops turns xs s a e keeps.1)

pub all_joined : (loops : List Loop) (turns others : List (Option Turns)) (xs ys : List Step) → KeepsAll xs loops turns → KeepsAll ys loops others → KeepsAll (xs ++ ys) loops (with_part turns others)
unfolding KeepsAll with_part
all_joined [] turns others xs ys first later = tt
all_joined (l ∷ loops) [] others xs ys first later = tt
all_joined (l ∷ loops) (t ∷ turns) [] xs ys first later = tt
all_joined (l ∷ loops) (t ∷ turns) (u ∷ others) xs ys first later = (joined_keeps l xs ys t u first.0 later.0, all_joined loops turns others xs ys first.1 later.1)

pub all_repeated : (loops : List Loop) (turns : List (Option Turns)) (xs : List Step) (n : ℕ) → KeepsAll xs loops turns → KeepsAll (copies (suc n) xs) loops (map (repeated (suc n)) turns)
unfolding KeepsAll
all_repeated [] turns xs n keeps = tt
all_repeated (l ∷ loops) [] xs n keeps = tt
all_repeated (l ∷ loops) (t ∷ turns) xs n keeps = (repeated_keeps l xs n t keeps.0, all_repeated loops turns xs n keeps.1)

-- ---- a whole walk

kept-enough : (l : Loop) (xs : List Step) (t : Option Turns) → is_enough l t ≡ true → KeepsTurns xs l t → KeepsLoop xs l
kept-enough l xs None enough keeps = absurd (cc enough)
kept-enough l xs (Some t) enough keeps = ap is_some (keeps (turns_at_first l) (leb-true t.needed (turns_at_first l) enough))

pub all_kept : (loops : List Loop) (turns : List (Option Turns)) (xs : List Step) → are_enough loops turns ≡ true → KeepsAll xs loops turns → (l : Loop) → Contains loops l → KeepsLoop xs l
unfolding KeepsAll are_enough
all_kept [] turns xs enough keeps l there = absurd (omega (arith, there.1))
all_kept (h ∷ loops) [] xs enough keeps l there = absurd (cc enough)
all_kept (h ∷ loops) (t ∷ turns) xs enough keeps l (zero, within, is) =
    subst (λ m. KeepsLoop xs m) is (kept-enough h xs t (and_parts (is_enough h t) (are_enough loops turns) enough).0 keeps.0)
all_kept (h ∷ loops) (t ∷ turns) xs enough keeps l (suc k, within, is) =
    all_kept loops turns xs (and_parts (is_enough h t) (are_enough loops turns) enough).1 keeps.1 l (k, omega (arith, within), is)
