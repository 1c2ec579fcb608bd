-- The last items of lists.
use Rattle.std.proofs.Common.{◌≡◌, ℕ, ◌+◌, ◌-◌, ◌≤◌, List, ◌++◌, Option, Some, None, length, take, drop, sym, ap, ◌∙◌, arith, length-append, length-drop, length-take-le}
use Rattle.std.proofs.lemmas.List.{drop-drop, drop-append-le, drop-take}
use Rattle.circular_buffer.specs.Buffer.{keep_last}
use Rattle.kc_machine_spec.specs.declared.doing.UnderWay.{UnderWay}
use Rattle.kc_debug.specs.declared.activities.Begun.{Begun}
use Rattle.kc_debug.specs.Activities.{finished}

-- items that are not among the last may be gone before
pub last-drop : {A : Type 0} (n k : ℕ) (xs : List A) → k ≤ length xs - n → keep_last n (drop k xs) ≡ keep_last n xs
last-drop n k xs few =
    let rest : length (drop k xs) ≡ length xs - k = length-drop k xs in
    let sum : k + (length (drop k xs) - n) ≡ length xs - n = omega arith in
    drop-drop (length (drop k xs) - n) k xs ∙ ap (λ i. drop i xs) sum

-- the last of a list that goes on are the last of its own last and what comes
pub last-append : {A : Type 0} (n : ℕ) (xs ys : List A) → keep_last n (keep_last n xs ++ ys) ≡ keep_last n (xs ++ ys)
last-append n xs ys =
    let longer : length (xs ++ ys) ≡ length xs + length ys = length-append xs ys in
    ap (keep_last n) (sym (drop-append-le (length xs - n) xs ys (omega arith))) ∙ last-drop n (length xs - n) (xs ++ ys) (omega arith)

pub last-same : {A : Type 0} (n : ℕ) (xs : List A) → keep_last n (keep_last n xs) ≡ keep_last n xs
last-same n xs = last-drop n (length xs - n) xs (omega arith)

-- of the last 33 that began, the last 32 that have finished are those of all
pub last-finished : (a : Option UnderWay) (xs : List Begun) → keep_last 32 (finished a (keep_last 33 xs)) ≡ keep_last 32 (finished a xs)
last-finished None xs = last-drop 32 (length xs - 33) xs (omega arith)
last-finished (Some activity) xs =
    let k : ℕ = length xs - 33 in
    let m : ℕ = length (drop k xs) - 1 in
    let rest : length (drop k xs) ≡ length xs - k = length-drop k xs in
    let sum : k + m ≡ length xs - 1 = omega arith in
    let prefix : length (take (length xs - 1) xs) ≡ length xs - 1 = length-take-le (length xs - 1) xs (omega arith) in
    ap (keep_last 32) (sym (drop-take k m xs) ∙ ap (λ i. drop k (take i xs)) sum)
    ∙ last-drop 32 k (take (length xs - 1) xs) (omega arith)
