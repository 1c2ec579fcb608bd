-- The limits of a script, command by command.
use Rattle.std.proofs.Common.{◌≡◌, ℕ, zero, suc, ◌+◌, ◌<◌, ◌≤◌, Bool, true, false, cond, not, ◌&&◌, ltb, leb, List, [], ◌∷◌, ◌++◌, length, get_or, refl, ap, ◌∙◌, arith, length-append}
use Rattle.std.specs.Prelude.{count_by}
use Rattle.std.proofs.lemmas.List.Sums.{sum_by-append}
use Rattle.std.proofs.lemmas.List.Elements.{All-append}
use Rattle.std.proofs.lemmas.Bool.{ltb-true, lt-ltb, leb-true, leb-false}
use Rattle.kc_debug_script.specs.declared.command.Command.{Command}
use Rattle.kc_debug_script.specs.Commands.{IsBounded, command_of}
use Rattle.kc_debug_script.specs.Script.{is_break, may_follow, script_of, IsLimited, AreBounded}
use Rattle.kc_debug_script.specs.Laws.{ScriptsAreCommands}
use Rattle.kc_debug_script.proofs.Grammar.{IsRule, reads}

count-push : (before : List Command) (c : Command) → count_by is_break (before ++ c ∷ []) ≡ count_by is_break before + cond (is_break c) 1 0
count-push before c =
    let both : count_by is_break (before ++ c ∷ []) ≡ count_by is_break before + count_by is_break (c ∷ []) = sum_by-append (λ x. cond (is_break x) 1 0) before (c ∷ []) in
    let last : count_by is_break (c ∷ []) ≡ 0 + cond (is_break c) 1 0 = refl in
    omega (arith, both, last)

-- a command more fits, where it is no breakpoint or there are fewer than 16
fits : (n : ℕ) (breaks : Bool) → n ≤ 16 → not (breaks && leb 16 n) ≡ true → n + cond breaks 1 0 ≤ 16
fits n false few h = omega arith
fits n true few h = by_full (leb 16 n) refl h
  where
    by_full : (full : Bool) → leb 16 n ≡ full → not full ≡ true → n + 1 ≤ 16
    by_full true is turned = absurd cc
    by_full false is turned = let less : n < 16 = leb-false 16 n is in omega arith

has_room : (n : ℕ) (breaks : Bool) → n + cond breaks 1 0 ≤ 16 → not (breaks && leb 16 n) ≡ true
has_room n false few = refl
has_room n true few = by_full (leb 16 n) refl
  where
    by_full : (full : Bool) → leb 16 n ≡ full → not full ≡ true
    by_full false is = refl
    by_full true is = let many : 16 ≤ n = leb-true 16 n is in absurd (omega arith)

push : (before : List Command) (c : Command) → IsLimited before → may_follow before c ≡ true → IsLimited (before ++ c ∷ [])
push before c limited allowed = by_room (ltb (length before) 65535) refl allowed
  where
    by_room : (room : Bool) → ltb (length before) 65535 ≡ room → (room && not (is_break c && leb 16 (count_by is_break before))) ≡ true → IsLimited (before ++ c ∷ [])
    by_room false is h = absurd cc
    by_room true is h =
        let less : length before < 65535 = ltb-true (length before) 65535 is in
        let longer : length (before ++ c ∷ []) ≡ length before + 1 = length-append before (c ∷ []) in
        let counted = fits (count_by is_break before) (is_break c) limited.breakpoints h in
        record { few = omega arith; breakpoints = omega (arith, count-push before c) }

pull : (before : List Command) (c : Command) → IsLimited (before ++ c ∷ []) → may_follow before c ≡ true
pull before c limited =
    let longer : length (before ++ c ∷ []) ≡ length before + 1 = length-append before (c ∷ []) in
    let few = limited.few in
    let room : ltb (length before) 65535 ≡ true = lt-ltb (length before) 65535 (omega arith) in
    let breaks = limited.breakpoints in
    let counted : count_by is_break before + cond (is_break c) 1 0 ≤ 16 = omega (arith, count-push before c) in
    ap (λ r. r && not (is_break c && leb 16 (count_by is_break before))) room ∙ has_room (count_by is_break before) (is_break c) counted

cut : (before more : List Command) → IsLimited (before ++ more) → IsLimited before
cut before more limited =
    let few = limited.few in
    let breaks = limited.breakpoints in
    record {
      few = omega (arith, length-append before more);
      breakpoints = omega (arith, sum_by-append (λ x. cond (is_break x) 1 0) before more);
    }

limits : IsRule may_follow IsLimited
limits = record { none = record { few = omega arith; breakpoints = omega arith }; push = push; pull = pull; cut = cut }

pub scripts_are_commands : ScriptsAreCommands
scripts_are_commands = reads command_of may_follow IsLimited limits script_of (λ text. refl)

one : (P : Command → Type 0) (c : Command) → P c → (k : ℕ) (d : Command) → k < length (c ∷ []) → P (get_or (c ∷ []) k d)
one P c h zero d lt = h
one P c h (suc k) d lt = absurd (omega arith)

pub bounded_none : AreBounded []
bounded_none = record { each = λ k d lt. absurd (omega arith); limited = limits.none }

-- a command more that is within its bounds
pub bounded_push : (before : List Command) (c : Command) → AreBounded before → IsBounded c → may_follow before c ≡ true → AreBounded (before ++ c ∷ [])
bounded_push before c bounded here allowed = record {
  each = All-append IsBounded before (c ∷ []) bounded.each (one IsBounded c here);
  limited = push before c bounded.limited allowed;
}
