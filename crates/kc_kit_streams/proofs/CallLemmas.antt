-- A read that has not failed leaves the count of faults as it is.
use Rattle.std.proofs.Common.{◌≡◌, ℕ, ◌+◌, ◌-◌, ◌^◌, ◌≤◌, Bool, true, false, List, [], ◌∷◌, inl, inr, refl, ap, ◌∙◌, arith}
use Rattle.std.specs.Prelude.{IsTrue}
use Rattle.std.proofs.lemmas.Bool.{cases_lt}
use Rattle.std.proofs.lemmas.Bool.Decides.{nat_tests}
use Rattle.kc_base.specs.Memory.{faults_in, next_call, is_to_fail}
use Rattle.kc_base.specs.declared.memory.MemFiles.{MemFiles}
use Rattle.kc_base.proofs.Faults.{faults_in-miss}

faults_in-up : (calls more : ℕ) (failing : List ℕ) → calls ≤ more → faults_in calls failing ≤ faults_in more failing
faults_in-up calls more [] h = omega arith
faults_in-up calls more (x ∷ xs) h = grind (arith, nat_tests, faults_in-up calls more xs)

no_fault : (calls : ℕ) (failing : List ℕ) → faults_in calls failing ≤ faults_in (next_call calls) failing → is_to_fail calls failing ≡ false → faults_in (next_call calls) failing ≡ faults_in calls failing
no_fault calls failing later h = elim (cases_lt calls (2 ^ 64 - 1)) [
  | inl less ↦
      let goes : next_call calls ≡ calls + 1 = omega (arith, less) in
      ap (λ n. faults_in n failing) goes ∙ faults_in-miss calls failing (grind (arith, nat_tests, less, h))
  | inr most ↦
      let least : next_call calls ≤ calls = omega (arith, most) in
      let back = faults_in-up (next_call calls) calls failing least in
      omega (arith, back, later)
]

-- the files after a read that was not to fail
pub calm_read : (old new : MemFiles) → (IsTrue (is_to_fail old.reads old.failing_reads.items) → ⊥) → new ≡ record old { reads = next_call old.reads } → faults_in old.reads old.failing_reads.items ≤ faults_in new.reads new.failing_reads.items →
    faults_in new.reads new.failing_reads.items ≡ faults_in old.reads old.failing_reads.items
calm_read old new calm same later =
    let counts : faults_in new.reads new.failing_reads.items ≡ faults_in (next_call old.reads) old.failing_reads.items = ap (λ (f : MemFiles). faults_in f.reads f.failing_reads.items) same in
    let up : faults_in old.reads old.failing_reads.items ≤ faults_in (next_call old.reads) old.failing_reads.items = omega (arith, counts, later) in
    counts ∙ no_fault old.reads old.failing_reads.items up (by (is_to_fail old.reads old.failing_reads.items) calm)
  where
    by : (b : Bool) → (IsTrue b → ⊥) → b ≡ false
    by true never = absurd (never refl)
    by false never = refl
