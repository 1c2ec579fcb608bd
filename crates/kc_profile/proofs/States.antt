-- Statistics after a state are those before it, and what the state shows: of instructions and of the stack.
use Rattle.std.proofs.Common.{◌≡◌, ℕ, ◌+◌, ◌<◌, ◌≤◌, Bool, true, false, cond, ◌&&◌, List, [], ◌∷◌, length, Option, Some, None, All, refl, sym, ◌∙◌, ap, subst, arith}
use Rattle.std.specs.Prelude.{◌==◌, if◌then◌else◌, count_by, slice_index, slice_index_or, slice_set}
use Rattle.std.proofs.lemmas.Grind.{common_steps}
use Rattle.kc_profile.specs.declared.sight.Sight.{Sight}
use Rattle.kc_profile.specs.declared.sight.Way.{Way}
use Rattle.kc_profile.specs.declared.sight.Way.TheVariants.{Taken, Passed}
use Rattle.kc_profile.specs.declared.statistics.Depth.{Depth}
use Rattle.kc_profile.specs.Sights.{hits, way, moves_stack}
use Rattle.kc_profile.specs.Waits.{AreConsecutive, AreWaitsOf, no_waits, see}
use Rattle.kc_profile.specs.Statistics.{Statistics, AreStatisticsOf, IsWhole, HaveSeen, counted_at, deepest, deeper, depth, goes, is_hit, is_way, waits_at, with_instructions, with_stack, with_waits}
use Rattle.kc_profile.proofs.Seen.{counted-first, waits-seen}

index-set : (numbers : List ℕ) (addr n x : ℕ) → addr < length numbers → slice_index (slice_set numbers addr n) x ≡ (if x == addr then n else slice_index numbers x)
index-set numbers addr n x inside = grind (arith, common_steps)

once-more : (numbers : List ℕ) (addr x : ℕ) → addr < length numbers → slice_index (slice_set numbers addr (slice_index numbers addr + 1)) x ≡ cond (addr == x) 1 0 + slice_index numbers x
once-more numbers addr x inside = grind (arith, common_steps)

-- the number of an address counts the states that show something there
counted-more : (b : Bool) (s : Sight) (numbers : List ℕ) (p : Sight → Bool) (x : ℕ) (sights : List Sight) → s.pc < length numbers → p s ≡ (b && (s.pc == x)) → slice_index numbers x ≡ count_by p sights →
    slice_index (counted_at b s.pc numbers) x ≡ count_by p (s ∷ sights)
counted-more false s numbers p x sights inside is k =
    let none : cond {A = ℕ} (p s) 1 0 + count_by p sights ≡ 0 + count_by p sights = ap (λ b. cond {A = ℕ} b 1 0 + count_by p sights) is in
    let e : slice_index numbers x ≡ 0 + count_by p sights = omega (arith, k) in
    e ∙ sym none ∙ sym (counted-first p s sights)
counted-more true s numbers p x sights inside is k =
    once-more numbers s.pc x inside
    ∙ ap (λ n. cond (s.pc == x) 1 0 + n) k
    ∙ ap (λ b. cond {A = ℕ} b 1 0 + count_by p sights) (sym is)
    ∙ sym (counted-first p s sights)

deepest-more : (b : Bool) (life : ℕ) (s : Sight) (sights : List Sight) (d : Option Depth) → moves_stack s ≡ b → d ≡ deepest life sights → cond b (Some (deeper d (depth life s))) d ≡ deepest life (s ∷ sights)
unfolding deepest
deepest-more b life s sights d is same =
    ap (λ e. cond b (Some (deeper e (depth life s))) e) same ∙ ap (λ c. cond c (Some (deeper (deepest life sights) (depth life s))) (deepest life sights)) (sym is)

-- statistics of the states of a life and of the next one
pub statistics-more : (s : Sight) (sights : List Sight) (t u v w : Statistics) → s.pc < 65536 → AreConsecutive s sights → IsWhole w → u ≡ with_instructions s t → v ≡ with_stack s u → HaveSeen v.life s v.waits w.waits → w ≡ with_waits w.waits v → AreStatisticsOf t.life sights t → AreStatisticsOf t.life (s ∷ sights) w
statistics-more s sights t u v w inside follows whole i k seen rest statistics =
    let stack : v ≡ with_stack s (with_instructions s t) = k ∙ ap (with_stack s) i in
    let waits-same : v.waits ≡ t.waits = ap (λ (x : Statistics). x.waits) stack in
    let life-same : v.life ≡ t.life = ap (λ (x : Statistics). x.life) stack in
    record {
      whole = whole;
      waits = λ n lt.
          subst (λ x. AreWaitsOf n t.life (s ∷ sights) x)
          (sym (seen.each n lt ∙ ap (λ l. see n l s (slice_index_or v.waits n no_waits)) life-same ∙ ap (λ l. see n t.life s (slice_index_or l n no_waits)) waits-same))
          (waits-seen n t.life s sights (waits_at t n) follows (statistics.waits n lt));
      deepest = ap (λ (x : Statistics). x.deepest) rest ∙ ap (λ (x : Statistics). x.deepest) stack ∙ deepest-more (moves_stack s) t.life s sights t.deepest refl statistics.deepest;
      hits = λ x. ap (λ ns. slice_index ns x) (ap (λ (y : Statistics). y.hits) rest ∙ ap (λ (y : Statistics). y.hits) stack) ∙ counted-more (hits s) s t.hits (is_hit x) x sights (subst (λ n. s.pc < n) (sym statistics.whole.hits) inside) refl (statistics.hits x);
      taken = λ x. ap (λ ns. slice_index ns x) (ap (λ (y : Statistics). y.taken) rest ∙ ap (λ (y : Statistics). y.taken) stack) ∙ counted-more (goes (way s) Taken) s t.taken (is_way Taken x) x sights (subst (λ n. s.pc < n) (sym statistics.whole.taken) inside) refl (statistics.taken x);
      passed = λ x. ap (λ ns. slice_index ns x) (ap (λ (y : Statistics). y.passed) rest ∙ ap (λ (y : Statistics). y.passed) stack) ∙ counted-more (goes (way s) Passed) s t.passed (is_way Passed x) x sights (subst (λ n. s.pc < n) (sym statistics.whole.passed) inside) refl (statistics.passed x);
    }
