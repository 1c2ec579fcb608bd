-- What a way that pays leaves.
use Rattle.std.proofs.Common.{◌≡◌, ℕ, Bool, true, false, not, ◌+◌, ◌-◌, ◌*◌, ◌<◌, ◌≤◌, ◌&&◌, ◌||◌, nat_lt, nat_le, Option, Some, None, List, [], ◌∷◌, refl, sym, ◌∙◌, ap, subst, arith}
use Rattle.std.proofs.lemmas.Grind.{common_steps}
use Rattle.kc_bound.specs.declared.certificate.Standing.{Standing}
use Rattle.kc_bound.specs.Certified.{implies, follows, pays_on, pays_call}

pub both : (a b : Bool) → (a && b) ≡ true → (a ≡ true) × (b ≡ true)
both true b h = (refl, h)
both false b h = absurd (cc h)

pub at-most : (a b : ℕ) → nat_le a b ≡ true → a ≤ b
at-most a b h = grind (arith, common_steps)

below : (a b : ℕ) → nat_lt a b ≡ true → a < b
below a b h = grind (arith, common_steps)

so : (a b : Bool) → implies a b ≡ true → a ≡ true → b ≡ true
so true b h given = h
so false b h given = absurd (cc given)

-- from one address to another of the same routine no calls become possible, and leaving there is leaving here
pub record Follows (here there : Standing) : Type 0 where
  pub rank : there.rank ≤ here.rank
  pub leaves : there.leaves ≡ true → here.leaves ≡ true

follows-so : (here there : Standing) → follows here there ≡ true → Follows here there
follows-so here there h =
    let parts = both (nat_le there.rank here.rank) (implies there.leaves here.leaves) h in
    record { rank = at-most there.rank here.rank parts.0; leaves = so there.leaves here.leaves parts.1 }

-- the potential falls by what is spent
pub record PaysOn (here : Standing) (has spent : ℕ) (there : Option Standing) : Type 0 where
  pub standing : Standing
  pub is_there : there ≡ Some standing
  pub falls : spent + standing.potential ≤ has
  pub keeps : Follows here standing

pub pays-on : (here : Standing) (has spent : ℕ) (there : Option Standing) → pays_on here has spent there ≡ true → PaysOn here has spent there
pays-on here has spent None h = absurd (cc h)
pays-on here has spent (Some s) h =
    let parts = both (nat_le (spent + s.potential) has) (follows here s) h in
    record { standing = s; is_there = refl; falls = at-most (spent + s.potential) has parts.0; keeps = follows-so here s parts.1 }

-- a call hands on the potential of where it comes back to, above the floor
pub record PaysCall (floor : ℕ) (here : Standing) (has spent : ℕ) (is_last : Bool) (there behind : Option Standing) : Type 0 where
  pub inside : Standing
  pub is_there : there ≡ Some inside
  pub back : Standing
  pub is_behind : behind ≡ Some back
  pub falls : spent + inside.potential + back.potential ≤ has + floor
  pub rank : inside.rank < here.rank
  pub into : Follows here inside
  pub keeps : Follows here back
  pub kept_back : (inside.leaves || is_last) ≡ true → floor ≤ back.potential
  pub last : is_last ≡ true → here.leaves ≡ true

pub pays-call : (floor : ℕ) (here : Standing) (has spent : ℕ) (is_last : Bool) (there behind : Option Standing) → pays_call floor here has spent is_last there behind ≡ true → PaysCall floor here has spent is_last there behind
pays-call floor here has spent is_last None behind h = absurd (cc h)
pays-call floor here has spent is_last (Some t) None h = absurd (cc h)
pays-call floor here has spent is_last (Some t) (Some b) h =
    let first = both (nat_le (spent + t.potential + b.potential) (has + floor) && (nat_lt t.rank here.rank && (follows here t && follows here b))) _ h in
    let sums = both (nat_le (spent + t.potential + b.potential) (has + floor)) _ first.0 in
    let ranks = both (nat_lt t.rank here.rank) _ sums.1 in
    let ways = both (follows here t) (follows here b) ranks.1 in
    let ends = both (implies (t.leaves || is_last) (nat_le floor b.potential)) (implies is_last here.leaves) first.1 in
    record {
      inside = t;
      is_there = refl;
      back = b;
      is_behind = refl;
      falls = at-most (spent + t.potential + b.potential) (has + floor) sums.0;
      rank = below t.rank here.rank ranks.0;
      into = follows-so here t ways.0;
      keeps = follows-so here b ways.1;
      kept_back = λ yes. at-most floor b.potential (so (t.leaves || is_last) (nat_le floor b.potential) ends.0 yes);
      last = so is_last here.leaves ends.1;
    }
