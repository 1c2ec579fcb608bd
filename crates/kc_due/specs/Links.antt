-- Sixteen nodes linked both ways (this kit's own): the slots that have a time, in order of time and slot. A link is a slot or
-- None; None stands for the head where one goes on from it, and for the end where one comes to it.
use Rattle.std.specs.Prelude.{◌≡◌, ◌≢◌, ℕ, ◌+◌, ◌*◌, ◌<◌, Option, Some, None, IsSome, IfSome, map, length, slice_index_or, unwrap_or}
use Rattle.kc_due.specs.declared.node.Node.{Node}
use Rattle.kc_due.specs.declared.links.Links.{Links}
use Rattle.kc_due.specs.Due.{Times}

abbrev pub blank : Node
blank = record { at = None; previous = None; next = None }

abbrev pub node_of : Links → ℕ → Node
node_of links k = slice_index_or links.nodes k blank

-- what each slot has
abbrev pub times_of : Links → Times
times_of links = map (λ n. n.at) links.nodes

-- a slot that has a time
abbrev pub IsIn : Links → ℕ → Type 0
IsIn links k = (k < 16) × IsSome (node_of links k).at

-- where it stands in the order of time and slot
abbrev pub place : Links → ℕ → ℕ
place links k = unwrap_or (node_of links k).at 0 * 16 + k

-- what follows a slot, or the head
abbrev pub next_of : Links → Option ℕ → Option ℕ
next_of links None = links.head
next_of links (Some k) = (node_of links k).next

-- each link leads on to a later slot that has a time, and back; each slot that has a time follows what it leads back to
pub record IsLinked (links : Links) : Type 0 where
  pub sixteen : length links.nodes ≡ 16
  pub on : (from : Option ℕ) (k : ℕ) → IfSome from (IsIn links) → next_of links from ≡ Some k →
      IsIn links k × ((node_of links k).previous ≡ from) × IfSome from (λ j. place links j < place links k)
  pub back : (k : ℕ) → IsIn links k → IfSome (node_of links k).previous (IsIn links) × (next_of links (node_of links k).previous ≡ Some k)

-- what joining two links leaves: one follows the other, each other link is as it was, and so is each time
pub record IsJoined (old : Links) (earlier later : Option ℕ) (new : Links) : Type 0 where
  pub sixteen : length new.nodes ≡ length old.nodes
  pub times : times_of new ≡ times_of old
  pub on : next_of new earlier ≡ later
  pub others_on : (from : Option ℕ) → from ≢ earlier → next_of new from ≡ next_of old from
  pub back : (k : ℕ) → later ≡ Some k → (node_of new k).previous ≡ earlier
  pub others_back : (k : ℕ) → later ≢ Some k → (node_of new k).previous ≡ (node_of old k).previous

-- the last slot before a place, or the head; what follows it stands behind the place
pub record IsLastBefore (links : Links) (limit : ℕ) (earlier : Option ℕ) : Type 0 where
  pub before : IfSome earlier (λ k. IsIn links k × (place links k < limit))
  pub beyond : IfSome (next_of links earlier) (λ k. limit < place links k)
