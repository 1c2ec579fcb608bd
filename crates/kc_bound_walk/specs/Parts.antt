-- Parts of a walk: where they lead, what they take of the turns of each loop, and what they spend (this kit's own).
use Rattle.std.specs.Prelude.{◌≡◌, ℕ, Bool, true, false, ◌+◌, ◌-◌, ◌*◌, ◌^◌, ◌≤◌, ◌&&◌, nat_lt, nat_le, if◌then◌else◌, Option, Some, None, option_and_then, List, [], ◌∷◌, ◌++◌}
use Rattle.kc_bound.specs.declared.notes.Loop.{Loop}
use Rattle.kc_bound.specs.declared.notes.Notes.{Notes}
use Rattle.kc_bound.specs.Notes.{is_among, turns_at_first}
use Rattle.kc_bound.specs.Certified.{begins_at}
use Rattle.kc_bound_walk.specs.declared.lines.Spent.{Spent}
use Rattle.kc_bound_walk.specs.declared.turns.Turns.{Turns}
use Rattle.kc_bound_walk.specs.declared.part.Part.{Part}
use Rattle.kc_bound_walk.specs.declared.steps.Place.{Place as CodePlace}
use Rattle.kc_bound_walk.specs.Walks.{Step, Place, Leads, turns_behind, spent_in}

-- ---- the turns of a loop

-- how many are left behind a part, by how many there were before it
abbrev pub left_behind : Turns → ℕ → ℕ
left_behind t turns = elim t.left [ None ↦ turns - t.needed | Some left ↦ left ]

-- what the begin of an address gives, and what it takes
abbrev pub given_at : Loop → ℕ → Option ℕ
given_at l a = if is_among l.per.items a then Some l.most else None

abbrev pub turns_of : Loop → ℕ → Turns
turns_of l a = record { needed = begins_at a l; left = given_at l a }

-- a part and one behind it; none where there are too few turns, or the number is too large
abbrev pub joined_turns : Turns → Turns → Option Turns
joined_turns t u = elim t.left [
  | None ↦ if nat_lt (t.needed + u.needed) (2 ^ 64) then Some (record { needed = t.needed + u.needed; left = u.left }) else None
  | Some left ↦ if nat_le u.needed left then Some (record { needed = t.needed; left = Some (left_behind u left) }) else None
]

abbrev pub joined : Option Turns → Option Turns → Option Turns
joined None u = None
joined (Some t) None = None
joined (Some t) (Some u) = joined_turns t u

-- the same part so many times, two or more
abbrev pub repeated_turns : ℕ → Turns → Option Turns
repeated_turns n t = elim t.left [
  | None ↦ if nat_lt (n * t.needed) (2 ^ 64) then Some (record { needed = n * t.needed; left = None }) else None
  | Some left ↦ if nat_le t.needed left then Some t else None
]

abbrev pub repeated : ℕ → Option Turns → Option Turns
repeated n turns = option_and_then (repeated_turns n) turns

-- ---- of each loop, in the order of the notes

unfoldable pub none_taken : List Loop → List (Option Turns)
none_taken [] = []
none_taken (l ∷ loops) = Some (record { needed = 0; left = None }) ∷ none_taken loops

unfoldable pub with_step : List Loop → List (Option Turns) → ℕ → List (Option Turns)
with_step [] turns a = []
with_step (l ∷ loops) [] a = []
with_step (l ∷ loops) (t ∷ turns) a = joined t (Some (turns_of l a)) ∷ with_step loops turns a

unfoldable pub with_part : List (Option Turns) → List (Option Turns) → List (Option Turns)
with_part [] more = []
with_part (t ∷ turns) [] = []
with_part (t ∷ turns) (u ∷ more) = joined t u ∷ with_part turns more

-- whether each loop has as many turns at first as a walk needs
abbrev pub is_enough : Loop → Option Turns → Bool
is_enough l None = false
is_enough l (Some t) = nat_le t.needed (turns_at_first l)

unfoldable pub are_enough : List Loop → List (Option Turns) → Bool
are_enough [] turns = true
are_enough (l ∷ loops) [] = false
are_enough (l ∷ loops) (t ∷ turns) = is_enough l t && are_enough loops turns

-- what is known of a loop, if anything is: with as many turns as are needed it is kept to
abbrev pub KeepsTurns : List Step → Loop → Option Turns → Type 0
KeepsTurns steps l None = Unit {0}
KeepsTurns steps l (Some t) = (turns : ℕ) → t.needed ≤ turns → turns_behind l turns steps ≡ Some (left_behind t turns)

unfoldable pub KeepsAll : List Step → List Loop → List (Option Turns) → Type 0
KeepsAll steps [] turns = Unit {0}
KeepsAll steps (l ∷ loops) [] = Unit {0}
KeepsAll steps (l ∷ loops) (t ∷ turns) = KeepsTurns steps l t × KeepsAll steps loops turns

-- ---- parts

abbrev pub place_of : CodePlace → Place
place_of p = record { at = p.at; open_calls = p.open_calls.items }

-- steps from an address to another, which open calls on the way, whatever calls are open before, with what they take of the turns of
-- each loop and what they spend
pub record StepsOf (image : List ℕ) (notes : Notes) (begins at : ℕ) (open_calls : List ℕ) (turns : List (Option Turns)) (lines : List Spent) : Type 0 where
  pub steps : List Step
  pub leads : (base : List ℕ) → Leads image notes (Some (record { at = begins; open_calls = base })) steps (Some (record { at = at; open_calls = open_calls ++ base }))
  pub keeps : KeepsAll steps notes.loops.items turns
  pub spends : spent_in steps ≡ lines

-- a part has such steps
abbrev pub IsPart : List ℕ → Notes → Part → Type 0
IsPart image notes p = ∥ StepsOf image notes p.begins p.at p.open_calls.items p.turns.items p.lines.items ∥₁

-- so many times as often
abbrev pub times_more : ℕ → Spent → Spent
times_more n s = record s { times = n * s.times }
