-- A walk through a routine, instruction by instruction, as the notes allow it, and what it spends where (this kit's own).
use Rattle.std.specs.Prelude.{◌≡◌, ℕ, Bool, true, ◌+◌, ◌==◌, ◌&&◌, is_some, if◌then◌else◌, Option, Some, None, List, [], ◌∷◌, map, Contains}
use Rattle.kc_bound.specs.declared.notes.Loop.{Loop}
use Rattle.kc_bound.specs.declared.notes.Notes.{Notes}
use Rattle.kc_bound.specs.declared.way.Way.{Way}
use Rattle.kc_bound.specs.declared.way.Way.TheVariants.{To, Call, Back, Out}
use Rattle.kc_bound.specs.Notes.{is_end, turns_at_first}
use Rattle.kc_bound.specs.Premises.{turns_after}
use Rattle.kc_bound.specs.Ways.{ways_at}
use Rattle.kc_bound_walk.specs.declared.lines.Spent.{Spent}

-- an instruction begins at an address, and goes on by a way
pub record Step : Type 0 where
  pub at : ℕ
  pub way : Way

-- ---- where steps lead

-- the address that begins next, with the open calls: the addresses to which they return, the last call first
pub record Place : Type 0 where
  pub at : ℕ
  pub open_calls : List ℕ

-- behind the last call; the pass is over with no open call, and where the notes end it
abbrev pub returned : Notes → List ℕ → Option Place
returned notes [] = None
returned notes (back ∷ open_calls) = if is_end notes back then None else Some (record { at = back; open_calls = open_calls })

-- behind a way; none where the pass is over
abbrev pub after_way : Notes → Way → List ℕ → Option Place
after_way notes (To states target) open_calls = Some (record { at = target; open_calls = open_calls })
after_way notes (Call states target back) open_calls = Some (record { at = target; open_calls = back ∷ open_calls })
after_way notes (Back states) open_calls = returned notes open_calls
after_way notes (Out states) open_calls = None

abbrev pub IsOneOf : Option (List Way) → Way → Type 0
IsOneOf None way = ⊥
IsOneOf (Some ways) way = Contains ways way

-- steps, each by a way of its address, lead from one place to another; none is behind the end of a pass
unfoldable pub Leads : List ℕ → Notes → Option Place → List Step → Option Place → Type 0
Leads image notes from [] to = from ≡ to
Leads image notes None (s ∷ steps) to = ⊥
Leads image notes (Some p) (s ∷ steps) to = (s.at ≡ p.at) × IsOneOf (ways_at image notes p.at) s.way × Leads image notes (after_way notes s.way p.open_calls) steps to

-- ---- what the notes allow

-- how often the head of a loop may still begin behind some steps; none where it has begun more often than that
unfoldable pub turns_behind : Loop → ℕ → List Step → Option ℕ
turns_behind l turns [] = Some turns
turns_behind l turns (s ∷ steps) = if (l.head == s.at) && (turns == 0) then None else turns_behind l (turns_after l (Some s.at) turns) steps

abbrev pub KeepsLoop : List Step → Loop → Type 0
KeepsLoop steps l = is_some (turns_behind l (turns_at_first l) steps) ≡ true

-- a walk from an address until the pass is over, in which the head of each loop begins only as often as its note says
pub record IsWalk (image : List ℕ) (notes : Notes) (from : ℕ) (steps : List Step) : Type 0 where
  pub leads : Leads image notes (Some (record { at = from; open_calls = [] })) steps None
  pub keeps : (l : Loop) → Contains notes.loops.items l → KeepsLoop steps l

-- ---- what is spent where

abbrev pub states_of : Way → ℕ
states_of (To states target) = states
states_of (Call states target back) = states
states_of (Back states) = states
states_of (Out states) = states

abbrev pub is_alike : Spent → Spent → Bool
is_alike s t = (s.at == t.at) && (s.states == t.states)

-- so often more where as many states are spent at the address, else behind all
unfoldable pub with_spent : List Spent → Spent → List Spent
with_spent [] s = s ∷ []
with_spent (l ∷ lines) s = if is_alike l s then record l { times = l.times + s.times } ∷ lines else l ∷ with_spent lines s

unfoldable pub with_all : List Spent → List Spent → List Spent
with_all lines [] = lines
with_all lines (s ∷ more) = with_all (with_spent lines s) more

abbrev pub spent_by : Step → Spent
spent_by s = record { at = s.at; states = states_of s.way; times = 1 }

-- of each address and number of states how often, by their first time
abbrev pub spent_in : List Step → List Spent
spent_in steps = with_all [] (map spent_by steps)

-- a walk from an address, with what it spends
pub record WalkOf (image : List ℕ) (notes : Notes) (from : ℕ) (lines : List Spent) : Type 0 where
  pub steps : List Step
  pub walk : IsWalk image notes from steps
  pub spends : spent_in steps ≡ lines

-- there is one that spends this
abbrev pub IsWhole : List ℕ → Notes → ℕ → List Spent → Type 0
IsWhole image notes from lines = ∥ WalkOf image notes from lines ∥₁
