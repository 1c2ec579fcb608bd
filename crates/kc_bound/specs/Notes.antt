-- What notes say of an address (this kit's own).
use Rattle.std.specs.Prelude.{ℕ, Bool, ◌==◌, if◌then◌else◌, Option, List, [], ◌∷◌, find}
use Rattle.std.specs.Option.{option_map}
use Rattle.std.specs.List.{list_any}
use Rattle.kc_bound.specs.declared.notes.Loop.{Loop}
use Rattle.kc_bound.specs.declared.notes.Goes.{Goes}
use Rattle.kc_bound.specs.declared.notes.Moved.{Moved}
use Rattle.kc_bound.specs.declared.notes.Notes.{Notes}

abbrev pub is_among : List ℕ → ℕ → Bool
is_among addresses a = list_any (λ b. b == a) addresses

-- a pass is over where this address would begin
abbrev pub is_end : Notes → ℕ → Bool
is_end notes a = is_among notes.ends.items a

-- where the jump at an address leads
abbrev pub targets_at : Notes → ℕ → Option (List ℕ)
targets_at notes a = option_map (λ (g : Goes). g.targets.items) (find (λ (g : Goes). g.jump == a) notes.goes.items)

-- how many words the block move at an address moves at most
abbrev pub words_at : Notes → ℕ → Option ℕ
words_at notes a = option_map (λ (w : Moved). w.most) (find (λ (w : Moved). w.block == a) notes.words.items)

-- how often the head of a loop may begin after the begin of an address, beside what it could before
abbrev pub turns_at : ℕ → Loop → ℕ
turns_at a l = if is_among l.per.items a then l.most else 0

-- how often the head of a loop may begin from the start of a pass
abbrev pub turns_at_first : Loop → ℕ
turns_at_first l = elim l.per.items [ [] ↦ l.most | p ∷ more ↦ 0 ]
