-- Lives one after the other: a reset begins a new one (80C196KC User's Manual, "Reset"; the lines between lives, and that the
-- inputs go on over a reset, are this kit's own).
use Rattle.std.specs.Prelude.{◌≡◌, ℕ, zero, suc, ◌+◌, ◌-◌, ◌<◌, Bool, true, false, if◌then◌else◌, Option, Result, Ok, Err, List, [], ◌∷◌, ◌++◌, length, take, flat_map, codes, decimal}
use Rattle.kc_stim.specs.Drives.{Drives, driven_from}
use Rattle.kc_extra.specs.Further.{Further}
use Rattle.kc_trace.specs.Out.{Out, Puts}
use Rattle.kc_trace.specs.Text.{text_of}
use Rattle.kc_machine_spec.specs.declared.doing.End.{End}
use Rattle.kc_machine_spec.specs.declared.doing.End.TheVariants as end
use Rattle.kc_machine_spec.specs.Machine.{start}
use Rattle.kc_machine_spec.specs.Text.{finals}
use Rattle.kc_machine_spec.specs.Work.{work_to}
use Rattle.kc_cycles.specs.declared.lives.LivesFault.{LivesFault}
use Rattle.kc_cycles.specs.declared.lives.LivesFault.TheVariants as fault
use Rattle.kc_cycles.specs.Life.{Life, life_for}

abbrev pub is_reset : End → Bool
is_reset end.Reset = true
is_reset _ = false

module _ {X : Type 0} (f : Further X) (deadline : X → Option ℕ) (image : List ℕ) (drives : Drives) (unit : ℕ → X) (until : ℕ) where
  -- The life that begins at a state: the machine of the image at its own state 0, with what drives the inputs from that state
  -- on and with the further unit that is made for it, for the states that are left.
  abbrev pub life_from : ℕ → Life X
  life_from from = life_for f deadline (until - from) (start image (driven_from from drives) (unit from))

  -- a reset begins another life in the state after it, while lives are left
  abbrev pub and_next : Life X → List (Life X) → List (Life X)
  and_next life others = life ∷ (if is_reset life.how then others else [])

  -- the lives from a state on, at most so many
  unfoldable pub lives_from : ℕ → ℕ → List (Life X)
  lives_from zero from = []
  lives_from (suc more) from = let life = life_from from in and_next life (lives_from more (from + life.ran.machine.time))

  -- all lives of a board, the first from state 0 on
  abbrev pub lives_of : ℕ → List (Life X)
  lives_of most = lives_from most 0

  -- the work of a life is that of its run, up to the state at whose start it is over
  abbrev pub work_in_life : ℕ → ℕ
  work_in_life from = work_to f (life_from from).ran.machine.time (start image (driven_from from drives) (unit from))

  -- and of the lives from a state on the sum
  unfoldable pub work_from : ℕ → ℕ → ℕ
  work_from zero from = 0
  work_from (suc more) from =
      let life = life_from from in
      work_in_life from + (if is_reset life.how then work_from more (from + life.ran.machine.time) else 0)

  abbrev pub work_of_lives : ℕ → ℕ
  work_of_lives most = work_from most 0

-- ---- what is printed

abbrev pub reset_name : Bool → List ℕ
reset_name true = codes "watchdog"
reset_name false = codes "reset"

-- the line between two lives: the last state of the one before, and what has reset it
abbrev pub restart_line : ℕ → Bool → List ℕ
restart_line t by_watchdog = codes "B " ++ decimal t ++ codes " " ++ reset_name by_watchdog ++ 10 ∷ []

-- the text of a life that another one follows, and of the last one
abbrev pub followed_text : {X : Type 0} → Life X → List ℕ
followed_text life = text_of life.ran.records ++ restart_line (life.ran.machine.time - 1) life.by_watchdog

abbrev pub last_text : {X : Type 0} → Life X → List ℕ
last_text life = text_of (life.ran.records ++ finals life.how life.ran.machine)

unfoldable pub lives_text : {X : Type 0} → List (Life X) → List ℕ
lives_text [] = []
lives_text (life ∷ []) = last_text life
lives_text (life ∷ (next ∷ others)) = followed_text life ++ lives_text (next ∷ others)

-- the text of the first lives, the line after each of them too
abbrev pub text_before : {X : Type 0} → ℕ → List (Life X) → List ℕ
text_before n lives = flat_map followed_text (take n lives)

-- how the last of them ends
unfoldable pub last_end : {X : Type 0} → List (Life X) → End
last_end [] = end.Spent
last_end (life ∷ []) = life.how
last_end (life ∷ (next ∷ others)) = last_end (next ∷ others)

-- the touch of all
unfoldable pub lives_touch : {X : Type 0} → List (Life X) → ℕ
lives_touch [] = 0
lives_touch (life ∷ others) = life.ran.touch + lives_touch others

-- What is known of these lives. Their text is written whole; or the sink fails in it; or memory runs out for one of them, and
-- what was written ends with the line before it.
abbrev pub AreReported : {X : Type 0} → List (Life X) → Out → Result End LivesFault → Out → Type 0
AreReported lives old (Ok how) new = (how ≡ last_end lives) × Puts old (lives_text lives) new × (new.failed ≡ false)
AreReported lives old (Err fault.WriteFault) new = Puts old (lives_text lives) new × (new.failed ≡ true)
AreReported lives old (Err fault.NoMemory) new = (n : ℕ) × (n < length lives) × Puts old (text_before n lives) new × (new.failed ≡ false)
