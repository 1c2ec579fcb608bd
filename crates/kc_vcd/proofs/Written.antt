-- A dump that is written, one change behind the other.
use Rattle.std.proofs.Common.{◌≡◌, ℕ, ◌-◌, ◌<◌, ◌≤◌, length, take, drop, take_all, get_or, arith, false, List, [], ◌∷◌, ◌++◌, map, refl, sym, ap, ◌∙◌, append_assoc, append-nil}
use Rattle.std.proofs.lemmas.List.{map-append}
use Rattle.kc_base.specs.declared.types.Level.{Level}
use Rattle.kc_base.specs.Series.{up_to}
use Rattle.kc_trace.specs.declared.life.Signal.{Signal}
use Rattle.kc_trace.specs.declared.life.What.{What}
use Rattle.kc_trace.specs.declared.levels.Levels.{Levels}
use Rattle.kc_trace.specs.Tables.{level_in}
use Rattle.kc_convert.specs.declared.sample.Sample.{Sample}
use Rattle.kc_events.specs.Lives.{levels_after}
use Rattle.kc_events.specs.Steps.{Seen, Begins, Passes, Ends}
use Rattle.kc_vcd.specs.declared.change.Change.{Change}
use Rattle.kc_vcd.specs.declared.change.Change.TheVariants.{Takes, Unseen}
use Rattle.kc_vcd.specs.declared.variable.Variable.{Variable}
use Rattle.kc_vcd.specs.Changes.{Timed, all_at, beginning, difference, differences, change_by, changes_by, end_by, later, behind, taken, before, after, with_values}
use Rattle.kc_vcd.specs.Dump.{stamp, change_text, texts}
use Rattle.kc_vcd.specs.Writing.{Written, with_changes, with_steps, HasPut, HasReported, HasChanged, IsSameLife}
use Rattle.kc_vcd.proofs.Samples.{taken_sooner, before_zero}

-- ---- changes with their times

pub put_none : (w : Written) → HasPut w [] w
put_none w = λ more. refl

texts-cons : (length before : ℕ) (c : Timed) (changes : List Timed) → texts length before (c ∷ changes) ≡ (stamp length before c.at ++ change_text c.change) ++ texts length c.at changes
unfolding texts
texts-cons length before c changes = refl

pub put_one : (old new : Written) (c : Timed) → new.shown ≡ old.shown → new.stamped ≡ c.at →
    new.text ≡ (old.text ++ stamp old.shown.length old.stamped c.at) ++ change_text c.change → HasPut old (c ∷ []) new
put_one old new c shown stamped text = λ more.
    (λ i. text i ++ texts (shown i).length (stamped i) more)
    ∙ ap (λ (t : List ℕ). t ++ texts old.shown.length c.at more) (append_assoc old.text (stamp old.shown.length old.stamped c.at) (change_text c.change))
    ∙ append_assoc old.text (stamp old.shown.length old.stamped c.at ++ change_text c.change) (texts old.shown.length c.at more)
    ∙ ap (λ (t : List ℕ). old.text ++ t) (sym (texts-cons old.shown.length old.stamped c more))

pub put_zero : (w : Written) (end : ℕ) → end ≡ 0 → HasPut w (taken (before end w.samples)) w
put_zero w end zero = λ more. ap (λ (xs : List Sample). w.text ++ texts w.shown.length w.stamped (taken xs ++ more)) (sym (ap (λ t. before t w.samples) zero ∙ before_zero w.samples))

pub put_more : (old mid new : Written) (first second : List Timed) → HasPut old first mid → HasPut mid second new → HasPut old (first ++ second) new
put_more old mid new first second h k = λ more.
    k more ∙ h (second ++ more) ∙ ap (λ (all : List Timed). old.text ++ texts old.shown.length old.stamped all) (sym (append_assoc first second more))

-- a value more, where the others up to a state are put behind it
pub put_sooner : (old new : Written) (at : ℕ) (s : Sample) (samples : List Sample) (more : List Timed) → s.at ≤ at → HasPut old (record { at = s.at; change = Takes s.channel s.value } ∷ []) new →
    new.text ++ texts new.shown.length new.stamped (taken (up_to (λ x. x.at) at samples) ++ more)
    ≡ old.text ++ texts old.shown.length old.stamped (taken (up_to (λ x. x.at) at (s ∷ samples)) ++ more)
put_sooner old new at s samples more le h =
    h (taken (up_to (λ x. x.at) at samples) ++ more)
    ∙ ap (λ (xs : List Sample). old.text ++ texts old.shown.length old.stamped (taken xs ++ more)) (sym (taken_sooner at s samples le))

-- ---- changes with the values up to them

pub changed_none : (w : Written) → HasChanged w [] w
changed_none w = λ end more. refl

pub changed_one : (old mid new : Written) (c : Timed) → HasPut old (taken (up_to (λ s. s.at) c.at old.samples)) mid → mid.samples ≡ after c.at old.samples →
    HasPut mid (c ∷ []) new → new.samples ≡ mid.samples → HasChanged old (c ∷ []) new
unfolding with_values
changed_one old mid new c first left second same = λ end more.
    let mark : List Timed = record { at = end; change = Unseen } ∷ [] in
    let values = taken (up_to (λ s. s.at) c.at old.samples) in
    let rest = with_values new.samples end more in
    second (rest ++ mark)
    ∙ first (c ∷ (rest ++ mark))
    ∙ ap (λ (all : List Timed). old.text ++ texts old.shown.length old.stamped all) (sym (append_assoc values (c ∷ rest) mark))
    ∙ ap (λ (xs : List Sample). old.text ++ texts old.shown.length old.stamped ((values ++ c ∷ with_values xs end more) ++ mark)) (same ∙ left)

pub changed_more : (old mid new : Written) (first second : List Timed) → HasChanged old first mid → HasChanged mid second new → HasChanged old (first ++ second) new
changed_more old mid new first second h k = λ end more. k end more ∙ h end (second ++ more) ∙ ap (λ (all : List Timed). with_changes old end all) (sym (append_assoc first second more))

pub all_at-append : (t : ℕ) (xs ys : List Change) → all_at t (xs ++ ys) ≡ all_at t xs ++ all_at t ys
all_at-append t xs ys = map-append (λ c. record { at = t; change = c }) xs ys

pub same_life : (w : Written) → IsSameLife w w
same_life w = record { shown = refl; base = refl; first = refl; levels = refl }

pub life_after : (a b c : Written) → IsSameLife a b → IsSameLife b c → IsSameLife a c
life_after a b c h k = record { shown = k.shown ∙ h.shown; base = k.base ∙ h.base; first = k.first ∙ h.first; levels = k.levels ∙ h.levels }

-- ---- levels that a life finds

pub levels_step : (old mid new : Written) (vs : List Variable) (d : Variable) (at : ℕ) (now : Signal → Level) → 1 ≤ length vs → mid.levels ≡ old.levels →
    HasChanged mid (all_at at (difference (level_in mid.levels) now (get_or vs 0 d))) new →
    ((end : ℕ) (more : List Timed) → with_changes mid end (all_at at (differences vs (level_in old.levels) now) ++ more) ≡ with_changes old end (all_at at (differences old.shown.variables (level_in old.levels) now) ++ more)) →
    (end : ℕ) (more : List Timed) → with_changes new end (all_at at (differences (take (length vs - 1) (drop 1 vs)) (level_in old.levels) now) ++ more)
    ≡ with_changes old end (all_at at (differences old.shown.variables (level_in old.levels) now) ++ more)
unfolding differences
levels_step old mid new [] d at now some levels changed so_far = absurd (omega (arith, some))
levels_step old mid new (v ∷ vs) d at now some levels changed so_far = λ end more.
    let first = difference (level_in old.levels) now v in
    let rest = differences vs (level_in old.levels) now in
    (λ i. with_changes new end (all_at at (differences (take_all (length (v ∷ vs) - 1) vs (omega arith) i) (level_in old.levels) now) ++ more))
    ∙ changed end (all_at at rest ++ more)
    ∙ (λ i. with_changes mid end (all_at at (difference (level_in (levels i)) now v) ++ (all_at at rest ++ more)))
    ∙ ap (λ (all : List Timed). with_changes mid end all) (sym (append_assoc (all_at at first) (all_at at rest) more))
    ∙ ap (λ (all : List Timed). with_changes mid end (all ++ more)) (sym (all_at-append at first rest))
    ∙ so_far end more

pub levels_over : (old new : Written) (vs : List Variable) (at : ℕ) (now : Signal → Level) → length vs < 1 →
    ((end : ℕ) (more : List Timed) → with_changes new end (all_at at (differences vs (level_in old.levels) now) ++ more) ≡ with_changes old end (all_at at (differences old.shown.variables (level_in old.levels) now) ++ more)) →
    HasChanged old (all_at at (differences old.shown.variables (level_in old.levels) now)) new
unfolding differences
levels_over old new [] at now none so_far = so_far
levels_over old new (v ∷ vs) at now none so_far = absurd (omega (arith, none))

-- ---- steps

pub reported_none : (w : Written) → HasReported w [] w
reported_none w = λ more. refl

pub reported_more : (old mid new : Written) (first second : List Seen) → HasReported old first mid → HasReported mid second new → HasReported old (first ++ second) new
reported_more old mid new first second h k = λ more. k more ∙ h (second ++ more) ∙ ap (with_steps old) (sym (append_assoc first second more))

pub reported_begin : (old mid late : Written) (levels : Levels) → HasChanged old (all_at old.base (beginning old.first)) mid → IsSameLife old mid →
    HasChanged mid (all_at old.base (differences mid.shown.variables (level_in mid.levels) (level_in levels))) late → IsSameLife mid late → HasReported old (Begins (level_in levels) ∷ []) (record late { first = false; levels = levels })
unfolding changes_by end_by
reported_begin old mid late levels first same second kept = λ more.
    let base : late.base ≡ old.base = kept.base ∙ same.base in
    let shown : late.shown ≡ old.shown = kept.shown ∙ same.shown in
    let end = end_by old.base more in
    let rest = changes_by old.shown.variables false old.base (level_in levels) more in
    let apart = differences old.shown.variables (level_in old.levels) (level_in levels) in
    (λ i. with_changes late (end_by (base i) more) (changes_by (shown i).variables false (base i) (level_in levels) more))
    ∙ second end rest
    ∙ first end (all_at old.base (differences mid.shown.variables (level_in mid.levels) (level_in levels)) ++ rest)
    ∙ (λ i. with_changes old end (all_at old.base (beginning old.first) ++ (all_at old.base (differences (same.shown i).variables (level_in (same.levels i)) (level_in levels)) ++ rest)))
    ∙ ap (λ (all : List Timed). with_changes old end all) (sym (append_assoc (all_at old.base (beginning old.first)) (all_at old.base apart) rest))
    ∙ ap (λ (all : List Timed). with_changes old end (all ++ rest)) (sym (all_at-append old.base (beginning old.first) apart))

pub reported_pass : (old late : Written) (at : ℕ) (whats : List What) (levels : Levels) → HasChanged old (all_at (later old.base at) (map change_by whats)) late → IsSameLife old late →
    ((signal : Signal) → level_in levels signal ≡ levels_after (level_in old.levels) whats signal) → HasReported old (Passes (record { at = at; whats = whats }) ∷ []) (record late { levels = levels })
unfolding changes_by end_by
reported_pass old late at whats levels changed same after = λ more.
    (λ i. with_changes late (end_by (same.base i) more) (changes_by (same.shown i).variables (same.first i) (same.base i) (λ signal. after signal i) more))
    ∙ changed (end_by old.base more) (changes_by old.shown.variables old.first old.base (levels_after (level_in old.levels) whats) more)

pub reported_end : (old : Written) (last : ℕ) → HasReported old (Ends last ∷ []) (record old { base = behind old.base last })
unfolding changes_by end_by
reported_end old last = λ more. refl

pub finished : (old mid new : Written) → HasPut old (taken (before old.base old.samples)) mid → HasPut mid (record { at = old.base; change = Unseen } ∷ []) new → new.text ≡ with_steps old []
unfolding texts changes_by end_by with_values
finished old mid new first second =
    let mark : List Timed = record { at = old.base; change = Unseen } ∷ [] in
    let values = taken (before old.base old.samples) in
    sym (append-nil new.text)
    ∙ put_more old mid new values mark first second []
    ∙ ap (λ (all : List Timed). old.text ++ texts old.shown.length old.stamped all) (append-nil (values ++ mark))
