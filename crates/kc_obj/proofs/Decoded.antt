-- What is read is spelled.
use Rattle.std.proofs.Common.{◌≡◌, ℕ, zero, suc, ◌+◌, ◌<◌, ◌≤◌, Bool, true, false, not, ◌&&◌, ◌||◌, cond, eqb, List, [], ◌++◌, length, take, drop, drop-drop, add-one, Option, Some, None, Ok, refl, sym, ap, ◌∙◌, subst, arith}
use Rattle.std.specs.Prelude.{slice_index, nat_lt, nat_le, ◌==◌, is_none}
use Rattle.std.specs.List.{list_all}
use Rattle.std.proofs.lemmas.Bool.{and_parts, and_from, not-false, eqb-true, ltb-false, leb-true, eq-eqb}
use Rattle.std.proofs.lemmas.List.{take_all, length-take-le, length-drop, get_or-take}
use Rattle.std.proofs.Math.Seq.{take-add}
use Rattle.kc_obj_module.specs.Object.{Object}
use Rattle.kc_obj_module.specs.Pieces.{all_kept, is_placed, segments_in_order}
use Rattle.kc_obj_module.specs.Names.{is_name}
use Rattle.kc_obj_module.specs.Rules.{is_module, segments_are_sound, externals_are_sound, publics_are_sound, contents_are_sound, fixups_are_sound, given_is_sound, publics_in_order}
use Rattle.kc_obj_module.specs.Contents.{content_is_sound, contents_in_order}
use Rattle.kc_obj_module.specs.Fixups.{fixup_is_sound, fixups_in_order, has_room}
use Rattle.kc_obj_module.specs.LineEntries.{line_is_sound, lines_in_order, lines_are_sound}
use Rattle.kc_obj_module.specs.Spelling.{record_bytes}
use Rattle.kc_obj_fields.specs.declared.faults.Fault.{Fault}
use Rattle.kc_obj_fields.specs.Fields.{word_at, noted}
use Rattle.kc_obj.specs.Reading.{Read, Answer, nothing_read, object_read, stage_of, may_come, fits_name, fits, after_head, after_record, stopped, reported, ended, at_stage, behind_record, bodied, sized, typed, read_on, answer_of, first_fault}
use Rattle.kc_base.specs.Bytes.{IsBytes}
use Rattle.kc_obj_module.specs.Widths.{fixup_fits, lines_fit, numbers_fit}
use Rattle.kc_obj_module.specs.Spelled.{IsSpelled}
use Rattle.kc_obj.proofs.Bytes.{record_here, bytes_drop, bytes_take}
use Rattle.kc_obj.proofs.Good.{Rules, Good, head_good, enter_good, segment_good, external_good, public_good, run_good, fixup_good, lines_good}
use Rattle.kc_obj.proofs.Unmarred.{record_none, stage_none}

-- ---- a record that was read

-- the answer is a module: the first way was not taken
not_first : (b : Bool) (x y : Answer) (m : Object) → (x ≡ Ok m → ⊥) → cond b x y ≡ Ok m → (b ≡ false) × (y ≡ Ok m)
not_first true x y m never h = absurd (never h)
not_first false x y m never h = (refl, h)

not_second : (b : Bool) (x y : Answer) (m : Object) → (y ≡ Ok m → ⊥) → cond b x y ≡ Ok m → (b ≡ true) × (x ≡ Ok m)
not_second true x y m never h = (refl, h)
not_second false x y m never h = absurd (never h)

stop_is_no_module : (r : Read) (at code : ℕ) (m : Object) → stopped first_fault r at code ≡ Ok m → ⊥
stop_is_no_module r at code m h = cc h

reported_ok : (f : Option Fault) (m x : Object) → reported f m ≡ Ok x → (f ≡ None) × (m ≡ x)
reported_ok None m x h = (refl, cc h)
reported_ok (Some f) m x h = absurd (cc h)

record Whole (goes_on : ℕ → Read → Answer) (file : List ℕ) (at : ℕ) (rest : List ℕ) (r : Read) (m : Object) : Type 0 where
  pub comes : may_come r (slice_index rest 0) ≡ true
  pub long : 2 ≤ length (drop 1 rest)
  pub fit : fits (slice_index rest 0) (word_at (drop 1 rest) 0) (drop 2 (drop 1 rest)) ≡ true
  pub within : word_at (drop 1 rest) 0 ≤ length (drop 2 (drop 1 rest))
  pub behind : behind_record first_fault goes_on (at + 3) (slice_index rest 0) (word_at (drop 1 rest) 0) (length (drop 2 (drop 1 rest)))
      (after_record noted (slice_index rest 0) (at + 3) (word_at (drop 1 rest) 0) file (take (word_at (drop 1 rest) 0) (drop 2 (drop 1 rest))) (at_stage first_fault at (slice_index rest 0) r)) ≡ Ok m

whole_record : (goes_on : ℕ → Read → Answer) (file : List ℕ) (at : ℕ) (rest : List ℕ) (r : Read) (m : Object) → typed first_fault goes_on file at rest r ≡ Ok m → Whole goes_on file at rest r m
whole_record goes_on file at rest r m h =
    let kind = slice_index rest 0 in
    let len = word_at (drop 1 rest) 0 in
    let body = drop 2 (drop 1 rest) in
    let entered = at_stage first_fault at kind r in
    let some = not_first (length rest == 0) (stopped first_fault r at 2) (cond (may_come r kind) (sized first_fault goes_on file at kind (drop 1 rest) entered) (stopped first_fault r at 1)) m (stop_is_no_module r at 2 m) h in
    let comes = not_second (may_come r kind) (sized first_fault goes_on file at kind (drop 1 rest) entered) (stopped first_fault r at 1) m (stop_is_no_module r at 1 m) some.1 in
    let long = not_first (nat_lt (length (drop 1 rest)) 2) (stopped first_fault entered (length file) 2) (cond (fits kind len body) (bodied first_fault goes_on file (at + 3) kind len body entered) (stopped first_fault entered (at + 1) 4)) m (stop_is_no_module entered (length file) 2 m) comes.1 in
    let fit = not_second (fits kind len body) (bodied first_fault goes_on file (at + 3) kind len body entered) (stopped first_fault entered (at + 1) 4) m (stop_is_no_module entered (at + 1) 4 m) long.1 in
    let short = after_record noted kind (at + 3) len file body entered in
    let full = after_record noted kind (at + 3) len file (take len body) entered in
    let within = not_first (nat_lt (length body) len) (stopped first_fault short (length file) 2) (behind_record first_fault goes_on (at + 3) kind len (length body) full) m (stop_is_no_module short (length file) 2 m) fit.1 in
    record { comes = comes.0; long = ltb-false (length (drop 1 rest)) 2 long.0; fit = fit.0; within = ltb-false (length body) len within.0; behind = within.1 }

-- ---- no fault was noted

pub read_none : (n : ℕ) (file : List ℕ) (at : ℕ) (r : Read) (m : Object) → read_on first_fault n file at r ≡ Ok m → r.fault ≡ None
unfolding read_on
read_none zero file at r m h = absurd (cc h)
read_none (suc n) file at r m h =
    let rest = drop at file in
    let kind = slice_index rest 0 in
    let len = word_at (drop 1 rest) 0 in
    let behind = length (drop 2 (drop 1 rest)) in
    let w = whole_record (read_on first_fault n file) file at rest r m h in
    let entered = at_stage first_fault at kind r in
    let now = after_record noted kind (at + 3) len file (take len (drop 2 (drop 1 rest))) entered in
    let clear : now.fault ≡ None =
    elim (kind == 0x7F) as (λ b. cond b (ended first_fault now (at + 3) behind) (read_on first_fault n file (at + 3 + len) now) ≡ Ok m → now.fault ≡ None) [
      | true ↦ λ k. (reported_ok now.fault (object_read now) m (not_second (behind == 0) (reported now.fault (object_read now)) (stopped first_fault now (at + 3) 5) m (stop_is_no_module now (at + 3) 5 m) k).1).0
      | false ↦ λ k. read_none n file (at + 3 + len) now m k
    ] w.behind in
    (stage_none at kind r (record_none kind (at + 3) len file (take len (drop 2 (drop 1 rest))) entered clear)).0

-- ---- the parts of a record

module _ (file : List ℕ) (at : ℕ) (bytes : IsBytes file) (long : 2 ≤ length (drop 1 (drop at file))) where
  abbrev rest : List ℕ
  rest = drop at file

  abbrev len : ℕ
  len = word_at (drop 1 rest) 0

  abbrev behind : List ℕ
  behind = drop 2 (drop 1 rest)

  pub behind_is : behind ≡ drop (at + 3) file
  behind_is = let sum : at + 1 + 2 ≡ at + 3 = omega arith in ap (drop 2) (drop-drop 1 at file) ∙ drop-drop 2 (at + 1) file ∙ ap (λ k. drop k file) sum

  pub taken_on : len ≤ length behind → take (at + 3 + len) file ≡ take at file ++ record_bytes (slice_index rest 0) (take len behind)
  taken_on within =
      let sum : at + 3 + len ≡ at + (3 + len) = omega arith in
      ap (λ n. take n file) sum ∙ take-add at (3 + len) file ∙ ap (λ (t : List ℕ). take at file ++ t) (record_here rest len (bytes_drop at file bytes) long refl within)

  pub body_bytes : IsBytes (take len behind)
  body_bytes = bytes_take len behind (bytes_drop 2 (drop 1 rest) (bytes_drop 1 rest (bytes_drop at file bytes)))

name_fits : (prefix back len : ℕ) (behind : List ℕ) → len ≤ length behind → fits_name prefix back len behind ≡ true → length (take len behind) ≡ prefix + slice_index (take len behind) prefix + 1 + back
name_fits prefix back len behind le fit =
    let size : length (take len behind) ≡ len = length-take-le len behind le in
    elim (nat_lt prefix (length behind)) as (λ b. nat_lt prefix (length behind) ≡ b → cond b (len == prefix + slice_index behind prefix + 1 + back) (nat_le (prefix + 1 + back) len && nat_le len (prefix + 256 + back)) ≡ true → length (take len behind) ≡ prefix + slice_index (take len behind) prefix + 1 + back) [
      | true ↦ λ e k.
          let exact : len ≡ prefix + slice_index behind prefix + 1 + back = eqb-true len (prefix + slice_index behind prefix + 1 + back) k in
          let inside : prefix < len = omega arith in
          size ∙ exact ∙ ap (λ n. prefix + n + 1 + back) (sym (get_or-take len behind prefix 0 inside))
      | false ↦ λ e k.
          let out : length behind ≤ prefix = ltb-false prefix (length behind) e in
          let low : prefix + 1 + back ≤ len = leb-true (prefix + 1 + back) len (and_parts (nat_le (prefix + 1 + back) len) (nat_le len (prefix + 256 + back)) k).0 in
          absurd (omega arith)
    ] refl fit

pub data Known (kind : ℕ) : Type 0 where
  Piece : kind ≡ 0x02 → Known kind
  External : kind ≡ 0x05 → Known kind
  Public : kind ≡ 0x06 → Known kind
  Run : kind ≡ 0x03 → Known kind
  Number : kind ≡ 0x04 → Known kind
  Entries : kind ≡ 0x07 → Known kind
  End : kind ≡ 0x7F → Known kind

unknown : (kind k : ℕ) (x y : ℕ) → ((kind ≡ k) → Known kind) → (nat_le 2 y ≡ true → Known kind) → nat_le 2 (cond (kind == k) x y) ≡ true → Known kind
unknown kind k x y f g h =
    elim (kind == k) as (λ b. (kind == k) ≡ b → nat_le 2 (cond b x y) ≡ true → Known kind) [
      | true ↦ λ e q. f (eqb-true kind k e)
      | false ↦ λ e q. g q
    ] refl h

known : (kind : ℕ) → nat_le 2 (stage_of kind) ≡ true → Known kind
known kind h =
    elim (kind == 0x01) as (λ b. nat_le 2 (cond b 1 (cond (kind == 0x02) 2 (cond (kind == 0x05) 3 (cond (kind == 0x06) 4 (cond (kind == 0x03) 5 (cond (kind == 0x04) 6 (cond (kind == 0x07) 7 (cond (kind == 0x7F) 8 0)))))))) ≡ true → Known kind) [
      | true ↦ λ q. absurd (cc q)
      | false ↦ λ q.
          unknown kind 0x02 2 (cond (kind == 0x05) 3 (cond (kind == 0x06) 4 (cond (kind == 0x03) 5 (cond (kind == 0x04) 6 (cond (kind == 0x07) 7 (cond (kind == 0x7F) 8 0)))))) Piece
          (unknown kind 0x05 3 (cond (kind == 0x06) 4 (cond (kind == 0x03) 5 (cond (kind == 0x04) 6 (cond (kind == 0x07) 7 (cond (kind == 0x7F) 8 0))))) External
          (unknown kind 0x06 4 (cond (kind == 0x03) 5 (cond (kind == 0x04) 6 (cond (kind == 0x07) 7 (cond (kind == 0x7F) 8 0)))) Public
          (unknown kind 0x03 5 (cond (kind == 0x04) 6 (cond (kind == 0x07) 7 (cond (kind == 0x7F) 8 0))) Run
          (unknown kind 0x04 6 (cond (kind == 0x07) 7 (cond (kind == 0x7F) 8 0)) Number
          (unknown kind 0x07 7 (cond (kind == 0x7F) 8 0) Entries
          (unknown kind 0x7F 8 0 End (λ p. absurd (cc p)))))))) q
    ] h

pub record Ready (file : List ℕ) (at len : ℕ) (behind : List ℕ) (r : Read) (kind : ℕ) : Type 0 where
  pub good : Good file at (at_stage first_fault at kind r)
  pub lines : (r.has_lines || not (kind == 0x07)) ≡ true
  pub fit : fits kind len behind ≡ true
  pub within : len ≤ length behind
  pub behind_is : behind ≡ drop (at + 3) file
  pub bytes : IsBytes (take len behind)
  pub next : take (at + 3 + len) file ≡ take at file ++ record_bytes kind (take len behind)
  pub clear : (after_record noted kind (at + 3) len file (take len behind) (at_stage first_fault at kind r)).fault ≡ None

module _ (file : List ℕ) (at len : ℕ) (behind : List ℕ) (r : Read) where
  abbrev Next : ℕ → Type 0
  Next kind = Good file (at + 3 + len) (after_record noted kind (at + 3) len file (take len behind) (at_stage first_fault at kind r))

  abbrev body : List ℕ
  body = take len behind

  abbrev to : ℕ
  to = at + 3 + len

  piece_step : Ready file at len behind r 0x02 → Next 0x02
  piece_step w = segment_good file at to (at + 3) body (at_stage first_fault at 0x02 r) w.good w.bytes refl (length-take-le len behind w.within ∙ eqb-true len 6 w.fit) w.next w.clear

  external_step : Ready file at len behind r 0x05 → Next 0x05
  external_step w = external_good file at to (at + 3) body (at_stage first_fault at 0x05 r) w.good w.bytes refl (omega (arith, name_fits 0 1 len behind w.within w.fit)) w.next w.clear

  public_step : Ready file at len behind r 0x06 → Next 0x06
  public_step w = public_good file at to (at + 3) body (at_stage first_fault at 0x06 r) w.good w.bytes refl (omega (arith, name_fits 0 4 len behind w.within w.fit)) w.next w.clear

  run_step : Ready file at len behind r 0x03 → Next 0x03
  run_step w = run_good file at to (at + 3) body (at_stage first_fault at 0x03 r) w.good w.bytes len refl w.fit (length-take-le len behind w.within) (ap (take len) w.behind_is) w.next w.clear

  number_step : Ready file at len behind r 0x04 → Next 0x04
  number_step w = fixup_good file at to (at + 3) body (at_stage first_fault at 0x04 r) w.good w.bytes refl (length-take-le len behind w.within ∙ eqb-true len 10 w.fit) w.next w.clear

  has : (b : Bool) → (b || false) ≡ true → b ≡ true
  has true h = refl
  has false h = h

  entries_step : Ready file at len behind r 0x07 → Next 0x07
  entries_step w = lines_good file at to (at + 3) body (at_stage first_fault at 0x07 r) w.good w.bytes len refl (has r.has_lines w.lines) w.fit (length-take-le len behind w.within) w.next w.clear

  pub good_step : (kind : ℕ) → Known kind → (kind == 0x7F) ≡ false → Ready file at len behind r kind → Next kind
  good_step kind (Piece e) more w = subst Next (sym e) (piece_step (subst (Ready file at len behind r) e w))
  good_step kind (External e) more w = subst Next (sym e) (external_step (subst (Ready file at len behind r) e w))
  good_step kind (Public e) more w = subst Next (sym e) (public_step (subst (Ready file at len behind r) e w))
  good_step kind (Run e) more w = subst Next (sym e) (run_step (subst (Ready file at len behind r) e w))
  good_step kind (Number e) more w = subst Next (sym e) (number_step (subst (Ready file at len behind r) e w))
  good_step kind (Entries e) more w = subst Next (sym e) (entries_step (subst (Ready file at len behind r) e w))
  good_step kind (End e) more w = absurd (let yes : (kind == 0x7F) ≡ true = eq-eqb kind 0x7F e in cc)

-- ---- the end

lines_sound_if : (b : Bool) (r : Read) → Rules r → lines_are_sound r.segments (cond b (Some r.lines) None) ≡ true
lines_sound_if true r rules = and_from (list_all (line_is_sound r.segments) r.lines) (lines_in_order r.lines) rules.lines rules.lines_ordered
lines_sound_if false r rules = refl

lines_fit_if : (b : Bool) (r : Read) → Rules r → lines_fit (cond b (Some r.lines) None) ≡ true
lines_fit_if true r rules = rules.lines_narrow
lines_fit_if false r rules = refl

rules_kept : (r : Read) → Rules r → all_kept r.publics r.fixups 0 r.segments ≡ true → is_module (object_read r) ≡ true
rules_kept r rules kept =
    let m = object_read r in
    let pieces : segments_are_sound r.segments r.publics r.fixups ≡ true =
    and_from (list_all is_placed r.segments && segments_in_order r.segments) (all_kept r.publics r.fixups 0 r.segments) (and_from (list_all is_placed r.segments) (segments_in_order r.segments) rules.placed rules.pieces_ordered) kept in
    let publics : publics_are_sound (length r.segments) r.publics ≡ true = and_from (list_all (given_is_sound (length r.segments)) r.publics) (publics_in_order r.publics) rules.publics rules.publics_ordered in
    let contents : contents_are_sound r.segments r.contents ≡ true = and_from (list_all (content_is_sound r.segments) r.contents) (contents_in_order r.contents) rules.contents rules.contents_ordered in
    let fixups : fixups_are_sound r.segments r.externals r.contents r.fixups ≡ true =
    and_from (list_all (fixup_is_sound r.segments r.externals) r.fixups && fixups_in_order r.fixups) (list_all (has_room r.contents) r.fixups) (and_from (list_all (fixup_is_sound r.segments r.externals) r.fixups) (fixups_in_order r.fixups) rules.fixups rules.fixups_ordered) rules.room in
    let a = is_name r.name in
    let b = segments_are_sound r.segments r.publics r.fixups in
    let c = externals_are_sound r.externals in
    let d = publics_are_sound (length r.segments) r.publics in
    let e = contents_are_sound r.segments r.contents in
    let f = fixups_are_sound r.segments r.externals r.contents r.fixups in
    and_from (a && b && c && d && e && f) (lines_are_sound r.segments m.lines)
    (and_from (a && b && c && d && e) f (and_from (a && b && c && d) e (and_from (a && b && c) d (and_from (a && b) c (and_from a b rules.name pieces) rules.externals) publics) contents) fixups) (lines_sound_if r.has_lines r rules)

rules_fit : (r : Read) → Rules r → numbers_fit (object_read r) ≡ true
rules_fit r rules =
    let a = list_all (λ s. nat_lt s.length 0x10000) r.segments in
    let b = list_all (λ g. nat_lt g.value 0x10000) r.publics in
    let c = list_all (λ c. nat_lt c.piece 0x10000 && nat_lt c.offset 0x10000) r.contents in
    let d = list_all fixup_fits r.fixups in
    and_from (a && b && c && d) (lines_fit (object_read r).lines) (and_from (a && b && c) d (and_from (a && b) c (and_from a b rules.pieces_narrow rules.publics_narrow) rules.contents_narrow) rules.fixups_narrow) (lines_fit_if r.has_lines r rules)

end_spelled : (file : List ℕ) (at len : ℕ) (behind : List ℕ) (r : Read) → Ready file at len behind r 0x7F → (length behind == 0) ≡ true → IsSpelled file (object_read r)
end_spelled file at len behind r w none =
    let good = w.good in
    let quiet = stage_none at 0x7F r good.fault in
    let kept = not-false (all_kept r.publics r.fixups 0 r.segments) (ap (λ f. is_none f && not (all_kept r.publics r.fixups 0 r.segments)) (sym quiet.0) ∙ quiet.1) in
    let empty : len ≡ 0 = eqb-true len 0 w.fit in
    let no_more : length (drop (at + 3) file) ≡ 0 = ap length (sym w.behind_is) ∙ eqb-true (length behind) 0 none in
    let last : length file ≤ at + 3 + 0 = omega (arith, length-drop (at + 3) file) in
    let whole : take (at + 3 + 0) file ≡ file = take_all (at + 3 + 0) file last in
    record {
      sound = rules_kept r (record {
        name = good.rules.name;
        placed = good.rules.placed;
        pieces_ordered = good.rules.pieces_ordered;
        pieces_narrow = good.rules.pieces_narrow;
        externals = good.rules.externals;
        publics = good.rules.publics;
        publics_ordered = good.rules.publics_ordered;
        publics_narrow = good.rules.publics_narrow;
        contents = good.rules.contents;
        contents_ordered = good.rules.contents_ordered;
        contents_narrow = good.rules.contents_narrow;
        fixups = good.rules.fixups;
        fixups_ordered = good.rules.fixups_ordered;
        fixups_narrow = good.rules.fixups_narrow;
        room = good.rules.room;
        lines = good.rules.lines;
        lines_ordered = good.rules.lines_ordered;
        lines_narrow = good.rules.lines_narrow;
      }) kept;
      numbers = rules_fit (at_stage first_fault at 0x7F r) good.rules;
      spelled = (λ i. good.spelled i ++ record_bytes 0x7F []) ∙ (λ i. take at file ++ record_bytes 0x7F (take (sym empty i) behind)) ∙ sym w.next ∙ ap (λ n. take (at + 3 + n) file) empty ∙ whole;
    }

-- ---- the whole file

later_types : (s : ℕ) (x y : Bool) → 1 ≤ s → cond (s == 0) x y ≡ true → y ≡ true
later_types zero x y h k = absurd (omega arith)
later_types (suc s) x y h k =
    elim (eqb (suc s) 0) as (λ b. eqb (suc s) 0 ≡ b → cond b x y ≡ true → y ≡ true) [
      | true ↦ λ e q. absurd (let zero_is : suc s ≡ 0 = eqb-true (suc s) 0 e in omega arith)
      | false ↦ λ e q. q
    ] refl k

reads : (n : ℕ) (file : List ℕ) (at : ℕ) (r : Read) (m : Object) → IsBytes file → Good file at r → read_on first_fault n file at r ≡ Ok m → IsSpelled file m
unfolding read_on
reads zero file at r m bytes good h = absurd (cc h)
reads (suc n) file at r m bytes good h =
    let rest = drop at file in
    let kind = slice_index rest 0 in
    let len = word_at (drop 1 rest) 0 in
    let behind = drop 2 (drop 1 rest) in
    let w = whole_record (read_on first_fault n file) file at rest r m h in
    let entered = at_stage first_fault at kind r in
    let now = after_record noted kind (at + 3) len file (take len behind) entered in
    let comes = later_types r.stage (kind == 0x01) (nat_le 2 (stage_of kind) && nat_le r.stage (stage_of kind) && (r.has_lines || not (kind == 0x07))) good.begun w.comes in
    let c2 = and_parts (nat_le 2 (stage_of kind) && nat_le r.stage (stage_of kind)) (r.has_lines || not (kind == 0x07)) comes in
    let c1 = and_parts (nat_le 2 (stage_of kind)) (nat_le r.stage (stage_of kind)) c2.0 in
    let ready : now.fault ≡ None → Ready file at len behind r kind =
    λ clear. record {
      good = enter_good file at kind r good c1.1 (record_none kind (at + 3) len file (take len behind) entered clear);
      lines = c2.1;
      fit = w.fit;
      within = w.within;
      behind_is = behind_is file at bytes w.long;
      bytes = body_bytes file at bytes w.long;
      next = taken_on file at bytes w.long w.within;
      clear = clear;
    } in
    elim (kind == 0x7F) as (λ b. (kind == 0x7F) ≡ b → cond b (ended first_fault now (at + 3) (length behind)) (read_on first_fault n file (at + 3 + len) now) ≡ Ok m → IsSpelled file m) [
      | true ↦ λ e k.
          let end = not_second (length behind == 0) (reported now.fault (object_read now)) (stopped first_fault now (at + 3) 5) m (stop_is_no_module now (at + 3) 5 m) k in
          let is = reported_ok now.fault (object_read now) m end.1 in
          let same : kind ≡ 0x7F = eqb-true kind 0x7F e in
          let object : object_read r ≡ m = ap (λ k. object_read (after_record noted k (at + 3) len file (take len behind) (at_stage first_fault at k r))) (sym same) ∙ is.1 in
          subst (IsSpelled file) object (end_spelled file at len behind r (subst (Ready file at len behind r) same (ready is.0)) end.0)
      | false ↦ λ e k. reads n file (at + 3 + len) now m bytes (good_step file at len behind r kind (known kind c1.0) e (ready (read_none n file (at + 3 + len) now m k))) k
    ] refl w.behind

pub decoded_spelled : (bytes : List ℕ) (m : Object) → IsBytes bytes → answer_of bytes ≡ Ok m → IsSpelled bytes m
unfolding read_on
decoded_spelled file m bytes answer =
    let h : read_on first_fault (suc (length file)) file 0 nothing_read ≡ Ok m = ap (λ n. read_on first_fault n file 0 nothing_read) (sym (add-one (length file))) ∙ answer in
    let n = length file in
    let kind = slice_index file 0 in
    let len = word_at (drop 1 file) 0 in
    let behind = drop 2 (drop 1 file) in
    let w = whole_record (read_on first_fault n file) file 0 file nothing_read m h in
    let same : kind ≡ 0x01 = eqb-true kind 0x01 w.comes in
    let body = take len behind in
    let now = after_head noted 3 body (at_stage first_fault 0 0x01 nothing_read) in
    let on : read_on first_fault n file (3 + len) now ≡ Ok m = subst (λ k. behind_record first_fault (read_on first_fault n file) 3 k len (length behind) (after_record noted k 3 len file body (at_stage first_fault 0 k nothing_read)) ≡ Ok m) same w.behind in
    let fit : fits_name 1 0 len behind ≡ true = subst (λ k. fits k len behind ≡ true) same w.fit in
    let next : take (3 + len) file ≡ record_bytes 0x01 body = taken_on file 0 bytes w.long w.within ∙ ap (λ k. record_bytes k body) same in
    let good : Good file (3 + len) now = head_good file (3 + len) body (name_fits 1 0 len behind w.within fit) next (read_none n file (3 + len) now m on) in
    reads n file (3 + len) now m bytes good on
