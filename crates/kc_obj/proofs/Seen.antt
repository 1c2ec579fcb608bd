-- The reading that takes the first fault down sees what the reading that lists each fault sees.
use Rattle.std.proofs.Common.{◌≡◌, ℕ, zero, suc, ◌+◌, ◌-◌, ◌/◌, ◌<◌, ◌≤◌, Bool, true, false, not, ◌&&◌, List, [], ◌∷◌, length, take, drop, refl, ap, ◌∙◌, subst, arith}
use Rattle.std.specs.Prelude.{Option, Some, None, Ok, Err, is_none, slice_index, slice_get, nat_le, nat_lt, ◌==◌, if◌then◌else◌}
use Rattle.std.proofs.lemmas.Bool.{ltb-false, eqb-false}
use Rattle.std.proofs.lemmas.Bool.Decides.{nat_tests}
use Rattle.std.proofs.lemmas.List.{length-drop}
use Rattle.kc_obj_module.specs.declared.parts.Segment.{Segment}
use Rattle.kc_obj_module.specs.declared.parts.Given.{Given}
use Rattle.kc_obj_module.specs.declared.parts.Content.{Content}
use Rattle.kc_obj_module.specs.declared.parts.Fixup.{Fixup}
use Rattle.kc_obj_module.specs.declared.parts.Lines.{Lines}
use Rattle.kc_obj_module.specs.Object.{Object}
use Rattle.kc_obj_module.specs.Pieces.{all_kept}
use Rattle.kc_obj_fields.specs.declared.faults.Fault.{Fault}
use Rattle.kc_obj_fields.specs.Fields.{is_lesser, first_of_both, fault_at, noted, listed, word_at, last_of}
use Rattle.kc_obj_fields.specs.Records.{head_faults, segment_faults, taken_faults, given_faults, run_faults, target_faults, fixup_place_faults, byte_faults, stands_free, free_faults, under_faults, place_of, fixup_at, entry_faults, block_faults}
use Rattle.kc_obj.specs.Reading.{ReadBy, Read, Answer, begun, object_read, fits, may_come, after_head, after_segment, after_taken, after_given, after_run, after_fixup, after_entry, after_entries, opened_block, after_block, after_record, reported, first_fault, each_fault, stopped, ended, at_stage, behind_record, bodied, sized, typed, read_on, answer_of, faults_of}
use Rattle.kc_obj.proofs.Least.{least, IsLeast, one, least_within}
use Rattle.kc_obj.proofs.Within.{Within, further, listed_within, Ends, ends_further, record_is}

-- ---- the faults of each record

head_least : (at : ℕ) (body : List ℕ) (fs : List Fault) → IsLeast (head_faults listed at body fs) (head_faults noted at body (least fs))
head_least at body fs = one (at + 1) 6 _ _ _ (one at 3 fs _ _ (record { is = refl }))

segment_least : (at : ℕ) (before : Option Segment) (body : List ℕ) (fs : List Fault) → IsLeast (segment_faults listed at before body fs) (segment_faults noted at before body (least fs))
segment_least at before body fs = one (at + 4) 3 _ _ _ (one (at + 2) 3 _ _ _ (one (at + 1) 4 _ _ _ (one (at + 1) 3 _ _ _ (one at 4 _ _ _ (one at 3 fs _ _ (record { is = refl }))))))

taken_least : (at : ℕ) (body : List ℕ) (fs : List Fault) → IsLeast (taken_faults listed at body fs) (taken_faults noted at body (least fs))
taken_least at body fs = one (at + slice_index body 0 + 1) 3 _ _ _ (one at 6 fs _ _ (record { is = refl }))

given_least : (at : ℕ) (before : Option Given) (count : ℕ) (body : List ℕ) (fs : List Fault) → IsLeast (given_faults listed at before count body fs) (given_faults noted at before count body (least fs))
given_least at before count body fs = one (at + slice_index body 0 + 1) 3 _ _ _ (one at 4 _ _ _ (one at 6 fs _ _ (record { is = refl })))

run_least : (at : ℕ) (before : Option Content) (piece : Option Segment) (len : ℕ) (body : List ℕ) (fs : List Fault) → IsLeast (run_faults listed at before piece len body fs) (run_faults noted at before piece len body (least fs))
run_least at before piece len body fs = one (at + 2) 4 _ _ _ (one (at + 2) 3 _ _ _ (one at 4 _ _ _ (one at 3 fs _ _ (record { is = refl }))))

place_least : (at : ℕ) (before : Option Fixup) (pieces : ℕ) (body : List ℕ) (fs : List Fault) → IsLeast (fixup_place_faults listed at before pieces body fs) (fixup_place_faults noted at before pieces body (least fs))
place_least at before pieces body fs = one (at + 4) 3 _ _ _ (one (at + 2) 4 _ _ _ (one at 4 _ _ _ (one at 3 fs _ _ (record { is = refl }))))

target_least : (at pieces externals : ℕ) (body : List ℕ) (fs : List Fault) (f : Option Fault) → IsLeast fs f → IsLeast (target_faults listed at pieces externals body fs) (target_faults noted at pieces externals body f)
target_least at pieces externals body fs f h = one (at + 6) 3 _ _ _ (one (at + 5) 3 fs f _ h)

free_least : (at : ℕ) (file : List ℕ) (fixups : List Fixup) (x : Fixup) (first second : Option ℕ) (fs : List Fault) (f : Option Fault) → IsLeast fs f
    → IsLeast (free_faults listed at file fixups x first second fs) (free_faults noted at file fixups x first second f)
free_least at file fixups x first second fs f h = by (stands_free fixups x first second)
  where
    by : (b : Bool) → IsLeast (if b then byte_faults listed file x first second fs else listed fs true (at + 2) 3) (if b then byte_faults noted file x first second f else noted f true (at + 2) 3)
    by true = one _ 4 _ _ _ (one _ 4 fs f _ h)
    by false = one (at + 2) 3 fs f true h

under_least : (at : ℕ) (file : List ℕ) (pieces : ℕ) (cs : List Content) (ss : List ℕ) (fixups : List Fixup) (body : List ℕ) (fs : List Fault) (f : Option Fault) → IsLeast fs f
    → IsLeast (under_faults listed at file pieces cs ss fixups body fs) (under_faults noted at file pieces cs ss fixups body f)
under_least at file pieces cs ss fixups body fs f h = by (nat_le 5 (length body) && nat_le (slice_index body 4) 4 && nat_lt (word_at body 0) pieces)
  where
    first : Option ℕ
    first = place_of cs ss (word_at body 0) (word_at body 2)

    second : Option ℕ
    second = place_of cs ss (word_at body 0) (word_at body 2 + 1)

    by : (b : Bool) → IsLeast (if b then free_faults listed at file fixups (fixup_at body) first second fs else fs) (if b then free_faults noted at file fixups (fixup_at body) first second f else f)
    by true = free_least at file fixups (fixup_at body) first second fs f h
    by false = h

entry_least : (at : ℕ) (before : Option Lines) (segment : Option Segment) (piece : ℕ) (body : List ℕ) (fs : List Fault) → IsLeast (entry_faults listed at before segment piece body fs) (entry_faults noted at before segment piece body (least fs))
entry_least at before segment piece body fs = one (at + 2) 3 _ _ _ (one at 4 _ _ _ (one at 3 fs _ _ (record { is = refl })))

block_least : (at : ℕ) (before : Option Lines) (block : ℕ) (segment : Option Segment) (body : List ℕ) (fs : List Fault) → IsLeast (block_faults listed at before block segment body fs) (block_faults noted at before block segment body (least fs))
block_least at before block segment body fs = one at 4 _ _ _ (one at 3 fs _ _ (record { is = refl }))

-- ---- what was read

abbrev Listed : Type 0
Listed = ReadBy (List Fault)

abbrev seen : Listed → Read
seen r = record { stage = r.stage; name = r.name; segments = r.segments; externals = r.externals; publics = r.publics; contents = r.contents; fixups = r.fixups; has_lines = r.has_lines; lines = r.lines; starts = r.starts; block = r.block; fault = least r.fault }

head_seen : (at : ℕ) (body : List ℕ) (r : Listed) → seen (after_head listed at body r) ≡ after_head noted at body (seen r)
head_seen at body r = ap (λ (f : Option Fault). record (seen (after_head listed at body r)) { fault = f }) (head_least at body r.fault).is

segment_seen : (at : ℕ) (body : List ℕ) (r : Listed) → seen (after_segment listed at body r) ≡ after_segment noted at body (seen r)
segment_seen at body r = ap (λ (f : Option Fault). record (seen (after_segment listed at body r)) { fault = f }) (segment_least at (last_of r.segments) body r.fault).is

taken_seen : (at : ℕ) (body : List ℕ) (r : Listed) → seen (after_taken listed at body r) ≡ after_taken noted at body (seen r)
taken_seen at body r = ap (λ (f : Option Fault). record (seen (after_taken listed at body r)) { fault = f }) (taken_least at body r.fault).is

given_seen : (at : ℕ) (body : List ℕ) (r : Listed) → seen (after_given listed at body r) ≡ after_given noted at body (seen r)
given_seen at body r = ap (λ (f : Option Fault). record (seen (after_given listed at body r)) { fault = f }) (given_least at (last_of r.publics) (length r.segments) body r.fault).is

run_seen : (at len : ℕ) (body : List ℕ) (r : Listed) → seen (after_run listed at len body r) ≡ after_run noted at len body (seen r)
run_seen at len body r = ap (λ (f : Option Fault). record (seen (after_run listed at len body r)) { fault = f }) (run_least at (last_of r.contents) (slice_get r.segments (word_at body 0)) len body r.fault).is

fixup_seen : (at : ℕ) (file body : List ℕ) (r : Listed) → seen (after_fixup listed at file body r) ≡ after_fixup noted at file body (seen r)
fixup_seen at file body r =
    ap (λ (f : Option Fault). record (seen (after_fixup listed at file body r)) { fault = f })
    (target_least at (length r.segments) (length r.externals) body _ _
    (under_least at file (length r.segments) r.contents r.starts r.fixups body _ _
    (place_least at (last_of r.fixups) (length r.segments) body r.fault))).is

entries_seen : (k at : ℕ) (segment : Option Segment) (piece : ℕ) (body : List ℕ) (r : Listed) → seen (after_entries listed k at segment piece body r) ≡ after_entries noted k at segment piece body (seen r)
unfolding after_entries
entries_seen zero at segment piece body r = refl
entries_seen (suc k) at segment piece body r =
    entries_seen k (at + 6) segment piece (drop 6 body) (after_entry listed at segment piece body r)
    ∙ ap (λ (f : Option Fault). after_entries noted k (at + 6) segment piece (drop 6 body) (record (seen (after_entry listed at segment piece body r)) { fault = f })) (entry_least at (last_of r.lines) segment piece body r.fault).is

block_seen : (at len : ℕ) (body : List ℕ) (r : Listed) → seen (after_block listed at len body r) ≡ after_block noted at len body (seen r)
block_seen at len body r =
    let opened = opened_block listed at body r in
    let segment = slice_get r.segments (word_at body 0) in
    let k = (len - 2) / 6 in
    ap (λ (q : Read). record q { block = k })
    (entries_seen k (at + 2) segment (word_at body 0) (drop 2 body) opened
    ∙ ap (λ (f : Option Fault). after_entries noted k (at + 2) segment (word_at body 0) (drop 2 body) (record (seen opened) { fault = f })) (block_least at (last_of r.lines) r.block segment body r.fault).is)

either : (b : Bool) (x y : Listed) (u v : Read) → seen x ≡ u → seen y ≡ v → seen (if b then x else y) ≡ (if b then u else v)
either true x y u v h k = h
either false x y u v h k = k

record_seen : (kind at len : ℕ) (file body : List ℕ) (r : Listed) → seen (after_record listed kind at len file body r) ≡ after_record noted kind at len file body (seen r)
record_seen kind at len file body r =
    either (kind == 0x01) _ _ _ _ (head_seen at body r)
    (either (kind == 0x02) _ _ _ _ (segment_seen at body r)
    (either (kind == 0x05) _ _ _ _ (taken_seen at body r)
    (either (kind == 0x06) _ _ _ _ (given_seen at body r)
    (either (kind == 0x03) _ _ _ _ (run_seen at len body r)
    (either (kind == 0x04) _ _ _ _ (fixup_seen at file body r)
    (either (kind == 0x07) _ _ _ _ (block_seen at len body r) refl))))))

-- an empty piece that nothing names: a fault that was found stands before it
unnamed_least : (at : ℕ) (fs : List Fault) (a b : Bool) → Within at fs → least (listed fs (a && true && b) at 4) ≡ noted (least fs) (a && is_none (least fs) && b) at 4
unnamed_least at fs a b h = by (least fs) refl a b
  where
    comes_first : (f : Fault) → f.at < at → is_lesser (fault_at at 4) f ≡ false
    comes_first f l = grind (arith, nat_tests, l)

    by : (o : Option Fault) → least fs ≡ o → (a b : Bool) → least (listed fs (a && true && b) at 4) ≡ noted o (a && is_none o && b) at 4
    by o e false b = e
    by None e true b = (one at 4 fs None b (record { is = e })).is
    by (Some f) e true false = e
    by (Some f) e true true = ap (λ (o : Option Fault). Some (first_of_both o (fault_at at 4))) e ∙ rw (comes_first f (least_within at fs f h e)) refl

stage_seen : (at kind : ℕ) (r : Listed) → Within at r.fault → seen (at_stage each_fault at kind r) ≡ at_stage first_fault at kind (seen r)
stage_seen at kind r h = ap (λ (f : Option Fault). record (seen (at_stage each_fault at kind r)) { fault = f }) (unnamed_least at r.fault (kind == 0x7F) (not (all_kept r.publics r.fixups 0 r.segments)) h)

-- ---- the whole file

abbrev pub fault_in : Answer → Option Fault
fault_in (Ok m) = None
fault_in (Err f) = Some f

-- the first fault is reported, and each stands within the file or at its end (n: its length)
pub record Agrees (n : ℕ) (answer : Answer) (faults : List Fault) : Type 0 where
  pub first : fault_in answer ≡ least faults
  pub within : Within (n + 1) faults

decide : (n : ℕ) (b : Bool) (x y : Answer) (u v : List Fault) → (b ≡ true → Agrees n x u) → (b ≡ false → Agrees n y v) → Agrees n (if b then x else y) (if b then u else v)
decide n true x y u v h k = h refl
decide n false x y u v h k = k refl

stops : (n : ℕ) (r : Listed) (at code : ℕ) → Within (n + 1) r.fault → at ≤ n → Agrees n (stopped first_fault (seen r) at code) (stopped each_fault r at code)
stops n r at code h l = record { first = refl; within = (omega (arith, l), h) }

reported_in : (o : Option Fault) (m : Object) → fault_in (reported o m) ≡ o
reported_in None m = refl
reported_in (Some f) m = refl

ends : (n : ℕ) (r : Listed) (at behind : ℕ) → Within (n + 1) r.fault → at ≤ n → Agrees n (ended first_fault (seen r) at behind) (ended each_fault r at behind)
ends n r at behind h l =
    decide n (behind == 0) (reported (least r.fault) (object_read r)) (stopped first_fault (seen r) at 5) r.fault (stopped each_fault r at 5)
    (λ e. record { first = reported_in (least r.fault) (object_read r); within = h }) (λ e. stops n r at 5 h l)

take_short : (k : ℕ) (xs : List ℕ) → (length (take k xs) ≤ k) × (length (take k xs) ≤ length xs)
take_short zero xs = (omega arith, omega arith)
take_short (suc k) [] = (omega arith, omega arith)
take_short (suc k) (x ∷ xs) = let l = take_short k xs in (omega (arith, l.0), omega (arith, l.1))

abbrev GoesOn : ℕ → (ℕ → Read → Answer) → (ℕ → Listed → List Fault) → Type 0
GoesOn n first each = (at : ℕ) (r : Listed) → at ≤ n → Ends at r → Agrees n (first at (seen r)) (each at r)

bodied_agrees : (first : ℕ → Read → Answer) (each : ℕ → Listed → List Fault) (file : List ℕ) (at kind len : ℕ) (body : List ℕ) (r : Listed) → GoesOn (length file) first each → 1 ≤ at → at + length body ≤ length file → Ends at r
    → Agrees (length file) (bodied first_fault first file at kind len body (seen r)) (bodied each_fault each file at kind len body r)
bodied_agrees first each file at kind len body r on some l is =
    let n = length file in
    let prefix = take_short len body in
    let cut = after_record listed kind at len file body r in
    let now = after_record listed kind at len file (take len body) r in
    let cut_ends : Ends (n + 1) cut = record_is (n + 1) kind at len file body r (record { some = omega arith; fits = λ any. omega (arith, l) }) (ends_further at (n + 1) r (omega (arith, l)) is) in
    let now_ends : Ends (at + len) now = record_is (at + len) kind at len file (take len body) r (record { some = omega (arith, some); fits = λ any. omega (arith, prefix.0) }) (ends_further at (at + len) r (omega arith) is) in
    decide n (nat_lt (length body) len)
    (stopped first_fault (after_record noted kind at len file body (seen r)) n 2) (behind_record first_fault first at kind len (length body) (after_record noted kind at len file (take len body) (seen r)))
    (stopped each_fault cut n 2) (behind_record each_fault each at kind len (length body) now)
    (λ e. subst (λ (q : Read). Agrees n (stopped first_fault q n 2) (stopped each_fault cut n 2)) (record_seen kind at len file body r) (stops n cut n 2 cut_ends.faults (omega arith)))
    (λ e. let whole : len ≤ length body = ltb-false (length body) len e in
    subst (λ (q : Read). Agrees n (behind_record first_fault first at kind len (length body) q) (behind_record each_fault each at kind len (length body) now)) (record_seen kind at len file (take len body) r)
    (decide n (kind == 0x7F) (ended first_fault (seen now) at (length body)) (first (at + len) (seen now)) (ended each_fault now at (length body)) (each (at + len) now)
    (λ end. ends n now at (length body) (further (at + len) (n + 1) now.fault (omega (arith, l, whole)) now_ends.faults) (omega (arith, l))) (λ more. on (at + len) now (omega (arith, l, whole)) now_ends)))

sized_agrees : (first : ℕ → Read → Answer) (each : ℕ → Listed → List Fault) (file : List ℕ) (at kind : ℕ) (rest : List ℕ) (r : Listed) → GoesOn (length file) first each → at + 1 + length rest ≤ length file → Ends (at + 1) r
    → Agrees (length file) (sized first_fault first file at kind rest (seen r)) (sized each_fault each file at kind rest r)
sized_agrees first each file at kind rest r on l is =
    let n = length file in
    let size = word_at rest 0 in
    let h : Within (n + 1) r.fault = further (at + 1) (n + 1) r.fault (omega (arith, l)) is.faults in
    let body = bodied first_fault first file (at + 3) kind size (drop 2 rest) (seen r) in
    let each_body = bodied each_fault each file (at + 3) kind size (drop 2 rest) r in
    let bad = stopped first_fault (seen r) (at + 1) 4 in
    let each_bad = stopped each_fault r (at + 1) 4 in
    decide n (nat_lt (length rest) 2) (stopped first_fault (seen r) n 2) (if fits kind size (drop 2 rest) then body else bad) (stopped each_fault r n 2) (if fits kind size (drop 2 rest) then each_body else each_bad)
    (λ e. stops n r n 2 h (omega arith))
    (λ e. let two : 2 ≤ length rest = ltb-false (length rest) 2 e in
    decide n (fits kind size (drop 2 rest)) body bad each_body each_bad
    (λ k. bodied_agrees first each file (at + 3) kind size (drop 2 rest) r on (omega arith) (omega (arith, l, two, length-drop 2 rest)) (ends_further (at + 1) (at + 3) r (omega arith) is))
    (λ k. stops n r (at + 1) 4 h (omega (arith, l, two))))

positive : (n : ℕ) → (n ≡ 0 → ⊥) → 1 ≤ n
positive zero h = absurd (h refl)
positive (suc n) h = omega arith

typed_agrees : (first : ℕ → Read → Answer) (each : ℕ → Listed → List Fault) (file : List ℕ) (at : ℕ) (rest : List ℕ) (r : Listed) → GoesOn (length file) first each → at + length rest ≤ length file → Ends at r
    → Agrees (length file) (typed first_fault first file at rest (seen r)) (typed each_fault each file at rest r)
typed_agrees first each file at rest r on l is =
    let n = length file in
    let kind = slice_index rest 0 in
    let h : Within (n + 1) r.fault = further at (n + 1) r.fault (omega (arith, l)) is.faults in
    let entered = at_stage each_fault at kind r in
    let bad = (kind == 0x7F) && true && not (all_kept r.publics r.fixups 0 r.segments) in
    let entered_ends : Ends (at + 1) entered = record {
      faults = listed_within (at + 1) r.fault bad at 4 (further at (at + 1) r.fault (omega arith) is.faults) (λ e. omega arith);
      runs = (ends_further at (at + 1) r (omega arith) is).runs;
      counted = is.counted;
    } in
    let goes = sized first_fault first file at kind (drop 1 rest) (at_stage first_fault at kind (seen r)) in
    let each_goes = sized each_fault each file at kind (drop 1 rest) entered in
    decide n (length rest == 0) (stopped first_fault (seen r) at 2) (if may_come (seen r) kind then goes else stopped first_fault (seen r) at 1) (stopped each_fault r at 2) (if may_come r kind then each_goes else stopped each_fault r at 1)
    (λ e. stops n r at 2 h (omega (arith, l)))
    (λ e. let some = positive (length rest) (eqb-false (length rest) 0 e) in
    decide n (may_come r kind) goes (stopped first_fault (seen r) at 1) each_goes (stopped each_fault r at 1)
    (λ k. subst (λ (q : Read). Agrees n (sized first_fault first file at kind (drop 1 rest) q) each_goes) (stage_seen at kind r is.faults)
    (sized_agrees first each file at kind (drop 1 rest) entered on (omega (arith, l, some, length-drop 1 rest)) entered_ends))
    (λ k. stops n r at 1 h (omega (arith, l))))

reads : (k : ℕ) (file : List ℕ) → GoesOn (length file) (read_on first_fault k file) (read_on each_fault k file)
unfolding read_on
reads zero file at r l is = stops (length file) r (length file) 2 (further at (length file + 1) r.fault (omega (arith, l)) is.faults) (omega arith)
reads (suc k) file at r l is = typed_agrees (read_on first_fault k file) (read_on each_fault k file) file at (drop at file) r (reads k file) (omega (arith, l, length-drop at file)) is

pub agrees : (file : List ℕ) → Agrees (length file) (answer_of file) (faults_of file)
agrees file = reads (length file + 1) file 0 (begun []) (omega arith) (record { faults = tt; runs = tt; counted = refl })
