-- A fault that was noted stays: where there is none behind a record, there was none in front of it.
use Rattle.std.proofs.Common.{◌≡◌, ℕ, ◌+◌, ◌-◌, Bool, true, false, not, ◌&&◌, ◌||◌, cond, List, length, drop, Option, None}
use Rattle.std.specs.Prelude.{slice_index, slice_get, nat_lt, nat_le, ◌==◌, is_none}
use Rattle.kc_obj_module.specs.declared.parts.Segment.{Segment}
use Rattle.kc_obj_module.specs.declared.parts.Given.{Given}
use Rattle.kc_obj_module.specs.declared.parts.Content.{Content}
use Rattle.kc_obj_module.specs.Pieces.{has_code, all_kept}
use Rattle.kc_obj_fields.specs.declared.faults.Fault.{Fault}
use Rattle.kc_obj_fields.specs.Fields.{word_at, name_at, is_bad_name, noted}
use Rattle.kc_obj_fields.specs.Records.{head_faults, segment_at, kind_falls, comes_late, bad_base, bad_length, kind_faults, flag_faults, segment_faults, taken_faults, name_falls, given_faults, run_piece_falls, run_falls, run_faults, fixup_at, fixup_piece_falls, fixup_falls, bad_index, fixup_place_faults, place_of, free_faults, under_faults}
use Rattle.kc_obj.specs.Reading.{Read, at_stage, after_head, after_segment, after_taken, after_given, after_run, after_fixup, after_block, after_record, fixup_faults, first_fault}
use Rattle.kc_obj_fields.specs.Fields.{last_of}
use Rattle.kc_obj.proofs.Clear.{noted_none}
use Rattle.kc_obj.proofs.ClearCode.{free_clear}
use Rattle.kc_obj.proofs.ClearLines.{block_none}

head_none : (at : ℕ) (body : List ℕ) (f : Option Fault) → head_faults noted at body f ≡ None → f ≡ None
head_none at body f h =
    let version = nat_le 1 (length body) && not ((slice_index body 0 == 1) || (slice_index body 0 == 2)) in
    (noted_none f version at 3 (noted_none (noted f version at 3) (nat_le 2 (length body) && is_bad_name false (drop 1 body)) (at + 1) 6 h).0).0

segment_none : (at : ℕ) (before : Option Segment) (body : List ℕ) (f : Option Fault) → segment_faults noted at before body f ≡ None → f ≡ None
segment_none at before body f h =
    let s = segment_at body in
    let flag = flag_faults noted at before body (kind_faults noted at before body f) in
    let kind = kind_faults noted at before body f in
    let broken = nat_le 2 (length body) && (nat_lt 1 (slice_index body 1) || ((slice_index body 1 == 1) && (slice_index body 0 == 3))) in
    let n5 = (noted_none (noted flag (nat_le 4 (length body) && bad_base s (word_at body 2)) (at + 2) 3) (nat_le 6 (length body) && bad_length s (word_at body 2)) (at + 4) 3 h).0 in
    let n4 = (noted_none flag (nat_le 4 (length body) && bad_base s (word_at body 2)) (at + 2) 3 n5).0 in
    let n3 = (noted_none (noted kind broken (at + 1) 3) (nat_le 2 (length body) && comes_late before s) (at + 1) 4 n4).0 in
    let n2 = (noted_none kind broken (at + 1) 3 n3).0 in
    let n1 = (noted_none (noted f (nat_le 1 (length body) && nat_lt 3 (slice_index body 0)) at 3) (nat_le 2 (length body) && kind_falls before s) at 4 n2).0 in
    (noted_none f (nat_le 1 (length body) && nat_lt 3 (slice_index body 0)) at 3 n1).0

taken_none : (at : ℕ) (body : List ℕ) (f : Option Fault) → taken_faults noted at body f ≡ None → f ≡ None
taken_none at body f h =
    let n1 = (noted_none (noted f (nat_le 1 (length body) && is_bad_name false body) at 6) (nat_le (slice_index body 0 + 2) (length body) && nat_lt 1 (slice_index body (slice_index body 0 + 1))) (at + slice_index body 0 + 1) 3 h).0 in
    (noted_none f (nat_le 1 (length body) && is_bad_name false body) at 6 n1).0

given_none : (at : ℕ) (before : Option Given) (count : ℕ) (body : List ℕ) (f : Option Fault) → given_faults noted at before count body f ≡ None → f ≡ None
given_none at before count body f h =
    let n = slice_index body 0 in
    let bad = nat_le 1 (length body) && is_bad_name true body in
    let late = nat_le (n + 1) (length body) && name_falls before (name_at body) in
    let n2 = (noted_none (noted (noted f bad at 6) late at 4) (nat_le (n + 3) (length body) && not (word_at body (n + 1) == 0xFFFF) && not (nat_lt (word_at body (n + 1)) count)) (at + n + 1) 3 h).0 in
    let n1 = (noted_none (noted f bad at 6) late at 4 n2).0 in
    (noted_none f bad at 6 n1).0

run_none : (at : ℕ) (before : Option Content) (piece : Option Segment) (len : ℕ) (body : List ℕ) (f : Option Fault) → run_faults noted at before piece len body f ≡ None → f ≡ None
run_none at before piece len body f h =
    let first = nat_le 2 (length body) && not (has_code piece 0) in
    let second = nat_le 2 (length body) && run_piece_falls before (word_at body 0) in
    let third = nat_le 4 (length body) && has_code piece 0 && not (has_code piece (word_at body 2 + (len - 4))) in
    let n3 = (noted_none (noted (noted (noted f first at 3) second at 4) third (at + 2) 3) (nat_le 4 (length body) && run_falls before (word_at body 0) (word_at body 2)) (at + 2) 4 h).0 in
    let n2 = (noted_none (noted (noted f first at 3) second at 4) third (at + 2) 3 n3).0 in
    let n1 = (noted_none (noted f first at 3) second at 4 n2).0 in
    (noted_none f first at 3 n1).0

fixup_none : (at : ℕ) (file body : List ℕ) (r : Read) → fixup_faults noted at file body r ≡ None → r.fault ≡ None
fixup_none at file body r h =
    let pieces = length r.segments in
    let before = last_of r.fixups in
    let place = fixup_place_faults noted at before pieces body r.fault in
    let under = under_faults noted at file pieces r.contents r.starts r.fixups body place in
    let first = nat_le 2 (length body) && nat_le pieces (word_at body 0) in
    let second = nat_le 2 (length body) && fixup_piece_falls before (word_at body 0) in
    let third = nat_le 4 (length body) && fixup_falls before (word_at body 0) (word_at body 2) in
    let target = nat_le 6 (length body) && (nat_lt 2 (slice_index body 5) || ((slice_index body 5 == 2) && nat_lt (slice_index body 4) 2)) in
    let t1 = (noted_none (noted under target (at + 5) 3) (nat_le 8 (length body) && bad_index pieces (length r.externals) (slice_index body 5) (word_at body 6)) (at + 6) 3 h).0 in
    let t0 = (noted_none under target (at + 5) 3 t1).0 in
    let p4 = quiet (nat_le 5 (length body) && nat_le (slice_index body 4) 4 && nat_lt (word_at body 0) pieces) place t0 in
    let p3 = (noted_none (noted (noted (noted r.fault first at 3) second at 4) third (at + 2) 4) (nat_le 5 (length body) && nat_lt 4 (slice_index body 4)) (at + 4) 3 p4).0 in
    let p2 = (noted_none (noted (noted r.fault first at 3) second at 4) third (at + 2) 4 p3).0 in
    let p1 = (noted_none (noted r.fault first at 3) second at 4 p2).0 in
    (noted_none r.fault first at 3 p1).0
  where
    quiet : (b : Bool) (f : Option Fault) → cond b (free_faults noted at file r.fixups (fixup_at body) (place_of r.contents r.starts (word_at body 0) (word_at body 2)) (place_of r.contents r.starts (word_at body 0) (word_at body 2 + 1)) f) f ≡ None → f ≡ None
    quiet true f k = (free_clear at file r.fixups (fixup_at body) (place_of r.contents r.starts (word_at body 0) (word_at body 2)) (place_of r.contents r.starts (word_at body 0) (word_at body 2 + 1)) f k).0
    quiet false f k = k

-- one of the types, or another
pub chosen : (b : Bool) (x y r : Read) → (x.fault ≡ None → r.fault ≡ None) → (y.fault ≡ None → r.fault ≡ None) → (cond b x y).fault ≡ None → r.fault ≡ None
chosen true x y r f g h = f h
chosen false x y r f g h = g h

pub record_none : (kind at len : ℕ) (file body : List ℕ) (r : Read) → (after_record noted kind at len file body r).fault ≡ None → r.fault ≡ None
record_none kind at len file body r h =
    let block = chosen (kind == 0x07) (after_block noted at len body r) r r (block_none at len body r) (λ k. k) in
    let fixup = chosen (kind == 0x04) (after_fixup noted at file body r) (cond (kind == 0x07) (after_block noted at len body r) r) r (fixup_none at file body r) block in
    let run = chosen (kind == 0x03) (after_run noted at len body r) (cond (kind == 0x04) (after_fixup noted at file body r) (cond (kind == 0x07) (after_block noted at len body r) r)) r (run_none at (last_of r.contents) (slice_get r.segments (word_at body 0)) len body r.fault) fixup in
    let given = chosen (kind == 0x06) (after_given noted at body r) (cond (kind == 0x03) (after_run noted at len body r) (cond (kind == 0x04) (after_fixup noted at file body r) (cond (kind == 0x07) (after_block noted at len body r) r))) r (given_none at (last_of r.publics) (length r.segments) body r.fault) run in
    let taken = chosen (kind == 0x05) (after_taken noted at body r) (cond (kind == 0x06) (after_given noted at body r) (cond (kind == 0x03) (after_run noted at len body r) (cond (kind == 0x04) (after_fixup noted at file body r) (cond (kind == 0x07) (after_block noted at len body r) r)))) r (taken_none at body r.fault) given in
    let segment = chosen (kind == 0x02) (after_segment noted at body r) (cond (kind == 0x05) (after_taken noted at body r) (cond (kind == 0x06) (after_given noted at body r) (cond (kind == 0x03) (after_run noted at len body r) (cond (kind == 0x04) (after_fixup noted at file body r) (cond (kind == 0x07) (after_block noted at len body r) r))))) r (segment_none at (last_of r.segments) body r.fault) taken in
    chosen (kind == 0x01) (after_head noted at body r) (cond (kind == 0x02) (after_segment noted at body r) (cond (kind == 0x05) (after_taken noted at body r) (cond (kind == 0x06) (after_given noted at body r) (cond (kind == 0x03) (after_run noted at len body r) (cond (kind == 0x04) (after_fixup noted at file body r) (cond (kind == 0x07) (after_block noted at len body r) r)))))) r (head_none at body r.fault) segment h

pub stage_none : (at kind : ℕ) (r : Read) → (at_stage first_fault at kind r).fault ≡ None → (r.fault ≡ None) × (((kind == 0x7F) && is_none r.fault && not (all_kept r.publics r.fixups 0 r.segments)) ≡ false)
stage_none at kind r h = noted_none r.fault ((kind == 0x7F) && is_none r.fault && not (all_kept r.publics r.fixups 0 r.segments)) at 4 h
