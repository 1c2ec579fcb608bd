-- Each fault of a record stands in it, or in one before it.
use Rattle.std.proofs.Common.{◌≡◌, ℕ, zero, suc, ◌+◌, ◌-◌, ◌/◌, ◌<◌, ◌≤◌, Bool, true, false, not, ◌&&◌, List, [], ◌∷◌, ◌++◌, length, drop, Option, refl, arith}
use Rattle.std.specs.Prelude.{Some, slice_index, slice_get, nat_le, nat_lt, ◌==◌, if◌then◌else◌}
use Rattle.std.proofs.lemmas.Bool.{and_parts, leb-true, ltb-true}
use Rattle.std.proofs.lemmas.List.{length-drop, length-append}
use Rattle.kc_obj_module.specs.declared.parts.Segment.{Segment}
use Rattle.kc_obj_module.specs.declared.parts.Given.{Given}
use Rattle.kc_obj_module.specs.declared.parts.Content.{Content}
use Rattle.kc_obj_module.specs.declared.parts.Fixup.{Fixup}
use Rattle.kc_obj_module.specs.declared.parts.Lines.{Lines}
use Rattle.kc_obj_module.specs.Contents.{covers, content_end}
use Rattle.kc_obj_module.specs.Fixups.{may_begin, is_zero}
use Rattle.kc_obj_module.specs.Numbers.{width}
use Rattle.kc_obj_fields.specs.declared.faults.Fault.{Fault}
use Rattle.kc_obj_fields.specs.Fields.{listed, word_at, last_of}
use Rattle.kc_obj_fields.specs.Records.{head_faults, segment_faults, taken_faults, given_faults, run_faults, run_at, target_faults, fixup_place_faults, byte_of_file, place_of, place_or_zero, byte_faults, stands_free, free_faults, under_faults, fixup_at, entry_faults, block_faults}
use Rattle.kc_obj.specs.Reading.{ReadBy, after_run, after_fixup, after_entry, after_entries, opened_block, after_block, after_record}

-- ---- one fault more (n: where what was read ends)

abbrev pub Within : ℕ → List Fault → Type 0
Within n [] = Unit {0}
Within n (f ∷ fs) = (f.at < n) × Within n fs

pub further : (m n : ℕ) (fs : List Fault) → m ≤ n → Within m fs → Within n fs
further m n [] le h = tt
further m n (f ∷ fs) le h = (omega (arith, le, h.0), further m n fs le h.1)

pub listed_within : (n : ℕ) (fs : List Fault) (broken : Bool) (at code : ℕ) → Within n fs → (broken ≡ true → at < n) → Within n (listed fs broken at code)
listed_within n fs true at code h k = (k refl, h)
listed_within n fs false at code h k = h

-- what there is of a body stands there
abbrev Fits : ℕ → ℕ → List ℕ → Type 0
Fits n at body = 1 ≤ length body → at + length body ≤ n

-- a field is checked where all of it is there: m bytes of the body
field : (n at : ℕ) (body : List ℕ) (fs : List Fault) (m place code : ℕ) (x : Bool) → Fits n at body → 1 ≤ m → place < at + m → Within n fs → Within n (listed fs (nat_le m (length body) && x) place code)
field n at body fs m place code x fits some near h =
    listed_within n fs (nat_le m (length body) && x) place code h (λ e.
    let there : m ≤ length body = leb-true m (length body) (and_parts (nat_le m (length body)) x e).0 in
    let far = fits (omega (arith, there, some)) in
    omega (arith, there, far, near))

field_of : (n at : ℕ) (body : List ℕ) (fs : List Fault) (m place code : ℕ) (x y : Bool) → Fits n at body → 1 ≤ m → place < at + m → Within n fs → Within n (listed fs (nat_le m (length body) && x && y) place code)
field_of n at body fs m place code x y fits some near h =
    listed_within n fs (nat_le m (length body) && x && y) place code h (λ e.
    let there : m ≤ length body = leb-true m (length body) (and_parts (nat_le m (length body)) x (and_parts (nat_le m (length body) && x) y e).0).0 in
    let far = fits (omega (arith, there, some)) in
    omega (arith, there, far, near))

-- ---- the faults of each record

head_within : (n at : ℕ) (body : List ℕ) (fs : List Fault) → Fits n at body → Within n fs → Within n (head_faults listed at body fs)
head_within n at body fs fits h =
    field n at body _ 2 (at + 1) 6 _ fits (omega arith) (omega arith)
    (field n at body fs 1 at 3 _ fits (omega arith) (omega arith) h)

segment_within : (n at : ℕ) (before : Option Segment) (body : List ℕ) (fs : List Fault) → Fits n at body → Within n fs → Within n (segment_faults listed at before body fs)
segment_within n at before body fs fits h =
    field n at body _ 6 (at + 4) 3 _ fits (omega arith) (omega arith)
    (field n at body _ 4 (at + 2) 3 _ fits (omega arith) (omega arith)
    (field n at body _ 2 (at + 1) 4 _ fits (omega arith) (omega arith)
    (field n at body _ 2 (at + 1) 3 _ fits (omega arith) (omega arith)
    (field n at body _ 2 at 4 _ fits (omega arith) (omega arith)
    (field n at body fs 1 at 3 _ fits (omega arith) (omega arith) h)))))

taken_within : (n at : ℕ) (body : List ℕ) (fs : List Fault) → Fits n at body → Within n fs → Within n (taken_faults listed at body fs)
taken_within n at body fs fits h =
    field n at body _ (slice_index body 0 + 2) (at + slice_index body 0 + 1) 3 _ fits (omega arith) (omega arith)
    (field n at body fs 1 at 6 _ fits (omega arith) (omega arith) h)

given_within : (n at : ℕ) (before : Option Given) (count : ℕ) (body : List ℕ) (fs : List Fault) → Fits n at body → Within n fs → Within n (given_faults listed at before count body fs)
given_within n at before count body fs fits h =
    field_of n at body _ (slice_index body 0 + 3) (at + slice_index body 0 + 1) 3 _ _ fits (omega arith) (omega arith)
    (field n at body _ (slice_index body 0 + 1) at 4 _ fits (omega arith) (omega arith)
    (field n at body fs 1 at 6 _ fits (omega arith) (omega arith) h))

run_within : (n at : ℕ) (before : Option Content) (piece : Option Segment) (len : ℕ) (body : List ℕ) (fs : List Fault) → Fits n at body → Within n fs → Within n (run_faults listed at before piece len body fs)
run_within n at before piece len body fs fits h =
    field n at body _ 4 (at + 2) 4 _ fits (omega arith) (omega arith)
    (field_of n at body _ 4 (at + 2) 3 _ _ fits (omega arith) (omega arith)
    (field n at body _ 2 at 4 _ fits (omega arith) (omega arith)
    (field n at body fs 2 at 3 _ fits (omega arith) (omega arith) h)))

target_within : (n at pieces externals : ℕ) (body : List ℕ) (fs : List Fault) → Fits n at body → Within n fs → Within n (target_faults listed at pieces externals body fs)
target_within n at pieces externals body fs fits h =
    field n at body _ 8 (at + 6) 3 _ fits (omega arith) (omega arith)
    (field n at body fs 6 (at + 5) 3 _ fits (omega arith) (omega arith) h)

place_within : (n at : ℕ) (before : Option Fixup) (pieces : ℕ) (body : List ℕ) (fs : List Fault) → Fits n at body → Within n fs → Within n (fixup_place_faults listed at before pieces body fs)
place_within n at before pieces body fs fits h =
    field n at body _ 5 (at + 4) 3 _ fits (omega arith) (omega arith)
    (field n at body _ 4 (at + 2) 4 _ fits (omega arith) (omega arith)
    (field n at body _ 2 at 4 _ fits (omega arith) (omega arith)
    (field n at body fs 2 at 3 _ fits (omega arith) (omega arith) h)))

entry_within : (n at : ℕ) (before : Option Lines) (segment : Option Segment) (piece : ℕ) (body : List ℕ) (fs : List Fault) → Fits n at body → Within n fs → Within n (entry_faults listed at before segment piece body fs)
entry_within n at before segment piece body fs fits h =
    field n at body _ 6 (at + 2) 3 _ fits (omega arith) (omega arith)
    (field n at body _ 2 at 4 _ fits (omega arith) (omega arith)
    (field_of n at body fs 2 at 3 _ _ fits (omega arith) (omega arith) h))

block_within : (n at : ℕ) (before : Option Lines) (block : ℕ) (segment : Option Segment) (body : List ℕ) (fs : List Fault) → Fits n at body → Within n fs → Within n (block_faults listed at before block segment body fs)
block_within n at before block segment body fs fits h =
    field n at body _ 2 at 4 _ fits (omega arith) (omega arith)
    (field n at body fs 2 at 3 _ fits (omega arith) (omega arith) h)

-- ---- bytes under a relocation: each run that has bytes ends where what was read ends, or before

abbrev RunsWithin : ℕ → List Content → List ℕ → Type 0
RunsWithin n [] ss = Unit {0}
RunsWithin n (c ∷ cs) [] = Unit {0}
RunsWithin n (c ∷ cs) (s ∷ ss) = (1 ≤ length c.bytes → s + length c.bytes ≤ n) × RunsWithin n cs ss

runs_further : (m n : ℕ) (cs : List Content) (ss : List ℕ) → m ≤ n → RunsWithin m cs ss → RunsWithin n cs ss
runs_further m n [] ss le h = tt
runs_further m n (c ∷ cs) [] le h = tt
runs_further m n (c ∷ cs) (s ∷ ss) le h = (λ some. let l = h.0 some in omega (arith, l, le), runs_further m n cs ss le h.1)

run_push : (n : ℕ) (cs : List Content) (ss : List ℕ) (c : Content) (s : ℕ) → length cs ≡ length ss → RunsWithin n cs ss → (1 ≤ length c.bytes → s + length c.bytes ≤ n) → RunsWithin n (cs ++ c ∷ []) (ss ++ s ∷ [])
run_push n [] [] c s same h k = (k, tt)
run_push n [] (x ∷ ss) c s same h k = absurd (omega (arith, same))
run_push n (x ∷ cs) [] c s same h k = absurd (omega (arith, same))
run_push n (x ∷ cs) (y ∷ ss) c s same h k = (h.0, run_push n cs ss c s (omega (arith, same)) h.1 k)

byte_within : (n : ℕ) (cs : List Content) (ss : List ℕ) (piece offset : ℕ) → 1 ≤ n → RunsWithin n cs ss → place_or_zero (place_of cs ss piece offset) < n
unfolding place_of
byte_within n [] ss piece offset some h = omega (arith, some)
byte_within n (c ∷ cs) [] piece offset some h = omega (arith, some)
byte_within n (c ∷ cs) (s ∷ ss) piece offset some h = by (covers c piece offset) refl (byte_within n cs ss piece offset some h.1)
  where
    by : (b : Bool) → covers c piece offset ≡ b → place_or_zero (place_of cs ss piece offset) < n → place_or_zero (if b then Some (s + (offset - c.offset)) else place_of cs ss piece offset) < n
    by true e rest =
        let high = ltb-true offset (content_end c) (and_parts ((c.piece == piece) && nat_le c.offset offset) (nat_lt offset (content_end c)) e).1 in
        let low = leb-true c.offset offset (and_parts (c.piece == piece) (nat_le c.offset offset) (and_parts ((c.piece == piece) && nat_le c.offset offset) (nat_lt offset (content_end c)) e).0).1 in
        let end = h.0 (omega (arith, high, low)) in
        omega (arith, high, low, end)
    by false e rest = rest

bytes_within : (n : ℕ) (file : List ℕ) (x : Fixup) (first second : Option ℕ) (fs : List Fault) → place_or_zero first < n → place_or_zero second < n → Within n fs → Within n (byte_faults listed file x first second fs)
bytes_within n file x first second fs one two h =
    let bad_first = not (may_begin x.kind (byte_of_file file first)) in
    let bad_second = (width x.kind == 2) && not (is_zero (byte_of_file file second)) in
    listed_within n (listed fs bad_first (place_or_zero first) 4) bad_second (place_or_zero second) 4 (listed_within n fs bad_first (place_or_zero first) 4 h (λ e. one)) (λ e. two)

free_within : (n at : ℕ) (file : List ℕ) (fixups : List Fixup) (x : Fixup) (first second : Option ℕ) (fs : List Fault) → at + 2 < n → place_or_zero first < n → place_or_zero second < n → Within n fs → Within n (free_faults listed at file fixups x first second fs)
free_within n at file fixups x first second fs here one two h = by (stands_free fixups x first second)
  where
    by : (b : Bool) → Within n (if b then byte_faults listed file x first second fs else listed fs true (at + 2) 3)
    by true = bytes_within n file x first second fs one two h
    by false = listed_within n fs true (at + 2) 3 h (λ e. here)

under_within : (n at : ℕ) (file : List ℕ) (pieces : ℕ) (cs : List Content) (ss : List ℕ) (fixups : List Fixup) (body : List ℕ) (fs : List Fault) → Fits n at body
    → ((piece offset : ℕ) → place_or_zero (place_of cs ss piece offset) < n) → Within n fs → Within n (under_faults listed at file pieces cs ss fixups body fs)
under_within n at file pieces cs ss fixups body fs fits stands h = by (nat_le 5 (length body) && nat_le (slice_index body 4) 4 && nat_lt (word_at body 0) pieces) refl
  where
    by : (b : Bool) → (nat_le 5 (length body) && nat_le (slice_index body 4) 4 && nat_lt (word_at body 0) pieces) ≡ b
        → Within n (if b then free_faults listed at file fixups (fixup_at body) (place_of cs ss (word_at body 0) (word_at body 2)) (place_of cs ss (word_at body 0) (word_at body 2 + 1)) fs else fs)
    by true e =
        let there : 5 ≤ length body =
        leb-true 5 (length body) (and_parts (nat_le 5 (length body)) (nat_le (slice_index body 4) 4) (and_parts (nat_le 5 (length body) && nat_le (slice_index body 4) 4) (nat_lt (word_at body 0) pieces) e).0).0 in
        let far = fits (omega (arith, there)) in
        free_within n at file fixups (fixup_at body) _ _ fs (omega (arith, there, far)) (stands (word_at body 0) (word_at body 2)) (stands (word_at body 0) (word_at body 2 + 1)) h
    by false e = h

-- ---- what was read

pub record Ends (n : ℕ) (r : ReadBy (List Fault)) : Type 0 where
  pub faults : Within n r.fault
  pub runs : RunsWithin n r.contents r.starts
  pub counted : length r.contents ≡ length r.starts

pub ends_further : (m n : ℕ) (r : ReadBy (List Fault)) → m ≤ n → Ends m r → Ends n r
ends_further m n r le is = record { faults = further m n r.fault le is.faults; runs = runs_further m n r.contents r.starts le is.runs; counted = is.counted }

either : (n : ℕ) (b : Bool) (x y : ReadBy (List Fault)) → Ends n x → Ends n y → Ends n (if b then x else y)
either n true x y h k = h
either n false x y h k = k

-- a body that ends there (none: that there is something before it)
pub record Lies (n at : ℕ) (body : List ℕ) : Type 0 where
  pub some : 1 ≤ n
  pub fits : Fits n at body

run_is : (n at len : ℕ) (body : List ℕ) (r : ReadBy (List Fault)) → Lies n at body → Ends n r → Ends n (after_run listed at len body r)
run_is n at len body r lies is =
    record {
      faults = run_within n at (last_of r.contents) (slice_get r.segments (word_at body 0)) len body r.fault lies.fits is.faults;
      runs = run_push n r.contents r.starts (run_at body) (at + 4) is.counted is.runs (λ some.
          let far = lies.fits (omega (arith, some, length-drop 4 body)) in omega (arith, some, far, length-drop 4 body));
      counted = omega (arith, length-append r.contents (run_at body ∷ []), length-append r.starts ((at + 4) ∷ []), is.counted);
    }

fixup_is : (n at : ℕ) (file body : List ℕ) (r : ReadBy (List Fault)) → Lies n at body → Ends n r → Ends n (after_fixup listed at file body r)
fixup_is n at file body r lies is =
    let placed = fixup_place_faults listed at (last_of r.fixups) (length r.segments) body r.fault in
    let under = under_faults listed at file (length r.segments) r.contents r.starts r.fixups body placed in
    record {
      faults = target_within n at (length r.segments) (length r.externals) body under lies.fits
          (under_within n at file (length r.segments) r.contents r.starts r.fixups body placed lies.fits (λ piece offset. byte_within n r.contents r.starts piece offset lies.some is.runs)
          (place_within n at (last_of r.fixups) (length r.segments) body r.fault lies.fits is.faults));
      runs = is.runs;
      counted = is.counted;
    }

entries_is : (n k at : ℕ) (segment : Option Segment) (piece : ℕ) (body : List ℕ) (r : ReadBy (List Fault)) → Fits n at body → Ends n r → Ends n (after_entries listed k at segment piece body r)
unfolding after_entries
entries_is n zero at segment piece body r fits is = is
entries_is n (suc k) at segment piece body r fits is =
    entries_is n k (at + 6) segment piece (drop 6 body) (after_entry listed at segment piece body r)
    (λ some. let far = fits (omega (arith, some, length-drop 6 body)) in omega (arith, some, far, length-drop 6 body))
    (record { faults = entry_within n at (last_of r.lines) segment piece body r.fault fits is.faults; runs = is.runs; counted = is.counted })

block_is : (n at len : ℕ) (body : List ℕ) (r : ReadBy (List Fault)) → Lies n at body → Ends n r → Ends n (after_block listed at len body r)
block_is n at len body r lies is =
    let opened : Ends n (opened_block listed at body r) = record { faults = block_within n at (last_of r.lines) r.block (slice_get r.segments (word_at body 0)) body r.fault lies.fits is.faults; runs = is.runs; counted = is.counted } in
    let rest : Fits n (at + 2) (drop 2 body) = λ some. let far = lies.fits (omega (arith, some, length-drop 2 body)) in omega (arith, some, far, length-drop 2 body) in
    let on = entries_is n ((len - 2) / 6) (at + 2) (slice_get r.segments (word_at body 0)) (word_at body 0) (drop 2 body) (opened_block listed at body r) rest opened in
    record { faults = on.faults; runs = on.runs; counted = on.counted }

pub record_is : (n kind at len : ℕ) (file body : List ℕ) (r : ReadBy (List Fault)) → Lies n at body → Ends n r → Ends n (after_record listed kind at len file body r)
record_is n kind at len file body r lies is =
    either n (kind == 0x01) _ _ (record { faults = head_within n at body r.fault lies.fits is.faults; runs = is.runs; counted = is.counted })
    (either n (kind == 0x02) _ _ (record { faults = segment_within n at _ body r.fault lies.fits is.faults; runs = is.runs; counted = is.counted })
    (either n (kind == 0x05) _ _ (record { faults = taken_within n at body r.fault lies.fits is.faults; runs = is.runs; counted = is.counted })
    (either n (kind == 0x06) _ _ (record { faults = given_within n at _ _ body r.fault lies.fits is.faults; runs = is.runs; counted = is.counted })
    (either n (kind == 0x03) _ _ (run_is n at len body r lies is)
    (either n (kind == 0x04) _ _ (fixup_is n at file body r lies is)
    (either n (kind == 0x07) _ _ (block_is n at len body r lies is) is))))))
