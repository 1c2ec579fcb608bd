-- No fault at a record of line entries: what its fields then are.
use Rattle.std.proofs.Common.{◌≡◌, ℕ, zero, suc, ◌+◌, ◌-◌, ◌*◌, ◌/◌, ◌%◌, ◌<◌, ◌≤◌, true, false, not, ◌&&◌, List, [], ◌∷◌, ◌++◌, length, drop, Option, Some, None, refl, sym, ap, ◌∙◌, subst, append_assoc, arith}
use Rattle.std.specs.Prelude.{slice_get, nat_lt, nat_le, ◌==◌}
use Rattle.std.specs.List.{list_all, flat_map}
use Rattle.std.proofs.lemmas.Bool.{and_parts, and_from, or_parts, not-false, eqb-true, eq-eqb, leb-true, lt-ltb, le-ltb, le-leb}
use Rattle.std.proofs.lemmas.List.{append-nil}
use Rattle.kc_obj_module.specs.declared.parts.Segment.{Segment}
use Rattle.kc_obj_module.specs.declared.parts.Lines.{Lines}
use Rattle.kc_obj_module.specs.Pieces.{has_code}
use Rattle.kc_obj_module.specs.LineEntries.{line_is_sound, line_follows, lines_in_order}
use Rattle.kc_obj_module.specs.Spelling.{word_bytes, long_bytes, entry_bytes, block_record, record_bytes}
use Rattle.kc_obj_fields.specs.declared.faults.Fault.{Fault}
use Rattle.kc_obj_fields.specs.Fields.{word_at, long_at, noted}
use Rattle.kc_base.specs.Bytes.{IsBytes}
use Rattle.kc_obj_module.specs.Widths.{line_fits}
use Rattle.kc_obj_fields.specs.Records.{entry_at, entry_falls, entry_faults, block_falls}
use Rattle.kc_obj.specs.Reading.{Read, after_entry, after_entries, opened_block, after_block, fits_lines}
use Rattle.kc_obj_fields.specs.Fields.{last_of}
use Rattle.kc_obj.proofs.Bytes.{word_again, word_below}
use Rattle.kc_obj.proofs.Clear.{noted_none, asked, asked2}
use Rattle.kc_obj.proofs.ClearCode.{leaves}
use Rattle.kc_obj.proofs.Order.{AfterLast, ordered_push, last_push}

-- ---- entries

unfoldable pub entries : ℕ → ℕ → List ℕ → List Lines
entries zero piece body = []
entries (suc n) piece body = entry_at piece body ∷ entries n piece (drop 6 body)

abbrev pub NotBelow : Option Lines → ℕ → Type 0
NotBelow None piece = Unit {0}
NotBelow (Some b) piece = nat_lt piece b.piece ≡ false

pub lines_push : (ls : List Lines) (l : Lines) → lines_in_order ls ≡ true → AfterLast line_follows (last_of ls) l → lines_in_order (ls ++ l ∷ []) ≡ true
unfolding lines_in_order
lines_push ls l h after = ordered_push line_follows lines_in_order (λ x. refl) (λ x y xs. refl) ls l h after

entry_after : (before : Option Lines) (l : Lines) → NotBelow before l.piece → entry_falls before l ≡ false → AfterLast line_follows before l
entry_after None l h k = tt
entry_after (Some b) l h k = leaves b.piece l.piece (nat_lt b.offset l.offset) h k

long_again : (c d e g : ℕ) → c < 256 → d < 256 → e < 256 → g < 256 → long_bytes (c + 256 * d + 65536 * (e + 256 * g)) ≡ c ∷ d ∷ e ∷ g ∷ []
long_again c d e g hc hd he hg =
    let n = c + 256 * d + 65536 * (e + 256 * g) in
    let low : n % 256 ≡ c = omega arith in
    let next : n / 256 % 256 ≡ d = omega arith in
    let high : n / 65536 ≡ e + 256 * g = omega arith in
    (λ i. low i ∷ next i ∷ word_bytes (high i)) ∙ ap (λ (t : List ℕ). c ∷ d ∷ t) (word_again e g he hg)

-- what an entry says where nothing is noted
pub record Entry (segments : List Segment) (before : Option Lines) (piece : ℕ) (body : List ℕ) : Type 0 where
  pub sound : line_is_sound segments (entry_at piece body) ≡ true
  pub narrow : line_fits (entry_at piece body) ≡ true
  pub follows : AfterLast line_follows before (entry_at piece body)

pub entry_clear : (at : ℕ) (before : Option Lines) (segments : List Segment) (segment : Option Segment) (piece a b c d e g : ℕ) (rest : List ℕ) (f : Option Fault) → IsBytes (a ∷ b ∷ c ∷ d ∷ e ∷ g ∷ rest) → piece < 65536
    → segment ≡ slice_get segments piece → has_code segment 0 ≡ true → NotBelow before piece → entry_faults noted at before segment piece (a ∷ b ∷ c ∷ d ∷ e ∷ g ∷ rest) f ≡ None → Entry segments before piece (a ∷ b ∷ c ∷ d ∷ e ∷ g ∷ rest)
entry_clear at before segments segment piece a b c d e g rest f h low is code below clear =
    let body = a ∷ b ∷ c ∷ d ∷ e ∷ g ∷ rest in
    let l = entry_at piece body in
    let o = a + 256 * b in
    let line = c + 256 * d + 65536 * (e + 256 * g) in
    let two : nat_le 2 (length body) ≡ true = le-leb 2 (length body) (omega arith) in
    let more : nat_le 6 (length body) ≡ true = le-leb 6 (length body) (omega arith) in
    let n3 = noted_none (noted (noted f (nat_le 2 (length body) && has_code segment 0 && not (has_code segment (o + 1))) at 3) (nat_le 2 (length body) && entry_falls before l) at 4) (nat_le 6 (length body) && (line == 0)) (at + 2) 3 clear in
    let n2 = noted_none (noted f (nat_le 2 (length body) && has_code segment 0 && not (has_code segment (o + 1))) at 3) (nat_le 2 (length body) && entry_falls before l) at 4 n3.0 in
    let n1 = noted_none f (nat_le 2 (length body) && has_code segment 0 && not (has_code segment (o + 1))) at 3 n2.0 in
    let within : has_code segment (o + 1) ≡ true = not-false (has_code segment (o + 1)) (asked (has_code segment 0) (not (has_code segment (o + 1))) code (asked2 (nat_le 2 (length body)) (has_code segment 0) (not (has_code segment (o + 1))) two n1.1)) in
    let positive : nat_lt 0 line ≡ true = lt-ltb 0 line (positive_line line (asked (nat_le 6 (length body)) (line == 0) more n3.1)) in
    record {
      sound = and_from (has_code (slice_get segments piece) (o + 1)) (nat_lt 0 line) (ap (λ s. has_code s (o + 1)) (sym is) ∙ within) positive;
      narrow = and_from (nat_lt piece 0x10000 && nat_lt o 0x10000) (nat_lt line 0x100000000) (and_from (nat_lt piece 0x10000) (nat_lt o 0x10000) (lt-ltb piece 0x10000 low) (lt-ltb o 0x10000 (word_below a b h.0 h.1.0))) (lt-ltb line 0x100000000 (omega (arith, h.1.1.0, h.1.1.1.0, h.1.1.1.1.0, h.1.1.1.1.1.0)));
      follows = entry_after before l below (asked (nat_le 2 (length body)) (entry_falls before l) two n2.1);
    }
  where
    positive_line : (n : ℕ) → (n == 0) ≡ false → 0 < n
    positive_line zero k = absurd (cc k)
    positive_line (suc n) k = omega arith

pub entry_none : (at : ℕ) (before : Option Lines) (segment : Option Segment) (piece : ℕ) (body : List ℕ) (f : Option Fault) → entry_faults noted at before segment piece body f ≡ None → f ≡ None
entry_none at before segment piece body f clear =
    let l = entry_at piece body in
    let n3 = noted_none (noted (noted f (nat_le 2 (length body) && has_code segment 0 && not (has_code segment (word_at body 0 + 1))) at 3) (nat_le 2 (length body) && entry_falls before l) at 4) (nat_le 6 (length body) && (long_at body 2 == 0)) (at + 2) 3 clear in
    let n2 = noted_none (noted f (nat_le 2 (length body) && has_code segment 0 && not (has_code segment (word_at body 0 + 1))) at 3) (nat_le 2 (length body) && entry_falls before l) at 4 n3.0 in
    (noted_none f (nat_le 2 (length body) && has_code segment 0 && not (has_code segment (word_at body 0 + 1))) at 3 n2.0).0

pub entries_none : (n at : ℕ) (segment : Option Segment) (piece : ℕ) (body : List ℕ) (r : Read) → (after_entries noted n at segment piece body r).fault ≡ None → r.fault ≡ None
unfolding after_entries
entries_none zero at segment piece body r clear = clear
entries_none (suc n) at segment piece body r clear = entry_none at (last_of r.lines) segment piece body r.fault (entries_none n (at + 6) segment piece (drop 6 body) (after_entry noted at segment piece body r) clear)

-- ---- all entries of a record

pub record Added (n at : ℕ) (segment : Option Segment) (piece : ℕ) (body : List ℕ) (r : Read) : Type 0 where
  pub fault : r.fault ≡ None
  pub read : after_entries noted n at segment piece body r ≡ record r { lines = r.lines ++ entries n piece body; fault = None }
  pub sound : list_all (line_is_sound r.segments) (entries n piece body) ≡ true
  pub narrow : list_all line_fits (entries n piece body) ≡ true
  pub same : list_all (λ l. l.piece == piece) (entries n piece body) ≡ true
  pub ordered : lines_in_order (r.lines ++ entries n piece body) ≡ true
  pub spelled : flat_map entry_bytes (entries n piece body) ≡ body
  pub count : length (entries n piece body) ≡ n

no_body : (body : List ℕ) → length body ≡ 6 * 0 → [] ≡ body
no_body [] h = refl
no_body (b ∷ body) h = absurd (omega arith)

pub entries_clear : (n at : ℕ) (segment : Option Segment) (piece : ℕ) (body : List ℕ) (r : Read) → length body ≡ 6 * n → IsBytes body → piece < 65536 → segment ≡ slice_get r.segments piece → has_code segment 0 ≡ true
    → lines_in_order r.lines ≡ true → NotBelow (last_of r.lines) piece → (after_entries noted n at segment piece body r).fault ≡ None → Added n at segment piece body r
unfolding after_entries entries
entries_clear zero at segment piece body r len h low is code ordered below clear =
    record {
      fault = clear;
      read = λ i. record r { lines = sym (append-nil r.lines) i; fault = clear i };
      sound = refl;
      narrow = refl;
      same = refl;
      ordered = ap lines_in_order (append-nil r.lines) ∙ ordered;
      spelled = no_body body len;
      count = refl;
    }
entries_clear (suc n) at segment piece [] r len h low is code ordered below clear = absurd (omega arith)
entries_clear (suc n) at segment piece (a ∷ []) r len h low is code ordered below clear = absurd (omega arith)
entries_clear (suc n) at segment piece (a ∷ b ∷ []) r len h low is code ordered below clear = absurd (omega arith)
entries_clear (suc n) at segment piece (a ∷ b ∷ c ∷ []) r len h low is code ordered below clear = absurd (omega arith)
entries_clear (suc n) at segment piece (a ∷ b ∷ c ∷ d ∷ []) r len h low is code ordered below clear = absurd (omega arith)
entries_clear (suc n) at segment piece (a ∷ b ∷ c ∷ d ∷ e ∷ []) r len h low is code ordered below clear = absurd (omega arith)
entries_clear (suc n) at segment piece (a ∷ b ∷ c ∷ d ∷ e ∷ g ∷ rest) r len h low is code ordered below clear =
    let body = a ∷ b ∷ c ∷ d ∷ e ∷ g ∷ rest in
    let l = entry_at piece body in
    let now = after_entry noted at segment piece body r in
    let quiet : now.fault ≡ None = entries_none n (at + 6) segment piece rest now clear in
    let here = entry_clear at (last_of r.lines) r.segments segment piece a b c d e g rest r.fault h low is code below quiet in
    let next_ordered : lines_in_order (r.lines ++ l ∷ []) ≡ true = lines_push r.lines l ordered here.follows in
    let next_below : NotBelow (last_of (r.lines ++ l ∷ [])) piece = subst (λ (b : Option Lines). NotBelow b piece) (sym (last_push r.lines l)) (le-ltb piece piece (omega arith)) in
    let ih = entries_clear n (at + 6) segment piece rest now (omega arith) h.1.1.1.1.1.1 low is code next_ordered next_below clear in
    let shape : (r.lines ++ l ∷ []) ++ entries n piece rest ≡ r.lines ++ l ∷ entries n piece rest = append_assoc r.lines (l ∷ []) (entries n piece rest) in
    record {
      fault = entry_none at (last_of r.lines) segment piece body r.fault quiet;
      read = ih.read ∙ (λ i. record r { lines = shape i; fault = None });
      sound = and_from (line_is_sound r.segments l) (list_all (line_is_sound r.segments) (entries n piece rest)) here.sound ih.sound;
      narrow = and_from (line_fits l) (list_all line_fits (entries n piece rest)) here.narrow ih.narrow;
      same = and_from (piece == piece) (list_all (λ l. l.piece == piece) (entries n piece rest)) (eq-eqb piece piece refl) ih.same;
      ordered = ap lines_in_order (sym shape) ∙ ih.ordered;
      spelled = λ i. word_again a b h.0 h.1.0 i ++ long_again c d e g h.1.1.0 h.1.1.1.0 h.1.1.1.1.0 h.1.1.1.1.1.0 i ++ ih.spelled i;
      count = λ i. suc (ih.count i);
    }

pub record Block (len : ℕ) (body : List ℕ) (r : Read) (now : Read) : Type 0 where
  pub n : ℕ
  pub first : Lines
  pub rest : List Lines
  pub fault : r.fault ≡ None
  pub read : now ≡ record r { lines = r.lines ++ first ∷ rest; fault = None; block = n }
  pub sound : list_all (line_is_sound r.segments) (first ∷ rest) ≡ true
  pub narrow : list_all line_fits (first ∷ rest) ≡ true
  pub same : list_all (λ l. l.piece == word_at body 0) (first ∷ rest) ≡ true
  pub ordered : lines_in_order (r.lines ++ first ∷ rest) ≡ true
  pub spelled : block_record (first ∷ rest) ≡ record_bytes 0x07 body
  pub count : length (first ∷ rest) ≡ n
  pub few : n ≤ 1024
  pub begins : block_falls (last_of r.lines) r.block (word_at body 0) ≡ false

some_first : (n piece : ℕ) (body : List ℕ) → 0 < n → entries n piece body ≡ entry_at piece body ∷ entries (n - 1) piece (drop 6 body)
unfolding entries
some_first zero piece body h = absurd (omega arith)
some_first (suc n) piece body h = let e : n ≡ suc n - 1 = omega arith in λ i. entry_at piece body ∷ entries (e i) piece (drop 6 body)

not_below : (before : Option Lines) (block piece : ℕ) → block_falls before block piece ≡ false → NotBelow before piece
not_below None block piece h = tt
not_below (Some b) block piece h = (or_parts (nat_lt piece b.piece) ((b.piece == piece) && not (block == 1024)) h).0

pub block_none : (at len : ℕ) (body : List ℕ) (r : Read) → (after_block noted at len body r).fault ≡ None → r.fault ≡ None
block_none at len body r clear =
    let quiet = entries_none ((len - 2) / 6) (at + 2) (slice_get r.segments (word_at body 0)) (word_at body 0) (drop 2 body) (opened_block noted at body r) clear in
    let n2 = noted_none (noted r.fault (nat_le 2 (length body) && not (has_code (slice_get r.segments (word_at body 0)) 0)) at 3) (nat_le 2 (length body) && block_falls (last_of r.lines) r.block (word_at body 0)) at 4 quiet in
    (noted_none r.fault (nat_le 2 (length body) && not (has_code (slice_get r.segments (word_at body 0)) 0)) at 3 n2.0).0

pub block_clear : (at len : ℕ) (body : List ℕ) (r : Read) → fits_lines len ≡ true → length body ≡ len → IsBytes body → lines_in_order r.lines ≡ true → (after_block noted at len body r).fault ≡ None → Block len body r (after_block noted at len body r)
block_clear at len [] r fit is h ordered clear = absurd (omega (arith, leb-true, (and_parts (nat_le 8 len) ((len - 2) / 6 * 6 == len - 2) (and_parts (nat_le 8 len && ((len - 2) / 6 * 6 == len - 2)) (nat_le ((len - 2) / 6) 1024) fit).0).0))
block_clear at len (a ∷ []) r fit is h ordered clear = absurd (omega (arith, leb-true, (and_parts (nat_le 8 len) ((len - 2) / 6 * 6 == len - 2) (and_parts (nat_le 8 len && ((len - 2) / 6 * 6 == len - 2)) (nat_le ((len - 2) / 6) 1024) fit).0).0))
block_clear at len (a ∷ b ∷ xs) r fit is h ordered clear =
    let body = a ∷ b ∷ xs in
    let piece = a + 256 * b in
    let segment = slice_get r.segments piece in
    let n = (len - 2) / 6 in
    let f2 = and_parts (nat_le 8 len && (n * 6 == len - 2)) (nat_le n 1024) fit in
    let f1 = and_parts (nat_le 8 len) (n * 6 == len - 2) f2.0 in
    let low : 8 ≤ len = leb-true 8 len f1.0 in
    let exact : n * 6 ≡ len - 2 = eqb-true (n * 6) (len - 2) f1.1 in
    let few : n ≤ 1024 = leb-true n 1024 f2.1 in
    let size : length xs ≡ 6 * n = omega arith in
    let quiet = entries_none n (at + 2) segment piece xs (opened_block noted at body r) clear in
    let two : nat_le 2 (length body) ≡ true = le-leb 2 (length body) (omega arith) in
    let n2 = noted_none (noted r.fault (nat_le 2 (length body) && not (has_code segment 0)) at 3) (nat_le 2 (length body) && block_falls (last_of r.lines) r.block piece) at 4 quiet in
    let n1 = noted_none r.fault (nat_le 2 (length body) && not (has_code segment 0)) at 3 n2.0 in
    let code : has_code segment 0 ≡ true = not-false (has_code segment 0) (asked (nat_le 2 (length body)) (not (has_code segment 0)) two n1.1) in
    let begins = asked (nat_le 2 (length body)) (block_falls (last_of r.lines) r.block piece) two n2.1 in
    let added = entries_clear n (at + 2) segment piece xs (opened_block noted at body r) size h.1.1 (word_below a b h.0 h.1.0) refl code ordered (not_below (last_of r.lines) r.block piece begins) clear in
    let shape = some_first n piece xs (omega arith) in
    let first = entry_at piece xs in
    let rest = entries (n - 1) piece (drop 6 xs) in
    let whole : word_bytes piece ++ flat_map entry_bytes (first ∷ rest) ≡ body = (λ i. word_again a b h.0 h.1.0 i ++ (ap (flat_map entry_bytes) (sym shape) ∙ added.spelled) i) in
    record {
      n = n;
      first = first;
      rest = rest;
      fault = n1.0;
      read = (λ i. record (added.read i) { block = n }) ∙ (λ i. record r { lines = r.lines ++ shape i; fault = None; block = n });
      sound = ap (list_all (line_is_sound r.segments)) (sym shape) ∙ added.sound;
      narrow = ap (list_all line_fits) (sym shape) ∙ added.narrow;
      same = ap (list_all (λ (l : Lines). l.piece == piece)) (sym shape) ∙ added.same;
      ordered = ap (λ (es : List Lines). lines_in_order (r.lines ++ es)) (sym shape) ∙ added.ordered;
      spelled = ap (record_bytes 0x07) whole;
      count = ap length (sym shape) ∙ added.count;
      few = few;
      begins = begins;
    }
