-- What is spelled is read.
use Rattle.std.proofs.Common.{◌≡◌, ℕ, zero, suc, add-one, ◌+◌, ◌<◌, ◌≤◌, ◌⊎◌, inl, inr, Bool, true, false, not, ◌&&◌, ◌||◌, cond, List, [], ◌∷◌, ◌++◌, length, drop, length-append, Option, Some, None, Ok, refl, sym, ap, ◌∙◌, subst, append_assoc, arith}
use Rattle.std.specs.Prelude.{slice_index, nat_lt, ◌==◌, is_some, is_none}
use Rattle.std.specs.List.{list_all, flat_map}
use Rattle.std.proofs.lemmas.Bool.{and_parts, and_from, eqb-true, eq-eqb, ltb-true}
use Rattle.std.proofs.lemmas.Bool.Decides.{nat_tests}
use Rattle.std.proofs.lemmas.List.{append-nil}
use Rattle.kc_obj_module.specs.declared.parts.Segment.{Segment}
use Rattle.kc_obj_module.specs.declared.parts.Taken.{Taken}
use Rattle.kc_obj_module.specs.declared.parts.Given.{Given}
use Rattle.kc_obj_module.specs.declared.parts.Content.{Content}
use Rattle.kc_obj_module.specs.declared.parts.Fixup.{Fixup}
use Rattle.kc_obj_module.specs.declared.parts.Lines.{Lines}
use Rattle.kc_obj_module.specs.Object.{Object}
use Rattle.kc_obj_module.specs.Names.{is_name}
use Rattle.kc_obj_module.specs.Pieces.{is_placed, segments_in_order, all_kept}
use Rattle.kc_obj_module.specs.Rules.{is_module, segments_are_sound, externals_are_sound, publics_are_sound, contents_are_sound, fixups_are_sound, given_is_sound, publics_in_order}
use Rattle.kc_obj_module.specs.Contents.{content_is_sound, contents_in_order}
use Rattle.kc_obj_module.specs.Fixups.{fixup_is_sound, fixups_in_order, has_room}
use Rattle.kc_obj_module.specs.LineEntries.{line_is_sound, line_follows, lines_in_order, lines_are_sound}
use Rattle.kc_obj_module.specs.Spelling.{word_bytes, name_bytes, record_bytes, head_body, version_of, entry_bytes, segment_record, taken_record, given_record, content_record, fixup_record, block_record, takes_entry, block_records, line_records, spelling}
use Rattle.kc_obj_fields.specs.Fields.{name_at, first_of_both, fault_at}
use Rattle.kc_obj_module.specs.Widths.{fixup_fits, line_fits, lines_fit, numbers_fit}
use Rattle.kc_obj_module.specs.Spelled.{IsSpelled}
use Rattle.kc_obj_fields.specs.Records.{block_falls}
use Rattle.kc_obj.specs.Reading.{Read, nothing_read, object_read, reported, typed, read_on, answer_of, first_fault}
use Rattle.kc_obj_fields.specs.Fields.{last_of}
use Rattle.kc_obj.proofs.Order.{AfterLast, ordered_last, ordered_prefix, all_first, all_second, all_push, last_append, last_passes}
use Rattle.kc_obj.proofs.Holding.{hold_none}
use Rattle.kc_obj.proofs.Forth.{NameForth, name_forth, head_forth}
use Rattle.kc_obj.proofs.ForthCode.{block_forth}
use Rattle.kc_obj.proofs.Onward.{Came, Sound, Has, Pieces, Externals, Publics, Runs, Numbers, record_on, one_on, list_on, comes_later, fits_name_forth, piece_on, external_on, public_on, run_on, number_on}

-- ---- line entries

-- all of the module but line entries
pub record Parts (m : Object) (r : Read) : Type 0 where
  pub begun : 1 ≤ r.stage
  pub stage : r.stage ≤ 7
  pub fault : r.fault ≡ None
  pub name : r.name ≡ m.name
  pub has_lines : r.has_lines ≡ is_some m.lines
  pub segments : r.segments ≡ m.segments
  pub externals : r.externals ≡ m.externals
  pub publics : r.publics ≡ m.publics
  pub contents : r.contents ≡ m.contents
  pub fixups : r.fixups ≡ m.fixups

pub record Whole (m : Object) (all : List Lines) (r : Read) : Type 0 where
  pub parts : Parts m r
  pub lines : r.lines ≡ all

module _ (m : Object) (file : List ℕ) (all : List Lines) (has : m.lines ≡ Some all) (sound : list_all (line_is_sound m.segments) all ≡ true) (ordered : lines_in_order all ≡ true) (narrow : list_all line_fits all ≡ true) where
  record Opened (o : Lines) (os ls : List Lines) (r : Read) : Type 0 where
    pub parts : Parts m r
    pub lines : r.lines ++ (o ∷ (os ++ ls)) ≡ all
    pub same : list_all (λ k. k.piece == o.piece) (o ∷ os) ≡ true
    pub few : length (o ∷ os) ≤ 1024
    pub begins : block_falls (last_of r.lines) r.block o.piece ≡ false

  -- the record that is open
  block_on : (n at : ℕ) (r : Read) (o : Lines) (os ls : List Lines) (rest : List ℕ) (Q : Read → Type 0) → drop at file ≡ block_record (o ∷ os) ++ rest → length (block_record (o ∷ os) ++ rest) < n → Opened o os ls r
      → Q (record r { stage = 7; lines = r.lines ++ o ∷ os; block = length (o ∷ os) }) → Came file rest n at r Q
  unfolding lines_in_order
  block_on n at r o os ls rest Q is fuel h holds =
      let here_sound = all_first (line_is_sound m.segments) (o ∷ os) ls (all_second (line_is_sound m.segments) r.lines (o ∷ (os ++ ls)) (ap (list_all (line_is_sound m.segments)) h.lines ∙ sound)) in
      let here_narrow = all_first line_fits (o ∷ os) ls (all_second line_fits r.lines (o ∷ (os ++ ls)) (ap (list_all line_fits) h.lines ∙ narrow)) in
      let shape : (r.lines ++ o ∷ os) ++ ls ≡ all = append_assoc r.lines (o ∷ os) ls ∙ h.lines in
      let here_ordered : lines_in_order (r.lines ++ o ∷ os) ≡ true = ordered_prefix line_follows lines_in_order refl (λ x. refl) (λ x y xs. refl) (r.lines ++ o ∷ os) ls (ap lines_in_order shape ∙ ordered) in
      let fits_o = (and_parts (line_fits o) (list_all line_fits os) here_narrow).0 in
      let low : o.piece < 0x10000 = ltb-true o.piece 0x10000 (and_parts (nat_lt o.piece 0x10000) (nat_lt o.offset 0x10000) (and_parts (nat_lt o.piece 0x10000 && nat_lt o.offset 0x10000) (nat_lt o.line 0x100000000) fits_o).0).0 in
      let entered = record r { stage = 7 } in
      let body = word_bytes o.piece ++ flat_map entry_bytes (o ∷ os) in
      let forth = block_forth (at + 3) entered o os o.piece h.parts.fault low h.same (ap (λ ss. list_all (line_is_sound ss) (o ∷ os)) h.parts.segments ∙ here_sound) here_narrow here_ordered h.few h.begins in
      let known : r.has_lines ≡ true = h.parts.has_lines ∙ ap is_some has in
      one_on file n at r 0x07 body rest Q (record r { stage = 7; lines = r.lines ++ o ∷ os; block = length (o ∷ os) }) is fuel (omega (arith, forth.size, h.few)) (comes_later r 0x07 h.parts.begun refl h.parts.stage (ap (λ b. b || false) known)) forth.fit refl forth.read holds

  joins : (o l : Lines) (os : List Lines) → takes_entry (o ∷ os) l ≡ true → ((l.piece == o.piece) ≡ true) × (length (o ∷ os) < 1024)
  joins o l os h =
      let both = and_parts (o.piece == l.piece) (nat_lt (length (o ∷ os)) 1024) h in
      (eq-eqb l.piece o.piece (sym (eqb-true o.piece l.piece both.0)), ltb-true (length (o ∷ os)) 1024 both.1)

  begins_plain : (b o l n : ℕ) (rest : Bool) → n ≤ 1024 → (b == o) ≡ true → ((o == l) && nat_lt n 1024) ≡ false → (nat_lt b l || ((b == l) && rest)) ≡ true → (nat_lt l b || ((b == l) && not (n == 1024))) ≡ false
  begins_plain b o l n true le same stops follows = grind (arith, nat_tests)
  begins_plain b o l n false le same stops follows = grind (arith, nat_tests)

  next_begins : (lines : List Lines) (o : Lines) (os : List Lines) (l : Lines) (ls : List Lines) → lines_in_order (lines ++ o ∷ os ++ l ∷ ls) ≡ true → list_all (λ k. k.piece == o.piece) (o ∷ os) ≡ true → length (o ∷ os) ≤ 1024 → takes_entry (o ∷ os) l ≡ false → block_falls (last_of (lines ++ o ∷ os)) (length (o ∷ os)) l.piece ≡ false
  unfolding lines_in_order
  next_begins lines o os l ls in_order same few stops =
      let last = last_passes (λ (k : Lines). k.piece == o.piece) o os same in
      let here : last_of (lines ++ o ∷ os) ≡ Some last.0 = last_append lines o os ∙ last.1 in
      let after : AfterLast line_follows (Some last.0) l = subst (λ (b : Option Lines). AfterLast line_follows b l) here (ordered_last line_follows lines_in_order refl (λ x y xs. refl) (lines ++ o ∷ os) l ls in_order) in
      ap (λ b. block_falls b (length (o ∷ os)) l.piece) here ∙ begins_plain last.0.piece o.piece l.piece (length (o ∷ os)) (nat_lt last.0.offset l.offset) few last.2 stops after

  blocks_on : (ls : List Lines) (n at : ℕ) (r : Read) (o : Lines) (os : List Lines) (rest : List ℕ) → drop at file ≡ block_records (o ∷ os) ls ++ rest → length (block_records (o ∷ os) ls ++ rest) < n → Opened o os ls r → Came file rest n at r (Whole m all)
  unfolding block_records
  blocks_on [] n at r o os rest is fuel h =
      block_on n at r o os [] rest (Whole m all) is fuel h
      (record {
        parts = record { begun = omega arith; stage = omega arith; fault = h.parts.fault; name = h.parts.name; has_lines = h.parts.has_lines; segments = h.parts.segments; externals = h.parts.externals; publics = h.parts.publics; contents = h.parts.contents; fixups = h.parts.fixups };
        lines = ap (λ (t : List Lines). r.lines ++ o ∷ t) (sym (append-nil os)) ∙ h.lines;
      })
  blocks_on (l ∷ ls) n at r o os rest is fuel h =
      elim (takes_entry (o ∷ os) l) as (λ b. takes_entry (o ∷ os) l ≡ b → drop at file ≡ cond b (block_records ((o ∷ os) ++ l ∷ []) ls) (block_record (o ∷ os) ++ block_records (l ∷ []) ls) ++ rest
      → length (cond b (block_records ((o ∷ os) ++ l ∷ []) ls) (block_record (o ∷ os) ++ block_records (l ∷ []) ls) ++ rest) < n → Came file rest n at r (Whole m all)) [
        | true ↦ λ e i f.
            let j = joins o l os e in
            blocks_on ls n at r o (os ++ l ∷ []) rest i f
            (record {
              parts = h.parts;
              lines = ap (λ (t : List Lines). r.lines ++ o ∷ t) (append_assoc os (l ∷ []) ls) ∙ h.lines;
              same = all_push (λ k. k.piece == o.piece) (o ∷ os) l h.same j.0;
              few = omega (arith, length-append os (l ∷ []), j.1);
              begins = h.begins;
            })
        | false ↦ λ e i f.
            let shape : (block_record (o ∷ os) ++ block_records (l ∷ []) ls) ++ rest ≡ block_record (o ∷ os) ++ (block_records (l ∷ []) ls ++ rest) = append_assoc (block_record (o ∷ os)) (block_records (l ∷ []) ls) rest in
            let lines : (r.lines ++ o ∷ os) ++ l ∷ ls ≡ all = append_assoc r.lines (o ∷ os) (l ∷ ls) ∙ h.lines in
            let first = block_on n at r o os (l ∷ ls) (block_records (l ∷ []) ls ++ rest) (Opened l [] ls) (i ∙ shape) (omega (arith, ap length shape, f)) h
            (record {
              parts = record { begun = omega arith; stage = omega arith; fault = h.parts.fault; name = h.parts.name; has_lines = h.parts.has_lines; segments = h.parts.segments; externals = h.parts.externals; publics = h.parts.publics; contents = h.parts.contents; fixups = h.parts.fixups };
              lines = lines;
              same = and_from (l.piece == l.piece) true (eq-eqb l.piece l.piece refl) refl;
              few = omega arith;
              begins = next_begins r.lines o os l ls (ap lines_in_order lines ∙ ordered) h.same h.few e;
            }) in
            let later = blocks_on ls first.more first.place first.now l [] rest first.rest_is first.fuel first.holds in
            record { more = later.more; place = later.place; now = later.now; same = first.same ∙ later.same; rest_is = later.rest_is; fuel = later.fuel; holds = later.holds }
      ] refl is fuel

-- ---- line entries from the first on

pub lines_on : (m : Object) (file : List ℕ) (all : List Lines) → m.lines ≡ Some all → list_all (line_is_sound m.segments) all ≡ true → lines_in_order all ≡ true → list_all line_fits all ≡ true
    → (n at : ℕ) (r : Read) (rest : List ℕ) → drop at file ≡ block_records [] all ++ rest → length (block_records [] all ++ rest) < n → Parts m r → r.lines ≡ [] → Came file rest n at r (Whole m all)
unfolding block_records
lines_on m file [] has sound ordered narrow n at r rest is fuel parts none = record { more = n; place = at; now = r; same = refl; rest_is = is; fuel = fuel; holds = record { parts = parts; lines = none } }
lines_on m file (l ∷ ls) has sound ordered narrow n at r rest is fuel parts none =
    blocks_on m file (l ∷ ls) has sound ordered narrow ls n at r l [] rest is fuel
    (record {
      parts = parts;
      lines = ap (λ (t : List Lines). t ++ l ∷ ls) none;
      same = and_from (l.piece == l.piece) true (eq-eqb l.piece l.piece refl) refl;
      few = omega arith;
      begins = ap (λ (t : List Lines). block_falls (last_of t) r.block l.piece) none;
    })

-- ---- the end

end_on : (file : List ℕ) (n at : ℕ) (r : Read) (m : Object) → drop at file ≡ record_bytes 0x7F [] → 0 < n → 1 ≤ r.stage → r.stage ≤ 7 → r.fault ≡ None → all_kept r.publics r.fixups 0 r.segments ≡ true → object_read r ≡ m → read_on first_fault n file at r ≡ Ok m
unfolding read_on
end_on file zero at r m is fuel begun stage none kept object = absurd (omega arith)
end_on file (suc n) at r m is fuel begun stage none kept object =
    let kept_all = all_kept r.publics r.fixups 0 r.segments in
    let clear : (cond (is_none r.fault && not kept_all) (Some (first_of_both r.fault (fault_at at 4))) r.fault) ≡ None =
    ap (λ f. cond (is_none f && not kept_all) (Some (first_of_both f (fault_at at 4))) f) none ∙ ap (λ b. cond (not b) (Some (fault_at at 4)) None) kept in
    ap (λ t. typed first_fault (read_on first_fault n file) file at t r) is
    ∙ record_on (read_on first_fault n file) file at r 0x7F [] [] (omega arith) (comes_later r 0x7F begun refl (omega arith) (either r.has_lines)) refl
    ∙ (λ i. reported (clear i) (object i))
  where
    either : (b : Bool) → (b || true) ≡ true
    either true = refl
    either false = refl

-- ---- the whole file

module _ (m : Object) (sound : is_module m ≡ true) (numbers : numbers_fit m ≡ true) where
  abbrev a : Bool
  a = is_name m.name

  abbrev b : Bool
  b = segments_are_sound m.segments m.publics m.fixups

  abbrev c : Bool
  c = externals_are_sound m.externals

  abbrev d : Bool
  d = publics_are_sound (length m.segments) m.publics

  abbrev e : Bool
  e = contents_are_sound m.segments m.contents

  abbrev f : Bool
  f = fixups_are_sound m.segments m.externals m.contents m.fixups

  abbrev g : Bool
  g = lines_are_sound m.segments m.lines

  seven : (a ≡ true) × (b ≡ true) × (c ≡ true) × (d ≡ true) × (e ≡ true) × (f ≡ true) × (g ≡ true)
  seven =
      let p6 = and_parts (a && b && c && d && e && f) g sound in
      let p5 = and_parts (a && b && c && d && e) f p6.0 in
      let p4 = and_parts (a && b && c && d) e p5.0 in
      let p3 = and_parts (a && b && c) d p4.0 in
      let p2 = and_parts (a && b) c p3.0 in
      let p1 = and_parts a b p2.0 in
      (p1.0, p1.1, p2.1, p3.1, p4.1, p5.1, p6.1)

  pub all_are_kept : all_kept m.publics m.fixups 0 m.segments ≡ true
  all_are_kept = (and_parts (list_all is_placed m.segments && segments_in_order m.segments) (all_kept m.publics m.fixups 0 m.segments) seven.1).1

  pub lines_sound : lines_are_sound m.segments m.lines ≡ true
  lines_sound = seven.6

  abbrev n1 : Bool
  n1 = list_all (λ s. nat_lt s.length 0x10000) m.segments

  abbrev n2 : Bool
  n2 = list_all (λ g. nat_lt g.value 0x10000) m.publics

  abbrev n3 : Bool
  n3 = list_all (λ c. nat_lt c.piece 0x10000 && nat_lt c.offset 0x10000) m.contents

  abbrev n4 : Bool
  n4 = list_all fixup_fits m.fixups

  five : (n1 ≡ true) × (n2 ≡ true) × (n3 ≡ true) × (n4 ≡ true) × (lines_fit m.lines ≡ true)
  five =
      let p4 = and_parts (n1 && n2 && n3 && n4) (lines_fit m.lines) numbers in
      let p3 = and_parts (n1 && n2 && n3) n4 p4.0 in
      let p2 = and_parts (n1 && n2) n3 p3.0 in
      let p1 = and_parts n1 n2 p2.0 in
      (p1.0, p1.1, p2.1, p3.1, p4.1)

  pub lines_narrow : lines_fit m.lines ≡ true
  lines_narrow = five.4

  pub sound_parts : Sound m
  sound_parts =
      let s2 = and_parts (list_all is_placed m.segments && segments_in_order m.segments) (all_kept m.publics m.fixups 0 m.segments) seven.1 in
      let s1 = and_parts (list_all is_placed m.segments) (segments_in_order m.segments) s2.0 in
      let p1 = and_parts (list_all (given_is_sound (length m.segments)) m.publics) (publics_in_order m.publics) seven.3 in
      let c1 = and_parts (list_all (content_is_sound m.segments) m.contents) (contents_in_order m.contents) seven.4 in
      let f2 = and_parts (list_all (fixup_is_sound m.segments m.externals) m.fixups && fixups_in_order m.fixups) (list_all (has_room m.contents) m.fixups) seven.5 in
      let f1 = and_parts (list_all (fixup_is_sound m.segments m.externals) m.fixups) (fixups_in_order m.fixups) f2.0 in
      record {
        name = seven.0;
        placed = s1.0;
        pieces_ordered = s1.1;
        pieces_narrow = five.0;
        externals = seven.2;
        publics = p1.0;
        publics_ordered = p1.1;
        publics_narrow = five.1;
        contents = c1.0;
        contents_ordered = c1.1;
        contents_narrow = five.2;
        fixups = f1.0;
        fixups_ordered = f1.1;
        fixups_narrow = five.3;
        room = f2.1;
      }

-- the first record
version_known : (lines : Option (List Lines)) → ((version_of lines ≡ 1) ⊎ (version_of lines ≡ 2)) × (not (version_of lines == 1) ≡ is_some lines)
version_known None = (inl refl, refl)
version_known (Some ls) = (inr refl, refl)

first_on : (file : List ℕ) (n : ℕ) (m : Object) (rest : List ℕ) → is_name m.name ≡ true → file ≡ record_bytes 0x01 (head_body m) ++ rest → length (record_bytes 0x01 (head_body m) ++ rest) < n → Came file rest n 0 nothing_read (Has m file 2 m.segments m.externals m.publics m.contents m.fixups)
first_on file n m rest name is fuel =
    let v = version_of m.lines in
    let known = version_known m.lines in
    let forth : NameForth false m.name [] = name_forth false m.name [] name refl in
    let again : name_at (name_bytes m.name) ≡ m.name = ap name_at (sym (append-nil (name_bytes m.name))) ∙ forth.again in
    let size : length (head_body m) ≡ 1 + slice_index (head_body m) 1 + 1 + 0 = omega (arith, forth.size) in
    let clear = head_forth 3 v m.name None known.0 name refl in
    one_on file n 0 nothing_read 0x01 (head_body m) rest (Has m file 2 m.segments m.externals m.publics m.contents m.fixups) (record nothing_read { stage = 1; name = m.name; has_lines = is_some m.lines }) is fuel (omega (arith, forth.short)) refl (fits_name_forth 1 0 (head_body m) rest size) refl
    (λ i. record nothing_read { stage = 1; name = again i; has_lines = known.1 i; fault = clear i })
    (record { begun = omega arith; stage = omega arith; fault = refl; name = refl; has_lines = refl; segments = refl; externals = refl; publics = refl; contents = refl; fixups = refl; lines = refl; block = refl; hold = hold_none file; starts = refl })

wider : (m : Object) (file : List ℕ) (low high : ℕ) (ss : List Segment) (es : List Taken) (ps : List Given) (cs : List Content) (fs : List Fixup) (r : Read) → low ≤ high → Has m file low ss es ps cs fs r → Has m file high ss es ps cs fs r
wider m file low high ss es ps cs fs r le h =
    record { begun = h.begun; stage = omega (arith, h.stage); fault = h.fault; name = h.name; has_lines = h.has_lines; segments = h.segments; externals = h.externals; publics = h.publics; contents = h.contents; fixups = h.fixups; lines = h.lines; block = h.block; hold = h.hold; starts = h.starts }

regroup : (h s e p c f l z : List ℕ) → h ++ s ++ e ++ p ++ c ++ f ++ l ++ z ≡ h ++ (s ++ (e ++ (p ++ (c ++ (f ++ (l ++ z))))))
regroup h s e p c f l z = simp append_assoc

parts_of : (m : Object) (file : List ℕ) (r : Read) → Has m file 6 [] [] [] [] [] r → Parts m r
parts_of m file r h =
    record { begun = h.begun; stage = omega (arith, h.stage); fault = h.fault; name = h.name; has_lines = h.has_lines; segments = sym (append-nil r.segments) ∙ h.segments; externals = sym (append-nil r.externals) ∙ h.externals; publics = sym (append-nil r.publics) ∙ h.publics; contents = sym (append-nil r.contents) ∙ h.contents; fixups = sym (append-nil r.fixups) ∙ h.fixups }

end_parts : (m : Object) (file : List ℕ) (n at : ℕ) (r : Read) → Parts m r → all_kept m.publics m.fixups 0 m.segments ≡ true → cond r.has_lines (Some r.lines) None ≡ m.lines → drop at file ≡ record_bytes 0x7F [] → 0 < n → read_on first_fault n file at r ≡ Ok m
end_parts m file n at r parts kept lines is fuel =
    end_on file n at r m is fuel parts.begun parts.stage parts.fault ((λ i. all_kept (parts.publics i) (parts.fixups i) 0 (parts.segments i)) ∙ kept)
    (λ i. record { name = parts.name i; segments = parts.segments i; externals = parts.externals i; publics = parts.publics i; contents = parts.contents i; fixups = parts.fixups i; lines = lines i })

-- line entries and the end
lines_end : (m : Object) (file : List ℕ) (lines : Option (List Lines)) → m.lines ≡ lines → lines_are_sound m.segments lines ≡ true → lines_fit lines ≡ true → all_kept m.publics m.fixups 0 m.segments ≡ true
    → (n at : ℕ) (r : Read) → Parts m r → r.lines ≡ [] → drop at file ≡ line_records lines ++ record_bytes 0x7F [] → length (line_records lines ++ record_bytes 0x7F []) < n → read_on first_fault n file at r ≡ Ok m
lines_end m file None has sound narrow kept n at r parts none is fuel =
    end_parts m file n at r parts kept (ap (λ q. cond q (Some r.lines) None) (parts.has_lines ∙ ap is_some has) ∙ sym has) is (omega arith)
lines_end m file (Some all) has sound narrow kept n at r parts none is fuel =
    let both = and_parts (list_all (line_is_sound m.segments) all) (lines_in_order all) sound in
    let last = lines_on m file all has both.0 both.1 narrow n at r (record_bytes 0x7F []) is fuel parts none in
    last.same ∙ end_parts m file last.more last.place last.now last.holds.parts kept (ap (λ q. cond q (Some last.now.lines) None) (last.holds.parts.has_lines ∙ ap is_some has) ∙ ap (λ (t : List Lines). Some t) last.holds.lines ∙ sym has) last.rest_is (omega (arith, last.fuel))

-- from the records of each type on (file: the whole file)
module _ (m : Object) (module_sound : is_module m ≡ true) (numbers : numbers_fit m ≡ true) (file : List ℕ) where
  abbrev sound : Sound m
  sound = sound_parts m module_sound numbers

  abbrev ReadOn : ℕ → ℕ → Read → Type 0
  ReadOn n at r = read_on first_fault n file at r ≡ Ok m

  -- what is left of the file
  abbrev Left : ℕ → ℕ → List ℕ → Type 0
  Left n at rest = (drop at file ≡ rest) × (length rest < n)

  from_lines : (n at : ℕ) (r : Read) → Has m file 6 [] [] [] [] [] r → Left n at (line_records m.lines ++ record_bytes 0x7F []) → ReadOn n at r
  from_lines n at r h left = lines_end m file m.lines refl (lines_sound m module_sound numbers) (lines_narrow m module_sound numbers) (all_are_kept m module_sound numbers) n at r (parts_of m file r h) h.lines left.0 left.1

  from_fixups : (rest : List ℕ) → ((n at : ℕ) (r : Read) → Has m file 6 [] [] [] [] [] r → Left n at rest → ReadOn n at r)
      → (n at : ℕ) (r : Read) → Has m file 5 [] [] [] [] m.fixups r → Left n at (flat_map fixup_record m.fixups ++ rest) → ReadOn n at r
  from_fixups rest later n at r h left =
      let came = list_on file fixup_record (Numbers m file sound) (number_on m file sound) m.fixups rest n at r left.0 left.1 (wider m file 5 6 [] [] [] [] m.fixups r (omega arith) h) in
      came.same ∙ later came.more came.place came.now came.holds (came.rest_is, came.fuel)

  from_runs : (rest : List ℕ) → ((n at : ℕ) (r : Read) → Has m file 5 [] [] [] [] m.fixups r → Left n at rest → ReadOn n at r)
      → (n at : ℕ) (r : Read) → Has m file 4 [] [] [] m.contents m.fixups r → Left n at (flat_map content_record m.contents ++ rest) → ReadOn n at r
  from_runs rest later n at r h left =
      let came = list_on file content_record (Runs m file sound) (run_on m file sound) m.contents rest n at r left.0 left.1 (wider m file 4 5 [] [] [] m.contents m.fixups r (omega arith) h) in
      came.same ∙ later came.more came.place came.now came.holds (came.rest_is, came.fuel)

  from_publics : (rest : List ℕ) → ((n at : ℕ) (r : Read) → Has m file 4 [] [] [] m.contents m.fixups r → Left n at rest → ReadOn n at r)
      → (n at : ℕ) (r : Read) → Has m file 3 [] [] m.publics m.contents m.fixups r → Left n at (flat_map given_record m.publics ++ rest) → ReadOn n at r
  from_publics rest later n at r h left =
      let came = list_on file given_record (Publics m file sound) (public_on m file sound) m.publics rest n at r left.0 left.1 (wider m file 3 4 [] [] m.publics m.contents m.fixups r (omega arith) h) in
      came.same ∙ later came.more came.place came.now came.holds (came.rest_is, came.fuel)

  from_externals : (rest : List ℕ) → ((n at : ℕ) (r : Read) → Has m file 3 [] [] m.publics m.contents m.fixups r → Left n at rest → ReadOn n at r)
      → (n at : ℕ) (r : Read) → Has m file 2 [] m.externals m.publics m.contents m.fixups r → Left n at (flat_map taken_record m.externals ++ rest) → ReadOn n at r
  from_externals rest later n at r h left =
      let came = list_on file taken_record (Externals m file sound) (external_on m file sound) m.externals rest n at r left.0 left.1 (wider m file 2 3 [] m.externals m.publics m.contents m.fixups r (omega arith) h) in
      came.same ∙ later came.more came.place came.now came.holds (came.rest_is, came.fuel)

  from_pieces : (rest : List ℕ) → ((n at : ℕ) (r : Read) → Has m file 2 [] m.externals m.publics m.contents m.fixups r → Left n at rest → ReadOn n at r)
      → (n at : ℕ) (r : Read) → Has m file 2 m.segments m.externals m.publics m.contents m.fixups r → Left n at (flat_map segment_record m.segments ++ rest) → ReadOn n at r
  from_pieces rest later n at r h left =
      let came = list_on file segment_record (Pieces m file sound) (piece_on m file sound) m.segments rest n at r left.0 left.1 h in
      came.same ∙ later came.more came.place came.now came.holds (came.rest_is, came.fuel)

  from_head : (rest : List ℕ) → ((n at : ℕ) (r : Read) → Has m file 2 m.segments m.externals m.publics m.contents m.fixups r → Left n at rest → ReadOn n at r)
      → (n : ℕ) → Left n 0 (record_bytes 0x01 (head_body m) ++ rest) → ReadOn n 0 nothing_read
  from_head rest later n left =
      let came = first_on file n m rest sound.name left.0 left.1 in
      came.same ∙ later came.more came.place came.now came.holds (came.rest_is, came.fuel)

  read_again : file ≡ spelling m → ReadOn (suc (length file)) 0 nothing_read
  read_again is =
      let e = line_records m.lines ++ record_bytes 0x7F [] in
      let f = flat_map fixup_record m.fixups ++ e in
      let c = flat_map content_record m.contents ++ f in
      let p = flat_map given_record m.publics ++ c in
      let t = flat_map taken_record m.externals ++ p in
      let s = flat_map segment_record m.segments ++ t in
      let shape : file ≡ record_bytes 0x01 (head_body m) ++ s = is ∙ regroup (record_bytes 0x01 (head_body m)) (flat_map segment_record m.segments) (flat_map taken_record m.externals) (flat_map given_record m.publics) (flat_map content_record m.contents) (flat_map fixup_record m.fixups) (line_records m.lines) (record_bytes 0x7F []) in
      from_head s (from_pieces t (from_externals p (from_publics c (from_runs f (from_fixups e from_lines))))) (suc (length file)) (shape, omega (arith, ap length shape))

pub spelled_decoded : (bytes : List ℕ) (m : Object) → IsSpelled bytes m → answer_of bytes ≡ Ok m
spelled_decoded bytes m h =
    ap (λ n. read_on first_fault n bytes 0 nothing_read) (add-one (length bytes)) ∙ read_again m h.sound h.numbers bytes (sym h.spelled)
