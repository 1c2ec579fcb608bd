-- What was read so far without a fault: it keeps the rules, and is spelled by what stands in front.
use Rattle.std.proofs.Common.{◌≡◌, ℕ, ◌+◌, ◌<◌, ◌≤◌, ◌⊎◌, inl, inr, Bool, true, false, not, ◌&&◌, cond, List, [], ◌∷◌, ◌++◌, length, take, drop, length-append, append_assoc, Some, None, refl, sym, ap, ◌∙◌, subst, arith}
use Rattle.std.specs.Prelude.{slice_index, slice_get, nat_lt, nat_le, ◌==◌}
use Rattle.std.specs.List.{list_all, flat_map}
use Rattle.std.proofs.lemmas.Bool.{and_parts, or_parts, leb-true}
use Rattle.std.proofs.lemmas.Bool.Decides.{nat_tests}
use Rattle.std.proofs.lemmas.List.{append-nil, length-drop}
use Rattle.std.proofs.lemmas.List.Concat.{flat_map-append}
use Rattle.kc_obj_module.specs.declared.parts.Lines.{Lines}
use Rattle.kc_obj_module.specs.Object.{Object}
use Rattle.kc_obj_module.specs.Names.{is_name, is_below}
use Rattle.kc_obj_module.specs.Pieces.{is_placed, segment_follows, segments_in_order}
use Rattle.kc_obj_module.specs.Rules.{given_is_sound, publics_in_order}
use Rattle.kc_obj_module.specs.Contents.{content_is_sound, content_follows, contents_in_order}
use Rattle.kc_obj_module.specs.Fixups.{fixup_is_sound, fixup_follows, fixups_in_order, has_room}
use Rattle.kc_obj_module.specs.LineEntries.{line_is_sound, lines_in_order}
use Rattle.kc_obj_module.specs.Spelling.{record_bytes, name_bytes, version_of, head_body, segment_record, taken_record, given_record, content_record, fixup_record, block_records, line_records}
use Rattle.kc_base.specs.Bytes.{IsBytes}
use Rattle.kc_obj_module.specs.Widths.{fixup_fits, line_fits}
use Rattle.kc_obj_fields.specs.Fields.{word_at, name_at, noted}
use Rattle.kc_obj_fields.specs.Records.{segment_at, taken_at, given_at, run_at, fixup_at}
use Rattle.kc_obj.specs.Reading.{Read, object_read, stage_of, at_stage, fits_lines, nothing_read, after_head, after_segment, after_taken, after_given, after_run, after_fixup, after_block, first_fault}
use Rattle.kc_obj_fields.specs.Fields.{last_of}
use Rattle.kc_obj.proofs.Clear.{head_clear, piece_clear, external_clear, public_clear}
use Rattle.kc_obj.proofs.ClearCode.{PlacesHold, run_clear, number_clear}
use Rattle.kc_obj.proofs.ClearLines.{block_clear}
use Rattle.kc_obj.proofs.Blocks.{opened_of, OpenIs, one_more}
use Rattle.kc_obj.proofs.Order.{ordered_push, all_push, all_append}
use Rattle.kc_obj.proofs.Holding.{get_drop, get_take, hold_none, hold_push}

-- ---- records one after the other

abbrev pub joined : List ℕ → List ℕ → List ℕ → List ℕ → List ℕ → List ℕ → List ℕ → List ℕ
joined h a b c d e l = h ++ a ++ b ++ c ++ d ++ e ++ l

pub push_a : (h a b c d e l x : List ℕ) → b ≡ [] → c ≡ [] → d ≡ [] → e ≡ [] → l ≡ [] → joined h (a ++ x) b c d e l ≡ joined h a b c d e l ++ x
push_a h a b c d e l x hb hc hd he hl = rw (hb, hc, hd, he, hl) (simp (append_assoc, append-nil))

pub push_b : (h a b c d e l x : List ℕ) → c ≡ [] → d ≡ [] → e ≡ [] → l ≡ [] → joined h a (b ++ x) c d e l ≡ joined h a b c d e l ++ x
push_b h a b c d e l x hc hd he hl = rw (hc, hd, he, hl) (simp (append_assoc, append-nil))

pub push_c : (h a b c d e l x : List ℕ) → d ≡ [] → e ≡ [] → l ≡ [] → joined h a b (c ++ x) d e l ≡ joined h a b c d e l ++ x
push_c h a b c d e l x hd he hl = rw (hd, he, hl) (simp (append_assoc, append-nil))

pub push_d : (h a b c d e l x : List ℕ) → e ≡ [] → l ≡ [] → joined h a b c (d ++ x) e l ≡ joined h a b c d e l ++ x
push_d h a b c d e l x he hl = rw (he, hl) (simp (append_assoc, append-nil))

pub push_e : (h a b c d e l x : List ℕ) → l ≡ [] → joined h a b c d (e ++ x) l ≡ joined h a b c d e l ++ x
push_e h a b c d e l x hl = rw hl (simp (append_assoc, append-nil))

pub flat_push : {X : Type 0} (f : X → List ℕ) (xs : List X) (x : X) → flat_map f (xs ++ x ∷ []) ≡ flat_map f xs ++ f x
flat_push f xs x = flat_map-append f xs (x ∷ []) ∙ ap (λ (t : List ℕ). flat_map f xs ++ t) (append-nil (f x))

pub no_lines : (b : Bool) (ls : List Lines) → ls ≡ [] → line_records (cond b (Some ls) None) ≡ []
unfolding block_records
no_lines true ls h = rw h refl
no_lines false ls h = refl

-- the records of a module, without the end
abbrev pub prefix_of : Object → List ℕ
prefix_of m =
    joined (record_bytes 0x01 (head_body m)) (flat_map segment_record m.segments) (flat_map taken_record m.externals) (flat_map given_record m.publics)
    (flat_map content_record m.contents) (flat_map fixup_record m.fixups) (line_records m.lines)

pub lines_spelled : (name s e p c f : List ℕ) (b : Bool) (ls new : List Lines) (whole x : List ℕ) → b ≡ true → block_records [] (ls ++ new) ≡ block_records [] ls ++ x
    → joined (record_bytes 0x01 (version_of (cond b (Some ls) None) ∷ name_bytes name)) s e p c f (line_records (cond b (Some ls) None)) ≡ whole
    → joined (record_bytes 0x01 (version_of (cond b (Some (ls ++ new)) None) ∷ name_bytes name)) s e p c f (line_records (cond b (Some (ls ++ new)) None)) ≡ whole ++ x
lines_spelled name s e p c f true ls new whole x h records spelled =
    let prefix = record_bytes 0x01 (2 ∷ name_bytes name) ++ s ++ e ++ p ++ c ++ f in
    ap (λ (t : List ℕ). prefix ++ t) records ∙ sym (append_assoc prefix (block_records [] ls) x) ∙ ap (λ (t : List ℕ). t ++ x) spelled
lines_spelled name s e p c f false ls new whole x h records spelled = absurd (cc h)

-- an entry that does not go on with the last record
stops : (q p f k : ℕ) → ((q == p) && not (k == 1024)) ≡ false → (f == p) ≡ true → ((q == f) && nat_lt k 1024) ≡ false
stops q p f k h e = grind (arith, nat_tests)

-- ---- what was read

pub record Rules (r : Read) : Type 0 where
  pub name : is_name r.name ≡ true
  pub placed : list_all is_placed r.segments ≡ true
  pub pieces_ordered : segments_in_order r.segments ≡ true
  pub pieces_narrow : list_all (λ s. nat_lt s.length 0x10000) r.segments ≡ true
  pub externals : list_all (λ t. is_name t.name) r.externals ≡ true
  pub publics : list_all (given_is_sound (length r.segments)) r.publics ≡ true
  pub publics_ordered : publics_in_order r.publics ≡ true
  pub publics_narrow : list_all (λ g. nat_lt g.value 0x10000) r.publics ≡ true
  pub contents : list_all (content_is_sound r.segments) r.contents ≡ true
  pub contents_ordered : contents_in_order r.contents ≡ true
  pub contents_narrow : list_all (λ c. nat_lt c.piece 0x10000 && nat_lt c.offset 0x10000) r.contents ≡ true
  pub fixups : list_all (fixup_is_sound r.segments r.externals) r.fixups ≡ true
  pub fixups_ordered : fixups_in_order r.fixups ≡ true
  pub fixups_narrow : list_all fixup_fits r.fixups ≡ true
  pub room : list_all (has_room r.contents) r.fixups ≡ true
  pub lines : list_all (line_is_sound r.segments) r.lines ≡ true
  pub lines_ordered : lines_in_order r.lines ≡ true
  pub lines_narrow : list_all line_fits r.lines ≡ true

-- nothing of a later type was read
pub record Later (r : Read) : Type 0 where
  pub externals : r.stage < 3 → r.externals ≡ []
  pub publics : r.stage < 4 → r.publics ≡ []
  pub contents : r.stage < 5 → r.contents ≡ []
  pub fixups : r.stage < 6 → r.fixups ≡ []
  pub lines : r.stage < 7 → r.lines ≡ []

pub record Good (file : List ℕ) (at : ℕ) (r : Read) : Type 0 where
  pub begun : 1 ≤ r.stage
  pub fault : r.fault ≡ None
  pub rules : Rules r
  pub later : Later r
  pub spelled : prefix_of (object_read r) ≡ take at file
  pub hold : PlacesHold file r.contents r.starts
  pub starts : length r.contents ≡ length r.starts
  pub block : OpenIs r.lines r.block

-- ---- one more part

module _ (file : List ℕ) (at to base : ℕ) (body : List ℕ) (r : Read) (good : Good file at r) (bytes : IsBytes body) where
  abbrev rules : Rules r
  rules = good.rules

  pub segment_good : r.stage ≡ 2 → length body ≡ 6 → take to file ≡ take at file ++ record_bytes 0x02 body → (after_segment noted base body r).fault ≡ None → Good file to (after_segment noted base body r)
  unfolding segments_in_order
  segment_good stage len next clear =
      let here = piece_clear base (last_of r.segments) body r.fault len bytes clear in
      let no_externals : r.externals ≡ [] = good.later.externals (omega arith) in
      let no_publics : r.publics ≡ [] = good.later.publics (omega arith) in
      let no_contents : r.contents ≡ [] = good.later.contents (omega arith) in
      let no_fixups : r.fixups ≡ [] = good.later.fixups (omega arith) in
      let none : r.lines ≡ [] = good.later.lines (omega arith) in
      let s = segment_at body in
      let segments = r.segments ++ s ∷ [] in
      let m = object_read r in
      record {
        begun = good.begun;
        fault = clear;
        rules = record {
          name = rules.name;
          placed = all_push is_placed r.segments s rules.placed here.1.placed;
          pieces_ordered = ordered_push segment_follows segments_in_order (λ x. refl) (λ x y xs. refl) r.segments s rules.pieces_ordered here.1.follows;
          pieces_narrow = all_push (λ s. nat_lt s.length 0x10000) r.segments s rules.pieces_narrow here.1.narrow;
          externals = rules.externals;
          publics = ap (list_all (given_is_sound (length segments))) no_publics;
          publics_ordered = rules.publics_ordered;
          publics_narrow = rules.publics_narrow;
          contents = ap (list_all (content_is_sound segments)) no_contents;
          contents_ordered = rules.contents_ordered;
          contents_narrow = rules.contents_narrow;
          fixups = ap (list_all (fixup_is_sound segments r.externals)) no_fixups;
          fixups_ordered = rules.fixups_ordered;
          fixups_narrow = rules.fixups_narrow;
          room = rules.room;
          lines = ap (list_all (line_is_sound segments)) none;
          lines_ordered = rules.lines_ordered;
          lines_narrow = rules.lines_narrow;
        };
        later = record { externals = good.later.externals; publics = good.later.publics; contents = good.later.contents; fixups = good.later.fixups; lines = good.later.lines };
        spelled =
            ap (λ t. joined (record_bytes 0x01 (head_body m)) t (flat_map taken_record r.externals) (flat_map given_record r.publics) (flat_map content_record r.contents) (flat_map fixup_record r.fixups) (line_records m.lines)) (flat_push segment_record r.segments s)
            ∙ push_a (record_bytes 0x01 (head_body m)) (flat_map segment_record r.segments) (flat_map taken_record r.externals) (flat_map given_record r.publics) (flat_map content_record r.contents) (flat_map fixup_record r.fixups) (line_records m.lines) (segment_record s)
            (ap (flat_map taken_record) no_externals) (ap (flat_map given_record) no_publics) (ap (flat_map content_record) no_contents) (ap (flat_map fixup_record) no_fixups) (no_lines r.has_lines r.lines none)
            ∙ (λ i. good.spelled i ++ record_bytes 0x02 (here.1.spelled i)) ∙ sym next;
        hold = good.hold;
        starts = good.starts;
        block = good.block;
      }

  pub external_good : r.stage ≡ 3 → length body ≡ slice_index body 0 + 1 + 1 → take to file ≡ take at file ++ record_bytes 0x05 body → (after_taken noted base body r).fault ≡ None → Good file to (after_taken noted base body r)
  external_good stage len next clear =
      let here = external_clear base body r.fault len clear in
      let no_publics : r.publics ≡ [] = good.later.publics (omega arith) in
      let no_contents : r.contents ≡ [] = good.later.contents (omega arith) in
      let no_fixups : r.fixups ≡ [] = good.later.fixups (omega arith) in
      let none : r.lines ≡ [] = good.later.lines (omega arith) in
      let t = taken_at body in
      let externals = r.externals ++ t ∷ [] in
      let m = object_read r in
      record {
        begun = good.begun;
        fault = clear;
        rules = record {
          name = rules.name;
          placed = rules.placed;
          pieces_ordered = rules.pieces_ordered;
          pieces_narrow = rules.pieces_narrow;
          externals = all_push (λ t. is_name t.name) r.externals t rules.externals here.1.name;
          publics = rules.publics;
          publics_ordered = rules.publics_ordered;
          publics_narrow = rules.publics_narrow;
          contents = rules.contents;
          contents_ordered = rules.contents_ordered;
          contents_narrow = rules.contents_narrow;
          fixups = ap (list_all (fixup_is_sound r.segments externals)) no_fixups;
          fixups_ordered = rules.fixups_ordered;
          fixups_narrow = rules.fixups_narrow;
          room = rules.room;
          lines = rules.lines;
          lines_ordered = rules.lines_ordered;
          lines_narrow = rules.lines_narrow;
        };
        later = record { externals = λ lt. absurd (omega arith); publics = good.later.publics; contents = good.later.contents; fixups = good.later.fixups; lines = good.later.lines };
        spelled =
            ap (λ x. joined (record_bytes 0x01 (head_body m)) (flat_map segment_record r.segments) x (flat_map given_record r.publics) (flat_map content_record r.contents) (flat_map fixup_record r.fixups) (line_records m.lines)) (flat_push taken_record r.externals t)
            ∙ push_b (record_bytes 0x01 (head_body m)) (flat_map segment_record r.segments) (flat_map taken_record r.externals) (flat_map given_record r.publics) (flat_map content_record r.contents) (flat_map fixup_record r.fixups) (line_records m.lines) (taken_record t)
            (ap (flat_map given_record) no_publics) (ap (flat_map content_record) no_contents) (ap (flat_map fixup_record) no_fixups) (no_lines r.has_lines r.lines none)
            ∙ (λ i. good.spelled i ++ record_bytes 0x05 (here.1.spelled i)) ∙ sym next;
        hold = good.hold;
        starts = good.starts;
        block = good.block;
      }

  pub public_good : r.stage ≡ 4 → length body ≡ slice_index body 0 + 1 + 4 → take to file ≡ take at file ++ record_bytes 0x06 body → (after_given noted base body r).fault ≡ None → Good file to (after_given noted base body r)
  unfolding publics_in_order
  public_good stage len next clear =
      let here = public_clear base (last_of r.publics) (length r.segments) body r.fault len bytes clear in
      let no_contents : r.contents ≡ [] = good.later.contents (omega arith) in
      let no_fixups : r.fixups ≡ [] = good.later.fixups (omega arith) in
      let none : r.lines ≡ [] = good.later.lines (omega arith) in
      let g = given_at body in
      let m = object_read r in
      record {
        begun = good.begun;
        fault = clear;
        rules = record {
          name = rules.name;
          placed = rules.placed;
          pieces_ordered = rules.pieces_ordered;
          pieces_narrow = rules.pieces_narrow;
          externals = rules.externals;
          publics = all_push (given_is_sound (length r.segments)) r.publics g rules.publics here.1.sound;
          publics_ordered = ordered_push (λ g h. is_below g.name h.name) publics_in_order (λ x. refl) (λ x y xs. refl) r.publics g rules.publics_ordered here.1.follows;
          publics_narrow = all_push (λ g. nat_lt g.value 0x10000) r.publics g rules.publics_narrow here.1.narrow;
          contents = rules.contents;
          contents_ordered = rules.contents_ordered;
          contents_narrow = rules.contents_narrow;
          fixups = rules.fixups;
          fixups_ordered = rules.fixups_ordered;
          fixups_narrow = rules.fixups_narrow;
          room = rules.room;
          lines = rules.lines;
          lines_ordered = rules.lines_ordered;
          lines_narrow = rules.lines_narrow;
        };
        later = record { externals = good.later.externals; publics = λ lt. absurd (omega arith); contents = good.later.contents; fixups = good.later.fixups; lines = good.later.lines };
        spelled =
            ap (λ x. joined (record_bytes 0x01 (head_body m)) (flat_map segment_record r.segments) (flat_map taken_record r.externals) x (flat_map content_record r.contents) (flat_map fixup_record r.fixups) (line_records m.lines)) (flat_push given_record r.publics g)
            ∙ push_c (record_bytes 0x01 (head_body m)) (flat_map segment_record r.segments) (flat_map taken_record r.externals) (flat_map given_record r.publics) (flat_map content_record r.contents) (flat_map fixup_record r.fixups) (line_records m.lines) (given_record g)
            (ap (flat_map content_record) no_contents) (ap (flat_map fixup_record) no_fixups) (no_lines r.has_lines r.lines none)
            ∙ (λ i. good.spelled i ++ record_bytes 0x06 (here.1.spelled i)) ∙ sym next;
        hold = good.hold;
        starts = good.starts;
        block = good.block;
      }

  pub run_good : (len : ℕ) → r.stage ≡ 5 → (nat_le 5 len && nat_le len 1028) ≡ true → length body ≡ len → body ≡ take len (drop base file) → take to file ≡ take at file ++ record_bytes 0x03 body → (after_run noted base len body r).fault ≡ None → Good file to (after_run noted base len body r)
  unfolding contents_in_order
  run_good len stage fit size is next clear =
      let here = run_clear base (last_of r.contents) r.segments len body r.fault fit size bytes clear in
      let no_fixups : r.fixups ≡ [] = good.later.fixups (omega arith) in
      let none : r.lines ≡ [] = good.later.lines (omega arith) in
      let c = run_at body in
      let contents = r.contents ++ c ∷ [] in
      let m = object_read r in
      let stands : (i : ℕ) → i < length c.bytes → slice_get file (base + 4 + i) ≡ slice_get c.bytes i =
      λ i lt.
      let there : base + 4 + i ≡ base + (4 + i) = omega arith in
      let inside : 4 + i < len = omega (arith, length-drop 4 body) in
      ap (slice_get file) there ∙ sym (get_drop base (4 + i) file) ∙ sym (get_take len (4 + i) (drop base file) inside) ∙ ap (λ b. slice_get b (4 + i)) (sym is) ∙ sym (get_drop 4 i body) in
      record {
        begun = good.begun;
        fault = clear;
        rules = record {
          name = rules.name;
          placed = rules.placed;
          pieces_ordered = rules.pieces_ordered;
          pieces_narrow = rules.pieces_narrow;
          externals = rules.externals;
          publics = rules.publics;
          publics_ordered = rules.publics_ordered;
          publics_narrow = rules.publics_narrow;
          contents = all_push (content_is_sound r.segments) r.contents c rules.contents here.1.sound;
          contents_ordered = ordered_push content_follows contents_in_order (λ x. refl) (λ x y xs. refl) r.contents c rules.contents_ordered here.1.follows;
          contents_narrow = all_push (λ c. nat_lt c.piece 0x10000 && nat_lt c.offset 0x10000) r.contents c rules.contents_narrow here.1.narrow;
          fixups = rules.fixups;
          fixups_ordered = rules.fixups_ordered;
          fixups_narrow = rules.fixups_narrow;
          room = ap (list_all (has_room contents)) no_fixups;
          lines = rules.lines;
          lines_ordered = rules.lines_ordered;
          lines_narrow = rules.lines_narrow;
        };
        later = record { externals = good.later.externals; publics = good.later.publics; contents = λ lt. absurd (omega arith); fixups = good.later.fixups; lines = good.later.lines };
        spelled =
            ap (λ x. joined (record_bytes 0x01 (head_body m)) (flat_map segment_record r.segments) (flat_map taken_record r.externals) (flat_map given_record r.publics) x (flat_map fixup_record r.fixups) (line_records m.lines)) (flat_push content_record r.contents c)
            ∙ push_d (record_bytes 0x01 (head_body m)) (flat_map segment_record r.segments) (flat_map taken_record r.externals) (flat_map given_record r.publics) (flat_map content_record r.contents) (flat_map fixup_record r.fixups) (line_records m.lines) (content_record c)
            (ap (flat_map fixup_record) no_fixups) (no_lines r.has_lines r.lines none)
            ∙ (λ i. good.spelled i ++ record_bytes 0x03 (here.1.spelled i)) ∙ sym next;
        hold = λ p o. hold_push file r.contents r.starts c (base + 4) p o good.starts stands (good.hold p o);
        starts = length-append r.contents (c ∷ []) ∙ ap (λ n. n + 1) good.starts ∙ sym (length-append r.starts ((base + 4) ∷ []));
        block = good.block;
      }

  pub fixup_good : r.stage ≡ 6 → length body ≡ 10 → take to file ≡ take at file ++ record_bytes 0x04 body → (after_fixup noted base file body r).fault ≡ None → Good file to (after_fixup noted base file body r)
  unfolding fixups_in_order
  fixup_good stage len next clear =
      let here = number_clear base file r body len bytes good.hold clear in
      let none : r.lines ≡ [] = good.later.lines (omega arith) in
      let x = fixup_at body in
      let m = object_read r in
      record {
        begun = good.begun;
        fault = clear;
        rules = record {
          name = rules.name;
          placed = rules.placed;
          pieces_ordered = rules.pieces_ordered;
          pieces_narrow = rules.pieces_narrow;
          externals = rules.externals;
          publics = rules.publics;
          publics_ordered = rules.publics_ordered;
          publics_narrow = rules.publics_narrow;
          contents = rules.contents;
          contents_ordered = rules.contents_ordered;
          contents_narrow = rules.contents_narrow;
          fixups = all_push (fixup_is_sound r.segments r.externals) r.fixups x rules.fixups here.1.sound;
          fixups_ordered = ordered_push fixup_follows fixups_in_order (λ x. refl) (λ x y xs. refl) r.fixups x rules.fixups_ordered here.1.follows;
          fixups_narrow = all_push fixup_fits r.fixups x rules.fixups_narrow here.1.narrow;
          room = all_push (has_room r.contents) r.fixups x rules.room here.1.room;
          lines = rules.lines;
          lines_ordered = rules.lines_ordered;
          lines_narrow = rules.lines_narrow;
        };
        later = record { externals = good.later.externals; publics = good.later.publics; contents = good.later.contents; fixups = λ lt. absurd (omega arith); lines = good.later.lines };
        spelled =
            ap (λ y. joined (record_bytes 0x01 (head_body m)) (flat_map segment_record r.segments) (flat_map taken_record r.externals) (flat_map given_record r.publics) (flat_map content_record r.contents) y (line_records m.lines)) (flat_push fixup_record r.fixups x)
            ∙ push_e (record_bytes 0x01 (head_body m)) (flat_map segment_record r.segments) (flat_map taken_record r.externals) (flat_map given_record r.publics) (flat_map content_record r.contents) (flat_map fixup_record r.fixups) (line_records m.lines) (fixup_record x)
            (no_lines r.has_lines r.lines none)
            ∙ (λ i. good.spelled i ++ record_bytes 0x04 (here.1.spelled i)) ∙ sym next;
        hold = good.hold;
        starts = good.starts;
        block = good.block;
      }

  pub lines_good : (len : ℕ) → r.stage ≡ 7 → r.has_lines ≡ true → fits_lines len ≡ true → length body ≡ len → take to file ≡ take at file ++ record_bytes 0x07 body → (after_block noted base len body r).fault ≡ None → Good file to (after_block noted base len body r)
  lines_good len stage has fit size next clear =
      let here = block_clear base len body r fit size bytes rules.lines_ordered clear in
      let new = here.first ∷ here.rest in
      let lines = r.lines ++ new in
      let one = one_more r.lines r.block here.first here.rest (word_at body 0) good.block here.same (omega (arith, here.count, here.few))
      (λ b last. stops b.piece (word_at body 0) here.first.piece r.block (or_parts (nat_lt (word_at body 0) b.piece) ((b.piece == word_at body 0) && not (r.block == 1024)) (rw last at here.begins)).1 (and_parts (here.first.piece == word_at body 0) (list_all (λ l. l.piece == word_at body 0) here.rest) here.same).0) in
      let now : Good file to (record r { lines = lines; fault = None; block = here.n }) =
      record {
        begun = good.begun;
        fault = refl;
        rules = record {
          name = rules.name;
          placed = rules.placed;
          pieces_ordered = rules.pieces_ordered;
          pieces_narrow = rules.pieces_narrow;
          externals = rules.externals;
          publics = rules.publics;
          publics_ordered = rules.publics_ordered;
          publics_narrow = rules.publics_narrow;
          contents = rules.contents;
          contents_ordered = rules.contents_ordered;
          contents_narrow = rules.contents_narrow;
          fixups = rules.fixups;
          fixups_ordered = rules.fixups_ordered;
          fixups_narrow = rules.fixups_narrow;
          room = rules.room;
          lines = all_append (line_is_sound r.segments) r.lines new rules.lines here.sound;
          lines_ordered = here.ordered;
          lines_narrow = all_append line_fits r.lines new rules.lines_narrow here.narrow;
        };
        later = record { externals = good.later.externals; publics = good.later.publics; contents = good.later.contents; fixups = good.later.fixups; lines = λ lt. absurd (omega arith) };
        spelled = lines_spelled r.name (flat_map segment_record r.segments) (flat_map taken_record r.externals) (flat_map given_record r.publics) (flat_map content_record r.contents) (flat_map fixup_record r.fixups) r.has_lines r.lines new (take at file) (record_bytes 0x07 body) has (one.records ∙ ap (λ (t : List ℕ). block_records [] r.lines ++ t) here.spelled) good.spelled ∙ sym next;
        hold = good.hold;
        starts = good.starts;
        block = subst (OpenIs lines) here.count one.stays;
      } in
      subst (Good file to) (sym here.read) now

-- ---- the first record

nothing_behind : (h : List ℕ) → joined h [] [] [] [] [] [] ≡ h
nothing_behind h = simp append-nil

head_spelled : (v n : ℕ) (name : List ℕ) → (v ≡ 1) ⊎ (v ≡ 2) → name_bytes name ≡ n ∷ name
    → joined (record_bytes 0x01 (version_of (cond (not (v == 1)) (Some []) None) ∷ name_bytes name)) [] [] [] [] [] (line_records (cond (not (v == 1)) (Some []) None)) ≡ record_bytes 0x01 (v ∷ n ∷ name)
unfolding block_records
head_spelled v n name known spelled =
    elim known [
      | inl one ↦ rw one (nothing_behind (record_bytes 0x01 (1 ∷ name_bytes name)) ∙ ap (λ (t : List ℕ). record_bytes 0x01 (1 ∷ t)) spelled)
      | inr two ↦ rw two (nothing_behind (record_bytes 0x01 (2 ∷ name_bytes name)) ∙ ap (λ (t : List ℕ). record_bytes 0x01 (2 ∷ t)) spelled)
    ]

first_open : OpenIs [] 0
unfolding opened_of
first_open l = refl

pub head_good : (file : List ℕ) (to : ℕ) (body : List ℕ) → length body ≡ 1 + slice_index body 1 + 1 + 0 → take to file ≡ record_bytes 0x01 body → (after_head noted 3 body (at_stage first_fault 0 0x01 nothing_read)).fault ≡ None → Good file to (after_head noted 3 body (at_stage first_fault 0 0x01 nothing_read))
unfolding segments_in_order publics_in_order contents_in_order fixups_in_order lines_in_order
head_good file to body len next clear =
    let here = head_clear 3 body None len clear in
    record {
      begun = omega arith;
      fault = clear;
      rules = record {
        name = here.1.name.sound;
        placed = refl;
        pieces_ordered = refl;
        pieces_narrow = refl;
        externals = refl;
        publics = refl;
        publics_ordered = refl;
        publics_narrow = refl;
        contents = refl;
        contents_ordered = refl;
        contents_narrow = refl;
        fixups = refl;
        fixups_ordered = refl;
        fixups_narrow = refl;
        room = refl;
        lines = refl;
        lines_ordered = refl;
        lines_narrow = refl;
      };
      later = record { externals = λ lt. refl; publics = λ lt. refl; contents = λ lt. refl; fixups = λ lt. refl; lines = λ lt. refl };
      spelled = head_spelled (slice_index body 0) (slice_index body 1) (name_at (drop 1 body)) here.1.version here.1.name.spelled ∙ ap (record_bytes 0x01) (sym here.1.whole) ∙ sym next;
      hold = hold_none file;
      starts = refl;
      block = first_open;
    }

-- ---- on to a type

pub enter_good : (file : List ℕ) (at kind : ℕ) (r : Read) → Good file at r → nat_le r.stage (stage_of kind) ≡ true → (at_stage first_fault at kind r).fault ≡ None → Good file at (at_stage first_fault at kind r)
enter_good file at kind r good up clear =
    let le : r.stage ≤ stage_of kind = leb-true r.stage (stage_of kind) up in
    record {
      begun = omega (arith, good.begun);
      fault = clear;
      rules = record {
        name = good.rules.name;
        placed = good.rules.placed;
        pieces_ordered = good.rules.pieces_ordered;
        pieces_narrow = good.rules.pieces_narrow;
        externals = good.rules.externals;
        publics = good.rules.publics;
        publics_ordered = good.rules.publics_ordered;
        publics_narrow = good.rules.publics_narrow;
        contents = good.rules.contents;
        contents_ordered = good.rules.contents_ordered;
        contents_narrow = good.rules.contents_narrow;
        fixups = good.rules.fixups;
        fixups_ordered = good.rules.fixups_ordered;
        fixups_narrow = good.rules.fixups_narrow;
        room = good.rules.room;
        lines = good.rules.lines;
        lines_ordered = good.rules.lines_ordered;
        lines_narrow = good.rules.lines_narrow;
      };
      later = record {
        externals = λ lt. good.later.externals (below r.stage (stage_of kind) 3 le lt);
        publics = λ lt. good.later.publics (below r.stage (stage_of kind) 4 le lt);
        contents = λ lt. good.later.contents (below r.stage (stage_of kind) 5 le lt);
        fixups = λ lt. good.later.fixups (below r.stage (stage_of kind) 6 le lt);
        lines = λ lt. good.later.lines (below r.stage (stage_of kind) 7 le lt);
      };
      spelled = good.spelled;
      hold = good.hold;
      starts = good.starts;
      block = good.block;
    }
  where
    below : (a b c : ℕ) → a ≤ b → b < c → a < c
    below a b c h k = omega arith
