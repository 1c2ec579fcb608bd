-- Records as they are spelled, read one after the other.
use Rattle.std.proofs.Common.{◌≡◌, ℕ, zero, suc, ◌+◌, ◌*◌, ◌/◌, ◌%◌, ◌<◌, ◌≤◌, Bool, true, false, not, ◌&&◌, ◌||◌, cond, List, [], ◌∷◌, ◌++◌, length, take, drop, drop-drop, length-append, None, refl, sym, ap, ◌∙◌, append_assoc, arith}
use Rattle.std.specs.Prelude.{slice_index, slice_get, nat_lt, nat_le, ◌==◌, is_some}
use Rattle.std.specs.List.{list_all, flat_map}
use Rattle.std.proofs.lemmas.Bool.{and_parts, and_from, eq-eqb, ne_eqb, leb-true, lt-ltb, le-ltb, le-leb}
use Rattle.std.proofs.lemmas.List.{append-nil, take_at, drop_at, get_or_append_left}
use Rattle.kc_obj_module.specs.declared.parts.Segment.{Segment}
use Rattle.kc_obj_module.specs.declared.parts.Taken.{Taken}
use Rattle.kc_obj_module.specs.declared.parts.Given.{Given}
use Rattle.kc_obj_module.specs.declared.parts.Content.{Content}
use Rattle.kc_obj_module.specs.declared.parts.Fixup.{Fixup}
use Rattle.kc_obj_module.specs.Object.{Object}
use Rattle.kc_obj_module.specs.Names.{is_name, is_below}
use Rattle.kc_obj_module.specs.Pieces.{is_placed, segment_follows, segments_in_order}
use Rattle.kc_obj_module.specs.Rules.{given_is_sound, publics_in_order}
use Rattle.kc_obj_module.specs.Contents.{content_is_sound, content_follows, contents_in_order}
use Rattle.kc_obj_module.specs.Fixups.{fixup_is_sound, fixup_follows, fixups_in_order, has_room}
use Rattle.kc_obj_module.specs.Spelling.{record_bytes, segment_body, taken_body, given_body, content_body, fixup_body, segment_record, taken_record, given_record, content_record, fixup_record}
use Rattle.kc_obj_module.specs.Widths.{fixup_fits}
use Rattle.kc_obj.specs.Reading.{Read, Answer, stage_of, may_come, fits_name, fits, after_record, stopped, ended, at_stage, behind_record, typed, read_on, first_fault}
use Rattle.kc_obj_fields.specs.Fields.{last_of, noted}
use Rattle.kc_obj.proofs.ClearCode.{PlacesHold}
use Rattle.kc_obj.proofs.Holding.{get_drop, get_take, hold_push}
use Rattle.kc_obj.proofs.Order.{ordered_last, ordered_up_to}
use Rattle.kc_obj.proofs.Forth.{word_back, piece_forth, external_forth, public_forth, run_forth}
use Rattle.kc_obj.proofs.ForthCode.{number_forth}

-- ---- one record

ways : (a b c d e : Bool) (s t u v w x : Answer) → a ≡ false → b ≡ true → c ≡ false → d ≡ true → e ≡ false → cond a s (cond b (cond c t (cond d (cond e u x) v)) w) ≡ x
ways false true false true false s t u v w x ha hb hc hd he = refl
ways true b c d e s t u v w x ha hb hc hd he = absurd (cc ha)
ways false false c d e s t u v w x ha hb hc hd he = absurd (cc hb)
ways false true true d e s t u v w x ha hb hc hd he = absurd (cc hc)
ways false true false false e s t u v w x ha hb hc hd he = absurd (cc hd)
ways false true false true true s t u v w x ha hb hc hd he = absurd (cc he)

pub record_on : (goes_on : ℕ → Read → Answer) (file : List ℕ) (at : ℕ) (r : Read) (kind : ℕ) (body rest : List ℕ) → length body < 0x10000 → may_come r kind ≡ true → fits kind (length body) (body ++ rest) ≡ true
    → typed first_fault goes_on file at (record_bytes kind body ++ rest) r ≡ behind_record first_fault goes_on (at + 3) kind (length body) (length (body ++ rest)) (after_record noted kind (at + 3) (length body) file body (at_stage first_fault at kind r))
record_on goes_on file at r kind body rest low comes fit =
    let all = record_bytes kind body ++ rest in
    let lo = length body % 256 in
    let hi = length body / 256 % 256 in
    let entered = at_stage first_fault at kind r in
    let more = body ++ rest in
    let word : lo + 256 * hi ≡ length body = word_back (length body) low in
    let prefix : take (lo + 256 * hi) more ≡ body = ap (λ n. take n more) word ∙ take_at body rest (length body) refl in
    let some : (length all == 0) ≡ false = ne_eqb (length all) 0 (λ e. absurd (omega arith)) in
    let two : nat_lt (length (lo ∷ hi ∷ more)) 2 ≡ false = le-ltb (length (lo ∷ hi ∷ more)) 2 (omega arith) in
    let fitting : fits kind (lo + 256 * hi) more ≡ true = ap (λ n. fits kind n more) word ∙ fit in
    let whole : nat_lt (length more) (lo + 256 * hi) ≡ false = le-ltb (length more) (lo + 256 * hi) (omega (arith, length-append body rest)) in
    ways (length all == 0) (may_come r kind) (nat_lt (length (lo ∷ hi ∷ more)) 2) (fits kind (lo + 256 * hi) more) (nat_lt (length more) (lo + 256 * hi))
    (stopped first_fault r at 2) (stopped first_fault entered (length file) 2) (stopped first_fault (after_record noted kind (at + 3) (lo + 256 * hi) file more entered) (length file) 2) (stopped first_fault entered (at + 1) 4) (stopped first_fault r at 1)
    (behind_record first_fault goes_on (at + 3) kind (lo + 256 * hi) (length more) (after_record noted kind (at + 3) (lo + 256 * hi) file (take (lo + 256 * hi) more) entered)) some comes two fitting whole
    ∙ (λ i. behind_record first_fault goes_on (at + 3) kind (word i) (length more) (after_record noted kind (at + 3) (word i) file (prefix i) entered))

pub drop_on : (file : List ℕ) (at kind : ℕ) (body rest : List ℕ) → drop at file ≡ record_bytes kind body ++ rest → drop (at + 3 + length body) file ≡ rest
drop_on file at kind body rest is =
    let sum : at + 3 + length body ≡ at + suc (suc (suc (length body))) = omega arith in
    ap (λ n. drop n file) sum ∙ sym (drop-drop (suc (suc (suc (length body)))) at file) ∙ ap (drop (suc (suc (suc (length body))))) is ∙ drop_at body rest (length body) refl

pub record Came (file rest : List ℕ) (n at : ℕ) (r : Read) (Q : Read → Type 0) : Type 0 where
  pub more : ℕ
  pub place : ℕ
  pub now : Read
  pub same : read_on first_fault n file at r ≡ read_on first_fault more file place now
  pub rest_is : drop place file ≡ rest
  pub fuel : length rest < more
  pub holds : Q now

-- a record that is not the end
pub one_on : (file : List ℕ) (n at : ℕ) (r : Read) (kind : ℕ) (body rest : List ℕ) (Q : Read → Type 0) (next : Read) → drop at file ≡ record_bytes kind body ++ rest → length (record_bytes kind body ++ rest) < n
    → length body < 0x10000 → may_come r kind ≡ true → fits kind (length body) (body ++ rest) ≡ true → (kind == 0x7F) ≡ false → after_record noted kind (at + 3) (length body) file body (at_stage first_fault at kind r) ≡ next → Q next → Came file rest n at r Q
unfolding read_on
one_on file zero at r kind body rest Q next is fuel low comes fit more_comes becomes holds = absurd (omega arith)
one_on file (suc n) at r kind body rest Q next is fuel low comes fit more_comes becomes holds =
    record {
      more = n;
      place = at + 3 + length body;
      now = next;
      same = ap (λ t. typed first_fault (read_on first_fault n file) file at t r) is ∙ record_on (read_on first_fault n file) file at r kind body rest low comes fit
          ∙ (λ i. cond (more_comes i) (ended_now) (read_on first_fault n file (at + 3 + length body) (becomes i)));
      rest_is = drop_on file at kind body rest is;
      fuel = omega (arith, length-append body rest);
      holds = holds;
    }
  where
    ended_now : Answer
    ended_now = ended first_fault (after_record noted kind (at + 3) (length body) file body (at_stage first_fault at kind r)) (at + 3) (length (body ++ rest))

-- one after the other
pub list_on : {X : Type 0} (file : List ℕ) (spelled : X → List ℕ) (Q : Read → List X → Type 0)
    (each : (n at : ℕ) (r : Read) (x : X) (xs : List X) (rest : List ℕ) → drop at file ≡ spelled x ++ rest → length (spelled x ++ rest) < n → Q r (x ∷ xs) → Came file rest n at r (λ now. Q now xs))
    (xs : List X) (rest : List ℕ) (n at : ℕ) (r : Read) → drop at file ≡ flat_map spelled xs ++ rest → length (flat_map spelled xs ++ rest) < n → Q r xs → Came file rest n at r (λ now. Q now [])
list_on file spelled Q each [] rest n at r is fuel holds = record { more = n; place = at; now = r; same = refl; rest_is = is; fuel = fuel; holds = holds }
list_on file spelled Q each (x ∷ xs) rest n at r is fuel holds =
    let shape : (spelled x ++ flat_map spelled xs) ++ rest ≡ spelled x ++ (flat_map spelled xs ++ rest) = append_assoc (spelled x) (flat_map spelled xs) rest in
    let one = each n at r x xs (flat_map spelled xs ++ rest) (is ∙ shape) (omega (arith, ap length shape)) holds in
    let later = list_on file spelled Q each xs rest one.more one.place one.now one.rest_is one.fuel one.holds in
    record { more = later.more; place = later.place; now = later.now; same = one.same ∙ later.same; rest_is = later.rest_is; fuel = later.fuel; holds = later.holds }

pub comes_later : (r : Read) (kind : ℕ) → 1 ≤ r.stage → nat_le 2 (stage_of kind) ≡ true → r.stage ≤ stage_of kind → (r.has_lines || not (kind == 0x07)) ≡ true → may_come r kind ≡ true
comes_later r kind begun known le lines =
    let some : (r.stage == 0) ≡ false = ne_eqb r.stage 0 (λ e. absurd (omega arith)) in
    ap (λ b. cond b (kind == 0x01) (nat_le 2 (stage_of kind) && nat_le r.stage (stage_of kind) && (r.has_lines || not (kind == 0x07)))) some
    ∙ and_from (nat_le 2 (stage_of kind) && nat_le r.stage (stage_of kind)) (r.has_lines || not (kind == 0x07)) (and_from (nat_le 2 (stage_of kind)) (nat_le r.stage (stage_of kind)) known (le-leb r.stage (stage_of kind) le)) lines

pub fits_name_forth : (prefix back : ℕ) (body rest : List ℕ) → length body ≡ prefix + slice_index body prefix + 1 + back → fits_name prefix back (length body) (body ++ rest) ≡ true
fits_name_forth prefix back body rest size =
    let inside : prefix < length body = omega arith in
    let some : nat_lt prefix (length (body ++ rest)) ≡ true = lt-ltb prefix (length (body ++ rest)) (omega (arith, length-append body rest)) in
    let same : slice_index (body ++ rest) prefix ≡ slice_index body prefix = get_or_append_left body rest 0 prefix inside in
    let exact : (length body == prefix + slice_index (body ++ rest) prefix + 1 + back) ≡ true = eq-eqb (length body) (prefix + slice_index (body ++ rest) prefix + 1 + back) (size ∙ ap (λ n. prefix + n + 1 + back) (sym same)) in
    ap (λ b. cond b (length body == prefix + slice_index (body ++ rest) prefix + 1 + back) (nat_le (prefix + 1 + back) (length body) && nat_le (length body) (prefix + 256 + back))) some ∙ exact

-- ---- what a module keeps

pub record Sound (m : Object) : Type 0 where
  pub name : is_name m.name ≡ true
  pub placed : list_all is_placed m.segments ≡ true
  pub pieces_ordered : segments_in_order m.segments ≡ true
  pub pieces_narrow : list_all (λ s. nat_lt s.length 0x10000) m.segments ≡ true
  pub externals : list_all (λ t. is_name t.name) m.externals ≡ true
  pub publics : list_all (given_is_sound (length m.segments)) m.publics ≡ true
  pub publics_ordered : publics_in_order m.publics ≡ true
  pub publics_narrow : list_all (λ g. nat_lt g.value 0x10000) m.publics ≡ true
  pub contents : list_all (content_is_sound m.segments) m.contents ≡ true
  pub contents_ordered : contents_in_order m.contents ≡ true
  pub contents_narrow : list_all (λ c. nat_lt c.piece 0x10000 && nat_lt c.offset 0x10000) m.contents ≡ true
  pub fixups : list_all (fixup_is_sound m.segments m.externals) m.fixups ≡ true
  pub fixups_ordered : fixups_in_order m.fixups ≡ true
  pub fixups_narrow : list_all fixup_fits m.fixups ≡ true
  pub room : list_all (has_room m.contents) m.fixups ≡ true

-- what was read of a module, and what is left of it
pub record Has (m : Object) (file : List ℕ) (top : ℕ) (ss : List Segment) (es : List Taken) (ps : List Given) (cs : List Content) (fs : List Fixup) (r : Read) : Type 0 where
  pub begun : 1 ≤ r.stage
  pub stage : r.stage ≤ top
  pub fault : r.fault ≡ None
  pub name : r.name ≡ m.name
  pub has_lines : r.has_lines ≡ is_some m.lines
  pub segments : r.segments ++ ss ≡ m.segments
  pub externals : r.externals ++ es ≡ m.externals
  pub publics : r.publics ++ ps ≡ m.publics
  pub contents : r.contents ++ cs ≡ m.contents
  pub fixups : r.fixups ++ fs ≡ m.fixups
  pub lines : r.lines ≡ []
  pub block : r.block ≡ 0
  pub hold : PlacesHold file r.contents r.starts
  pub starts : length r.contents ≡ length r.starts

all_at : {X : Type 0} (f : X → Bool) (xs : List X) (x : X) (ys : List X) → list_all f (xs ++ x ∷ ys) ≡ true → f x ≡ true
all_at f [] x ys h = (and_parts (f x) (list_all f ys) h).0
all_at f (y ∷ xs) x ys h = all_at f xs x ys (and_parts (f y) (list_all f (xs ++ x ∷ ys)) h).1

either : (b : Bool) → (b || true) ≡ true
either true = refl
either false = refl

-- what was read and the next element
shifted : {X : Type 0} (xs : List X) (x : X) (ys all : List X) → xs ++ x ∷ ys ≡ all → (xs ++ x ∷ []) ++ ys ≡ all
shifted xs x ys all is = append_assoc xs (x ∷ []) ys ∙ is

module _ (m : Object) (file : List ℕ) (sound : Sound m) where
  abbrev pub Pieces : Read → List Segment → Type 0
  Pieces r ss = Has m file 2 ss m.externals m.publics m.contents m.fixups r

  pub piece_on : (n at : ℕ) (r : Read) (s : Segment) (ss : List Segment) (rest : List ℕ) → drop at file ≡ segment_record s ++ rest → length (segment_record s ++ rest) < n → Pieces r (s ∷ ss) → Came file rest n at r (λ now. Pieces now ss)
  unfolding segments_in_order
  piece_on n at r s ss rest is fuel h =
      let follows = ordered_last segment_follows segments_in_order refl (λ x y xs. refl) r.segments s ss (ap segments_in_order h.segments ∙ sound.pieces_ordered) in
      let forth = piece_forth (at + 3) (last_of r.segments) s r.fault (all_at is_placed r.segments s ss (ap (list_all is_placed) h.segments ∙ sound.placed)) (all_at (λ s. nat_lt s.length 0x10000) r.segments s ss (ap (list_all (λ s. nat_lt s.length 0x10000)) h.segments ∙ sound.pieces_narrow)) follows h.fault in
      one_on file n at r 0x02 (segment_body s) rest (λ now. Pieces now ss) (record r { stage = 2; segments = r.segments ++ s ∷ [] }) is fuel (omega (arith, forth.length)) (comes_later r 0x02 h.begun refl h.stage (either r.has_lines)) (eq-eqb (length (segment_body s)) 6 forth.length) refl
      (λ i. record r { stage = 2; segments = r.segments ++ forth.again i ∷ []; fault = (forth.clear ∙ sym h.fault) i })
      (record { begun = omega arith; stage = omega arith; fault = h.fault; name = h.name; has_lines = h.has_lines; segments = shifted r.segments s ss m.segments h.segments; externals = h.externals; publics = h.publics; contents = h.contents; fixups = h.fixups; lines = h.lines; block = h.block; hold = h.hold; starts = h.starts })

  abbrev pub Externals : Read → List Taken → Type 0
  Externals r es = Has m file 3 [] es m.publics m.contents m.fixups r

  pub external_on : (n at : ℕ) (r : Read) (t : Taken) (es : List Taken) (rest : List ℕ) → drop at file ≡ taken_record t ++ rest → length (taken_record t ++ rest) < n → Externals r (t ∷ es) → Came file rest n at r (λ now. Externals now es)
  external_on n at r t es rest is fuel h =
      let name = all_at (λ t. is_name t.name) r.externals t es (ap (list_all (λ t. is_name t.name)) h.externals ∙ sound.externals) in
      let forth = external_forth (at + 3) t r.fault name h.fault in
      let size : length (taken_body t) ≡ 0 + slice_index (taken_body t) 0 + 1 + 1 = omega (arith, forth.size) in
      one_on file n at r 0x05 (taken_body t) rest (λ now. Externals now es) (record r { stage = 3; externals = r.externals ++ t ∷ [] }) is fuel (omega (arith, forth.size)) (comes_later r 0x05 h.begun refl h.stage (either r.has_lines)) (fits_name_forth 0 1 (taken_body t) rest size) refl
      (λ i. record r { stage = 3; externals = r.externals ++ forth.again i ∷ []; fault = (forth.clear ∙ sym h.fault) i })
      (record { begun = omega arith; stage = omega arith; fault = h.fault; name = h.name; has_lines = h.has_lines; segments = h.segments; externals = shifted r.externals t es m.externals h.externals; publics = h.publics; contents = h.contents; fixups = h.fixups; lines = h.lines; block = h.block; hold = h.hold; starts = h.starts })

  abbrev pub Publics : Read → List Given → Type 0
  Publics r ps = Has m file 4 [] [] ps m.contents m.fixups r

  pub public_on : (n at : ℕ) (r : Read) (g : Given) (ps : List Given) (rest : List ℕ) → drop at file ≡ given_record g ++ rest → length (given_record g ++ rest) < n → Publics r (g ∷ ps) → Came file rest n at r (λ now. Publics now ps)
  unfolding publics_in_order
  public_on n at r g ps rest is fuel h =
      let count : length m.segments ≡ length r.segments = ap length (sym h.segments ∙ append-nil r.segments) in
      let follows = ordered_last (λ g h. is_below g.name h.name) publics_in_order refl (λ x y xs. refl) r.publics g ps (ap publics_in_order h.publics ∙ sound.publics_ordered) in
      let good = all_at (given_is_sound (length m.segments)) r.publics g ps (ap (list_all (given_is_sound (length m.segments))) h.publics ∙ sound.publics) in
      let forth = public_forth (at + 3) (last_of r.publics) (length r.segments) g r.fault (ap (λ k. given_is_sound k g) (sym count) ∙ good) (all_at (λ g. nat_lt g.value 0x10000) r.publics g ps (ap (list_all (λ g. nat_lt g.value 0x10000)) h.publics ∙ sound.publics_narrow)) follows h.fault in
      let size : length (given_body g) ≡ 0 + slice_index (given_body g) 0 + 1 + 4 = omega (arith, forth.size) in
      one_on file n at r 0x06 (given_body g) rest (λ now. Publics now ps) (record r { stage = 4; publics = r.publics ++ g ∷ [] }) is fuel (omega (arith, forth.size)) (comes_later r 0x06 h.begun refl h.stage (either r.has_lines)) (fits_name_forth 0 4 (given_body g) rest size) refl
      (λ i. record r { stage = 4; publics = r.publics ++ forth.again i ∷ []; fault = (forth.clear ∙ sym h.fault) i })
      (record { begun = omega arith; stage = omega arith; fault = h.fault; name = h.name; has_lines = h.has_lines; segments = h.segments; externals = h.externals; publics = shifted r.publics g ps m.publics h.publics; contents = h.contents; fixups = h.fixups; lines = h.lines; block = h.block; hold = h.hold; starts = h.starts })

  abbrev pub Runs : Read → List Content → Type 0
  Runs r cs = Has m file 5 [] [] [] cs m.fixups r

  pub run_on : (n at : ℕ) (r : Read) (c : Content) (cs : List Content) (rest : List ℕ) → drop at file ≡ content_record c ++ rest → length (content_record c ++ rest) < n → Runs r (c ∷ cs) → Came file rest n at r (λ now. Runs now cs)
  unfolding contents_in_order
  run_on n at r c cs rest is fuel h =
      let pieces : m.segments ≡ r.segments = sym h.segments ∙ append-nil r.segments in
      let follows = ordered_last content_follows contents_in_order refl (λ x y xs. refl) r.contents c cs (ap contents_in_order h.contents ∙ sound.contents_ordered) in
      let good = all_at (content_is_sound m.segments) r.contents c cs (ap (list_all (content_is_sound m.segments)) h.contents ∙ sound.contents) in
      let narrow = all_at (λ c. nat_lt c.piece 0x10000 && nat_lt c.offset 0x10000) r.contents c cs (ap (list_all (λ c. nat_lt c.piece 0x10000 && nat_lt c.offset 0x10000)) h.contents ∙ sound.contents_narrow) in
      let forth = run_forth (at + 3) (last_of r.contents) r.segments c r.fault (ap (λ ss. content_is_sound ss c) (sym pieces) ∙ good) narrow follows h.fault in
      let body = content_body c in
      let small : length body < 0x10000 = omega (arith, leb-true (length body) 1028 (and_parts (nat_le 5 (length body)) (nat_le (length body) 1028) forth.fit).1) in
      let place : drop (at + 3) file ≡ body ++ rest =
      let sum : at + 3 ≡ at + suc (suc (suc zero)) = omega arith in
      ap (λ n. drop n file) sum ∙ sym (drop-drop (suc (suc (suc zero))) at file) ∙ ap (drop (suc (suc (suc zero)))) is in
      let stands : (i : ℕ) → i < length c.bytes → slice_get file (at + 3 + 4 + i) ≡ slice_get c.bytes i =
      λ i lt.
      let there : at + 3 + 4 + i ≡ at + 3 + (4 + i) = omega arith in
      let prefix : take (length body) (body ++ rest) ≡ body = take_at body rest (length body) refl in
      let inside : 4 + i < length body = omega (arith, forth.size) in
      ap (slice_get file) there ∙ sym (get_drop (at + 3) (4 + i) file) ∙ ap (λ t. slice_get t (4 + i)) place ∙ sym (get_take (length body) (4 + i) (body ++ rest) inside) ∙ ap (λ t. slice_get t (4 + i)) prefix ∙ sym (get_drop 4 i body) in
      one_on file n at r 0x03 body rest (λ now. Runs now cs) (record r { stage = 5; contents = r.contents ++ c ∷ []; starts = r.starts ++ (at + 3 + 4) ∷ [] }) is fuel small (comes_later r 0x03 h.begun refl h.stage (either r.has_lines)) forth.fit refl
      (λ i. record r { stage = 5; contents = r.contents ++ forth.again i ∷ []; starts = r.starts ++ (at + 3 + 4) ∷ []; fault = (forth.clear ∙ sym h.fault) i })
      (record {
        begun = omega arith;
        stage = omega arith;
        fault = h.fault;
        name = h.name;
        has_lines = h.has_lines;
        segments = h.segments;
        externals = h.externals;
        publics = h.publics;
        contents = shifted r.contents c cs m.contents h.contents;
        fixups = h.fixups;
        lines = h.lines;
        block = h.block;
        hold = λ p o. hold_push file r.contents r.starts c (at + 3 + 4) p o h.starts stands (h.hold p o);
        starts = length-append r.contents (c ∷ []) ∙ ap (λ n. n + 1) h.starts ∙ sym (length-append r.starts ((at + 3 + 4) ∷ []));
      })

  abbrev pub Numbers : Read → List Fixup → Type 0
  Numbers r fs = Has m file 6 [] [] [] [] fs r

  pub number_on : (n at : ℕ) (r : Read) (x : Fixup) (fs : List Fixup) (rest : List ℕ) → drop at file ≡ fixup_record x ++ rest → length (fixup_record x ++ rest) < n → Numbers r (x ∷ fs) → Came file rest n at r (λ now. Numbers now fs)
  unfolding fixups_in_order
  number_on n at r x fs rest is fuel h =
      let pieces : m.segments ≡ r.segments = sym h.segments ∙ append-nil r.segments in
      let externals : m.externals ≡ r.externals = sym h.externals ∙ append-nil r.externals in
      let contents : m.contents ≡ r.contents = sym h.contents ∙ append-nil r.contents in
      let good = all_at (fixup_is_sound m.segments m.externals) r.fixups x fs (ap (list_all (fixup_is_sound m.segments m.externals)) h.fixups ∙ sound.fixups) in
      let narrow = all_at fixup_fits r.fixups x fs (ap (list_all fixup_fits) h.fixups ∙ sound.fixups_narrow) in
      let room = all_at (has_room m.contents) r.fixups x fs (ap (list_all (has_room m.contents)) h.fixups ∙ sound.room) in
      let ordered : fixups_in_order (r.fixups ++ x ∷ []) ≡ true = ordered_up_to fixup_follows fixups_in_order (λ x. refl) (λ x y xs. refl) r.fixups x fs (ap fixups_in_order h.fixups ∙ sound.fixups_ordered) in
      let forth = number_forth (at + 3) file r x h.fault h.hold ((λ i. fixup_is_sound (sym pieces i) (sym externals i) x) ∙ good) narrow ordered (ap (λ cs. has_room cs x) (sym contents) ∙ room) in
      one_on file n at r 0x04 (fixup_body x) rest (λ now. Numbers now fs) (record r { stage = 6; fixups = r.fixups ++ x ∷ [] }) is fuel (omega (arith, forth.size)) (comes_later r 0x04 h.begun refl h.stage (either r.has_lines)) (eq-eqb (length (fixup_body x)) 10 forth.size) refl
      (λ i. record r { stage = 6; fixups = r.fixups ++ forth.again i ∷ []; fault = (forth.clear ∙ sym h.fault) i })
      (record { begun = omega arith; stage = omega arith; fault = h.fault; name = h.name; has_lines = h.has_lines; segments = h.segments; externals = h.externals; publics = h.publics; contents = h.contents; fixups = shifted r.fixups x fs m.fixups h.fixups; lines = h.lines; block = h.block; hold = h.hold; starts = h.starts })
