-- The statements of a listing are counted by where they stand.
use Rattle.std.proofs.Common.{◌≡◌, ℕ, suc, ◌+◌, Bool, true, false, cond, List, [], ◌∷◌, ◌++◌, map, drop, reverse, length, length-append, refl, sym, ap, ◌∙◌, append_assoc, arith}
use Rattle.std.specs.Prelude.{count_by, Option, Some, if◌then◌else◌, slice_get, slice_index}
use Rattle.std.proofs.lemmas.List.Sums.{sum_by-append}
use Rattle.kc_lex.specs.declared.token.Line.{Line}
use Rattle.kc_expr.specs.declared.values.Value.{Value}
use Rattle.kc_source_statement.specs.declared.statement.Stmt.{Stmt}
use Rattle.kc_source_statement.specs.Operands.{is_nil}
use Rattle.kc_source_statement.specs.Trees.{action_tree}
use Rattle.kc_source.specs.Faults.{stmt_said, said, all_said, AreStatements}
use Rattle.kc_asm_symbols.specs.declared.segments.Segment.{Segment}
use Rattle.kc_asm_symbols.specs.Located.{Located, located_from, segment_after}
use Rattle.kc_branch.specs.declared.piece.Form.{Form}
use Rattle.kc_branch.specs.Forms.{head_form}
use Rattle.kc_asm_layout.specs.declared.size_record.SizeRecord.{SizeRecord}
use Rattle.kc_asm_layout.specs.declared.location.Location.{Location}
use Rattle.kc_asm_layout.specs.Places.{Ends, ends_after, locations_from}
use Rattle.kc_asm_unlinked_laws.proofs.Lists.{seam, mapped_length}
use Rattle.kc_asm_unlinked_laws.proofs.Unreported.{reverse_prefix}
use Rattle.kc_asm_list.specs.declared.spot.Spot.{Spot}
use Rattle.kc_asm_list.specs.Spots.{spot_of, first_spot, spots_from}
use Rattle.kc_asm_laws.proofs.Counted.{count_seen}

abbrev pub size_record_segment : SizeRecord → Segment
size_record_segment n = n.segment

abbrev pub own_segment : Located → Segment
own_segment l = l.segment

counted_first : (p : Spot → Bool) (s : Spot) (ss : List Spot) → count_by p (s ∷ ss) ≡ cond (p s) 1 0 + count_by p ss
counted_first p s ss =
    let one : 0 + cond {A = ℕ} (p s) 1 0 ≡ cond (p s) 1 0 = omega arith in
    sum_by-append (λ (x : Spot). cond (p x) 1 0) (s ∷ []) ss ∙ ap (λ (n : ℕ). n + count_by p ss) one

module _ (p : Spot → Bool) (f : Segment → Location → Bool) (blind : (l : Line) (d : ℕ) (n : SizeRecord) (s : Location) → p (spot_of l d n s) ≡ f n.segment s) where
  pub spots_counted : (text : List Line) (ds : List ℕ) (ns : List SizeRecord) (ss : List Location) (ls : List Located)
      → length (all_said text) ≡ length ns → length ss ≡ length ns → map size_record_segment ns ≡ map own_segment ls
      → count_by p (spots_from text ds ns ss) ≡ count_seen f ls ss
  unfolding spots_from all_said count_seen
  spots_counted [] ds [] ss [] a b c = refl
  spots_counted [] ds [] ss (l ∷ ls) a b c = absurd (cc c)
  spots_counted [] ds (n ∷ ns) ss ls a b c = absurd (omega (arith, a))
  spots_counted (t ∷ ts) ds ns ss ls a b c = by (is_nil t.tokens) ns ss ls a b c (spots_counted ts (drop 1 ds))
    where
      by : (blank : Bool) (ns : List SizeRecord) (ss : List Location) (ls : List Located)
          → length (if blank then all_said ts else said t ∷ all_said ts) ≡ length ns → length ss ≡ length ns → map size_record_segment ns ≡ map own_segment ls
          → ((ns : List SizeRecord) (ss : List Location) (ls : List Located) → length (all_said ts) ≡ length ns → length ss ≡ length ns → map size_record_segment ns ≡ map own_segment ls
          → count_by p (spots_from ts (drop 1 ds) ns ss) ≡ count_seen f ls ss)
          → count_by p (if blank then spots_from ts (drop 1 ds) ns ss else first_spot t ds ns ss ++ spots_from ts (drop 1 ds) (drop 1 ns) (drop 1 ss)) ≡ count_seen f ls ss
      by true ns ss ls a b c h = h ns ss ls a b c
      by false [] ss ls a b c h = absurd (omega (arith, a))
      by false (n ∷ ns) [] ls a b c h = absurd (omega (arith, b))
      by false (n ∷ ns) (s ∷ ss) [] a b c h = absurd (cc c)
      by false (n ∷ ns) (s ∷ ss) (l ∷ ls) a b c h =
          let same : n.segment ≡ l.segment = cc c in
          let rest : map size_record_segment ns ≡ map own_segment ls = cc c in
          counted_first p (spot_of t (slice_index ds 0) n s) (spots_from ts (drop 1 ds) ns ss)
          ∙ (λ i. cond ((blind t (slice_index ds 0) n s ∙ ap (λ (g : Segment). f g s) same) i) 1 0 + h ns ss ls (omega (arith, a)) (omega (arith, b)) rest i)

-- ---- segments of a table of sizes

module _ (all : List Located) (whole : List SizeRecord)
    (noted : (before after : List Located) (l : Located) → all ≡ reverse before ++ l ∷ after → (n : SizeRecord) → slice_get whole (length before) ≡ Some n → n.segment ≡ l.segment) where
  pub segments_alike : (before ls : List Located) (pre ns : List SizeRecord) → all ≡ reverse before ++ ls → whole ≡ pre ++ ns → length pre ≡ length before → length ns ≡ length ls
      → map size_record_segment ns ≡ map own_segment ls
  segments_alike before [] pre [] split is same long = refl
  segments_alike before [] pre (n ∷ ns) split is same long = absurd (omega (arith, long))
  segments_alike before (l ∷ ls) pre [] split is same long = absurd (omega (arith, long))
  segments_alike before (l ∷ ls) pre (n ∷ ns) split is same long =
      let here : n.segment ≡ l.segment = noted before ls l split n ((λ i. slice_get (is i) (sym same i)) ∙ seam pre ns n) in
      let further : all ≡ reverse (l ∷ before) ++ ls = split ∙ reverse_prefix l before ls in
      let count : length (pre ++ n ∷ []) ≡ suc (length before) = (let q : length (pre ++ n ∷ []) ≡ length pre + 1 = length-append pre (n ∷ []) in omega (arith, q, same)) in
      let rest = segments_alike (l ∷ before) ls (pre ++ n ∷ []) ns further (is ∙ sym (append_assoc pre (n ∷ []) ns)) count (omega (arith, long)) in
      λ i. here i ∷ rest i

-- ---- how many there are

pub said_length : (stmts : List Stmt) (text : List Line) → AreStatements stmts text → length (all_said text) ≡ length stmts
said_length stmts text a = sym (λ i. length (a.said_by i)) ∙ mapped_length stmt_said stmts
