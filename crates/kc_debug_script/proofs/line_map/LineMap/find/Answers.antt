use Rattle.std.proofs.Common.{◌≡◌, ℕ, ◌<◌, ltb, length, get_or, List, Some, None, rules, arith, sym, ap, subst, ◌∙◌}
use Rattle.std.proofs.lemmas.List.Sorted.{IsPartitionPoint-from_clause, IsPartitionedBy-ltb}
use Rattle.std.proofs.lemmas.Bool.{ltb-false}
use Rattle.std.proofs.lemmas.Option.{slice_get-get_or, get_or_from_slice_get}
use Rattle.kc_debug_script.specs.declared.line_map.MapEntry.{MapEntry}
use Rattle.kc_debug_script.specs.LineMap.{Rises, entry_at}
use Rattle.kc_debug_script.proofs.Orders.{ordered_by, found, lost}
use Rattle.kc_debug_script.proofs.line_map.LineMap.find.Goals as goal
use Rattle.kc_debug_script.proofs.line_map.LineMap.find.Goals.{else-first-entries-via-then-first-entries+else-entries-first, else-first-entries-via-else-first-entries}

-- the entry at an index, whatever stands for one behind the last
same_entry : (es : List MapEntry) (n : ℕ) (d b : MapEntry) → n < length es → get_or es n b ≡ get_or es n d
same_entry es n d b within = get_or_from_slice_get es n (get_or es n d) b (slice_get-get_or es n d within)

pub returns-then-entries-first : goal.returns-then-entries-first
returns-then-entries-first c =
    let es = c.as_slice-entries.result.now in
    let n = c.partition_point-first.result in
    let d = c.index-entries-first.result in
    let e = c.index-entries-first-then-entries-first.result in
    let rises = subst Rises (sym c.as_slice-entries.ensures.value) c.self.invariant.rises in
    let parted = IsPartitionedBy-ltb (λ (x : MapEntry). x.addr) es c.args.addr (ordered_by es rises) in
    let point = IsPartitionPoint-from_clause (λ (x : MapEntry). ltb x.addr c.args.addr) _ _ c.partition_point-first.ensures.partitioned parted (λ a r q k. search rules) in
    let reported = found es c.args.addr n d (λ k b below within. point.0 k b (omega arith) below) c.if-first-entries.true c.if-entries-first.true in
    ap (λ (x : MapEntry). Some x) (c.index-entries-first-then-entries-first.is ∙ same_entry es n d _ c.if-first-entries.true)
    ∙ sym reported ∙ ap (λ xs. entry_at xs c.args.addr) (c.as_slice-entries.ensures.value ∙ c.self.view_is)

pub returns-else-first-entries : goal.returns-else-first-entries
returns-else-first-entries c =
    let es = c.as_slice-entries.result.now in
    let n = c.partition_point-first.result in
    let rises = subst Rises (sym c.as_slice-entries.ensures.value) c.self.invariant.rises in
    let parted = IsPartitionedBy-ltb (λ (x : MapEntry). x.addr) es c.args.addr (ordered_by es rises) in
    let point = IsPartitionPoint-from_clause (λ (x : MapEntry). ltb x.addr c.args.addr) _ _ c.partition_point-first.ensures.partitioned parted (λ a r q k. search rules) in
    let seen = ap (λ xs. entry_at xs c.args.addr) (c.as_slice-entries.ensures.value ∙ c.self.view_is) in
    let nothing : ((d : MapEntry) → n < length es → c.args.addr < (get_or es n d).addr) → None ≡ entry_at c.args.self.now c.args.addr =
    λ above. sym (lost es c.args.addr n rises (λ k b below within. point.0 k b (omega arith) below) above) ∙ seen in
    elim c.else-first-entries.branch [
      | else-first-entries-via-then-first-entries+else-entries-first w ↦ nothing (λ d within.
          let least = ltb-false (get_or es n d).addr c.args.addr (point.1 n d (omega arith) within) in
          let same = ap (λ (x : MapEntry). x.addr) (same_entry es n w.index-entries-first.result d within) in
          omega (arith, w.if-entries-first.false))
      | else-first-entries-via-else-first-entries w ↦ nothing (λ d within. absurd (omega (arith, w.if-first-entries.false)))
    ]
