use Rattle.std.proofs.Common.{◌++◌, codes, ap, ◌∙◌}
use Rattle.kc_trace.specs.Tables.{level_in}
use Rattle.kc_vcd.specs.Dump.{head, head_end, declarations, start_lines}
use Rattle.kc_vcd.specs.Writing.{Kept}
use Rattle.kc_vcd.proofs.Pieces.{five_put}
use Rattle.kc_vcd.proofs.shown.Shown.put_prefix.Goals as goal

pub returns : goal.returns
returns c =
    let vs = ap (λ (k : Kept). k.variables) c.self.view_is in
    let first = c.as_slice.ensures.value ∙ vs in
    let second = c.as_slice-2.ensures.value ∙ vs in
    let start = ap (λ (k : Kept). k.start) c.self.view_is in
    five_put c.args.text.now.items head (declarations c.args.self.now.variables) head_end (start_lines (level_in c.args.self.now.start) c.args.self.now.variables) (codes "$end\n")
    c.extend_from_slice.new.self.items c.put_declarations.new.text.items c.extend_from_slice-2.new.self.items c.put_starts.new.text.items c.extend_from_slice-3.new.self.items
    c.in_ok-extend_from_slice.ensures.items
    (c.in_ok-put_declarations.ensures ∙ (λ i. c.extend_from_slice.new.self.items ++ declarations (first i)))
    c.in_ok-extend_from_slice-2.ensures.items
    (c.in_ok-put_starts.ensures ∙ (λ i. c.extend_from_slice-2.new.self.items ++ start_lines (level_in (start i)) (second i)))
    c.in_ok-extend_from_slice-3.ensures.items
