use Rattle.std.proofs.Common.{◌∙◌, ap}
use Rattle.kc_asm_list.specs.Rows.{listing}
use Rattle.kc_asm_list.proofs.listed.listing.Goals as goal

pub returns : goal.returns
returns c =
    let read = c.in_ok-read.ensures in
    record {
      lines = read.lines;
      text = read.text;
      is_text = read.is_text;
      depths = read.depths;
      deep = read.deep;
      stmts = c.in_ok-read.read.stmts.items;
      said = read.said;
      reported = c.in_ok-listed.ensures ∙ ap (listing c.args.object.now c.args.source.now) read.own;
    }
