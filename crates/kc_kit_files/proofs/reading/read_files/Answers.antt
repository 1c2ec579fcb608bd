use Rattle.std.proofs.Common.{map, string_bytes, arith}
use Rattle.kc_base.specs.Causes.{Rose}
use Rattle.kc_kit_files.proofs.ReadLemmas.{missed-next, held-next, stays-onward}
use Rattle.kc_kit_files.proofs.reading.read_files.Goals as goal

pub returns-in-Err-clause-read : goal.returns-in-Err-clause-read
returns-in-Err-clause-read g c =
    let l = c.loop-left in
    let i = l.invariant in
    let rose : Type 0 = Rose (g.F.Files.read_faults l.files) (g.F.Files.read_faults c.read_file.new.files) in
    let later : Type 0 = Rose (g.F.Files.read_faults c.args.files.now) (g.F.Files.read_faults c.read_file.new.files) in
    missed-next (g.F.Files.held c.args.files.now) (g.F.Files.held l.files) (map string_bytes c.args.names.now) i.done (map (λ t. t.items) l.texts.items) l.left.now c.name-item.result c.as_str.result.now rose later c.in-Err.refusal
    i.stays.same i.split c.in-len1-up.len_at_least c.name-item.is c.as_str.ensures.value i.read (λ r. omega (arith, r, i.stays.later)) c.in-Err.ensures.read

pub loop-left-preserved : goal.loop-left-preserved
loop-left-preserved g c =
    let l = c.loop-left in
    let i = l.invariant in
    let next = held-next (g.F.Files.held c.args.files.now) (g.F.Files.held l.files) (map string_bytes c.args.names.now) i.done l.texts.items c.push.new.texts.items l.left.now c.name-item.result c.as_str.result.now c.in-Ok.bytes
    i.stays.same i.split c.in-len1-up.len_at_least c.name-item.is c.as_str.ensures.value i.read c.in-Ok.ensures.read.0 c.in-Ok.ensures.read.1 c.in_ok-push-in-Ok.ensures in
    record {
      done = _;
      split = next.0;
      read = next.1;
      stays = stays-onward g.F.Files.held g.F.Files.read_faults g.F.Files.write_faults _ _ _ i.stays c.in-Ok.ensures.stays;
    }
