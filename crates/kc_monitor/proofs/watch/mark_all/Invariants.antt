use Rattle.std.proofs.Common.{◌≡◌, List, length, take, drop}
use Rattle.kc_trace.specs.Tables.{level_in}
use Rattle.kc_monitor.specs.Marked.{Hit}
use Rattle.kc_monitor.specs.Rows.{row, hists_after, IsTrack}
use Rattle.kc_monitor.specs.Watching.{AllThree}
use Rattle.kc_monitor.proofs.watch.mark_all.Given as goal

abbrev pub invariant-loop-i : goal.invariant-loop-i
invariant-loop-i l = record {
  many : length l.markings ≡ length l.fn.markings;
  rest : drop l.i l.markings ≡ drop l.i l.fn.markings;
  reported : (hists : List (List Hit)) → AllThree IsTrack l.marks hists l.fn.markings →
      row (level_in l.levels) l.at l.what l.marks hists l.fn.has.items ≡ row (level_in l.levels) l.at l.what (drop l.i l.marks) (drop l.i hists) l.has.items;
  later : (hists : List (List Hit)) → AllThree IsTrack l.marks hists l.fn.markings →
      drop l.i (hists_after (level_in l.levels) l.at l.what l.marks hists l.fn.has.items)
      ≡ hists_after (level_in l.levels) l.at l.what (drop l.i l.marks) (drop l.i hists) l.has.items;
  past : (hists : List (List Hit)) → AllThree IsTrack l.marks hists l.fn.markings →
      AllThree IsTrack (take l.i l.marks) (take l.i (hists_after (level_in l.levels) l.at l.what l.marks hists l.fn.has.items)) (take l.i l.markings);
}
