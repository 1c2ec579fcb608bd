use Rattle.std.proofs.Common.{◌≡◌, List, take}
use Rattle.kc_trace.specs.Tables.{level_in}
use Rattle.kc_monitor.specs.Marked.{Hit}
use Rattle.kc_monitor.specs.Rows.{seens_in, hists_over, IsTrack}
use Rattle.kc_monitor.specs.Watching.{AllThree}
use Rattle.kc_monitor.proofs.watch.see_all.Given as goal

abbrev pub invariant-loop-what : goal.invariant-loop-what
invariant-loop-what l = record {
  reported : (hists : List (List Hit)) → AllThree IsTrack l.marks hists l.fn.markings →
      l.seens.items ≡ seens_in (level_in l.levels) l.at l.marks hists (take l.what-index l.whats);
  kept : (hists : List (List Hit)) → AllThree IsTrack l.marks hists l.fn.markings →
      AllThree IsTrack l.marks (hists_over (level_in l.levels) l.at l.marks hists (take l.what-index l.whats)) l.markings;
}
