-- Files that are written (this kit's own).
use Rattle.std.specs.Prelude.{◌≡◌, List, []}
use Rattle.kc_base.specs.Causes.{Rose}
use Rattle.kc_kit_files.specs.declared.status.Status.{Status}
use Rattle.kc_kit_files.specs.declared.status.Status.TheVariants as status
use Rattle.kc_kit_files.specs.declared.ended.Ended.{Ended}
use Rattle.kc_kit_files.specs.declared.ended.Said.{Said}
use Rattle.kc_kit_files.specs.declared.ended.Said.TheVariants as said
use Rattle.kc_kit_files.specs.Ended.{said_in}
use Rattle.kc_kit_files.specs.Outside.{Kept, Wrote, WroteByPart, RefusedAt}
use Rattle.kc_kit_files.specs.Response.{Write, write}
use Rattle.kc_kit_running.specs.declared.output.Output.{Output}

abbrev pub written : Output → Write
written o = write o.name.now o.bytes.items

-- files are written, all of them or some and then one that is refused, which is said
abbrev pub IsRefusedAt : Said → Kept → List Write → Kept → Type 0
IsRefusedAt (said.File name) before ws now = Rose before.faults now.faults × RefusedAt name.now before ws now
IsRefusedAt _ before ws now = ⊥

abbrev pub AreWrittenBy : Kept → List Write → Status → Said → Kept → Type 0
AreWrittenBy before ws status.Done what now = Wrote before ws now
AreWrittenBy before ws status.WriteFault what now = IsRefusedAt what before ws now
AreWrittenBy before ws status.NoMemory what now = WroteByPart before ws now
AreWrittenBy before ws _ what now = ⊥

pub record AreWritten (before : Kept) (ws : List Write) (ended : Ended) (now : Kept) : Type 0 where
  pub written : AreWrittenBy before ws ended.status ended.said now
  pub silent : said_in ended.said ≡ []
