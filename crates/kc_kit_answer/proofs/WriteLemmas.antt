-- Files that are written.
use Rattle.std.proofs.Common.{◌≡◌, inl, inr, List, [], refl, sym}
use Rattle.kc_base.proofs.Growth.{Grew-nothing}
use Rattle.kc_kit_files.specs.declared.status.Status.{Status}
use Rattle.kc_kit_files.specs.declared.status.Status.TheVariants as status
use Rattle.kc_kit_files.specs.declared.ended.Ended.{Ended}
use Rattle.kc_kit_files.specs.declared.ended.Said.{Said}
use Rattle.kc_kit_files.specs.declared.ended.Said.TheVariants as said
use Rattle.kc_kit_files.specs.Ended.{said_in, EndsBy}
use Rattle.kc_kit_files.specs.Response.{Response, Write, done_writing}
use Rattle.kc_kit_files.specs.Outside.{Kept, Shown}
use Rattle.kc_kit_running.specs.Writing.{IsRefusedAt, AreWrittenBy, AreWritten}

-- ---- the response of files that are written

ends-refused : (old new : Kept) (out : Shown) (ws : List Write) (what : Said) (may : Response → Type 0) → may (done_writing ws) → IsRefusedAt what old ws new → EndsBy may old out status.WriteFault what new out
ends-refused old new out ws (said.File name) may m h = record { response = done_writing ws; is_answer = m; files = h.1; cause = h.0; text = Grew-nothing out.written out.written refl }
ends-refused old new out ws said.Nothing may m h = absurd h
ends-refused old new out ws (said.Refusal diagnostic) may m h = absurd h

ends-by-written : (old new : Kept) (out : Shown) (ws : List Write) (given : Status) (what : Said) (may : Response → Type 0) → may (done_writing ws) → said_in what ≡ [] → AreWrittenBy old ws given what new → EndsBy may old out given what new out
ends-by-written old new out ws status.Done what may m e h = record { response = done_writing ws; is_answer = (m, sym e); status = refl; text = Grew-nothing out.written out.written refl; files = h }
ends-by-written old new out ws status.WriteFault what may m e h = ends-refused old new out ws what may m h
ends-by-written old new out ws status.NoMemory what may m e h = record { text = inl refl; files = inr (done_writing ws, m, h) }
ends-by-written old new out ws status.Usage what may m e h = absurd h
ends-by-written old new out ws status.Missing what may m e h = absurd h
ends-by-written old new out ws status.Source what may m e h = absurd h
ends-by-written old new out ws status.Input what may m e h = absurd h
ends-by-written old new out ws status.Link what may m e h = absurd h
ends-by-written old new out ws status.Undefined what may m e h = absurd h
ends-by-written old new out ws status.ReadFault what may m e h = absurd h
ends-by-written old new out ws status.Broken what may m e h = absurd h

pub ends-written : (old new : Kept) (out : Shown) (ws : List Write) (ended : Ended) (may : Response → Type 0) → may (done_writing ws) → AreWritten old ws ended new → EndsBy may old out ended.status ended.said new out
ends-written old new out ws ended may m h = ends-by-written old new out ws ended.status ended.said may m h.silent h.written
