-- Runs of bytes as long as they can be, cut every 1,024 bytes, and relocations, of what stands at the places of a module.
use Rattle.std.specs.Prelude.{◌≡◌, ℕ, Bool, ◌+◌, ◌==◌, ◌&&◌, nat_lt, if◌then◌else◌, Option, Some, None, List, [], ◌∷◌, ◌++◌, length}
use Rattle.kc_obj_module.specs.declared.parts.Content.{Content}
use Rattle.kc_obj_module.specs.declared.parts.Fixup.{Fixup}
use Rattle.kc_asm_section.specs.declared.puts.Put.{Put}
use Rattle.kc_asm_section.specs.declared.runs.Run.{Run}

abbrev pub IsRun : Run → List ℕ → ℕ → ℕ → Type 0
IsRun run bytes piece offset = (run.bytes.items ≡ bytes) × (run.piece ≡ piece) × (run.offset ≡ offset)

abbrev pub content : ℕ → ℕ → List ℕ → Content
content piece offset bytes = record { piece = piece; offset = offset; bytes = bytes }

abbrev pub closed : List ℕ → ℕ → ℕ → List Content
closed [] piece offset = []
closed (b ∷ bs) piece offset = content piece offset (b ∷ bs) ∷ []

abbrev pub joins : List ℕ → ℕ → ℕ → Put → Bool
joins bytes piece offset q = nat_lt (length bytes) 1024 && (piece == q.piece) && (offset + length bytes == q.offset)

-- of a run that is under way, and what follows
unfoldable pub runs : List ℕ → ℕ → ℕ → List Put → List Content
runs bytes piece offset [] = closed bytes piece offset
runs bytes piece offset (q ∷ qs) =
    if joins bytes piece offset q then runs (bytes ++ q.byte ∷ []) piece offset qs
    else closed bytes piece offset ++ runs (q.byte ∷ []) q.piece q.offset qs

abbrev pub listed : Option Fixup → List Fixup
listed None = []
listed (Some f) = f ∷ []

unfoldable pub fixups_of : List Put → List Fixup
fixups_of [] = []
fixups_of (q ∷ qs) = listed q.fixup ++ fixups_of qs
