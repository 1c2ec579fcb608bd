-- What is said in words of the undefined use in which a run has ended (this kit's own): the line of a source, where its bytes come
-- from one, the kind with its sentence, the access that was refused, where it is one that was, and the address and the state.
use Rattle.std.specs.Prelude.{ℕ, nat_lt, List, [], ◌++◌, codes, decimal, Option, Some, None, if◌then◌else◌}
use Rattle.kc_base.specs.Digits.{hex}
use Rattle.kc_base.specs.declared.types.Undefined.{Undefined}
use Rattle.kc_exec_spec.specs.declared.access.Master.{Master}
use Rattle.kc_exec_spec.specs.declared.access.Master.TheVariants.{Cpu, Server}
use Rattle.kc_exec_spec.specs.declared.access.Access.{Access}
use Rattle.kc_exec_spec.specs.declared.access.Access.TheVariants.{ReadByte, ReadWord, WriteByte, WriteWord, SetMasks}
use Rattle.kc_trace.specs.Text.{kind_number}
use Rattle.kc_kit_files.specs.Shown.{shown}
use Rattle.kc_kit_messages.specs.Codes.{kind_code}
use Rattle.kc_kit_messages.specs.Diagnostics.{number_text}
use Rattle.kc_kit_messages.specs.Meanings.{sentence_of}

-- a line of a file
pub record FileLine : Type 0 where
  pub file : List ℕ
  pub line : ℕ

abbrev pub place_text : Option FileLine → List ℕ
place_text None = codes "kc96"
place_text (Some at) = shown at.file ++ number_text at.line

-- a register of a window has two digits, as it is written in a source
abbrev pub accessed : ℕ → List ℕ
accessed addr = hex (if nat_lt addr 256 then 2 else 4) addr ++ codes "H"

abbrev pub by_text : Master → List ℕ
by_text Cpu = []
by_text Server = codes " by the transfer server"

abbrev pub access_text : Access → List ℕ
access_text (ReadByte by addr) = accessed addr ++ codes " read" ++ by_text by
access_text (ReadWord by addr) = codes "word " ++ accessed addr ++ codes " read" ++ by_text by
access_text (WriteByte by addr n) = accessed addr ++ codes " written" ++ by_text by
access_text (WriteWord by addr n) = codes "word " ++ accessed addr ++ codes " written" ++ by_text by
access_text (SetMasks m) = codes "14H written"

abbrev pub refused_text : Option Access → List ℕ
refused_text None = []
refused_text (Some access) = codes " (" ++ access_text access ++ codes ")"

abbrev pub use_diagnostic : Option FileLine → Undefined → Option Access → List ℕ
use_diagnostic place what access =
    place_text place ++ codes ": undefined use " ++ decimal (kind_number what.kind) ++ codes ": " ++ sentence_of (kind_code what.kind)
    ++ refused_text access ++ codes " at " ++ hex 4 what.addr ++ codes "H in state " ++ decimal what.at ++ codes "\n"
