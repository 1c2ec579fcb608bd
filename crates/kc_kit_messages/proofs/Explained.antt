-- Each code has a row.
use Rattle.std.proofs.Common.{◌≡◌, ℕ, zero, suc, ◌<◌, Bool, true, ◌&&◌, inl, inr, List, refl, ap, ◌∙◌, arith}
use Rattle.std.specs.Prelude.{codes}
use Rattle.std.proofs.lemmas.Bool.{and_parts, cases_lt}
use Rattle.kc_base.specs.declared.types.Kind.{Kind}
use Rattle.kc_base.specs.declared.types.Kind.TheVariants as kind
use Rattle.kc_base.specs.Limits.{entry_count}
use Rattle.kc_isa.specs.declared.table.Mnemonic.{Mnemonic}
use Rattle.kc_isa.specs.declared.table.Mnemonic.TheVariants as mnemonic
use Rattle.kc_isa.specs.Names.{name_of}
use Rattle.kc_lex.specs.declared.fault.SourceCode.{SourceCode}
use Rattle.kc_lex.specs.declared.fault.SourceCode.TheVariants as source
use Rattle.kc_lex.specs.Codes.{code_number as source_number}
use Rattle.kc_obj_fields.specs.declared.faults.ObjCode.{ObjCode}
use Rattle.kc_obj_fields.specs.declared.faults.ObjCode.TheVariants as object
use Rattle.kc_obj_fields.specs.Codes.{code_number as object_number}
use Rattle.kc_lib.specs.declared.faults.LibCode.{LibCode}
use Rattle.kc_lib.specs.declared.faults.LibCode.TheVariants as library
use Rattle.kc_lib.specs.Codes.{code_number as library_number}
use Rattle.kc_hex.specs.declared.fault.HexCode.{HexCode}
use Rattle.kc_hex.specs.declared.fault.HexCode.TheVariants as hex
use Rattle.kc_hex.specs.Codes.{code_number as hex_number}
use Rattle.kc_stim.specs.declared.fault.StimFault.{StimFault}
use Rattle.kc_stim.specs.declared.fault.StimFault.TheVariants as stim
use Rattle.kc_link_place.specs.declared.ranges.LinkFault.{LinkFault}
use Rattle.kc_link_place.specs.declared.ranges.LinkFault.TheVariants as link
use Rattle.kc_kit_files.specs.declared.status.Status.{Status}
use Rattle.kc_kit_files.specs.declared.status.Status.TheVariants as status
use Rattle.kc_kit_files.specs.Diagnostics.{too_long}
use Rattle.kc_kit_messages.specs.Meanings.{all_said, source_rows, input_rows, run_rows, instruction_rows, first_rows, second_rows, third_rows, fourth_rows, sentence_of, is_among}
use Rattle.kc_kit_messages.specs.Codes.{all_codes, instruction_codes, lettered, numbered, kind_code, status_code, stimulus_code, rule_code}
use Rattle.kc_kit_messages.specs.Laws.{IsExplained, FaultsAreExplained, UsesAreExplained, MnemonicsAreExplained, VectorsAreDescribed, ends_with, vector_words}

abbrev all_below : (ℕ → Bool) → ℕ → Bool
all_below test zero = true
all_below test (suc n) = test n && all_below test n

each_below : (test : ℕ → Bool) (n k : ℕ) → all_below test n ≡ true → k < n → test k ≡ true
each_below test zero k all less = absurd (omega arith)
each_below test (suc n) k all less =
    let both = and_parts (test n) (all_below test n) all in
    elim (cases_lt k n) [
      | inl lower ↦ each_below test n k both.1 lower
      | inr last ↦ let same : k ≡ n = omega arith in ap test same ∙ both.0
    ]

abbrev has_row : List ℕ → Bool
has_row code = is_among code all_codes

sources : (code : SourceCode) → IsExplained (lettered (codes "E") (source_number code))
unfolding all_codes instruction_codes
sources source.NoStatement = refl
sources source.NoEnd = refl
sources source.LongLine = refl
sources source.ManyLines = refl
sources source.TooDeep = refl
sources source.DefinedTwice = refl
sources source.NotDefined = refl
sources source.ManyNames = refl
sources source.BadNumber = refl
sources source.NotFixed = refl
sources source.DivisionByZero = refl
sources source.DoesNotFit = refl
sources source.NotRelocatable = refl
sources source.OtherOperands = refl
sources source.NoMatch = refl
sources source.ManyArguments = refl
sources source.PastTheEnd = refl
sources source.OutsideCode = refl
sources source.OutOfReach = refl
sources source.NotPublic = refl
sources source.NotExternal = refl
sources source.OutsideRegion = refl
sources source.SecondModule = refl
sources source.NoLabel = refl

objects : (code : ObjCode) → IsExplained (lettered (codes "O") (object_number code))
unfolding all_codes instruction_codes
objects object.WrongOrder = refl
objects object.TooShort = refl
objects object.OutOfRange = refl
objects object.OtherSpelling = refl
objects object.BytesBehind = refl
objects object.NoName = refl

libraries : (code : LibCode) → IsExplained (lettered (codes "B") (library_number code))
unfolding all_codes instruction_codes
libraries library.Head = refl
libraries library.End = refl
libraries library.NoObject = refl
libraries library.SecondName = refl
libraries library.TooMany = refl
libraries library.Behind = refl

hex_files : (code : HexCode) → IsExplained (lettered (codes "H") (hex_number code))
unfolding all_codes instruction_codes
hex_files hex.Form = refl
hex_files hex.Checksum = refl
hex_files hex.Type = refl
hex_files hex.Address = refl
hex_files hex.Behind = refl
hex_files hex.NoEnd = refl

statuses : (given : Status) → IsExplained (status_code given)
unfolding all_codes instruction_codes
statuses status.Done = refl
statuses status.Usage = refl
statuses status.Missing = refl
statuses status.Source = refl
statuses status.Input = refl
statuses status.Link = refl
statuses status.Undefined = refl
statuses status.ReadFault = refl
statuses status.WriteFault = refl
statuses status.NoMemory = refl
statuses status.Broken = refl

stimuli : (fault : StimFault) → IsExplained (stimulus_code fault)
unfolding all_codes instruction_codes
stimuli (stim.BadLine line) = refl
stimuli (stim.Wired line) = refl
stimuli (stim.Falling line) = refl
stimuli (stim.Twice line) = refl
stimuli (stim.TooMany line) = refl
stimuli stim.NoMemory = refl

rules_of_linking : (fault : LinkFault) → IsExplained (rule_code fault)
unfolding all_codes instruction_codes
rules_of_linking (link.Unresolved name) = refl
rules_of_linking (link.OverlapName name) = refl
rules_of_linking (link.OverlapPlace at) = refl
rules_of_linking (link.Capacity sort number) = refl
rules_of_linking (link.Range number piece offset) = refl
rules_of_linking link.NoMemory = refl

kinds : (k : Kind) → IsExplained (kind_code k)
unfolding all_codes instruction_codes
kinds kind.OddWord = refl
kinds kind.LongAlign = refl
kinds kind.Opcode = refl
kinds kind.HoldingFull = refl
kinds kind.FastTimer2 = refl
kinds kind.Channel = refl
kinds kind.NoRegister = refl
kinds kind.BadWindow = refl
kinds kind.BadPts = refl
kinds kind.DivZero = refl
kinds kind.RomWrite = refl
kinds kind.OutsideMap = refl
kinds kind.ByteAccess = refl
kinds kind.IdleKey = refl

requests : (n : ℕ) → n < entry_count → IsExplained (numbered (codes "request") n)
unfolding all_codes instruction_codes
requests n few = each_below (λ k. has_row (numbered (codes "request") k)) entry_count n refl few

analog : IsExplained (codes "BADANALOG")
unfolding all_codes instruction_codes
analog = refl

scripts : IsExplained (codes "BADCOMMAND")
unfolding all_codes instruction_codes
scripts = refl

maps : IsExplained (codes "BADMAP")
unfolding all_codes instruction_codes
maps = refl

traces : IsExplained (codes "BADTRACE")
unfolding all_codes instruction_codes
traces = refl

rule_files : IsExplained (codes "BADRULE")
unfolding all_codes instruction_codes
rule_files = refl

names : IsExplained (codes "BADNAMES")
unfolding all_codes instruction_codes
names = refl

notes : IsExplained (codes "BADNOTE")
unfolding all_codes instruction_codes
notes = refl

files : IsExplained (codes "LONG")
unfolding all_codes instruction_codes
files = refl

long : sentence_of (codes "LONG") ≡ too_long
unfolding all_said source_rows input_rows run_rows instruction_rows first_rows second_rows third_rows fourth_rows
long = refl

pub faults_are_explained : FaultsAreExplained
faults_are_explained = record {
  sources = sources;
  objects = objects;
  libraries = libraries;
  hex = hex_files;
  stimuli = stimuli;
  rules = rules_of_linking;
  analog = analog;
  scripts = scripts;
  maps = maps;
  traces = traces;
  rule_files = rule_files;
  names = names;
  notes = notes;
  files = files;
  long = long;
}

pub uses_are_explained : UsesAreExplained
uses_are_explained = record { kinds = kinds; requests = requests; statuses = statuses }

-- ---- the vectors of requests

pub vectors_are_described : VectorsAreDescribed
unfolding all_said source_rows input_rows run_rows instruction_rows first_rows second_rows third_rows fourth_rows
vectors_are_described number few = each_below (λ n. ends_with (vector_words n) (sentence_of (numbered (codes "request") n))) entry_count number refl few

-- ---- instructions

pub mnemonics_are_explained : MnemonicsAreExplained
unfolding all_codes instruction_codes
mnemonics_are_explained mnemonic.Skip = refl
mnemonics_are_explained mnemonic.Clr = refl
mnemonics_are_explained mnemonic.Not = refl
mnemonics_are_explained mnemonic.Neg = refl
mnemonics_are_explained mnemonic.Xch = refl
mnemonics_are_explained mnemonic.Dec = refl
mnemonics_are_explained mnemonic.Ext = refl
mnemonics_are_explained mnemonic.Inc = refl
mnemonics_are_explained mnemonic.Shr = refl
mnemonics_are_explained mnemonic.Shl = refl
mnemonics_are_explained mnemonic.Shra = refl
mnemonics_are_explained mnemonic.Shrl = refl
mnemonics_are_explained mnemonic.Shll = refl
mnemonics_are_explained mnemonic.Shral = refl
mnemonics_are_explained mnemonic.Norml = refl
mnemonics_are_explained mnemonic.Clrb = refl
mnemonics_are_explained mnemonic.Notb = refl
mnemonics_are_explained mnemonic.Negb = refl
mnemonics_are_explained mnemonic.Xchb = refl
mnemonics_are_explained mnemonic.Decb = refl
mnemonics_are_explained mnemonic.Extb = refl
mnemonics_are_explained mnemonic.Incb = refl
mnemonics_are_explained mnemonic.Shrb = refl
mnemonics_are_explained mnemonic.Shlb = refl
mnemonics_are_explained mnemonic.Shrab = refl
mnemonics_are_explained mnemonic.Sjmp = refl
mnemonics_are_explained mnemonic.Scall = refl
mnemonics_are_explained mnemonic.Jbc = refl
mnemonics_are_explained mnemonic.Jbs = refl
mnemonics_are_explained mnemonic.And = refl
mnemonics_are_explained mnemonic.Add = refl
mnemonics_are_explained mnemonic.Sub = refl
mnemonics_are_explained mnemonic.Mulu = refl
mnemonics_are_explained mnemonic.Andb = refl
mnemonics_are_explained mnemonic.Addb = refl
mnemonics_are_explained mnemonic.Subb = refl
mnemonics_are_explained mnemonic.Mulub = refl
mnemonics_are_explained mnemonic.Or = refl
mnemonics_are_explained mnemonic.Xor = refl
mnemonics_are_explained mnemonic.Cmp = refl
mnemonics_are_explained mnemonic.Divu = refl
mnemonics_are_explained mnemonic.Orb = refl
mnemonics_are_explained mnemonic.Xorb = refl
mnemonics_are_explained mnemonic.Cmpb = refl
mnemonics_are_explained mnemonic.Divub = refl
mnemonics_are_explained mnemonic.Ld = refl
mnemonics_are_explained mnemonic.Addc = refl
mnemonics_are_explained mnemonic.Subc = refl
mnemonics_are_explained mnemonic.Ldbze = refl
mnemonics_are_explained mnemonic.Ldb = refl
mnemonics_are_explained mnemonic.Addcb = refl
mnemonics_are_explained mnemonic.Subcb = refl
mnemonics_are_explained mnemonic.Ldbse = refl
mnemonics_are_explained mnemonic.St = refl
mnemonics_are_explained mnemonic.Bmov = refl
mnemonics_are_explained mnemonic.Stb = refl
mnemonics_are_explained mnemonic.Cmpl = refl
mnemonics_are_explained mnemonic.Push = refl
mnemonics_are_explained mnemonic.Pop = refl
mnemonics_are_explained mnemonic.Bmovi = refl
mnemonics_are_explained mnemonic.Jnst = refl
mnemonics_are_explained mnemonic.Jnh = refl
mnemonics_are_explained mnemonic.Jgt = refl
mnemonics_are_explained mnemonic.Jnc = refl
mnemonics_are_explained mnemonic.Jnvt = refl
mnemonics_are_explained mnemonic.Jnv = refl
mnemonics_are_explained mnemonic.Jge = refl
mnemonics_are_explained mnemonic.Jne = refl
mnemonics_are_explained mnemonic.Jst = refl
mnemonics_are_explained mnemonic.Jh = refl
mnemonics_are_explained mnemonic.Jle = refl
mnemonics_are_explained mnemonic.Jc = refl
mnemonics_are_explained mnemonic.Jvt = refl
mnemonics_are_explained mnemonic.Jv = refl
mnemonics_are_explained mnemonic.Jlt = refl
mnemonics_are_explained mnemonic.Je = refl
mnemonics_are_explained mnemonic.Djnz = refl
mnemonics_are_explained mnemonic.Djnzw = refl
mnemonics_are_explained mnemonic.Tijmp = refl
mnemonics_are_explained mnemonic.Br = refl
mnemonics_are_explained mnemonic.Ljmp = refl
mnemonics_are_explained mnemonic.Dpts = refl
mnemonics_are_explained mnemonic.Epts = refl
mnemonics_are_explained mnemonic.Lcall = refl
mnemonics_are_explained mnemonic.Ret = refl
mnemonics_are_explained mnemonic.Pushf = refl
mnemonics_are_explained mnemonic.Popf = refl
mnemonics_are_explained mnemonic.Pusha = refl
mnemonics_are_explained mnemonic.Popa = refl
mnemonics_are_explained mnemonic.Idlpd = refl
mnemonics_are_explained mnemonic.Trap = refl
mnemonics_are_explained mnemonic.Clrc = refl
mnemonics_are_explained mnemonic.Setc = refl
mnemonics_are_explained mnemonic.Di = refl
mnemonics_are_explained mnemonic.Ei = refl
mnemonics_are_explained mnemonic.Clrvt = refl
mnemonics_are_explained mnemonic.Nop = refl
mnemonics_are_explained mnemonic.Rst = refl
mnemonics_are_explained mnemonic.Mul = refl
mnemonics_are_explained mnemonic.Mulb = refl
mnemonics_are_explained mnemonic.Div = refl
mnemonics_are_explained mnemonic.Divb = refl
