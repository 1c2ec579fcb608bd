-- Each code is one of those that are explained (this kit's own).
use Rattle.std.specs.Prelude.{◌≡◌, ℕ, ◌-◌, ◌<◌, Bool, true, List, ◌++◌, codes, drop, length, map}
use Rattle.std.specs.List.{IsDistinct}
use Rattle.std.specs.Str.{bytes_eq}
use Rattle.kc_base.specs.declared.types.Kind.{Kind}
use Rattle.kc_base.specs.Digits.{hex}
use Rattle.kc_base.specs.Limits.{entry_count}
use Rattle.kc_isa.specs.declared.table.Mnemonic.{Mnemonic}
use Rattle.kc_isa.specs.Names.{name_of}
use Rattle.kc_lex.specs.declared.fault.SourceCode.{SourceCode}
use Rattle.kc_lex.specs.Codes.{code_number as source_number}
use Rattle.kc_obj_fields.specs.declared.faults.ObjCode.{ObjCode}
use Rattle.kc_obj_fields.specs.Codes.{code_number as object_number}
use Rattle.kc_lib.specs.declared.faults.LibCode.{LibCode}
use Rattle.kc_lib.specs.Codes.{code_number as library_number}
use Rattle.kc_hex.specs.declared.fault.HexCode.{HexCode}
use Rattle.kc_hex.specs.Codes.{code_number as hex_number}
use Rattle.kc_stim.specs.declared.fault.StimFault.{StimFault}
use Rattle.kc_link_place.specs.declared.ranges.LinkFault.{LinkFault}
use Rattle.kc_exec_spec.specs.Entering.{vector_at}
use Rattle.kc_kit_files.specs.declared.status.Status.{Status}
use Rattle.kc_kit_files.specs.Diagnostics.{too_long}
use Rattle.kc_kit_messages.specs.Codes.{all_codes, lettered, numbered, kind_code, status_code, stimulus_code, rule_code}
use Rattle.kc_kit_messages.specs.Meanings.{code_of, all_said, sentence_of, is_among}

abbrev pub IsExplained : List ℕ → Type 0
IsExplained code = is_among code all_codes ≡ true

-- the codes of sources, objects, libraries and hex files, and of what has one code alone
pub record FaultsAreExplained : Type 0 where
  pub sources : (code : SourceCode) → IsExplained (lettered (codes "E") (source_number code))
  pub objects : (code : ObjCode) → IsExplained (lettered (codes "O") (object_number code))
  pub libraries : (code : LibCode) → IsExplained (lettered (codes "B") (library_number code))
  pub hex : (code : HexCode) → IsExplained (lettered (codes "H") (hex_number code))
  pub stimuli : (fault : StimFault) → IsExplained (stimulus_code fault)
  pub rules : (fault : LinkFault) → IsExplained (rule_code fault)
  pub analog : IsExplained (codes "BADANALOG")
  pub scripts : IsExplained (codes "BADCOMMAND")
  pub maps : IsExplained (codes "BADMAP")
  pub traces : IsExplained (codes "BADTRACE")
  pub rule_files : IsExplained (codes "BADRULE")
  pub names : IsExplained (codes "BADNAMES")
  pub notes : IsExplained (codes "BADNOTE")
  pub files : IsExplained (codes "LONG")
  pub long : sentence_of (codes "LONG") ≡ too_long

pub record UsesAreExplained : Type 0 where
  pub kinds : (kind : Kind) → IsExplained (kind_code kind)
  pub requests : (n : ℕ) → n < entry_count → IsExplained (numbered (codes "request") n)
  pub statuses : (given : Status) → IsExplained (status_code given)

abbrev pub MnemonicsAreExplained : Type 0
MnemonicsAreExplained = (m : Mnemonic) → IsExplained (name_of m)

abbrev pub ends_with : List ℕ → List ℕ → Bool
ends_with end text = bytes_eq (drop (length text - length end) text) end

-- the sentence of a request ends with the vector through which the machine enters its routine
abbrev pub vector_words : ℕ → List ℕ
vector_words number = codes "vector " ++ hex 4 (vector_at number) ++ codes "H"

abbrev pub VectorsAreDescribed : Type 0
VectorsAreDescribed = (number : ℕ) → number < entry_count → ends_with (vector_words number) (sentence_of (numbered (codes "request") number)) ≡ true

-- the rows are those of the codes, and no two of them have one code
pub record CodesDiffer : Type 0 where
  pub rows : map code_of all_said ≡ all_codes
  pub differ : IsDistinct bytes_eq all_codes
