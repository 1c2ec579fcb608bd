-- A worked unlinked module: its code stands at 2100H and its absolute part at 2080H, where an instruction loads the address of the code
-- and a jump goes to 2100H.
use Rattle.std.specs.Prelude.{◌≡◌}
use Rattle.kc_expr.specs.declared.values.Base.TheVariants.{Fixed, Piece}
use Rattle.kc_obj_module.specs.Numbers.{Bases}
use Rattle.kc_asm_encode.specs.Filling.{fill}
use Rattle.kc_asm_section.specs.declared.unlinked.UnlinkedModule.{UnlinkedModule}
use Rattle.kc_asm_section.specs.Worked.{parts, publics, first, second}
use Rattle.kc_asm_unlinked_laws.specs.Parts.{piece_number, start, part_bases}

pub record WorkedRows (bases : Bases) (d : UnlinkedModule) : Type 0 where
  -- an empty part that a public names, the code, the absolute part
  pub code : piece_number d 1 ≡ 1
  pub absolute : piece_number d 3 ≡ 2
  pub stands : start bases d 3 ≡ 0x2080
  pub low : fill (part_bases bases d) 0x2081 (first 0 0 (Piece 1) 0) ≡ 0
  pub high : fill (part_bases bases d) 0x2082 (second 0 (Piece 1) 0) ≡ 0x21
  pub distance : fill (part_bases bases d) 0x2085 (first 4 0 Fixed 0x2100) ≡ 0x79

abbrev pub WorkedUnlinked : Type 0
WorkedUnlinked =
    (d : UnlinkedModule) → d.parts.items ≡ parts → d.publics.items ≡ publics → d.stack ≡ 0
    → (bases : Bases) → bases.piece 1 ≡ 0x2100 → bases.piece 2 ≡ 0x2080
    → WorkedRows bases d
