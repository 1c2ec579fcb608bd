-- The characters of what macros make are bytes.
use Rattle.std.proofs.Common.{◌≡◌, ℕ, true, ◌&&◌, List, arith}
use Rattle.std.specs.Prelude.{nat_lt, nat_le, length}
use Rattle.std.specs.List.{list_all}
use Rattle.std.proofs.lemmas.Bool.{and_parts}
use Rattle.std.proofs.lemmas.Bool.Decides.{nat_tests}
use Rattle.kc_lex.specs.Chars.{is_word_char}
use Rattle.kc_lex.specs.Words.{begins_name, is_name_text}
use Rattle.kc_obj_module.specs.Names.{is_name_char}
use Rattle.kc_macro_body.specs.Filling.{local_name}
use Rattle.kc_macro_laws.specs.Ends.{ExpansionEndsAtAPlace}
use Rattle.kc_macro_laws.specs.Kept.{NamesPass, ExpansionKeepsTests}
use Rattle.kc_macro_laws.proofs.MadeNames.{local_chars}
use Rattle.kc_source_laws.specs.Lines.{are_bytes, has_bytes, ExpansionKeepsLines}
use Rattle.kc_source_laws.proofs.Reading.{upper_bytes, word_byte, every_byte}

name_byte : (c : ℕ) → is_name_char c ≡ true → nat_lt c 256 ≡ true
name_byte c h = grind (arith, nat_tests)

joined_bytes : (text : List ℕ) → is_name_text text ≡ true → are_bytes text ≡ true
joined_bytes text h =
    every_byte is_word_char word_byte text (and_parts (begins_name text) (list_all is_word_char text) (and_parts (begins_name text && list_all is_word_char text) (nat_le (length text) 31) h).0).1

names_pass : (given : ℕ) → NamesPass has_bytes given
names_pass given = record {
  of_joins = λ text h. upper_bytes text (joined_bytes text h);
  of_locals = λ n few. every_byte is_name_char name_byte (local_name n) (local_chars n);
}

pub expansion_keeps_lines : ExpansionEndsAtAPlace → ExpansionKeepsTests → ExpansionKeepsLines
expansion_keeps_lines ends keep numbers lines out h e =
    let last = ends lines out e in
    keep numbers has_bytes lines out last.0 last.1 (names_pass last.0.given) h
