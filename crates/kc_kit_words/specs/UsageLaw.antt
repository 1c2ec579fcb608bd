-- A law of words: something is wrong in them exactly where they are no command (this kit's own).
use Rattle.std.specs.Prelude.{◌≡◌, ℕ, List, is_none, is_some}
use Rattle.kc_kit_words.specs.Usage.{usage_of}
use Rattle.kc_kit_words.specs.Words.{command_of}

abbrev pub WrongWhereNoCommand : Type 0
WrongWhereNoCommand = (words : List (List ℕ)) → is_some (usage_of words) ≡ is_none (command_of words)
