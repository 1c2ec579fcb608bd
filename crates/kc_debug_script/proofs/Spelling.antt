-- What is written of commands and of entries is read as them.
use Rattle.std.proofs.Common.{◌≡◌, ℕ, ◌-◌, ◌^◌, ◌<◌, ◌≤◌, inl, inr, true, false, cond, ◌&&◌, leb, Option, Some, None, List, [], ◌∷◌, ◌++◌, length, map, flat_map, refl, sym, ap, ◌∙◌, append_assoc, arith}
use Rattle.std.specs.Prelude.{All, codes, decimal}
use Rattle.std.specs.List.{list_all, before_first, after_first}
use Rattle.std.specs.Option.{option_map}
use Rattle.std.proofs.lemmas.Bool.{le-leb, lt-leb, ne_eqb, and_parts, cases_lt}
use Rattle.std.proofs.lemmas.List.Elements.{All-head, All-tail}
use Rattle.kc_base.specs.Limits.{max_states}
use Rattle.kc_base.specs.Digits.{hex}
use Rattle.kc_base.specs.TextLines.{text_lines}
use Rattle.kc_base.specs.Fields.{is_space, word_of, byte_of}
use Rattle.kc_base.proofs.Words.{Word, word-before, word-after, Plain, plain-word, plain-append, plain_line, no_lines}
use Rattle.kc_base.proofs.Numbers.{word-decimal, number-read as decimal-read, word-hex, upper-hex, word-read, byte-read}
use Rattle.kc_obj_module.specs.Names.{is_name_char, begins_name, is_name}
use Rattle.kc_debug_script.specs.declared.command.Command.{Command}
use Rattle.kc_debug_script.specs.declared.command.Command.TheVariants.{Step, Go, Break, Registers, Show, Write, History, Quit}
use Rattle.kc_debug_script.specs.declared.line_map.MapEntry.{MapEntry}
use Rattle.kc_debug_script.specs.Fields.{if_is, number_of}
use Rattle.kc_debug_script.specs.Commands.{is_writable, shown, written, command_of}
use Rattle.kc_debug_script.specs.LineMap.{map_address, map_name, entry_with, entry_of}
use Rattle.kc_debug_script.specs.Spelling.{command_text, script_text, entry_line, map_text, IsCommand, IsEntry}
use Rattle.kc_debug_script.specs.Laws.{CommandsAreReadBack, ScriptsAreReadBack, MapsAreReadBack}
use Rattle.kc_debug_script.proofs.Limits.{scripts_are_commands}
use Rattle.kc_debug_script.proofs.Orders.{maps_are_entries}

-- the lines of texts, each with its end
each_line : {A : Type 0} (text line : A → List ℕ) (P : A → Type 0) → ((a : A) → P a → (line a ≡ text a ++ 10 ∷ []) × Plain (text a)) →
    (xs : List A) → All P xs → text_lines (flat_map line xs) ≡ map text xs
each_line text line P is [] all = no_lines
each_line text line P is (x ∷ xs) all =
    let here = is x (All-head P x xs all) in
    ap (λ l. text_lines (l ++ flat_map line xs)) here.0
    ∙ ap text_lines (append_assoc (text x) (10 ∷ []) (flat_map line xs))
    ∙ plain_line (text x) (flat_map line xs) here.1
    ∙ ap (λ ls. text x ∷ ls) (each_line text line P is xs (All-tail P x xs all))

each_read : {A : Type 0} (text : A → List ℕ) (meaning : List ℕ → Option A) (P : A → Type 0) → ((a : A) → P a → meaning (text a) ≡ Some a) →
    (xs : List A) → All P xs → map meaning (map text xs) ≡ map Some xs
each_read text meaning P is [] all = refl
each_read text meaning P is (x ∷ xs) all =
    let head = is x (All-head P x xs all) in
    let tail = each_read text meaning P is xs (All-tail P x xs all) in
    λ i. head i ∷ tail i

-- ---- numbers

number-read : (limit n : ℕ) → 1 ≤ n → n ≤ limit → n < 2 ^ 64 → number_of limit (decimal n) ≡ Some n
number-read limit n some few small =
    ap (λ o. if_is (λ k. leb 1 k) o) (decimal-read limit n few small) ∙ rw (le-leb 1 n some) refl

map_address-read : (n : ℕ) → n < 2 ^ 16 → map_address (hex 4 n) ≡ Some n
map_address-read n small = ap (λ b. cond b None (word_of (hex 4 n))) (upper-hex 4 n) ∙ word-read n small

-- ---- names

name_char-word : (c : ℕ) → is_name_char c ≡ true → 32 < c
name_char-word c h = elim (cases_lt c 33) [
  | inr more ↦ omega arith
  | inl less ↦
      let none : is_name_char c ≡ false = rw (lt-leb 65 c (omega arith), lt-leb 48 c (omega arith), ne_eqb c 95 (λ e. omega arith), ne_eqb c 63 (λ e. omega arith)) refl in
      absurd (let t : true ≡ false = sym h ∙ none in cc)
]

chars-word : (name : List ℕ) → list_all is_name_char name ≡ true → Word name
chars-word [] h = tt
chars-word (c ∷ name) h =
    let both = and_parts (is_name_char c) (list_all is_name_char name) h in
    (name_char-word c both.0, chars-word name both.1)

word-name : (name : List ℕ) → is_name name ≡ true → Word name
word-name name h =
    let first = and_parts (begins_name name && leb (length name) 31) (list_all is_name_char name) h in
    chars-word name first.1

-- ---- commands

writable-read : (addr : ℕ) (o : Option ℕ) → o ≡ Some addr → is_writable addr ≡ true → if_is is_writable o ≡ Some addr
writable-read addr o is passes = ap (if_is is_writable) is ∙ ap (λ b. cond b (Some addr) None) passes

pub commands_are_read_back : CommandsAreReadBack
commands_are_read_back (Step count) c = ap (option_map Step) (number-read 1000000 count c.bounded.0 c.bounded.1 (let few = c.bounded.1 in omega arith))
commands_are_read_back (Go until) c = ap (option_map Go) (number-read max_states until c.bounded.0 c.bounded.1 (let few = c.bounded.1 in omega arith))
commands_are_read_back (Break addr) c = ap (option_map Break) (word-read addr c.widths)
commands_are_read_back Registers c = refl
commands_are_read_back (Show from count) c =
    let few = c.bounded.1 in
    let w = word-hex 4 from in
    let first = ap word_of (word-before (hex 4 from) (decimal count) w) ∙ word-read from c.widths in
    let second = ap (number_of 256) (word-after (hex 4 from) (decimal count) w) ∙ number-read 256 count c.bounded.0 few (omega arith) in
    λ i. shown (first i) (second i)
commands_are_read_back (Write addr value) c =
    let w = word-hex 4 addr in
    let first = writable-read addr _ (ap word_of (word-before (hex 4 addr) (hex 2 value) w) ∙ word-read addr c.widths.0) c.bounded in
    let second = ap byte_of (word-after (hex 4 addr) (hex 2 value) w) ∙ byte-read value c.widths.1 in
    λ i. written (first i) (second i)
commands_are_read_back History c = refl
commands_are_read_back Quit c = refl

command-plain : (c : Command) → IsCommand c → Plain (command_text c)
command-plain (Step count) c = let few = c.bounded.1 in (omega arith, (omega arith, plain-word (decimal count) (word-decimal count (omega arith))))
command-plain (Go until) c = let few = c.bounded.1 in (omega arith, (omega arith, plain-word (decimal until) (word-decimal until (omega arith))))
command-plain (Break addr) c = (omega arith, (omega arith, plain-word (hex 4 addr) (word-hex 4 addr)))
command-plain Registers c = (omega arith, tt)
command-plain (Show from count) c =
    let few = c.bounded.1 in
    (omega arith, (omega arith, plain-append (hex 4 from) (32 ∷ decimal count) (plain-word (hex 4 from) (word-hex 4 from)) (omega arith, plain-word (decimal count) (word-decimal count (omega arith)))))
command-plain (Write addr value) c =
    (omega arith, (omega arith, plain-append (hex 4 addr) (32 ∷ hex 2 value) (plain-word (hex 4 addr) (word-hex 4 addr)) (omega arith, plain-word (hex 2 value) (word-hex 2 value))))
command-plain History c = (omega arith, tt)
command-plain Quit c = (omega arith, tt)

pub scripts_are_read_back : ScriptsAreReadBack
scripts_are_read_back cs limited all =
    let lines = each_line command_text (λ c. command_text c ++ 10 ∷ []) IsCommand (λ c is. (refl, command-plain c is)) cs all in
    (scripts_are_commands.all (script_text cs) cs).1 (record {
      each = ap (map command_of) lines ∙ each_read command_text command_of IsCommand commands_are_read_back cs all;
      keep = limited;
    })

-- ---- entries

abbrev entry_text : MapEntry → List ℕ
entry_text e = hex 4 e.addr ++ 32 ∷ (e.name ++ 32 ∷ decimal e.line)

joined : (a b c : List ℕ) → a ++ codes " " ++ b ++ codes " " ++ c ++ codes "\n" ≡ (a ++ 32 ∷ (b ++ 32 ∷ c)) ++ 10 ∷ []
joined a b c = ap (λ xs. xs ++ 10 ∷ [])
    (append_assoc ((a ++ 32 ∷ []) ++ b) (32 ∷ []) c ∙ append_assoc (a ++ 32 ∷ []) b (32 ∷ c) ∙ append_assoc a (32 ∷ []) (b ++ 32 ∷ c))

entry-ends : (e : MapEntry) → entry_line e ≡ entry_text e ++ 10 ∷ []
entry-ends e = joined (hex 4 e.addr) e.name (decimal e.line)

entry-plain : (e : MapEntry) → IsEntry e → Plain (entry_text e)
entry-plain e is =
    let small = is.line in
    plain-append (hex 4 e.addr) (32 ∷ (e.name ++ 32 ∷ decimal e.line)) (plain-word (hex 4 e.addr) (word-hex 4 e.addr))
    (omega arith, plain-append e.name (32 ∷ decimal e.line) (plain-word e.name (word-name e.name is.name)) (omega arith, plain-word (decimal e.line) (word-decimal e.line (omega arith))))

entry-read : (e : MapEntry) → IsEntry e → entry_of (entry_text e) ≡ Some e
entry-read e is =
    let small = is.line in
    let rest : List ℕ = e.name ++ 32 ∷ decimal e.line in
    let behind : after_first is_space (entry_text e) ≡ rest = word-after (hex 4 e.addr) rest (word-hex 4 e.addr) in
    let n = word-name e.name is.name in
    let addr = ap map_address (word-before (hex 4 e.addr) rest (word-hex 4 e.addr)) ∙ map_address-read e.addr is.addr in
    let name = ap map_name (ap (before_first is_space) behind ∙ word-before e.name (decimal e.line) n) ∙ ap (λ b. cond b (Some e.name) None) is.name in
    let line = ap (number_of (2 ^ 32 - 1)) (ap (after_first is_space) behind ∙ word-after e.name (decimal e.line) n) ∙ number-read (2 ^ 32 - 1) e.line is.first (omega arith) (omega arith) in
    λ i. entry_with (addr i) (name i) (line i)

pub maps_are_read_back : MapsAreReadBack
maps_are_read_back es ordered all =
    let lines = each_line entry_text entry_line IsEntry (λ e is. (entry-ends e, entry-plain e is)) es all in
    (maps_are_entries.all (map_text es) es).1 (record {
      each = ap (map entry_of) lines ∙ each_read entry_text entry_of IsEntry entry-read es all;
      keep = ordered;
    })
