-- What is wrong in words that are no command, of words as strings, and where there is such a thing.
use Rattle.std.proofs.Common.{◌≡◌, ℕ, Bool, true, false, ◌&&◌, cond, List, [], ◌∷◌, length, take, drop, map, get_or, string_bytes, String, Global, ◌-◌, ◌≤◌, ◌<◌, arith, Option, Some, None, refl, sym, ap, ◌∙◌}
use Rattle.std.specs.Prelude.{codes, is_none, is_some, nat_le}
use Rattle.std.specs.List.{list_all}
use Rattle.std.specs.Option.{option_map, option_map_or, option_or}
use Rattle.std.specs.Str.{bytes_eq}
use Rattle.std.proofs.lemmas.Bool.Decides.{nat_tests}
use Rattle.std.proofs.lemmas.List.{take_all, take-map, drop-map}
use Rattle.kc_base.specs.Limits.{image_start}
use Rattle.kc_link_place.specs.Ranges.{are_in_bounds, lies_within}
use Rattle.kc_kit_words.specs.declared.extent.Extent.{Extent}
use Rattle.kc_kit_words.specs.declared.values.Form.{Form}
use Rattle.kc_kit_words.specs.declared.usage.Wrong.TheVariants as wrong
use Rattle.kc_kit_words.specs.Number.{number_of}
use Rattle.kc_kit_words.specs.Options.{form_of, has_form, pairs_of, left_over, value_in, value_of, are_pairs, are_options, inputs_of, clock_in, extent_in, lives_in, wanted_in}
use Rattle.kc_kit_words.specs.Values.{is_name, is_trace_name, is_address, range_of}
use Rattle.kc_kit_words.specs.Usage.{wrong_text, no_command, bad_value, bad_number, bad_address, twice, lacks, wrong_value, wrong_last, wrong_pairs, wrong_option, lacks_out, wrong_extent, wrong_listing, wrong_placing, wrong_outputs, wrong_name, wrong_files, wrong_file, wrong_trace, wrong_dump, wrong_pair, wrong_range, wrong_list, wrong_number, wrong_address, wrong_bound, wrong_word, wrong_more, wrong_by, wrong_with, wrong_writes, overwrites, plain_usage_of, wrong_check, wrong_run_options}
use Rattle.kc_kit_words.specs.UsageLaw.{WrongWhereNoCommand}
use Rattle.kc_kit_words.specs.Commands.{Command, Helps, ReportsVersion, Runs, Profiles, Assembles, Packs, Links, ProfilesHex, Lists, Debugs, Generates, overwritten, sparing, Checks, Bounds}
use Rattle.kc_kit_words.specs.Words.{count_files, files_of, options_of, are_files, placing_of, is_other, are_apart, beside_of, run_so, run_by, assembles_by, assemble_by, pack_by, links_by, link_by, hex_so, hex_by, lists_by, list_by, debug_by, generate_by, dumps_by, dump_by, explain_by, alone, command_by, help_on, plain_command_of, check_by, bound_by, behind_of, differ}

-- ---- the words with their verb, of which so many name files

pub plain_usage-verb : (ws prefix back : List (String Global)) (v : String Global) (n : ℕ) → 1 ≤ length ws → v ≡ get_or ws 0 v → n ≡ count_files (map string_bytes (take (length ws - 1) (drop 1 ws))) →
    prefix ≡ take n (take (length ws - 1) (drop 1 ws)) → back ≡ drop n (take (length ws - 1) (drop 1 ws)) →
    plain_usage_of (map string_bytes ws) ≡ wrong_with (string_bytes v) (map string_bytes prefix) (map string_bytes back)
plain_usage-verb [] prefix back v n some first count f b = absurd (omega (arith, some))
plain_usage-verb (a ∷ ws) prefix back v n some first count f b =
    let whole : take (length (a ∷ ws) - 1) ws ≡ ws = take_all (length (a ∷ ws) - 1) ws (omega arith) in
    let so_many : n ≡ count_files (map string_bytes ws) = count ∙ ap (λ l. count_files (map string_bytes l)) whole in
    let files : map string_bytes prefix ≡ take (count_files (map string_bytes ws)) (map string_bytes ws) =
    ap (map string_bytes) (f ∙ ap (take n) whole) ∙ sym (take-map string_bytes n ws) ∙ ap (λ k. take k (map string_bytes ws)) so_many in
    let options : map string_bytes back ≡ drop (count_files (map string_bytes ws)) (map string_bytes ws) =
    ap (map string_bytes) (b ∙ ap (drop n) whole) ∙ sym (drop-map string_bytes n ws) ∙ ap (λ k. drop k (map string_bytes ws)) so_many in
    rw (first, files, options) refl

-- ---- a file and a range are two words

pub list-few : (words : List (List ℕ)) → length words < 2 → wrong_list words ≡ Some (wrong_text wrong.FewWords)
list-few [] h = refl
list-few (a ∷ []) h = refl
list-few (a ∷ b ∷ words) h = absurd (omega (arith, h))

pub list-many : (words : List (List ℕ)) → 3 ≤ length words → wrong_list words ≡ Some (wrong_text wrong.ManyWords)
list-many [] h = absurd (omega (arith, h))
list-many (a ∷ []) h = absurd (omega (arith, h))
list-many (a ∷ b ∷ []) h = absurd (omega (arith, h))
list-many (a ∷ b ∷ c ∷ words) h = refl

-- ---- a number is one word

pub number-many : (words : List (List ℕ)) → 2 ≤ length words → wrong_number words ≡ Some (wrong_text wrong.ManyWords)
number-many [] h = absurd (omega (arith, h))
number-many (a ∷ []) h = absurd (omega (arith, h))
number-many (a ∷ b ∷ words) h = refl

-- ---- something is wrong exactly where there is no command

-- an option with its value
pair-agrees : (form : Option Form) (option value : List ℕ) (again w : Option (List ℕ)) (b : Bool) → is_none w ≡ b → is_none (option_or (wrong_value form option value again) w) ≡ (option_map_or (λ f. has_form f value) form false && is_none again && b)
pair-agrees None option value again w b e = refl
pair-agrees (Some form) option value again w b e = by (has_form form value) again
  where
    by : (t : Bool) (o : Option (List ℕ)) → is_none (option_or (cond t (cond (is_some o) (Some (twice option)) None) (Some (bad_value option value))) w) ≡ (t && is_none o && b)
    by false o = refl
    by true None = e
    by true (Some v) = refl

pairs-agree : (verb : List ℕ) (pairs : List (List ℕ × List ℕ)) → is_none (wrong_pairs verb pairs) ≡ are_pairs verb pairs
unfolding wrong_pairs are_pairs
pairs-agree verb [] = refl
pairs-agree verb (pair ∷ pairs) = pair-agrees (form_of verb pair.0) pair.0 pair.1 (value_in pair.0 pairs) (wrong_pairs verb pairs) (are_pairs verb pairs) (pairs-agree verb pairs)

-- and a word that is left over
options-agree : (verb : List ℕ) (options : List (List ℕ)) → is_none (wrong_option verb options) ≡ are_options verb options
options-agree verb options = by (wrong_pairs verb (pairs_of options)) (left_over options) ∙ ap (λ b. b && is_none (left_over options)) (pairs-agree verb (pairs_of options))
  where
    by : (w over : Option (List ℕ)) → is_none (option_or w (option_map (λ word. wrong_last (form_of verb word) word) over)) ≡ (is_none w && is_none over)
    by None None = refl
    by None (Some word) = refl
    by (Some t) over = refl

-- what is checked first, and then the others
gate : (w u : Option (List ℕ)) (b : Bool) (c : Option Command) → is_none w ≡ b → is_some u ≡ is_none c → is_some (option_or w u) ≡ is_none (cond b c None)
gate None u true c e f = f
gate None u false c e f = absurd (cc)
gate (Some t) u true c e f = absurd (cc)
gate (Some t) u false c e f = refl

name-agrees : (file : List ℕ) → is_none (wrong_name file) ≡ is_name file
name-agrees file = by (is_name file)
  where
    by : (b : Bool) → is_none (cond b None (Some (wrong_text wrong.BadName))) ≡ b
    by true = refl
    by false = refl

files-agree : (files : List (List ℕ)) → is_none (wrong_files files) ≡ are_files files
files-agree [] = refl
files-agree (file ∷ files) =
    let some : nat_le 1 (length (file ∷ files)) ≡ true = grind (arith, nat_tests) in
    by (nat_le (length (file ∷ files)) 64) (list_all is_name (file ∷ files)) ∙ ap (λ s. s && nat_le (length (file ∷ files)) 64 && list_all is_name (file ∷ files)) (sym some)
  where
    by : (few all : Bool) → is_none (cond few (cond all None (Some (wrong_text wrong.BadName))) (Some (wrong_text wrong.ManyFiles))) ≡ (true && few && all)
    by true true = refl
    by true false = refl
    by false all = refl

out-agrees : (make : List ℕ → Command) (out : Option (List ℕ)) → is_some (cond (is_some out) None (Some (lacks (codes "--out")))) ≡ is_none (option_map make out)
out-agrees make None = refl
out-agrees make (Some out) = refl

run-agrees : (files : List (List ℕ)) (verb : List ℕ) (options : List (List ℕ)) → is_some (option_or (wrong_files files) (wrong_run_options options)) ≡ is_none (run_by files verb options)
run-agrees files verb options =
    gate (wrong_files files) (wrong_run_options options) (are_files files)
    (run_so (behind_of options) files (inputs_of verb options) (extent_in options) (placing_of options)) (files-agree files)
    (by (value_of (codes "--profile") options) (value_of (codes "--cover") options) (extent_in options))
  where
    placed : (b : Bool) (c : Command) → is_some (cond b None (Some (wrong_text wrong.OutOfBounds))) ≡ is_none (cond b (Some c) None)
    placed true c = refl
    placed false c = refl

    both : (one b : Bool) (c : Command) → is_some (option_or (cond one None (Some (wrong_text wrong.SameFile))) (cond b None (Some (wrong_text wrong.OutOfBounds)))) ≡ is_none (cond (one && b) (Some c) None)
    both true true c = refl
    both true false c = refl
    both false b c = refl

    by : (profile cover : Option (List ℕ)) (extent : Option Extent) →
        is_some (option_or (cond (is_some extent) None (Some (lacks (codes "--states")))) (option_or (cond (differ profile cover) None (Some (wrong_text wrong.SameFile))) (wrong_placing options)))
        ≡ is_none (run_so (record { profile = profile; cover = cover }) files (inputs_of verb options) extent (placing_of options))
    by None None None = refl
    by None (Some c) None = refl
    by (Some p) cover None = refl
    by None None (Some e) = placed (are_in_bounds (placing_of options)) (Runs files (inputs_of verb options) e (placing_of options))
    by None (Some c) (Some e) = both true (are_in_bounds (placing_of options)) (Profiles files (inputs_of verb options) e (placing_of options) (record { profile = None; cover = Some c }))
    by (Some p) cover (Some e) =
        both (is_other p cover) (are_in_bounds (placing_of options)) (Profiles files (inputs_of verb options) e (placing_of options) (record { profile = Some p; cover = cover }))

asm-agrees : (files options : List (List ℕ)) → is_some (option_or (wrong_file files) (wrong_listing (value_of (codes "--out") options) (value_of (codes "--list") options))) ≡ is_none (assemble_by files options)
asm-agrees [] options = refl
asm-agrees (file ∷ []) options =
    gate (wrong_name file) (wrong_listing (value_of (codes "--out") options) (value_of (codes "--list") options)) (is_name file)
    (assembles_by file (value_of (codes "--out") options) (value_of (codes "--list") options)) (name-agrees file) (by (value_of (codes "--out") options) (value_of (codes "--list") options))
  where
    other : (b : Bool) (c : Command) → is_some (cond b None (Some (wrong_text wrong.SameFile))) ≡ is_none (cond b (Some c) None)
    other true c = refl
    other false c = refl

    by : (out list : Option (List ℕ)) → is_some (wrong_listing out list) ≡ is_none (assembles_by file out list)
    by None list = refl
    by (Some out) list = other (is_other out list) (Assembles file out list)
asm-agrees (file ∷ other ∷ files) options = refl

lib-agrees : (files options : List (List ℕ)) → is_some (option_or (wrong_files files) (lacks_out options)) ≡ is_none (pack_by files options)
lib-agrees files options =
    let out = value_of (codes "--out") options in
    gate (wrong_files files) (lacks_out options) (are_files files) (option_map (Packs files) out) (files-agree files) (out-agrees (Packs files) out)

link-agrees : (files : List (List ℕ)) (verb : List ℕ) (options : List (List ℕ)) →
    is_some (option_or (wrong_files files) (option_or (wrong_outputs (value_of (codes "--out") options) (beside_of options)) (wrong_placing options))) ≡ is_none (link_by files verb options)
link-agrees files verb options =
    gate (wrong_files files) (option_or (wrong_outputs (value_of (codes "--out") options) (beside_of options)) (wrong_placing options)) (are_files files)
    (links_by files (inputs_of verb options) (value_of (codes "--out") options) (beside_of options) (placing_of options)) (files-agree files) (by (value_of (codes "--out") options))
  where
    both : (a b : Bool) (c : Command) → is_some (option_or (cond a None (Some (wrong_text wrong.SameFile))) (cond b None (Some (wrong_text wrong.OutOfBounds)))) ≡ is_none (cond (a && b) (Some c) None)
    both true true c = refl
    both true false c = refl
    both false b c = refl

    by : (out : Option (List ℕ)) → is_some (option_or (wrong_outputs out (beside_of options)) (wrong_placing options)) ≡ is_none (links_by files (inputs_of verb options) out (beside_of options) (placing_of options))
    by None = refl
    by (Some out) = both (are_apart out (beside_of options)) (are_in_bounds (placing_of options)) (Links files (inputs_of verb options) out (beside_of options) (placing_of options))

hex-agrees : (files : List (List ℕ)) (verb : List ℕ) (options : List (List ℕ)) → is_some (option_or (wrong_file files) (wrong_extent options)) ≡ is_none (hex_by files verb options)
hex-agrees [] verb options = refl
hex-agrees (file ∷ []) verb options =
    gate (wrong_name file) (wrong_extent options) (is_name file) (hex_so (value_of (codes "--profile") options) file (inputs_of verb options) (extent_in options)) (name-agrees file)
    (by (value_of (codes "--profile") options) (extent_in options))
  where
    by : (profile : Option (List ℕ)) (extent : Option Extent) → is_some (cond (is_some extent) None (Some (lacks (codes "--states")))) ≡ is_none (hex_so profile file (inputs_of verb options) extent)
    by None None = refl
    by (Some out) None = refl
    by None (Some e) = refl
    by (Some out) (Some e) = refl
hex-agrees (file ∷ other ∷ files) verb options = refl

list-agrees : (files : List (List ℕ)) → is_some (wrong_list files) ≡ is_none (list_by files)
list-agrees [] = refl
list-agrees (file ∷ []) = refl
list-agrees (file ∷ range ∷ []) = gate (wrong_name file) (wrong_range range (range_of range)) (is_name file) (lists_by file (range_of range)) (name-agrees file) (by (range_of range))
  where
    within : (r : ℕ × ℕ) (b : Bool) → is_some (cond b None (Some (wrong_text wrong.OutOfBounds))) ≡ is_none (cond b (Some (Lists file r.0 r.1)) None)
    within r true = refl
    within r false = refl

    by : (r : Option (ℕ × ℕ)) → is_some (wrong_range range r) ≡ is_none (lists_by file r)
    by None = refl
    by (Some r) = within r (lies_within image_start 0xFFFF r)
list-agrees (file ∷ range ∷ word ∷ words) = refl

debug-agrees : (files : List (List ℕ)) (verb : List ℕ) (options : List (List ℕ)) → is_some (wrong_pair files) ≡ is_none (debug_by files verb options)
debug-agrees [] verb options = refl
debug-agrees (file ∷ []) verb options = refl
debug-agrees (file ∷ script ∷ []) verb options = by (is_name file) (is_name script) (Debugs file script (inputs_of verb options) (lives_in options))
  where
    by : (a b : Bool) (c : Command) → is_some (option_or (cond a None (Some (wrong_text wrong.BadName))) (cond b None (Some (wrong_text wrong.BadName)))) ≡ is_none (cond (a && b) (Some c) None)
    by true true c = refl
    by true false c = refl
    by false b c = refl
debug-agrees (file ∷ script ∷ third ∷ files) verb options = refl

number-agrees : (files : List (List ℕ)) → is_some (wrong_number files) ≡ is_none (generate_by files)
number-agrees [] = refl
number-agrees (number ∷ []) = by (number_of 65535 number)
  where
    by : (n : Option ℕ) → is_some (cond (is_some n) None (Some (bad_number number))) ≡ is_none (option_map Generates n)
    by None = refl
    by (Some n) = refl
number-agrees (number ∷ word ∷ words) = refl

trace-agrees : (trace : List ℕ) → is_none (wrong_trace trace) ≡ is_trace_name trace
trace-agrees trace = by (is_trace_name trace)
  where
    by : (b : Bool) → is_none (cond b None (Some (wrong_text wrong.BadName))) ≡ b
    by true = refl
    by false = refl

dump-agrees : (files : List (List ℕ)) (verb : List ℕ) (options : List (List ℕ)) → is_some (option_or (wrong_dump files) (lacks_out options)) ≡ is_none (dump_by files verb options)
dump-agrees [] verb options = refl
dump-agrees (trace ∷ []) verb options =
    gate (wrong_trace trace) (lacks_out options) (is_trace_name trace) (dumps_by trace (inputs_of verb options) (clock_in options) (value_of (codes "--out") options)) (trace-agrees trace)
    (by (value_of (codes "--out") options))
  where
    by : (out : Option (List ℕ)) → is_some (cond (is_some out) None (Some (lacks (codes "--out")))) ≡ is_none (dumps_by trace (inputs_of verb options) (clock_in options) out)
    by None = refl
    by (Some out) = refl
dump-agrees (trace ∷ other ∷ files) verb options = refl

check-agrees : (files : List (List ℕ)) (verb : List ℕ) (options : List (List ℕ)) → is_some (wrong_check files) ≡ is_none (check_by files verb options)
check-agrees [] verb options = refl
check-agrees (trace ∷ []) verb options = refl
check-agrees (trace ∷ rules ∷ []) verb options = by (is_trace_name trace) (is_name rules) (Checks trace rules (inputs_of verb options) (clock_in options))
  where
    by : (a b : Bool) (c : Command) → is_some (option_or (cond a None (Some (wrong_text wrong.BadName))) (cond b None (Some (wrong_text wrong.BadName)))) ≡ is_none (cond (a && b) (Some c) None)
    by true true c = refl
    by true false c = refl
    by false b c = refl
check-agrees (trace ∷ rules ∷ third ∷ files) verb options = refl

bound-agrees : (files : List (List ℕ)) (verb : List ℕ) (options : List (List ℕ)) → is_some (wrong_bound files) ≡ is_none (bound_by files verb options)
bound-agrees [] verb options = refl
bound-agrees (file ∷ []) verb options = refl
bound-agrees (file ∷ from ∷ []) verb options = by (is_name file) (is_address from) (Bounds file from (value_of (codes "--to") options) (inputs_of verb options) (wanted_in options))
  where
    by : (a b : Bool) (c : Command) → is_some (option_or (cond a None (Some (wrong_text wrong.BadName))) (cond b None (Some (bad_address from)))) ≡ is_none (cond (a && b) (Some c) None)
    by true true c = refl
    by true false c = refl
    by false b c = refl
bound-agrees (file ∷ from ∷ third ∷ files) verb options = refl

explain-agrees : (files : List (List ℕ)) → is_some (wrong_word files) ≡ is_none (explain_by files)
explain-agrees [] = refl
explain-agrees (code ∷ []) = refl
explain-agrees (code ∷ word ∷ words) = refl

alone-agrees : (files : List (List ℕ)) (c : Command) → is_some (wrong_more files) ≡ is_none (alone files c)
alone-agrees [] c = refl
alone-agrees (word ∷ words) c = refl

-- by one verb or by others
choose : (t : Bool) (u v : Option (List ℕ)) (b : Bool) (c d : Option Command) → is_some u ≡ is_none (cond b c None) → is_some v ≡ is_none (cond b d None) → is_some (cond t u v) ≡ is_none (cond b (cond t c d) None)
choose true u v b c d e f = e
choose false u v b c d e f = f

other-verb : (b : Bool) (t : List ℕ) (absent : Option Command) → absent ≡ None → is_some (Some t) ≡ is_none (cond b absent None)
other-verb true t absent e = ap is_none (sym e)
other-verb false t absent e = refl

verbs-agree : (verb : List ℕ) (files options : List (List ℕ)) (w : Option (List ℕ)) (b : Bool) → is_none w ≡ b → is_some (wrong_by verb files options w) ≡ is_none (cond b (command_by verb files options) None)
verbs-agree verb files options w b e =
    choose (bytes_eq verb (codes "run")) _ _ b _ _ (gate w _ b _ e (run-agrees files verb options))
    (choose (bytes_eq verb (codes "asm")) _ _ b _ _ (gate w _ b _ e (asm-agrees files options))
    (choose (bytes_eq verb (codes "lib")) _ _ b _ _ (gate w _ b _ e (lib-agrees files options))
    (choose (bytes_eq verb (codes "link")) _ _ b _ _ (gate w _ b _ e (link-agrees files verb options))
    (choose (bytes_eq verb (codes "hex")) _ _ b _ _ (gate w _ b _ e (hex-agrees files verb options))
    (choose (bytes_eq verb (codes "dis")) _ _ b _ _ (gate w _ b _ e (list-agrees files))
    (choose (bytes_eq verb (codes "debug")) _ _ b _ _ (gate w _ b _ e (debug-agrees files verb options))
    (choose (bytes_eq verb (codes "gen")) _ _ b _ _ (gate w _ b _ e (number-agrees files))
    (choose (bytes_eq verb (codes "vcd")) _ _ b _ _ (gate w _ b _ e (dump-agrees files verb options))
    (choose (bytes_eq verb (codes "check")) _ _ b _ _ (gate w _ b _ e (check-agrees files verb options))
    (choose (bytes_eq verb (codes "bound")) _ _ b _ _ (gate w _ b _ e (bound-agrees files verb options))
    (choose (bytes_eq verb (codes "explain")) _ _ b _ _ (gate w _ b _ e (explain-agrees files))
    (choose (bytes_eq verb (codes "--help")) _ _ b _ _ (gate w _ b _ e (alone-agrees files Helps))
    (choose (bytes_eq verb (codes "--version")) _ _ b _ _ (gate w _ b _ e (alone-agrees files ReportsVersion))
    (other-verb b (no_command verb) None refl))))))))))))))

-- and a command that would write over what it reads is none
spared : (w : Option (List ℕ)) (b : Bool) (c : Option Command) → is_some w ≡ is_none (cond b c None) → is_some (option_or w (wrong_writes c)) ≡ is_none (cond b (sparing c) None)
spared (Some t) true None e = refl
spared (Some t) true (Some k) e = absurd (cc)
spared (Some t) false c e = refl
spared None true None e = absurd (cc)
spared None true (Some k) e = by (overwritten (Some k))
  where
    by : (o : Option (List ℕ)) → is_some (option_map overwrites o) ≡ is_none (cond (is_none o) (Some k) None)
    by None = refl
    by (Some name) = refl
spared None false c e = absurd (cc)

plain-agrees : (words : List (List ℕ)) → is_some (plain_usage_of words) ≡ is_none (plain_command_of words)
plain-agrees [] = refl
plain-agrees (verb ∷ words) =
    let options = options_of words in
    let w = wrong_by verb (files_of words) options (wrong_option verb options) in
    spared w (are_options verb options) (command_by verb (files_of words) options)
    (verbs-agree verb (files_of words) options (wrong_option verb options) (are_options verb options) (options-agree verb options))

-- help on a command is a command
help-agrees : (help c : Option Command) (w : Option (List ℕ)) → is_some w ≡ is_none c → is_some (cond (is_some help) None w) ≡ is_none (option_or help c)
help-agrees None c w e = e
help-agrees (Some h) c w e = refl

pub wrong_where_none : WrongWhereNoCommand
wrong_where_none words = help-agrees (help_on words) (plain_command_of words) (plain_usage_of words) (plain-agrees words)
