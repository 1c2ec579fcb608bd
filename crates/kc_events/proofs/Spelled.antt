-- The record of a line is the one that its line can be.
use Rattle.std.proofs.Common.{◌≡◌, ℕ, zero, suc, ◌+◌, ◌-◌, ◌<◌, ◌≤◌, Some, None, Ok, List, [], ◌∷◌, ◌++◌, length, take, flat_map, length-append, refl, sym, ap, subst, ◌∙◌, append_assoc, arith}
use Rattle.std.specs.Prelude.{codes, decimal}
use Rattle.std.specs.Option.{option_map}
use Rattle.std.proofs.Math.Seq.{take-append_seam}
use Rattle.kc_base.specs.Limits.{max_states, entry_count, transfer_count}
use Rattle.hex.specs.Hex.{decode_sized}
use Rattle.kc_base.specs.declared.types.Edge.{Edge}
use Rattle.kc_base.specs.declared.types.Kind.{Kind}
use Rattle.kc_base.specs.declared.types.Kind.TheVariants as kind
use Rattle.kc_base.specs.declared.types.Level.{Level}
use Rattle.kc_base.specs.declared.types.Level.TheVariants.{Low, High}
use Rattle.kc_base.specs.declared.types.PtsMode.{PtsMode}
use Rattle.kc_base.specs.declared.types.PtsMode.TheVariants as mode
use Rattle.kc_base.specs.declared.types.Undefined.{Undefined}
use Rattle.kc_base.specs.Fields.{first_of, rest_of, time_of, pin_of, word_of}
use Rattle.kc_base.specs.Pins.{pin_name}
use Rattle.kc_trace.specs.declared.record.Record.{Record}
use Rattle.kc_trace.specs.declared.record.Record.TheVariants.{Pin, Entered, Served, Undef, Stopped, Pc, Psw, Wsr, Registers}
use Rattle.kc_trace.specs.Text.{hex, kind_number, level_digit, mode_name, end_name, fields_of}
use Rattle.kc_events.specs.Sound.{IsSound}
use Rattle.kc_events.specs.Candidates.{byte_number, entry_number, transfer_number, level_of, mode_of, end_of, kind_of, base_of, pin_with, pin_record, entered_with, entered_record, served_with, served_record, undefined_with, undefined_record, stopped_with, stopped_record, registers_in, registers_record, candidate_of}
use Rattle.kc_base.proofs.Words.{Word, Plain, word-from, word-before, word-after, plain-word, plain-more}
use Rattle.kc_base.proofs.Numbers.{word-decimal, number-read, word-hex, word-bytes, word-read, byte-read}
use Rattle.kc_events.proofs.Numbers.{base-read, bytes-read}
use Rattle.kc_events.proofs.Pins.{pin-read, pin-word}

-- ---- words

pub mode-word : (m : PtsMode) → Word (mode_name m)
mode-word mode.Single = word-from (codes "single") refl
mode-word mode.Block = word-from (codes "block") refl
mode-word mode.Hsi = word-from (codes "hsi") refl
mode-word mode.Hso = word-from (codes "hso") refl
mode-word mode.Scan = word-from (codes "scan") refl

mode-read : (m : PtsMode) → mode_of (mode_name m) ≡ m
mode-read mode.Single = refl
mode-read mode.Block = refl
mode-read mode.Hsi = refl
mode-read mode.Hso = refl
mode-read mode.Scan = refl

pub end-word : (how : ℕ) → Word (end_name how)
end-word zero = word-from (codes "spent") refl
end-word (suc zero) = word-from (codes "powerdown") refl
end-word (suc (suc zero)) = word-from (codes "reset") refl
end-word (suc (suc (suc n))) = word-from (codes "undefined") refl

end-read : (how : ℕ) → how < 4 → end_of (end_name how) ≡ how
end-read zero less = refl
end-read (suc zero) less = refl
end-read (suc (suc zero)) less = refl
end-read (suc (suc (suc zero))) less = refl
end-read (suc (suc (suc (suc n)))) less = absurd (omega arith)

pub kind-small : (k : Kind) → kind_number k ≤ 14
kind-small kind.OddWord = omega arith
kind-small kind.LongAlign = omega arith
kind-small kind.Opcode = omega arith
kind-small kind.HoldingFull = omega arith
kind-small kind.FastTimer2 = omega arith
kind-small kind.Channel = omega arith
kind-small kind.NoRegister = omega arith
kind-small kind.BadWindow = omega arith
kind-small kind.BadPts = omega arith
kind-small kind.DivZero = omega arith
kind-small kind.RomWrite = omega arith
kind-small kind.OutsideMap = omega arith
kind-small kind.ByteAccess = omega arith
kind-small kind.IdleKey = omega arith

kind-read : (k : Kind) → kind_of (kind_number k) ≡ k
kind-read kind.OddWord = refl
kind-read kind.LongAlign = refl
kind-read kind.Opcode = refl
kind-read kind.HoldingFull = refl
kind-read kind.FastTimer2 = refl
kind-read kind.Channel = refl
kind-read kind.NoRegister = refl
kind-read kind.BadWindow = refl
kind-read kind.BadPts = refl
kind-read kind.DivZero = refl
kind-read kind.RomWrite = refl
kind-read kind.OutsideMap = refl
kind-read kind.ByteAccess = refl
kind-read kind.IdleKey = refl

level-word : (l : Level) → Word (level_digit l ∷ [])
level-word Low = (omega arith, tt)
level-word High = (omega arith, tt)

level-read : (l : Level) → level_of (level_digit l ∷ []) ≡ l
level-read Low = refl
level-read High = refl

-- ---- fields behind one another

three : (a b c : List ℕ) → a ++ 32 ∷ [] ++ b ++ 32 ∷ [] ++ c ≡ a ++ 32 ∷ (b ++ 32 ∷ c)
three a b c = append_assoc ((a ++ 32 ∷ []) ++ b) (32 ∷ []) c ∙ append_assoc (a ++ 32 ∷ []) b (32 ∷ c) ∙ append_assoc a (32 ∷ []) (b ++ 32 ∷ c)

four : (a b c d : List ℕ) → a ++ 32 ∷ [] ++ b ++ 32 ∷ [] ++ c ++ 32 ∷ [] ++ d ≡ a ++ 32 ∷ (b ++ 32 ∷ (c ++ 32 ∷ d))
four a b c d = three (a ++ 32 ∷ [] ++ b) c d ∙ append_assoc (a ++ 32 ∷ []) b (32 ∷ (c ++ 32 ∷ d)) ∙ append_assoc a (32 ∷ []) (b ++ 32 ∷ (c ++ 32 ∷ d))

pub two : (a b : List ℕ) → a ++ 32 ∷ [] ++ b ≡ a ++ 32 ∷ b
two a b = append_assoc a (32 ∷ []) b

-- ---- lines of each letter

abbrev pin_text : ℕ → Edge → List ℕ
pin_text at edge = decimal at ++ 32 ∷ (pin_name edge.pin.0 ++ 32 ∷ level_digit edge.level ∷ [])

pub time-word : (at : ℕ) → at ≤ max_states → Word (decimal at)
time-word at h = word-decimal at (omega arith)

pub time-read : (at : ℕ) (rest : List ℕ) → at ≤ max_states → time_of (first_of (decimal at ++ 32 ∷ rest)) ≡ Some at
time-read at rest h = ap time_of (word-before (decimal at) rest (time-word at h)) ∙ number-read max_states at h (omega arith)

pub behind-time : (at : ℕ) (rest : List ℕ) → at ≤ max_states → rest_of (decimal at ++ 32 ∷ rest) ≡ rest
behind-time at rest h = word-after (decimal at) rest (time-word at h)

byte-word : (n : ℕ) → n < 256 → Word (decimal n)
byte-word n h = word-decimal n (omega arith)

below-256 : (n m : ℕ) → m ≤ 256 → n < m → n < 256
below-256 n m few less = omega arith

number-byte : (n : ℕ) → n < 256 → byte_number (decimal n) ≡ Some n
number-byte n h = number-read 255 n (omega arith) (omega arith)

pin-line : (at : ℕ) (edge : Edge) → edge.pin.0 < 41 → at ≤ max_states → pin_record (pin_text at edge) ≡ Some (Pin at edge)
pin-line at edge is early =
    let rest : List ℕ = pin_name edge.pin.0 ++ 32 ∷ level_digit edge.level ∷ [] in
    let behind = behind-time at rest early in
    let name = pin-word edge.pin.0 is in
    let time = time-read at rest early in
    let pin = ap pin_of (ap first_of behind ∙ word-before (pin_name edge.pin.0) (level_digit edge.level ∷ []) name) ∙ pin-read edge.pin.0 is in
    let level = ap level_of (ap rest_of behind ∙ word-after (pin_name edge.pin.0) (level_digit edge.level ∷ []) name) ∙ level-read edge.level in
    λ i. pin_with (time i) (pin i) (level i)

entered-line : (at vector back : ℕ) → at ≤ max_states → vector < entry_count → back < 65536 → entered_record (decimal at ++ 32 ∷ (decimal vector ++ 32 ∷ hex 4 back)) ≡ Some (Entered at vector back)
entered-line at vector back early few small =
    let rest : List ℕ = decimal vector ++ 32 ∷ hex 4 back in
    let behind = behind-time at rest early in
    let w = byte-word vector (omega (arith, few)) in
    let time = time-read at rest early in
    let number = ap entry_number (ap first_of behind ∙ word-before (decimal vector) (hex 4 back) w) ∙ number-read (entry_count - 1) vector (omega (arith, few)) (omega (arith, few)) in
    let address = ap word_of (ap rest_of behind ∙ word-after (decimal vector) (hex 4 back) w) ∙ word-read back small in
    λ i. entered_with (time i) (number i) (address i)

served-line : (at vector : ℕ) (m : PtsMode) (count : ℕ) → at ≤ max_states → vector < transfer_count → count < 256 →
    served_record (decimal at ++ 32 ∷ (decimal vector ++ 32 ∷ (mode_name m ++ 32 ∷ decimal count))) ≡ Some (Served at vector m count)
served-line at vector m count early few least =
    let last : List ℕ = mode_name m ++ 32 ∷ decimal count in
    let rest : List ℕ = decimal vector ++ 32 ∷ last in
    let behind = behind-time at rest early in
    let w = byte-word vector (omega (arith, few)) in
    let time = time-read at rest early in
    let number = ap transfer_number (ap first_of behind ∙ word-before (decimal vector) last w) ∙ number-read (transfer_count - 1) vector (omega (arith, few)) (omega (arith, few)) in
    let third = ap rest_of behind ∙ word-after (decimal vector) last w in
    let how = ap mode_of (ap first_of third ∙ word-before (mode_name m) (decimal count) (mode-word m)) ∙ mode-read m in
    let left = ap byte_number (ap rest_of third ∙ word-after (mode_name m) (decimal count) (mode-word m)) ∙ number-byte count least in
    λ i. served_with (time i) (number i) (how i) (left i)

undefined-line : (what : Undefined) → what.at ≤ max_states → what.addr < 65536 →
    undefined_record (decimal what.at ++ 32 ∷ (decimal (kind_number what.kind) ++ 32 ∷ hex 4 what.addr)) ≡ Some (Undef what)
undefined-line what early small =
    let few : kind_number what.kind < 256 = omega (arith, kind-small what.kind) in
    let rest : List ℕ = decimal (kind_number what.kind) ++ 32 ∷ hex 4 what.addr in
    let behind = behind-time what.at rest early in
    let w = byte-word (kind_number what.kind) few in
    let time = time-read what.at rest early in
    let number = ap byte_number (ap first_of behind ∙ word-before (decimal (kind_number what.kind)) (hex 4 what.addr) w) ∙ number-byte (kind_number what.kind) few in
    let address = ap word_of (ap rest_of behind ∙ word-after (decimal (kind_number what.kind)) (hex 4 what.addr) w) ∙ word-read what.addr small in
    let all : undefined_record (decimal what.at ++ 32 ∷ rest) ≡ Some (Undef (record { kind = kind_of (kind_number what.kind); at = what.at; addr = what.addr })) =
    λ i. undefined_with (time i) (number i) (address i) in
    all ∙ ap (λ (k : Kind). Some (Undef (record { kind = k; at = what.at; addr = what.addr }))) (kind-read what.kind)

stopped-line : (at how : ℕ) → at ≤ max_states → how < 4 → stopped_record (decimal at ++ 32 ∷ end_name how) ≡ Some (Stopped at how)
stopped-line at how early few =
    let time = time-read at (end_name how) early in
    let end = ap end_of (behind-time at (end_name how) early) ∙ end-read how few in
    λ i. stopped_with (time i) (end i)

registers-line : (base : ℕ) (bytes : List ℕ) → base < 0x1000 → decode_sized (flat_map (hex 2) bytes) 32 ≡ Ok bytes →
    registers_record (hex 3 base ++ 32 ∷ flat_map (hex 2) bytes) ≡ Some (Registers base bytes)
registers-line base bytes small decoded =
    let first = ap base_of (word-before (hex 3 base) (flat_map (hex 2) bytes) (word-hex 3 base)) ∙ base-read base small in
    let second = ap (λ t. decode_sized t 32) (word-after (hex 3 base) (flat_map (hex 2) bytes) (word-hex 3 base)) ∙ decoded in
    λ i. registers_in (first i) (second i)

-- ---- the record of a line

pub read : (item : Record) → IsSound item → candidate_of (fields_of item) ≡ Some item
unfolding fields_of
read (Pin at edge) h = ap (λ t. candidate_of (80 ∷ 32 ∷ t)) (three (decimal at) (pin_name edge.pin.0) (level_digit edge.level ∷ [])) ∙ pin-line at edge h.0 h.1
read (Entered at vector back) h = ap (λ t. candidate_of (73 ∷ 32 ∷ t)) (three (decimal at) (decimal vector) (hex 4 back)) ∙ entered-line at vector back h.1.0 h.1.1 h.1.2
read (Served at vector m count) h = ap (λ t. candidate_of (83 ∷ 32 ∷ t)) (four (decimal at) (decimal vector) (mode_name m) (decimal count)) ∙ served-line at vector m count h.1.0 h.1.1 h.1.2
read (Undef what) h = ap (λ t. candidate_of (85 ∷ 32 ∷ t)) (three (decimal what.at) (decimal (kind_number what.kind)) (hex 4 what.addr)) ∙ undefined-line what h.1.0 h.1.1
read (Stopped at how) h = ap (λ t. candidate_of (88 ∷ 32 ∷ t)) (two (decimal at) (end_name how)) ∙ stopped-line at how h.1 h.0
read (Pc value) h = ap (option_map Pc) (word-read value h.1)
read (Psw value) h = ap (option_map Psw) (word-read value h.1)
read (Wsr value) h = ap (option_map Wsr) (byte-read value h.1)
read (Registers base bytes) h =
    ap (λ t. candidate_of (82 ∷ 32 ∷ t)) (two (hex 3 base) (flat_map (hex 2) bytes))
    ∙ registers-line base bytes h.0 (bytes-read bytes h.1.0 h.1.1)

-- two records that may be of one line are one
pub same_line : (item other : Record) → IsSound item → IsSound other → fields_of item ≡ fields_of other → item ≡ other
same_line item other h k e =
    let both : Some item ≡ Some other = sym (read item h) ∙ ap candidate_of e ∙ read other k in cc

-- a line has no end within it
pub plain : (item : Record) → IsSound item → Plain (fields_of item)
unfolding fields_of
plain (Pin at edge) h =
    let line : Plain (pin_text at edge) = plain-more (decimal at) (pin_name edge.pin.0 ++ 32 ∷ level_digit edge.level ∷ []) (time-word at h.1)
    (plain-more (pin_name edge.pin.0) (level_digit edge.level ∷ []) (pin-word edge.pin.0 h.0) (plain-word (level_digit edge.level ∷ []) (level-word edge.level))) in
    subst (λ t. Plain (80 ∷ 32 ∷ t)) (sym (three (decimal at) (pin_name edge.pin.0) (level_digit edge.level ∷ []))) (omega arith, (omega arith, line))
plain (Entered at vector back) h =
    let line = plain-more (decimal at) (decimal vector ++ 32 ∷ hex 4 back) (time-word at h.1.0)
    (plain-more (decimal vector) (hex 4 back) (byte-word vector (below-256 vector 18 (omega arith) h.1.1)) (plain-word (hex 4 back) (word-hex 4 back))) in
    subst (λ t. Plain (73 ∷ 32 ∷ t)) (sym (three (decimal at) (decimal vector) (hex 4 back))) (omega arith, (omega arith, line))
plain (Served at vector m count) h =
    let line = plain-more (decimal at) (decimal vector ++ 32 ∷ (mode_name m ++ 32 ∷ decimal count)) (time-word at h.1.0)
    (plain-more (decimal vector) (mode_name m ++ 32 ∷ decimal count) (byte-word vector (below-256 vector 15 (omega arith) h.1.1))
    (plain-more (mode_name m) (decimal count) (mode-word m) (plain-word (decimal count) (byte-word count h.1.2)))) in
    subst (λ t. Plain (83 ∷ 32 ∷ t)) (sym (four (decimal at) (decimal vector) (mode_name m) (decimal count))) (omega arith, (omega arith, line))
plain (Undef what) h =
    let few : kind_number what.kind < 256 = omega (arith, kind-small what.kind) in
    let line = plain-more (decimal what.at) (decimal (kind_number what.kind) ++ 32 ∷ hex 4 what.addr) (time-word what.at h.1.0)
    (plain-more (decimal (kind_number what.kind)) (hex 4 what.addr) (byte-word (kind_number what.kind) few) (plain-word (hex 4 what.addr) (word-hex 4 what.addr))) in
    subst (λ t. Plain (85 ∷ 32 ∷ t)) (sym (three (decimal what.at) (decimal (kind_number what.kind)) (hex 4 what.addr))) (omega arith, (omega arith, line))
plain (Stopped at how) h =
    let line = plain-more (decimal at) (end_name how) (time-word at h.1) (plain-word (end_name how) (end-word how)) in
    subst (λ t. Plain (88 ∷ 32 ∷ t)) (sym (two (decimal at) (end_name how))) (omega arith, (omega arith, line))
plain (Pc value) h = (omega arith, (omega arith, (omega arith, plain-word (hex 4 value) (word-hex 4 value))))
plain (Psw value) h = (omega arith, (omega arith, (omega arith, (omega arith, plain-word (hex 4 value) (word-hex 4 value)))))
plain (Wsr value) h = (omega arith, (omega arith, (omega arith, (omega arith, plain-word (hex 2 value) (word-hex 2 value)))))
plain (Registers base bytes) h =
    let line = plain-more (hex 3 base) (flat_map (hex 2) bytes) (word-hex 3 base) (plain-word (flat_map (hex 2) bytes) (word-bytes bytes)) in
    subst (λ t. Plain (82 ∷ 32 ∷ t)) (sym (two (hex 3 base) (flat_map (hex 2) bytes))) (omega arith, (omega arith, line))

-- a line that can be none is none
pub lost : (line : List ℕ) → candidate_of line ≡ None → (item : Record) → IsSound item → fields_of item ≡ line → ⊥
lost line none item h e = let both : Some item ≡ None = sym (read item h) ∙ ap candidate_of e ∙ none in absurd cc

-- a line that another record could be is none
pub other_line : (line : List ℕ) (item : Record) → candidate_of line ≡ Some item → (fields_of item ≡ line → ⊥) → (other : Record) → IsSound other → fields_of other ≡ line → ⊥
other_line line item is differs other h e =
    let both : Some other ≡ Some item = sym (read other h) ∙ ap candidate_of e ∙ is in
    let same : other ≡ item = cc in
    differs (ap fields_of (sym same) ∙ e)

-- a text without its last byte
pub without_last : (xs text : List ℕ) (n : ℕ) → text ≡ xs ++ 10 ∷ [] → n ≡ length text → take (n - 1) text ≡ xs
without_last xs text n e len =
    let long : length text ≡ length xs + 1 = ap length e ∙ length-append xs (10 ∷ []) in
    let less : n - 1 ≡ length xs = omega (arith, long, len) in
    (λ i. take (less i) (e i)) ∙ take-append_seam xs (10 ∷ [])
