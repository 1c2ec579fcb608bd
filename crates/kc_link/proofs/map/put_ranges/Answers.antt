use Rattle.std.proofs.Common.{◌≡◌, ◌++◌, ◌<◌, false, get_or, ℕ, List, Bool, ap, ◌∙◌}
use Rattle.kc_link.specs.Free.{modules_cover}
use Rattle.kc_link.specs.Map.{kind_word, range_text}
use Rattle.kc_obj_module.specs.declared.parts.SegKind.TheVariants.{Reg, Code, Ram}
use Rattle.kc_link.proofs.Marking.{range_alike, registers_end, code_ends, data_ends, three_texts}
use Rattle.kc_link.proofs.map.put_ranges.Goals as goal

pub returns : goal.returns
returns c =
    let ms = c.args.modules.now in
    let places = c.args.placed.now in
    let first = c.args.stack.first in
    let size = c.args.stack.size in
    let ranges = c.args.ranges.now in
    let marks : (a : ℕ) → a < 65536 → get_or c.in_ok-taken.taken.items a false ≡ modules_cover places 0 ms a = c.in_ok-taken.ensures in
    let registers = range_alike ms places first size c.deref.result.now (kind_word Reg) ranges.reg (registers_end ranges c.requires.ranges) (λ a low. ap (λ (ts : List Bool). get_or ts a false) c.deref.ensures.value ∙ marks a low) in
    let code = range_alike ms places first size c.deref-2.result.now (kind_word Code) ranges.code (code_ends ranges c.requires.ranges) (λ a low. ap (λ (ts : List Bool). get_or ts a false) c.deref-2.ensures.value ∙ marks a low) in
    let ram = range_alike ms places first size c.deref-3.result.now (kind_word Ram) ranges.ram (data_ends ranges c.requires.ranges) (λ a low. ap (λ (ts : List Bool). get_or ts a false) c.deref-3.ensures.value ∙ marks a low) in
    let text = c.args.text.now.items in
    let a = range_text ms places first size (kind_word Reg) ranges.reg in
    let b = range_text ms places first size (kind_word Code) ranges.code in
    let d = range_text ms places first size (kind_word Ram) ranges.ram in
    let one : c.put_free.new.text.items ≡ text ++ a = c.in_ok-put_free.ensures ∙ ap (λ (s : List ℕ). text ++ s) registers in
    let two : c.put_free-2.new.text.items ≡ (text ++ a) ++ b = c.in_ok-put_free-2.ensures ∙ (λ i. one i ++ code i) in
    c.in_ok-put_free-3.ensures ∙ (λ i. two i ++ ram i) ∙ three_texts text a b d
