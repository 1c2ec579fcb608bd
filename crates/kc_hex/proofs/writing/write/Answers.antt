use Rattle.std.proofs.Common.{ℕ, List, Ok, ◌+◌, ◌*◌, ◌++◌, ◌∷◌, [], take, ap, ◌∙◌}
use Rattle.std.specs.Prelude.{codes}
use Rattle.kc_hex.specs.Spelling.{row_text, rows, spelling}
use Rattle.kc_hex.specs.Records.{image_of}
use Rattle.kc_hex.proofs.RoundTrip.{image_again}
use Rattle.kc_hex.proofs.RowLemmas.{row_step, all_rows}
use Rattle.kc_hex.proofs.writing.write.Goals as goal

pub loop-i-preserved : goal.loop-i-preserved
loop-i-preserved c =
    let bytes = c.bytes_of-bytes.result.now in
    let i = c.loop-i.i in
    let row = c.prefix-row.ensures ∙ ap (take 16) c.after.ensures in
    let items = c.in_ok-put_row.ensures ∙ ap (λ r. c.loop-i.out.items ++ row_text (8192 + 16 * i) r) row in
    rw items (row_step c.loop-i.out.items 3584 i bytes (rows 3584 8192 bytes) c.loop-i-test.true c.loop-i.invariant)

pub returns-clause-spelled : goal.returns-clause-spelled
returns-clause-spelled c =
    let bytes = c.bytes_of-bytes.result.now in
    let all = all_rows c.loop-i.out.items 3584 c.loop-i.i bytes (rows 3584 8192 bytes) c.loop-i-test.false c.loop-i.invariant in
    c.in_ok-extend_from_slice.ensures.items ∙ ap (λ t. t ++ (codes ":00000001FF" ++ 10 ∷ [])) all ∙ ap spelling c.bytes_of-bytes.ensures.value

pub returns-clause-read_again : goal.returns-clause-read_again
returns-clause-read_again c =
    let bytes = c.bytes_of-bytes.result.now in
    let is = c.bytes_of-bytes.ensures.is_image in
    let all = all_rows c.loop-i.out.items 3584 c.loop-i.i bytes (rows 3584 8192 bytes) c.loop-i-test.false c.loop-i.invariant in
    let items = c.in_ok-extend_from_slice.ensures.items ∙ ap (λ t. t ++ (codes ":00000001FF" ++ 10 ∷ [])) all in
    ap image_of items ∙ image_again bytes is.len is.bytes ∙ ap (λ (image : List ℕ). Ok image) c.bytes_of-bytes.ensures.value
