use Rattle.std.proofs.Common.{◌≡◌, ◌++◌, ◌∙◌, ap, replicate}
use Rattle.kc_machine_spec.specs.Machine.{memory_of}
use Rattle.kc_machine.proofs.machine.first_memory.Goals as goal

pub returns-clause-bytes : goal.returns-clause-bytes
unfolding memory_of
returns-clause-bytes c =
    let zeros : c.in_ok-bytes.bytes.items ≡ replicate 0x2000 0 = c.in_ok-bytes.ensures.items_if_clones_equal (λ y e. e) in
    c.in_ok-extend_from_slice.ensures.items ∙ ap (λ xs. xs ++ c.as_slice.result.now) zeros ∙ ap (λ xs. replicate 0x2000 0 ++ xs) c.as_slice.ensures.value
