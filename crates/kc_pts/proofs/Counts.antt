-- No setup makes more than six accesses, no transfer with its end more than eight.
use Rattle.std.proofs.Common.{ℕ, Bool, true, false, ◌+◌, ◌*◌, ◌%◌, ◌==◌, if◌then◌else◌, Option, Some, None, arith}
use Rattle.kc_base.specs.Bits.{bit}
use Rattle.kc_base.specs.declared.types.Kind.TheVariants.{BadPts}
use Rattle.kc_base.specs.declared.types.PtsMode.{PtsMode}
use Rattle.kc_base.specs.declared.types.PtsMode.TheVariants.{Single, Block, Hsi, Hso, Scan}
use Rattle.kc_exec_spec.specs.Effect.{Effect, End, Undefined, ◌>>=◌}
use Rattle.kc_exec_spec.specs.Accesses.{AtMost}
use Rattle.kc_exec_spec.proofs.Counting.{AtMost-more, AtMost-bind, if-most}
use Rattle.kc_pts.specs.declared.cycle.Cycle.{Cycle}
use Rattle.kc_pts.specs.Server.{read_byte, read_word, write_byte, write_word}
use Rattle.kc_pts.specs.Cycles.{vector_of, is_block, mode_of, transfers_of, or_bad, read_block, set_up, moved_by, copy_byte, copy_word, copy, take_event, load_event, scan, transferred_in, transferred, new_count, write_if, finished, ended_if_last}
use Rattle.kc_pts.specs.Counts.{SetupAccesses, TransferAccesses}

read_byte-most : (addr : ℕ) → AtMost 1 (read_byte addr)
unfolding read_byte
read_byte-most addr = (omega arith, λ k. tt)

read_word-most : (addr : ℕ) → AtMost 1 (read_word addr)
unfolding read_word
read_word-most addr = (omega arith, λ k. tt)

write_byte-most : (addr n : ℕ) → AtMost 1 (write_byte addr n)
unfolding write_byte
write_byte-most addr n = (omega arith, λ k. tt)

write_word-most : (addr n : ℕ) → AtMost 1 (write_word addr n)
unfolding write_word
write_word-most addr n = (omega arith, λ k. tt)

or_bad-most : {A : Type 0} (o : Option A) → AtMost 0 (or_bad o)
or_bad-most None = tt
or_bad-most (Some a) = tt

-- one of two effects
write_if-most : (b : Bool) (addr n : ℕ) → AtMost 1 (write_if b addr n)
write_if-most true addr n = write_word-most addr n
write_if-most false addr n = tt

read_block-most : (block : ℕ) → AtMost 5 (read_block block)
unfolding read_block
read_block-most block =
    AtMost-bind 1 4 (read_byte block) _ (read_byte-most block) (λ count.
    AtMost-bind 1 3 (read_byte (block + 1)) _ (read_byte-most (block + 1)) (λ control.
    AtMost-bind 1 2 (read_word (block + 2)) _ (read_word-most (block + 2)) (λ source.
    AtMost-bind 1 1 (read_word (block + 4)) _ (read_word-most (block + 4)) (λ target.
    AtMost-bind 1 0 (read_byte (block + 6)) _ (read_byte-most (block + 6)) (λ size.
    AtMost-bind 0 0 (or_bad (mode_of control)) _ (or_bad-most (mode_of control)) (λ mode.
    AtMost-bind 0 0 (or_bad (transfers_of mode size)) _ (or_bad-most (transfers_of mode size)) (λ left. tt)))))))

pub setup_accesses : SetupAccesses
unfolding set_up
setup_accesses n =
    AtMost-bind 1 5 (read_word (vector_of n)) _ (read_word-most (vector_of n)) (λ block. by block (is_block block))
  where
    by : (block : ℕ) (b : Bool) → AtMost 5 (if b then read_block block else Undefined BadPts)
    by block true = read_block-most block
    by block false = tt

copy-most : (cycle : Cycle) → AtMost 2 (copy cycle)
unfolding copy copy_byte copy_word
copy-most cycle =
    AtMost-bind 2 0 (if bit cycle.control 4 then copy_byte cycle.source cycle.target else copy_word cycle.source cycle.target) _
    (if-most 2 (bit cycle.control 4) (copy_byte cycle.source cycle.target) (copy_word cycle.source cycle.target)
    (AtMost-bind 1 1 (read_byte cycle.source) _ (read_byte-most cycle.source) (λ n. write_byte-most cycle.target n))
    (AtMost-bind 1 1 (read_word cycle.source) _ (read_word-most cycle.source) (λ n. write_word-most cycle.target n)))
    (λ u. tt)

take_event-most : (cycle : Cycle) → AtMost 4 (take_event cycle)
unfolding take_event
take_event-most cycle =
    AtMost-bind 1 3 (read_byte 6) _ (read_byte-most 6) (λ status.
    AtMost-bind 1 2 (read_word 4) _ (read_word-most 4) (λ time.
    AtMost-bind 1 1 (write_word cycle.target status) _ (write_word-most cycle.target status) (λ first.
    AtMost-bind 1 0 (write_word (moved_by cycle.target 2) time) _ (write_word-most (moved_by cycle.target 2) time) (λ second. tt))))

load_event-most : (cycle : Cycle) → AtMost 4 (load_event cycle)
unfolding load_event
load_event-most cycle =
    AtMost-bind 1 3 (read_word cycle.source) _ (read_word-most cycle.source) (λ command.
    AtMost-bind 1 2 (read_word (moved_by cycle.source 2)) _ (read_word-most (moved_by cycle.source 2)) (λ time.
    AtMost-bind 1 1 (write_byte 6 (command % 256)) _ (write_byte-most 6 (command % 256)) (λ first.
    AtMost-bind 1 0 (write_word 4 time) _ (write_word-most 4 time) (λ second. tt))))

scan-most : (cycle : Cycle) → AtMost 5 (scan cycle)
unfolding scan
scan-most cycle =
    AtMost-bind 1 4 (read_word cycle.source) _ (read_word-most cycle.source) (λ command.
    AtMost-bind 1 3 (read_byte 2) _ (read_byte-most 2) (λ low.
    AtMost-bind 1 2 (read_byte 3) _ (read_byte-most 3) (λ high.
    AtMost-bind 1 1 (write_word (moved_by cycle.source 2) (low + 256 * high)) _ (write_word-most (moved_by cycle.source 2) (low + 256 * high)) (λ stored.
    AtMost-bind 1 0 (write_byte 2 (command % 256)) _ (write_byte-most 2 (command % 256)) (λ given. tt)))))

transferred-most : (mode : PtsMode) (cycle : Cycle) → AtMost 5 (transferred_in mode cycle)
transferred-most Single cycle = AtMost-more 2 5 (copy cycle) (omega arith) (copy-most cycle)
transferred-most Block cycle = AtMost-more 2 5 (copy cycle) (omega arith) (copy-most cycle)
transferred-most Hsi cycle = AtMost-more 4 5 (take_event cycle) (omega arith) (take_event-most cycle)
transferred-most Hso cycle = AtMost-more 4 5 (load_event cycle) (omega arith) (load_event-most cycle)
transferred-most Scan cycle = scan-most cycle

finished-most : (cycle : Cycle) → AtMost 3 (finished cycle)
unfolding finished
finished-most cycle =
    AtMost-bind 1 2 (write_byte cycle.block (new_count cycle)) _ (write_byte-most cycle.block (new_count cycle)) (λ counted.
    AtMost-bind 1 1 (write_if (bit cycle.control 3) (cycle.block + 2) cycle.source) _ (write_if-most (bit cycle.control 3) (cycle.block + 2) cycle.source) (λ first.
    AtMost-bind 1 0 (write_if (bit cycle.control 2) (cycle.block + 4) cycle.target) _ (write_if-most (bit cycle.control 2) (cycle.block + 4) cycle.target) (λ second. tt)))

ended-most : (cycle : Cycle) → AtMost 3 (ended_if_last cycle)
ended-most cycle =
    if-most 3 (cycle.left == 0) (finished cycle >>= λ count. End (cycle, Some count)) (End (cycle, None))
    (AtMost-bind 3 0 (finished cycle) _ (finished-most cycle) (λ count. tt)) tt

pub transfer_accesses : TransferAccesses
transfer_accesses cycle = AtMost-bind 5 3 (transferred cycle) _ (transferred-most cycle.mode cycle) ended-most
