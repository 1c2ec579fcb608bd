use Rattle.kc_asm_laws.proofs.Once.{each_once}
use Rattle.kc_asm_laws.proofs.listing.each_byte_is_shown_once.Goals as goal

pub returns : goal.returns
returns c = each_once c.written_stands.ensures c.put_stands.ensures c.sizes_stay.ensures c.sizes_have_lengths.ensures c.no_fault_no_codes.ensures
