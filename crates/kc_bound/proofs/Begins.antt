-- The activity of an instruction that begins at an address with ways.
use Rattle.std.proofs.Common.{◌≡◌, ◌≢◌, ℕ, zero, suc, Bool, true, false, ◌+◌, ◌-◌, ◌*◌, ◌%◌, ◌<◌, ◌≤◌, ◌⊎◌, inl, inr, nat_lt, if◌then◌else◌, Option, Some, None, Result, Ok, Err, List, [], ◌∷◌, length, take, refl, sym, ◌∙◌, ap, subst, arith}
use Rattle.std.proofs.lemmas.Grind.{common_steps}
use Rattle.std.proofs.lemmas.Bool.{cases_lt}
use Rattle.std.specs.Prelude.{min, max, map}
use Rattle.std.specs.Option.{option_map}
use Rattle.kc_base.specs.declared.types.Kind.{Kind}
use Rattle.kc_base.specs.Limits.{image_start}
use Rattle.kc_isa.specs.declared.insn.Insn.{Insn}
use Rattle.kc_isa.specs.declared.insn.Place.{Place}
use Rattle.kc_isa.specs.declared.table.Mnemonic.{Mnemonic}
use Rattle.kc_isa.specs.Names.{mnemonic_at}
use Rattle.kc_isa.specs.Formed.{states_of}
use Rattle.kc_code.specs.declared.reader.Decoded.{Decoded}
use Rattle.kc_code.specs.declared.reader.Decoded.TheVariants as says
use Rattle.kc_code.specs.Reading.{decode_of}
use Rattle.kc_code.specs.Listing.{bytes_from}
use Rattle.kc_exec_spec.specs.declared.plan.Plan.{Plan}
use Rattle.kc_exec_spec.specs.Plans.{plan_of}
use Rattle.kc_exec_spec.specs.Places.{place_of, planned_place, jump_taken}
use Rattle.kc_machine_spec.specs.declared.doing.Activity.TheVariants.{Executes, Traps, Breaks}
use Rattle.kc_machine_spec.specs.declared.doing.UnderWay.{UnderWay}
use Rattle.kc_machine_spec.specs.Board.{masks_of}
use Rattle.kc_machine_spec.specs.Scene.{byte}
use Rattle.kc_machine_spec.specs.Machine.{Machine, scene_of, fetched, begins, fetches, placed, current, pushing_states}
use Rattle.kc_bound.specs.declared.notes.Notes.{Notes}
use Rattle.kc_bound.specs.declared.way.Way.{Way}
use Rattle.kc_bound.specs.Ways.{found_at, rom_bytes, ways_at, ways_of, ways_named, ways_planned, unless_end, most_states, trap_states}
use Rattle.kc_bound.specs.Bounded.{IsImage, HoldsImage}
use Rattle.kc_bound.proofs.StandsAt.{decodes-found}
use Rattle.kc_bound.proofs.States.{place-most}

-- ---- an address with ways is one of the ROM

short-ways : (image : List ℕ) (notes : Notes) (d : Decoded) (a : ℕ) (ws : List Way) → d ≡ says.Short → option_map (map (unless_end notes)) (ways_of image notes d a) ≡ Some ws → ⊥
short-ways image notes d a ws short h = let none : ways_of image notes d a ≡ None = ap (λ x. ways_of image notes x a) short in cc (rw none at h)

pub ways-found : (image : List ℕ) (notes : Notes) (a : ℕ) (ws : List Way) → ways_at image notes a ≡ Some ws → found_at image a ≢ says.Short
unfolding ways_at
ways-found image notes a ws h = λ short. short-ways image notes (found_at image a) a ws short h

low-short : (image : List ℕ) (a : ℕ) → a < 0x2000 → found_at image a ≡ says.Short
unfolding found_at
low-short image a low = let e : nat_lt a image_start ≡ true = grind (arith, common_steps) in rw e refl

high-short : (image : List ℕ) (a : ℕ) → 0x6000 ≤ a → found_at image a ≡ says.Short
unfolding found_at
high-short image a high =
    let e : nat_lt a image_start ≡ false = grind (arith, common_steps) in
    let none : min 7 (0x6000 - a) ≡ 0 = omega arith in
    rw (e, none) refl

pub found-in-rom : (image : List ℕ) (a : ℕ) → found_at image a ≢ says.Short → (0x2000 ≤ a) × (a < 0x6000)
found-in-rom image a whole = (low (cases_lt a 0x2000), high (cases_lt a 0x6000))
  where
    low : (a < 0x2000) ⊎ (0x2000 ≤ a) → 0x2000 ≤ a
    low (inl less) = absurd (whole (low-short image a less))
    low (inr more) = more

    high : (a < 0x6000) ⊎ (0x6000 ≤ a) → a < 0x6000
    high (inl less) = less
    high (inr more) = absurd (whole (high-short image a more))

-- what the machine fetches there is what stands there
pub fetches-found : {X : Type 0} (image : List ℕ) (m : Machine X) → IsImage image → HoldsImage image m → found_at image m.cpu.pc ≢ says.Short → fetches m ≡ begins m (found_at image m.cpu.pc)
unfolding fetches
fetches-found image m is holds whole =
    let in_rom : (0x2000 ≤ m.cpu.pc) × (m.cpu.pc < 0x6000) = found-in-rom image m.cpu.pc whole in
    ap (begins m) (decodes-found image m.board.memory m.cpu.pc holds.rom is.bytes is.whole in_rom.0 in_rom.1 whole)

-- ---- its states

-- an instruction, or the undefined use that is found at its start
pub record IsPlaced {X : Type 0} (plan : Plan) (i : Insn) (m : Machine X) (a : UnderWay) : Type 0 where
  pub doing : (a.doing ≡ Executes i) ⊎ ((kind : Kind) × (a.doing ≡ Breaks kind))
  pub states : a.left ≤ most_states plan i (jump_taken plan m.cpu.psw_high)

two-at-most : (n : ℕ) → 2 ≤ max 2 n
two-at-most n = omega arith

placed-by : {X : Type 0} (plan : Plan) (i : Insn) (m : Machine X) (r : Result Place Kind)
    → ((p : Place) → r ≡ Ok p → (states_of i p ≤ most_states plan i p.taken) × (p.taken ≡ jump_taken plan m.cpu.psw_high)) → IsPlaced plan i m (placed i r)
placed-by plan i m (Ok p) most =
    let h = most p refl in
    record { doing = inl refl; states = subst (λ t. states_of i p ≤ most_states plan i t) h.1 h.0 }
placed-by plan i m (Err kind) most = record { doing = inr (kind, refl); states = two-at-most _ }

named-place : {X : Type 0} (i : Insn) (m : Machine X) (mnemonic : Mnemonic) → mnemonic_at i.opcode i.signed ≡ Some mnemonic
    → place_of i m.cpu (masks_of m.board.units) (byte (scene_of m)) ≡ planned_place (plan_of mnemonic) i m.cpu.psw_high (masks_of m.board.units).wsr (byte (scene_of m))
unfolding place_of
named-place i m mnemonic e = rw (e, place_of) refl

-- an instruction with a mnemonic takes at most the states of its way
pub begins-placed : {X : Type 0} (i : Insn) (n : ℕ) (m : Machine X) (mnemonic : Mnemonic) → mnemonic_at i.opcode i.signed ≡ Some mnemonic → IsPlaced (plan_of mnemonic) i m (begins m (says.Insn i n))
begins-placed i n m mnemonic e =
    placed-by (plan_of mnemonic) i m (place_of i m.cpu (masks_of m.board.units) (byte (scene_of m)))
    (λ p h. place-most (plan_of mnemonic) i m.cpu.psw_high (masks_of m.board.units).wsr (byte (scene_of m)) p (sym (named-place i m mnemonic e) ∙ h))

-- the trap of an opcode without an instruction takes at most the states of its way
pub trap-most : {X : Type 0} (m : Machine X) → pushing_states m ≤ trap_states
trap-most m = grind (arith, common_steps)
