-- The image that is written is filled.
use Rattle.std.proofs.Common.{◌≡◌, ℕ, ◌<◌, List, replicate, Some, refl, ap, ◌∙◌, arith}
use Rattle.std.specs.Prelude.{slice_get}
use Rattle.std.proofs.lemmas.List.{length-replicate, get_or-replicate}
use Rattle.std.proofs.lemmas.Option.{slice_get-get_or}
use Rattle.kc_obj_module.specs.Object.{Object}
use Rattle.kc_link_place.specs.declared.ranges.Ranges.{Ranges}
use Rattle.kc_link_place.specs.Placing.{Places, bases_from}
use Rattle.kc_link_place.specs.Apart.{CodeIsApart, CodeStandsApart}
use Rattle.kc_link.specs.Writes.{written, all_bytes}
use Rattle.kc_link.proofs.PlacedLemmas.{was_located}
use Rattle.kc_link.proofs.ImageLemmas.{is_filled}
use Rattle.kc_link.specs.Linked.{ArePlaced, PlacedHaveImage}

abbrev all_ones : ℕ
all_ones = 255

abbrev blank : List ℕ
blank = replicate 0xE000 all_ones

blank_at : (place : ℕ) → place < 0xE000 → slice_get {X = ℕ} (replicate 0xE000 all_ones) place ≡ Some all_ones
blank_at place l = slice_get-get_or blank place 0 (omega (arith, l, length-replicate 0xE000 all_ones)) ∙ ap (λ (x : ℕ). Some x) (get_or-replicate 0xE000 place all_ones 0 l)

pub apart_of : CodeStandsApart → (ms : List Object) (ranges : Ranges) (places : Places) → ArePlaced ms ranges places → CodeIsApart ms places
apart_of law ms ranges places are = law ms ranges places are.rules are.bounds (was_located ms ranges places are.placed).located_ok

pub placed_have_image : CodeStandsApart → PlacedHaveImage
placed_have_image law ms ranges places are =
    let bytes = all_bytes ms (bases_from ms places 0 ms) in
    (written blank bytes, is_filled ms places are.rules (apart_of law ms ranges places are) blank (written blank bytes) (length-replicate 0xE000 all_ones) blank_at refl)
