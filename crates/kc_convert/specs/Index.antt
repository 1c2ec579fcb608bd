-- What stands beside the values so that one is found by search: the values of each channel (this kit's own).
use Rattle.std.specs.Prelude.{◌≡◌, ℕ, Option, Some, None, List, [], slice_get, Vec}
use Rattle.std.specs.declared.alloc.Global.{Global}
use Rattle.kc_convert.specs.declared.sample.Sample.{Sample}
use Rattle.kc_convert.specs.Samples.{of_channel, AreOfFile}

abbrev pub items_in : Option (Vec Sample Global) → List Sample
items_in None = []
items_in (Some v) = v.items

-- the list of a channel, where there is one
abbrev pub list_of : List (Vec Sample Global) → ℕ → List Sample
list_of lists channel = items_in (slice_get lists channel)

pub record IsIndexed (by_channel : List (Vec Sample Global)) (samples : List Sample) : Type 0 where
  pub lists : (channel : ℕ) → list_of by_channel channel ≡ of_channel channel samples
  pub values : AreOfFile samples
