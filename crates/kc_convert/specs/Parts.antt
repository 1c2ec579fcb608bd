-- The values that an index holds, and that the index stands.
use Rattle.std.specs.Prelude.{List}
use Rattle.kc_convert.specs.declared.sample.Sample.{Sample}
use Rattle.kc_convert.specs.declared.index.Index.{Index}
use Rattle.kc_convert.specs.Index.{IsIndexed}

abbrev pub samples_in : Index → List Sample
samples_in index = index.samples.items

abbrev pub IsWhole : Index → Type 0
IsWhole index = IsIndexed index.by_channel.items index.samples.items
