-- What is left of what the host reads piece by piece: what its reader reports of it (this kit's own).
use Rattle.std.specs.Prelude.{ℕ, List, Option}
use Rattle.kc_kit_streams.specs.declared.host_reader.HostReader.{HostReader}
use Rattle.kc_kit_streams.specs.declared.host_reader.HostReader.TheVariants as reader

abbrev pub left_in : {I F : Type 0} → (I → Option (List ℕ)) → (F → Option (List ℕ)) → HostReader I F → Option (List ℕ)
left_in input file (reader.Input i) = input i
left_in input file (reader.File f) = file f
