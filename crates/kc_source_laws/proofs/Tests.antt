-- Tests that hold of all items of lists.
pub use Rattle.kc_macro_laws.proofs.Tests.{all_split, all_join, all_drop, all_map, Holds, holds_at, mapped, always, either, HoldsOk, ok_at}
