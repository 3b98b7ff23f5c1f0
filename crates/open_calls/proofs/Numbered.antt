-- What the crates above cite of such lists.
pub use Rattle.number_windows.proofs.Numbered.{at_above, below_more, below_push, up_to_all, up_to_above, find_among, above_filter, without_above, shorter}
