-- What the crates above cite of an entry's change.
pub use Rattle.number_windows.proofs.Rows.{at_changed}
