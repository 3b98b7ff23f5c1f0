-- Lists of entries with a number each, ascending, as a window has them.
pub use Rattle.number_windows.specs.Numbered.{at, number_of_first, without, up_to, changed_at, first_number, next_number, Above, Below, Ascending}
