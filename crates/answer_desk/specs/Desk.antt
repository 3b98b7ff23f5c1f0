-- What a desk shows of itself.
use Rattle.std.specs.Prelude.{map}
use Rattle.answer_desk.specs.declared.desk.Desk.{Desk}
use Rattle.open_numbers.specs.Kept.{open_number}
use Rattle.answer_desk.specs.Seen.{waiting_of}
use Rattle.answer_desk.specs.State.{State}

unfoldable pub view : Desk → State
view desk = record {
  numbers = map open_number desk.numbers;
  is_closed = desk.is_closed;
  units = map (waiting_of desk.numbers) desk.units.items;
}
