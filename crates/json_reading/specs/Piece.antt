-- The data that a `Piece` stands for.
use Rattle.serde_json.specs.Data.{Data, string}
use Rattle.serde_json.specs.View.{view}
use Rattle.json_reading.specs.declared.piece.Piece.{Piece}
use Rattle.json_reading.specs.declared.piece.Piece.TheVariants as piece

abbrev pub piece_view : Piece → Data
piece_view (piece.Text s) = string s.now
piece_view (piece.Whole v) = view v
