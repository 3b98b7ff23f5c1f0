-- The contents that wait in a row.
use Rattle.std.specs.Prelude.{◌≡◌, ℕ, List, ◌++◌}
use Rattle.std.specs.Option.{option_to_list}
use Rattle.lsp_frames.specs.Feeds.{fed_frames}
use Rattle.lsp_frames.specs.declared.frame.Frame.{Frame}
use Rattle.content_streams.specs.declared.places.Places.{Places}
use Rattle.content_streams.specs.declared.row.Row.{Row}

abbrev pub row_items : Row → List Frame
row_items row = row.waiting ++ fed_frames row.added ++ option_to_list row.last

abbrev pub place_items : Places → List ℕ
place_items places = places.waiting.items ++ option_to_list places.last

-- The list begins with these.
abbrev pub BeginsWith : List ℕ → List ℕ → Type 0
BeginsWith front whole = (more : List ℕ) × (whole ≡ front ++ more)
