use Rattle.std.proofs.Common.{◌≡◌, ℕ, ◌++◌, length}
use Rattle.content_streams.specs.Lines.{ended_lines, line_place}
use Rattle.content_streams.specs.Streams.{capped}
use Rattle.content_streams.proofs.LinePlaces.{IsAt}
use Rattle.content_streams.specs.Inner.Cutting.{ended_contents, text_standing, places_from}
use Rattle.content_streams.specs.Inner.Rows.{BeginsWith}
use Rattle.content_streams.proofs.line_cutter.cut.Given as goal

-- the contents and places so far and those of the rest; how the rest stands
abbrev pub invariant-loop-end : goal.invariant-loop-end
invariant-loop-end l = record {
  contents : l.contents ++ ended_contents l.limit l.rest ≡ l.initial.contents ++ ended_contents l.limit l.bytes;
  standing : text_standing l.limit l.rest ≡ text_standing l.limit l.bytes;
  places : (start : ℕ) → l.first ≡ capped start
      → IsAt l.limit l.start l.rest (l.places.items) (l.initial.places.items ++ places_from l.limit start (ended_lines l.bytes)) (line_place l.limit start (ended_lines l.bytes));
  kept : BeginsWith l.initial.places.items l.places.items;
}

abbrev pub decreases-loop-end : goal.decreases-loop-end
decreases-loop-end l = length l.rest
