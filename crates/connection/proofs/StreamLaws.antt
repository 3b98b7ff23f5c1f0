-- What the laws of content_streams say of contents, ends and places.
use Rattle.std.specs.Prelude.{◌≡◌, ℕ, List, ◌++◌, Option, Some, None, map}
use Rattle.lsp_frames.specs.declared.frame.Frame.{Frame}
use Rattle.content_streams.specs.Streams.{contents_of, placed_contents_of, end_of}
use Rattle.content_streams.specs.declared.ending.HowEnded.{HowEnded}
use Rattle.content_streams.specs.declared.ending.StreamEnd.{StreamEnd}
use Rattle.content_streams.specs.declared.framing.Framing.{Framing}

-- contents with their places are the contents
abbrev pub PlacesAreOf : Type 0
PlacesAreOf = (framing : Framing) (limit : ℕ) (pieces : List (List ℕ)) (ended : Option HowEnded)
    → map (λ placed. placed.1) (placed_contents_of framing limit pieces ended) ≡ contents_of framing limit pieces ended

-- more pieces, and the end, only add contents
pub record OnlyGrow : Type 0 where
  pub places_are : PlacesAreOf
  pub contents : (framing : Framing) (limit : ℕ) (pieces more : List (List ℕ)) (ended : Option HowEnded)
      → (later : List Frame) × (contents_of framing limit (pieces ++ more) ended ≡ contents_of framing limit pieces None ++ later)
  pub places : (framing : Framing) (limit : ℕ) (pieces more : List (List ℕ)) (ended : Option HowEnded)
      → (later : List (ℕ × Frame)) × (placed_contents_of framing limit (pieces ++ more) ended ≡ placed_contents_of framing limit pieces None ++ later)

-- what has ended by a fault stays so, and no contents are added
pub record FaultsStay : Type 0 where
  pub end : (framing : Framing) (limit : ℕ) (pieces more : List (List ℕ)) (ended : Option HowEnded) (close : StreamEnd)
      → end_of framing limit pieces None ≡ Some close → end_of framing limit (pieces ++ more) ended ≡ Some close
  pub contents : (framing : Framing) (limit : ℕ) (pieces more : List (List ℕ)) (ended : Option HowEnded) (close : StreamEnd)
      → end_of framing limit pieces None ≡ Some close → contents_of framing limit (pieces ++ more) ended ≡ contents_of framing limit pieces None
