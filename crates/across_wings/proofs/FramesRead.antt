-- The frames of items are their texts, and the units that come to a connection are what these are read as.
use Rattle.std.proofs.Common.{◌≡◌, ℕ, ◌≤◌, false, List, [], ◌∷◌, ◌++◌, All, map, length, Option, None, refl, sym, ap, subst, ◌∙◌, append-nil}
use Rattle.std.proofs.lemmas.List.Elements.{All-head, All-tail}
use Rattle.lsp_frames.specs.Contents.{Standing, Open, IsContents}
use Rattle.lsp_frames.specs.Frames.{Whole, Less, front, written}
use Rattle.lsp_frames.specs.Heads.{head_at, head_from}
use Rattle.lsp_frames.specs.declared.frame.Frame.{Frame}
use Rattle.lsp_frames.specs.declared.limits.TheConstants.{LONGEST_CONTENT}
use Rattle.content_streams.specs.Streams.{contents_of, joined}
use Rattle.content_streams.specs.declared.ending.HowEnded.{HowEnded}
use Rattle.content_streams.specs.declared.framing.Framing.{Framing}
use Rattle.content_streams.specs.declared.framing.Framing.TheVariants.{Frames}
use Rattle.connection.specs.Connections.{Connection, StandsAfter, contents, next_content}
use Rattle.connection.specs.Settings.{rules_of}
use Rattle.connection_history.specs.History.{History, units_of}
use Rattle.connection_history.specs.declared.event.Event.{Event}
use Rattle.peer_output.specs.Items.{Item, bytes_of, item_text}
use Rattle.across_wings.specs.Served.{HasReadItems, IsFedItems, item_as_read}
use Rattle.across_wings.proofs.CameItems.{Fits, joined-one, reads-first, reads-whole, text_frame}

nothing-left : (limit : ℕ) → front limit [] ≡ Less
unfolding front head_at head_from
nothing-left limit = refl

module _ (reads : (limit : ℕ) (content more : List ℕ) → length content ≤ limit → limit ≤ LONGEST_CONTENT →
    front limit (written content ++ more) ≡ Whole (record { content = content; foreign = false }) more) where
  frames-are : (limit : ℕ) (items : List Item) → limit ≤ LONGEST_CONTENT → All (Fits limit) items → IsContents limit (bytes_of items) (map text_frame items) (Open [])
  frames-are limit [] possible fits = (nothing-left limit, refl)
  frames-are limit (item ∷ items) possible fits =
      (bytes_of items, reads limit (item_text item) (bytes_of items) (All-head (Fits limit) item items fits) possible, frames-are limit items possible (All-tail (Fits limit) item items fits))

-- What the laws of lsp_frames and content_streams say.
pub record FrameLaws : Type 0 where
  pub reads : (limit : ℕ) (content more : List ℕ) → length content ≤ limit → limit ≤ LONGEST_CONTENT → front limit (written content ++ more) ≡ Whole (record { content = content; foreign = false }) more
  pub unique : (limit : ℕ) (bytes : List ℕ) (frames others : List Frame) (standing other : Standing) → IsContents limit bytes frames standing → IsContents limit bytes others other → (frames ≡ others) × (standing ≡ other)
  pub are : (limit : ℕ) (pieces : List (List ℕ)) (ended : Option HowEnded) → (standing : Standing) × IsContents limit (joined pieces) (contents_of Frames limit pieces ended) standing
  pub grow : (framing : Framing) (limit : ℕ) (pieces more : List (List ℕ)) (ended : Option HowEnded) → (later : List Frame) × (contents_of framing limit (pieces ++ more) ended ≡ contents_of framing limit pieces None ++ later)

module _ (laws : FrameLaws) where
  -- all bytes have just the items' texts as contents
  all-contents : (limit : ℕ) (items : List Item) (pieces : List (List ℕ)) (ended : Option HowEnded) → joined pieces ≡ bytes_of items → limit ≤ LONGEST_CONTENT → All (Fits limit) items
      → contents_of Frames limit pieces ended ≡ map text_frame items
  all-contents limit items pieces ended fed possible fits =
      let are = laws.are limit pieces ended in
      (laws.unique limit (joined pieces) (contents_of Frames limit pieces ended) (map text_frame items) are.0 (Open []) are.1
      (subst (λ (bytes : List ℕ). IsContents limit bytes (map text_frame items) (Open [])) (sym fed) (frames-are laws.reads limit items possible fits))).0

  -- a front of the bytes has the first of them
  first-contents : (limit : ℕ) (items : List Item) (pieces : List (List ℕ)) (rest : List ℕ) (ended : Option HowEnded) → joined pieces ++ rest ≡ bytes_of items → limit ≤ LONGEST_CONTENT
      → All (Fits limit) items → (later : List Frame) × (contents_of Frames limit pieces ended ++ later ≡ map text_frame items)
  first-contents limit items pieces rest ended fed possible fits =
      let grow = laws.grow Frames limit pieces (rest ∷ []) None in
      (grow.0, sym grow.1 ∙ all-contents limit items (pieces ++ rest ∷ []) None (joined-one pieces rest ∙ fed) possible fits)

  module _ (c : Connection) (history : History) (told : List Event) (items : List Item) (stands : StandsAfter c history told) (fed : IsFedItems c items) where
    stream-contents : contents c ≡ contents_of Frames c.settings.content c.stream.pieces c.stream.ended
    stream-contents = λ i. contents_of ((stands.stream.framing ∙ fed.framing) i) (stands.stream.limit i) c.stream.pieces c.stream.ended

    pub reads-items : HasReadItems c history items
    reads-items =
        let first = first-contents c.settings.content items c.stream.pieces fed.rest c.stream.ended fed.fed fed.possible fed.fits in
        reads-first c history told items stands first.0 (ap (λ frames. frames ++ first.0) stream-contents ∙ first.1)

    pub reads-all : fed.rest ≡ [] → next_content c history ≡ None → units_of history ≡ map (item_as_read (rules_of c.settings)) items
    reads-all whole none =
        let bytes : joined c.stream.pieces ≡ bytes_of items = sym (append-nil (joined c.stream.pieces)) ∙ ap (λ rest. joined c.stream.pieces ++ rest) (sym whole) ∙ fed.fed in
        reads-whole c history told items stands (stream-contents ∙ all-contents c.settings.content items c.stream.pieces c.stream.ended bytes fed.possible fed.fits) none
