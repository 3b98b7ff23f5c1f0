-- The lines of items are their texts, and the units that come to a connection are what these are read as.
use Rattle.std.proofs.Common.{◌≡◌, ◌≢◌, ℕ, ◌≤◌, ◌⊎◌, inl, inr, Bool, true, false, cond, not, ◌&&◌, List, [], ◌∷◌, ◌++◌, All, map, length, Option, Some, None, refl, sym, ap, ◌∙◌, append_assoc, append-nil, arith}
use Rattle.std.proofs.lemmas.Bool.Decides.{nat_tests}
use Rattle.std.proofs.lemmas.List.Elements.{All-cons, All-head, All-nil, All-tail}
use Rattle.std.proofs.lemmas.List.Splits.{slice_split_at}
use Rattle.std.proofs.lemmas.List.Sums.{take_while-cons}
use Rattle.std.specs.Prelude.{◌==◌, filter, take_while}
use Rattle.std.specs.List.{list_all}
use Rattle.lsp_frames.specs.Frames.{HasNoLf}
use Rattle.lsp_frames.specs.declared.frame.Frame.{Frame}
use Rattle.content_streams.specs.Lines.{ended_lines, fits, is_blank, is_lf, line_contents, parts, without_cr, without_last}
use Rattle.content_streams.specs.Streams.{contents_of, joined, lines_read, plain}
use Rattle.content_streams.specs.declared.ending.HowEnded.{HowEnded}
use Rattle.content_streams.specs.declared.ending.HowEnded.TheVariants.{Closed, ReadFailed}
use Rattle.content_streams.specs.declared.framing.Framing.{Framing}
use Rattle.content_streams.specs.declared.framing.Framing.TheVariants.{Lines}
use Rattle.connection.specs.Connections.{Connection, StandsAfter, contents, next_content}
use Rattle.connection.specs.Settings.{rules_of}
use Rattle.connection_history.specs.History.{History, units_of}
use Rattle.connection_history.specs.declared.event.Event.{Event}
use Rattle.method_steps.specs.Steps.{MethodTable}
use Rattle.peer_output.specs.Items.{Item, item_text}
use Rattle.peer_output.specs.Output.{IsOutput}
use Rattle.peer_session.specs.Framings.{bytes_in}
use Rattle.rpc_messages.specs.Unit.{SeenUnit}
use Rattle.stream_framing.specs.declared.framing.Framing.TheVariants as written
use Rattle.across_wings.specs.Served.{HasReadItems, IsFedLines, IsInOneLine, item_as_read}
use Rattle.across_wings.proofs.CameItems.{Fits, joined-one, map-map, reads-first, reads-whole, text_frame}
use Rattle.across_wings.proofs.EnclosedTexts as enclosed
use Rattle.across_wings.proofs.EnclosedTexts.{ItemIs, not-blank, whole-line}
use Rattle.across_wings.proofs.Items as lines
use Rattle.across_wings.proofs.Items.{ItemIsLine}

abbrev line_bytes : List Item → List ℕ
line_bytes items = bytes_in written.Lines items

abbrev texts : List Item → List (List ℕ)
texts items = map item_text items

-- ---- of an output

both-are : (items : List Item) → All ItemIsLine items → All ItemIs items → All IsInOneLine items
both-are [] one enclosed = All-nil IsInOneLine
both-are (item ∷ items) one enclosed =
    All-cons IsInOneLine item items (record { one = All-head ItemIsLine item items one; enclosed = All-head ItemIs item items enclosed })
    (both-are items (All-tail ItemIsLine item items one) (All-tail ItemIs item items enclosed))

pub are-lines : (table : MethodTable) (units : List SeenUnit) (items : List Item) → IsOutput table units items → All IsInOneLine items
are-lines table units items out = both-are items (lines.output-is table units items out) (enclosed.output-is table units items out)

-- ---- cut at the LFs

abbrev IsntLf : ℕ → Type 0
IsntLf b = is_lf b ≡ false

not-lf : (b : ℕ) → not (b == 10) ≡ true → IsntLf b
not-lf b is = grind (arith, nat_tests)

and-first : (a b : Bool) → (a && b) ≡ true → a ≡ true
and-first true b is = refl
and-first false b is = cc

and-last : (a b : Bool) → (a && b) ≡ true → b ≡ true
and-last true b is = is
and-last false b is = cc

all-not-lf : (text : List ℕ) → HasNoLf text → All IsntLf text
all-not-lf [] none = All-nil IsntLf
all-not-lf (b ∷ text) none =
    let later = list_all (λ c. not (c == 10)) text in
    All-cons IsntLf b text (not-lf b (and-first (not (b == 10)) later none)) (all-not-lf text (and-last (not (b == 10)) later none))

parts-are : (items : List Item) → All IsInOneLine items → parts (line_bytes items) ≡ texts items ++ [] ∷ []
parts-are [] all = refl
parts-are (item ∷ items) all =
    ap parts (append_assoc (item_text item) (10 ∷ []) (line_bytes items))
    ∙ slice_split_at is_lf (item_text item) 10 (line_bytes items) (all-not-lf (item_text item) (All-head IsInOneLine item items all).one) refl
    ∙ ap (λ ls. item_text item ∷ ls) (parts-are items (All-tail IsInOneLine item items all))

last-left : (ts : List (List ℕ)) → without_last (ts ++ [] ∷ []) ≡ ts
last-left [] = refl
last-left (t ∷ []) = refl
last-left (t ∷ u ∷ ts) = ap (λ ls. t ∷ ls) (last-left (u ∷ ts))

-- ---- each line is a content

fitting : (limit : ℕ) (text : List ℕ) → length text ≤ limit → fits limit text ≡ true
fitting limit text short = grind (arith, nat_tests)

abbrev is_content : List ℕ → Bool
is_content content = not (is_blank content)

abbrev kept : ℕ → List (List ℕ) → List (List ℕ)
kept limit lines = filter is_content (take_while (fits limit) (map without_cr lines))

texts-kept : (limit : ℕ) (items : List Item) (tail : List (List ℕ)) → All IsInOneLine items → All (Fits limit) items → kept limit (texts items ++ tail) ≡ texts items ++ kept limit tail
texts-kept limit [] tail all fit = refl
texts-kept limit (item ∷ items) tail all fit =
    let text = item_text item in
    let later = map without_cr (texts items ++ tail) in
    let line = All-head IsInOneLine item items all in
    ap (λ t. filter is_content (take_while (fits limit) (t ∷ later))) (whole-line text line.enclosed)
    ∙ ap (filter is_content) (take_while-cons (fits limit) text later
    ∙ ap (λ b. cond b (text ∷ take_while (fits limit) later) []) (fitting limit text (All-head (Fits limit) item items fit)))
    ∙ ap (λ b. cond (not b) (text ∷ filter is_content (take_while (fits limit) later)) (filter is_content (take_while (fits limit) later))) (not-blank text line.enclosed)
    ∙ ap (λ ls. text ∷ ls) (texts-kept limit items tail (All-tail IsInOneLine item items all) (All-tail (Fits limit) item items fit))

-- behind the last LF stands nothing, which is blank
none-kept : (limit : ℕ) → kept limit ([] ∷ []) ≡ []
none-kept limit = ap (filter is_content) (take_while-cons (fits limit) [] [] ∙ ap (λ b. cond b ([] ∷ take_while (fits limit) []) []) (fitting limit [] (omega arith)))

module _ (limit : ℕ) (items : List Item) (all : All IsInOneLine items) (fit : All (Fits limit) items) where
  ended-are : line_contents limit (ended_lines (line_bytes items)) ≡ texts items
  unfolding line_contents
  ended-are =
      ap (λ ls. kept limit (without_last ls)) (parts-are items all) ∙ ap (kept limit) (last-left (texts items) ∙ sym (append-nil (texts items)))
      ∙ texts-kept limit items [] all fit ∙ append-nil (texts items)

  closed-are : line_contents limit (parts (line_bytes items)) ≡ texts items
  unfolding line_contents
  closed-are = ap (kept limit) (parts-are items all) ∙ texts-kept limit items ([] ∷ []) all fit ∙ ap (λ ls. texts items ++ ls) (none-kept limit) ∙ append-nil (texts items)

  lines-are : (ended : Option HowEnded) → line_contents limit (lines_read ended (line_bytes items)) ≡ texts items
  lines-are None = ended-are
  lines-are (Some ReadFailed) = ended-are
  lines-are (Some Closed) = closed-are

  -- all bytes have just the items' texts as contents
  all-contents : (pieces : List (List ℕ)) (ended : Option HowEnded) → joined pieces ≡ line_bytes items → contents_of Lines limit pieces ended ≡ map text_frame items
  all-contents pieces ended fed =
      ap (λ bytes. map plain (line_contents limit (lines_read ended bytes))) fed ∙ ap (map plain) (lines-are ended) ∙ map-map item_text plain items

  unclosed : (pieces : List (List ℕ)) (ended : Option HowEnded) → (ended ≢ Some Closed) → contents_of Lines limit pieces ended ≡ contents_of Lines limit pieces None
  unclosed pieces None early = refl
  unclosed pieces (Some ReadFailed) early = refl
  unclosed pieces (Some Closed) early = absurd (early refl)

  module _ (grow : (framing : Framing) (limit : ℕ) (pieces more : List (List ℕ)) (ended : Option HowEnded) →
      (later : List Frame) × (contents_of framing limit (pieces ++ more) ended ≡ contents_of framing limit pieces None ++ later)) where
    -- a front of the bytes, which isn't closed inside a line, has the first of them
    first-contents : (pieces : List (List ℕ)) (rest : List ℕ) (ended : Option HowEnded) → joined pieces ++ rest ≡ line_bytes items → ((ended ≢ Some Closed) ⊎ (rest ≡ []))
        → (later : List Frame) × (contents_of Lines limit pieces ended ++ later ≡ map text_frame items)
    first-contents pieces rest ended fed (inl early) =
        let more = grow Lines limit pieces (rest ∷ []) None in
        (more.0, ap (λ frames. frames ++ more.0) (unclosed pieces ended early) ∙ sym more.1 ∙ all-contents (pieces ++ rest ∷ []) None (joined-one pieces rest ∙ fed))
    first-contents pieces rest ended fed (inr none) =
        let bytes : joined pieces ≡ line_bytes items = sym (append-nil (joined pieces)) ∙ ap (λ rest. joined pieces ++ rest) (sym none) ∙ fed in
        ([], append-nil (contents_of Lines limit pieces ended) ∙ all-contents pieces ended bytes)

module _ (grow : (framing : Framing) (limit : ℕ) (pieces more : List (List ℕ)) (ended : Option HowEnded) →
    (later : List Frame) × (contents_of framing limit (pieces ++ more) ended ≡ contents_of framing limit pieces None ++ later))
    (c : Connection) (history : History) (told : List Event) (items : List Item) (stands : StandsAfter c history told) (fed : IsFedLines c items) where
  stream-contents : contents c ≡ contents_of Lines c.settings.content c.stream.pieces c.stream.ended
  stream-contents = λ i. contents_of ((stands.stream.framing ∙ fed.framing) i) (stands.stream.limit i) c.stream.pieces c.stream.ended

  pub reads-items : HasReadItems c history items
  reads-items =
      let first = first-contents c.settings.content items fed.lines fed.fits grow c.stream.pieces fed.rest c.stream.ended fed.fed fed.whole in
      reads-first c history told items stands first.0 (ap (λ frames. frames ++ first.0) stream-contents ∙ first.1)

  pub reads-all : fed.rest ≡ [] → next_content c history ≡ None → units_of history ≡ map (item_as_read (rules_of c.settings)) items
  reads-all whole none =
      let bytes : joined c.stream.pieces ≡ line_bytes items = sym (append-nil (joined c.stream.pieces)) ∙ ap (λ rest. joined c.stream.pieces ++ rest) (sym whole) ∙ fed.fed in
      reads-whole c history told items stands (stream-contents ∙ all-contents c.settings.content items fed.lines fed.fits c.stream.pieces c.stream.ended bytes) none
