-- What came to a connection that has the texts of items as its contents, or of the first of them: it has read these items.
use Rattle.std.proofs.Common.{◌≡◌, ◌≤◌, ℕ, zero, suc, List, [], ◌∷◌, ◌++◌, map, take, drop, length, None, refl, sym, ap, ◌∙◌, append_assoc, append-nil, take-append-drop}
use Rattle.std.specs.Prelude.{slice_get}
use Rattle.lsp_frames.specs.declared.frame.Frame.{Frame}
use Rattle.content_streams.specs.Streams.{joined, plain}
use Rattle.connection.specs.Connections.{Connection, StandsAfter, contents, next_content, read}
use Rattle.connection.specs.Settings.{rules_of}
use Rattle.connection_history.specs.History.{History, units_of}
use Rattle.connection_history.specs.declared.event.Event.{Event}
use Rattle.connection_messages.specs.declared.unit.Unit.{Unit}
use Rattle.peer_output.specs.Items.{Item, item_text}
use Rattle.across_wings.specs.Served.{HasReadItems, item_as_read}

-- ---- lists

split-map : {X Y : Type 0} (f : X → Y) (xs ys : List Y) (zs : List X) → xs ++ ys ≡ map f zs → (front : List X) × (rest : List X) × (zs ≡ front ++ rest) × (xs ≡ map f front)
split-map f [] ys zs same = ([], zs, refl, refl)
split-map f (x ∷ xs) ys [] same = absurd (cc)
split-map f (x ∷ xs) ys (z ∷ zs) same =
    let cut = split-map f xs ys zs (cc) in
    let head : x ≡ f z = cc in
    (z ∷ cut.0, cut.1, ap (λ l. z ∷ l) cut.2, (λ i. head i ∷ cut.3 i))

pub map-map : {X Y Z : Type 0} (f : X → Y) (g : Y → Z) (xs : List X) → map g (map f xs) ≡ map (λ x. g (f x)) xs
map-map f g [] = refl
map-map f g (x ∷ xs) = ap (λ l. g (f x) ∷ l) (map-map f g xs)

take-past : {X : Type 0} (xs : List X) (n : ℕ) → slice_get xs n ≡ None → take n xs ≡ xs
take-past [] zero h = refl
take-past [] (suc n) h = refl
take-past (x ∷ xs) zero h = absurd (cc)
take-past (x ∷ xs) (suc n) h = ap (λ l. x ∷ l) (take-past xs n h)

pub joined-one : (pieces : List (List ℕ)) (rest : List ℕ) → joined (pieces ++ rest ∷ []) ≡ joined pieces ++ rest
joined-one [] rest = append-nil rest
joined-one (piece ∷ pieces) rest = ap (λ l. piece ++ l) (joined-one pieces rest) ∙ sym (append_assoc piece (joined pieces) rest)

-- ---- contents

abbrev pub text_frame : Item → Frame
text_frame item = plain (item_text item)

abbrev pub Fits : ℕ → Item → Type 0
Fits limit item = length (item_text item) ≤ limit

module _ (c : Connection) (history : History) (told : List Event) (items : List Item) (stands : StandsAfter c history told) where
  abbrev its_rules : Frame → Unit
  its_rules frame = read (rules_of c.settings) frame

  abbrev came : List Frame
  came = take c.stream.taken (contents c)

  units-read : (front : List Item) → came ≡ map text_frame front → units_of history ≡ map (item_as_read (rules_of c.settings)) front
  units-read front is = stands.stream.came ∙ ap (map its_rules) is ∙ map-map text_frame its_rules front

  pub reads-first : (later : List Frame) → contents c ++ later ≡ map text_frame items → HasReadItems c history items
  reads-first later first =
      let split : came ++ (drop c.stream.taken (contents c) ++ later) ≡ map text_frame items =
      sym (append_assoc came (drop c.stream.taken (contents c)) later) ∙ ap (λ frames. frames ++ later) (take-append-drop c.stream.taken (contents c)) ∙ first in
      let parts = split-map text_frame came (drop c.stream.taken (contents c) ++ later) items split in
      record { front = parts.0; rest = parts.1; whole = parts.2; read = units-read parts.0 parts.3 }

  pub reads-whole : contents c ≡ map text_frame items → next_content c history ≡ None → units_of history ≡ map (item_as_read (rules_of c.settings)) items
  reads-whole all none = units-read items (take-past (contents c) c.stream.taken (ap (slice_get (contents c)) stands.stream.taken ∙ none) ∙ all)
