-- What an outbox and a mark keep.
use Rattle.std.specs.Prelude.{◌≡◌, ℕ, ◌≤◌, List, [], length, drop}
use Rattle.std.specs.Vec.{vec_capacity}
use Rattle.std.specs.declared.vec.Vec.{Vec}
use Rattle.content_streams.specs.declared.framing.Framing.{Framing}
use Rattle.content_streams.specs.declared.framing.Framing.TheVariants.{Frames, Lines, Contents}
use Rattle.outbox.specs.Output.{bytes_of_texts, full_count}

-- In Frames and Lines, the bytes that aren't taken, where so much was taken of the texts. In Contents the texts are kept.
abbrev pub bytes_left : Framing → List (List ℕ) → ℕ → List ℕ
bytes_left Frames texts taken = drop taken (bytes_of_texts Frames texts)
bytes_left Lines texts taken = drop taken (bytes_of_texts Lines texts)
bytes_left Contents texts taken = []

-- in Contents, the texts that aren't taken
abbrev pub texts_left : Framing → List (List ℕ) → ℕ → List (List ℕ)
texts_left Frames texts taken = []
texts_left Lines texts taken = []
texts_left Contents texts taken = drop taken texts

pub record IsKept (framing : Framing) (written : List (List ℕ)) (taken : ℕ) (kept_bytes : List ℕ) (kept_texts : List (List ℕ)) : Type 0 where
  pub bytes : kept_bytes ≡ bytes_left framing written taken
  pub texts : kept_texts ≡ texts_left framing written taken
  pub within : taken ≤ full_count framing written

-- how many of these there were
pub record IsMarked (framing : Framing) (written : List (List ℕ)) (taken byte_count text_count : ℕ) : Type 0 where
  pub bytes : byte_count ≡ length (bytes_left framing written taken)
  pub texts : text_count ≡ length (texts_left framing written taken)
  pub within : taken ≤ full_count framing written

-- The bytes that stand in two blocks of memory. The second has some only where the first has, and an empty one has little room.
pub record IsLeft {Z : Type 0} (front back : Vec ℕ Z) : Type 0 where
  pub order : front.items ≡ [] → back.items ≡ []
  pub front_room : front.items ≡ [] → vec_capacity front ≤ 4096
  pub back_room : back.items ≡ [] → vec_capacity back ≤ 4096
