-- What was written, and what of it was taken.
use Rattle.std.specs.Prelude.{◌≡◌, ℕ, ◌+◌, nat_le, List, [], ◌∷◌, ◌++◌, length, take, drop, flat_map, if◌then◌else◌}
use Rattle.content_streams.specs.declared.framing.Framing.{Framing}
use Rattle.content_streams.specs.declared.framing.Framing.TheVariants.{Frames, Lines, Contents}
use Rattle.lsp_frames.specs.Frames.{written as frame_of}

pub record Output : Type 0 where
  pub framing : Framing
  -- all texts that were ever put, the oldest first
  pub written : List (List ℕ)
  -- how many bytes were taken, or how many texts in Contents
  pub taken : ℕ

-- a text as it is written: behind a head, as a line with its LF, or by itself
abbrev pub framed : Framing → List ℕ → List ℕ
framed Frames text = frame_of text
framed Lines text = text ++ 10 ∷ []
framed Contents text = text

-- the texts as they are written, one after another
abbrev pub bytes_of_texts : Framing → List (List ℕ) → List ℕ
bytes_of_texts framing texts = flat_map (framed framing) texts

-- how much there is to take in all: bytes, or texts in Contents
abbrev pub full_count : Framing → List (List ℕ) → ℕ
full_count Frames texts = length (bytes_of_texts Frames texts)
full_count Lines texts = length (bytes_of_texts Lines texts)
full_count Contents texts = length texts

-- the first text, and no bytes where there is none
abbrev pub first_text : List (List ℕ) → List ℕ
first_text [] = []
first_text (text ∷ texts) = text

-- the first text alone, where there is one and so much room is enough
abbrev pub fitting_text : ℕ → List (List ℕ) → List (List ℕ)
fitting_text room [] = []
fitting_text room (text ∷ texts) = if nat_le (length text) room then text ∷ [] else []

-- what is to be taken next, where so much was taken of the texts: all bytes that are left, or in Contents the next text
abbrev pub next_bytes : Framing → List (List ℕ) → ℕ → List ℕ
next_bytes Frames texts taken = drop taken (bytes_of_texts Frames texts)
next_bytes Lines texts taken = drop taken (bytes_of_texts Lines texts)
next_bytes Contents texts taken = first_text (drop taken texts)

-- the bytes that a take gives where it has so much room
abbrev pub bytes_given : Framing → List (List ℕ) → ℕ → ℕ → List ℕ
bytes_given Frames texts taken room = take room (drop taken (bytes_of_texts Frames texts))
bytes_given Lines texts taken room = take room (drop taken (bytes_of_texts Lines texts))
bytes_given Contents texts taken room = first_text (fitting_text room (drop taken texts))

-- by how much it raises what was taken
abbrev pub count_given : Framing → List (List ℕ) → ℕ → ℕ → ℕ
count_given Frames texts taken room = length (bytes_given Frames texts taken room)
count_given Lines texts taken room = length (bytes_given Lines texts taken room)
count_given Contents texts taken room = length (fitting_text room (drop taken texts))

-- ---- the same of an output

abbrev pub next_of : Output → List ℕ
next_of o = next_bytes o.framing o.written o.taken

abbrev pub given_of : Output → ℕ → List ℕ
given_of o room = bytes_given o.framing o.written o.taken room

-- all is taken
abbrev pub IsAllTaken : Output → Type 0
IsAllTaken o = o.taken ≡ full_count o.framing o.written

-- the output after one more text was put
abbrev pub with_text : List ℕ → Output → Output
with_text text o = record { framing = o.framing; written = o.written ++ text ∷ []; taken = o.taken }

-- the output after a take with so much room
abbrev pub after_take : ℕ → Output → Output
after_take room o = record {
  framing = o.framing;
  written = o.written;
  taken = o.taken + count_given o.framing o.written o.taken room;
}

-- Since that moment texts were put, and nothing was taken.
pub record OnlyPutSince (before now : Output) : Type 0 where
  pub framing : now.framing ≡ before.framing
  pub written : take (length before.written) now.written ≡ before.written
  pub taken : now.taken ≡ before.taken

-- ---- all bytes, in Frames and Lines

abbrev pub all_bytes : Output → List ℕ
all_bytes o = bytes_of_texts o.framing o.written

abbrev pub taken_bytes : Output → List ℕ
taken_bytes o = take o.taken (all_bytes o)
