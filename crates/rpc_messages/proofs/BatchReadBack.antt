-- A batch of texts that are read as values is read as the array of these values.
use Rattle.std.proofs.Common.{◌≡◌, ℕ, ◌≤◌, List, [], ◌∷◌, ◌++◌, map, ◌||◌, true, false, Some, refl, ap, ◌∙◌, append_assoc}
use Rattle.std.specs.List.{join_with_byte}
use Rattle.serde_json.specs.Data.{Data, array, depth}
use Rattle.serde_json.specs.Read.{read, max_depth}
use Rattle.serde_json.specs.View.{items_of}
use Rattle.serde_json.specs.Written.{compact_text, items_text, items_have_float}
use Rattle.rpc_messages.specs.Texts.{batch_text_of, AreTextsOf}
use Rattle.json_values.proofs.ReadBack.{ItemsSound, read-sound, read-compact_text}

-- what follows the first text, with the closing bracket
abbrev pub later : List (List ℕ) → List ℕ
later [] = 93 ∷ []
later (s ∷ ss) = 44 ∷ (s ++ later ss)

pub join-later : (s : List ℕ) (ss : List (List ℕ)) → join_with_byte 44 (s ∷ ss) ++ 93 ∷ [] ≡ s ++ later ss
join-later s [] = refl
join-later s (u ∷ ss) = append_assoc s _ _ ∙ ap (λ t. s ++ 44 ∷ t) (join-later u ss)

later_values : (ds : List Data) → later (map compact_text ds) ≡ items_text true (items_of ds)
later_values [] = refl
later_values (d ∷ ds) = ap (λ s. 44 ∷ (compact_text d ++ s)) (later_values ds)

-- the texts of values in one array are the text of the array
pub batch_text-values : (ds : List Data) → batch_text_of (map compact_text ds) ≡ compact_text (array (items_of ds))
batch_text-values [] = refl
batch_text-values (d ∷ ds) = ap (λ t. 91 ∷ t) (join-later (compact_text d) (map compact_text ds) ∙ ap (λ s. compact_text d ++ s) (later_values ds))

later-items_text : (ss : List (List ℕ)) (ds : List Data) → AreTextsOf ss ds → later ss ≡ items_text true (items_of ds)
later-items_text [] [] h = refl
later-items_text [] (d ∷ ds) h = absurd h
later-items_text (s ∷ ss) [] h = absurd h
later-items_text (s ∷ ss) (d ∷ ds) h = λ i. 44 ∷ (h.0.written i ++ later-items_text ss ds h.1 i)

pub batch_text-array : (ss : List (List ℕ)) (ds : List Data) → AreTextsOf ss ds → batch_text_of ss ≡ compact_text (array (items_of ds))
batch_text-array [] [] h = refl
batch_text-array [] (d ∷ ds) h = absurd h
batch_text-array (s ∷ ss) [] h = absurd h
batch_text-array (s ∷ ss) (d ∷ ds) h = ap (λ t. 91 ∷ t) (join-later s ss) ∙ (λ i. 91 ∷ (h.0.written i ++ later-items_text ss ds h.1 i))

all_whole : (ss : List (List ℕ)) (ds : List Data) → AreTextsOf ss ds → items_have_float (items_of ds) ≡ false
all_whole [] [] h = refl
all_whole [] (d ∷ ds) h = absurd h
all_whole (s ∷ ss) [] h = absurd h
all_whole (s ∷ ss) (d ∷ ds) h = ap (λ b. b || items_have_float (items_of ds)) h.0.whole ∙ all_whole ss ds h.1

all_sound : (ss : List (List ℕ)) (ds : List Data) → AreTextsOf ss ds → ItemsSound (items_of ds)
all_sound [] [] h = tt
all_sound [] (d ∷ ds) h = absurd h
all_sound (s ∷ ss) [] h = absurd h
all_sound (s ∷ ss) (d ∷ ds) h = (read-sound s d h.0.reads_back, all_sound ss ds h.1)

pub read-batch_text : (ss : List (List ℕ)) (ds : List Data) → AreTextsOf ss ds → depth (array (items_of ds)) ≤ max_depth → read (batch_text_of ss) ≡ Some (array (items_of ds))
read-batch_text ss ds h shallow = ap read (batch_text-array ss ds h) ∙ read-compact_text (array (items_of ds)) (all_sound ss ds h) (all_whole ss ds h) shallow
