-- What the words and the slots' values of a closed table hold.
use Rattle.std.specs.Prelude.{ℕ, ◌==◌, ◌||◌, Bool, if◌then◌else◌, List, [], ◌∷◌, ◌++◌, Option}
use Rattle.std.specs.Option.{option_to_list}
use Rattle.job_slots.specs.declared.word.TheConstants.{READY, DONE}

-- a word under which the slot's job is at home
abbrev pub is_kept : ℕ → Bool
is_kept word = (word == READY) || (word == DONE)

-- the jobs at home, by slot, from the words and the slots' values
abbrev pub kept : {J : Type 0} → List ℕ → List (Option J) → List J
kept [] xs = []
kept (word ∷ words) [] = []
kept (word ∷ words) (x ∷ xs) = (if is_kept word then option_to_list x else []) ++ kept words xs
