-- Runs of numbers in arrays.
use Rattle.std.specs.Prelude.{ℕ, List, [], ◌∷◌, ◌++◌}
use Rattle.std.specs.List.{AllByRecursion}
use Rattle.json.specs.Print.{IsNumber}
use Rattle.json_texts.specs.Standing.{Stands}

-- numbers, with a comma behind each
abbrev pub with_commas : List (List ℕ) → List ℕ
with_commas [] = []
with_commas (number ∷ numbers) = number ++ 44 ∷ with_commas numbers

-- Items of an array stand from one place to another, none but numbers, with a comma behind each.
pub record HasNumberItems (text : List ℕ) (from end : ℕ) : Type 0 where
  pub numbers : List (List ℕ)
  pub are : AllByRecursion IsNumber numbers
  pub stands : Stands text from (with_commas numbers) end

-- The last items of an array: such numbers, one more, and the bracket.
pub record HasLastNumbers (text : List ℕ) (from end : ℕ) : Type 0 where
  pub numbers : List (List ℕ)
  pub last : List ℕ
  pub are : AllByRecursion IsNumber numbers
  pub is : IsNumber last
  pub stands : Stands text from (with_commas numbers ++ (last ++ 93 ∷ [])) end
