-- Ids that stand as the entries do, each where the one that expects it stands, are just those that are expected.
use Rattle.std.proofs.Common.{rules, ◌≡◌, ◌==◌, ◌&&◌, ℕ, suc, length, List, [], ◌∷◌, Bool, true, false, Option, Some, None, refl, if◌then◌else◌, option_map}
use Rattle.std.specs.List.{cons_option}
use Rattle.std.specs.Option.{option_map_or}
use Rattle.conversation_reading.specs.declared.entry.WrittenId.{WrittenId}
use Rattle.conversation_rules.specs.Amounts.{same_id}
use Rattle.conversation_rules.specs.Dues.{ids_read}
use Rattle.conversation_rules.specs.Matching.{same_ids, without_id}
use Rattle.conversation_rules.specs.Owed.{Owed, has_id, is_expected}
use Rattle.conversation_dues.specs.Left.{are_in_line, expected_of}

first : (a b : Bool) → (a && b) ≡ true → a ≡ true
first true b is = refl
first false b is = cc

second : (a b : Bool) → (a && b) ≡ true → b ≡ true
second true b is = is
second false b is = cc

-- an id in front of others, which is expected there
same_first : (id : WrittenId) (o : Option WrittenId) (ids others : List WrittenId) → has_id id o ≡ true → same_ids ids others ≡ true → same_ids (id ∷ ids) (cons_option o others) ≡ true
same_first id None ids others has same = absurd (let no : false ≡ true = has in cc)
same_first id (Some expected) ids others has same = found (same_id id expected) has
  where
    found : (b : Bool) → b ≡ true → option_map_or (same_ids ids) (if b then Some others else option_map (λ rest. expected ∷ rest) (without_id id others)) false ≡ true
    found true is = same
    found false is = cc

pub in_line_is_just : (entries : List Owed) (ids : List (Option WrittenId)) → are_in_line entries ids ≡ true → same_ids (ids_read ids) (expected_of entries) ≡ true
in_line_is_just [] [] line = refl
in_line_is_just [] (id ∷ ids) line = absurd (let no : false ≡ true = line in cc)
in_line_is_just (owed ∷ entries) [] line = absurd (let no : false ≡ true = line in cc)
in_line_is_just (owed ∷ entries) (None ∷ ids) line = absurd (let no : false ≡ true = line in cc)
in_line_is_just (owed ∷ entries) (Some id ∷ ids) line =
    same_first id owed.expected (ids_read ids) (expected_of entries) (first (is_expected id owed) (are_in_line entries ids) line)
    (in_line_is_just entries ids (second (is_expected id owed) (are_in_line entries ids) line))

not_zero : (n : ℕ) → (suc n == 0) ≡ false
not_zero n = search rules

pub none_left : (entries : List Owed) → (length entries == 0) ≡ are_in_line entries []
none_left [] = refl
none_left (owed ∷ entries) = not_zero (length entries)
