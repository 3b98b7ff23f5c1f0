-- JSON by its grammar (RFC 8259), which allows half of a surrogate pair (section 7); and texts that nest too deep (section 9
-- allows a limit).
use Rattle.std.specs.Prelude.{ℕ, ◌==◌, ◌&&◌, ◌||◌, List, [], ◌∷◌, length, drop, Bool, false, Option, Some, None, option_map, is_some, if◌then◌else◌}
use Rattle.json_texts.specs.Texts.{value_of}
use Rattle.conversation_reading.specs.declared.front.Place.{Place}
use Rattle.conversation_reading.specs.declared.front.Place.TheVariants.{Outside, InString, AfterBackslash}
use Rattle.conversation_reading.specs.declared.reading.TheConstants.{MOST_DEPTH_IN}

-- ---- half of a surrogate pair

-- how much of `\u` stands before the next byte: nothing, a backslash, or all of it
abbrev pub escape_after : ℕ → ℕ → ℕ
escape_after seen b = if b == 92 then 1 else (if (seen == 1) && (b == 117) then 2 else 0)

abbrev pub is_surrogate_digit : ℕ → ℕ → Bool
is_surrogate_digit seen b = (seen == 2) && ((b == 100) || (b == 68))

-- The escape of a surrogate begins with `\ud` or `\uD`. With a 0 in place of the d it is one of a character, and all else
-- stays, so that the text is JSON exactly where it was.
abbrev pub without_halves : ℕ → List ℕ → List ℕ
without_halves seen [] = []
without_halves seen (b ∷ bs) = (if is_surrogate_digit seen b then 48 else b) ∷ without_halves (escape_after seen b) bs

-- whether a text is JSON by its grammar, of at most so many levels as are read
abbrev pub is_json : List ℕ → Bool
is_json text = is_some (value_of MOST_DEPTH_IN (without_halves 0 text))

-- ---- nesting

abbrev pub place_after : Place → ℕ → Place
place_after Outside b = if b == 34 then InString else Outside
place_after InString b = if b == 34 then Outside else (if b == 92 then AfterBackslash else InString)
place_after AfterBackslash b = InString

abbrev pub is_opening : Place → ℕ → Bool
is_opening Outside b = (b == 91) || (b == 123)
is_opening InString b = false
is_opening AfterBackslash b = false

-- a bracket opens one level too many
abbrev pub is_too_deep : Place → List ℕ → ℕ → Bool
is_too_deep place closers b = is_opening place b && (length closers == MOST_DEPTH_IN)

-- what closes the arrays and objects that are open, the innermost first
abbrev pub closers_outside : List ℕ → ℕ → List ℕ
closers_outside closers b = if b == 91 then 93 ∷ closers else (if b == 123 then 125 ∷ closers else (if (b == 93) || (b == 125) then drop 1 closers else closers))

abbrev pub closers_after : Place → List ℕ → ℕ → List ℕ
closers_after Outside closers b = closers_outside closers b
closers_after InString closers b = closers
closers_after AfterBackslash closers b = closers

-- The text up to the first bracket that nests too deep, with a 0 in its place, and then all closed that is open there. There
-- is none where no bracket does.
abbrev pub front_from : List ℕ → Place → List ℕ → Option (List ℕ)
front_from closers place [] = None
front_from closers place (b ∷ bs) =
    if is_too_deep place closers b then Some (48 ∷ closers)
    else option_map (λ front. b ∷ front) (front_from (closers_after place closers b) (place_after place b) bs)

abbrev pub front_of : List ℕ → Option (List ℕ)
front_of text = front_from [] Outside text
