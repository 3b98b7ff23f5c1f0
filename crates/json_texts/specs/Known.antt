-- Where a value is known to stand.
use Rattle.std.specs.Prelude.{◌≤◌, ◌<◌, ℕ, List, length}
use Rattle.json_texts.specs.Standing.{HasValue}
use Rattle.json_texts.specs.declared.spaced.Known.{Known}

-- Where one is known, a value stands there that nests at most `levels` deep. None begins at a text's start.
abbrev pub IsKnown : ℕ → List ℕ → Known → Type 0
IsKnown levels text known = 0 < known.start → HasValue levels text known.start known.end × (known.start ≤ known.end) × (known.end ≤ length text)
