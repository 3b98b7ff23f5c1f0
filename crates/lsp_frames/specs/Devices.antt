-- Where bytes come from and where they go to.
use Rattle.std.specs.Prelude.{◌≡◌, ℕ, ◌+◌, ◌-◌, ◌^◌, ◌<◌, min, List, [], ◌++◌, take, Option, Some, IfSome, Result, Ok, Err, MatchResult}
use Rattle.lsp_frames.specs.declared.device.IoFault.{IoFault}

-- A call that fails counts one failure more, up to u64's greatest value. No other call counts one.
abbrev pub CountsFailure : {T E : Type 0} → ℕ → ℕ → Result T E → Type 0
CountsFailure before after result =
    MatchResult result (λ _. after ≡ before) (λ _. after ≡ min (before + 1) (2 ^ 64 - 1))

-- How the bytes of a source come to their end: no more was asked for; or there is no more; or it failed.
pub data Ending : Type 0 where
  Unfinished : Ending
  Finished : Ending
  Failed : Ending

-- What some source gives: these bytes, and then this ending.
abbrev pub Gift : Type 1
Gift = List ℕ → Ending → Type 0

-- A `next` that answers so, with its bytes at the front of the room. The source gives those and then what it gives
-- afterwards; or nothing, and the end; or nothing, and a fault.
abbrev pub GivesNext : Gift → Gift → Result ℕ IoFault → List ℕ → Type 0
GivesNext before after (Ok n) room = (n ≡ 0 → before [] Finished) × (0 < n → (bytes : List ℕ) (ending : Ending)
    → after bytes ending → before (take n room ++ bytes) ending)
GivesNext before after (Err fault) room = before [] Failed

-- A source of these bytes gives a front of them, and all of them where it comes to its end.
pub record GivesFrontOf (held bytes : List ℕ) (ending : Ending) : Type 0 where
  pub front : (rest : List ℕ) × (held ≡ bytes ++ rest)
  pub whole : ending ≡ Finished → bytes ≡ held

-- What a sink has handed on, where that is known, is all that it has taken.
abbrev pub HandsOnAll : Option (List ℕ) → Option (List ℕ) → Type 0
HandsOnAll handed taken = IfSome handed (λ bytes. taken ≡ Some bytes)
