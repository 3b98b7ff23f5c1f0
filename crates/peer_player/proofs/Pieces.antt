-- The bytes of pieces, one after another.
use Rattle.std.proofs.Common.{◌≡◌, ℕ, ◌+◌, ◌<◌, List, [], ◌∷◌, ◌++◌, flat_map, take, drop, get_or, length, sym, ap, subst, ◌∙◌, Vec, Global, append-nil, Option}
use Rattle.std.proofs.lemmas.Grind.{flat_map-append}
use Rattle.std.proofs.lemmas.List.{take_more, take-append-drop}
use Rattle.method_steps.specs.Steps.{MethodTable}
use Rattle.peer_session.specs.declared.limits.Limits.{Limits}
use Rattle.stream_framing.specs.declared.framing.Framing.{Framing}
use Rattle.stream_session.specs.Framings.{IsShortOf}
use Rattle.peer_player.specs.Player.{StoppedAfter}

abbrev pub bytes_in : List (Vec ℕ Global) → List ℕ
bytes_in pieces = flat_map (λ (piece : Vec ℕ Global). piece.items) pieces

module _ (pieces : List (Vec ℕ Global)) (i : ℕ) (piece : Vec ℕ Global) (bytes : List ℕ) (within : i < length pieces) (is : piece ≡ get_or pieces i piece) (bytes_are : bytes ≡ piece.items) where
  pub next-bytes : bytes_in (take (i + 1) pieces) ≡ bytes_in (take i pieces) ++ bytes
  next-bytes =
      ap bytes_in (take_more pieces i piece within)
      ∙ flat_map-append (λ (p : Vec ℕ Global). p.items) (take i pieces) (get_or pieces i piece ∷ [])
      ∙ ap (λ l. bytes_in (take i pieces) ++ l) (append-nil _ ∙ ap (λ (p : Vec ℕ Global). p.items) (sym is) ∙ sym bytes_are)

  all-bytes : (bytes_in (take i pieces) ++ bytes) ++ bytes_in (drop (i + 1) pieces) ≡ bytes_in pieces
  all-bytes =
      ap (λ l. l ++ bytes_in (drop (i + 1) pieces)) (sym next-bytes)
      ∙ sym (flat_map-append (λ (p : Vec ℕ Global). p.items) (take (i + 1) pieces) (drop (i + 1) pieces))
      ∙ ap bytes_in (take-append-drop (i + 1) pieces)

  -- What stops in the middle of a piece has stopped, whatever pieces come behind.
  pub stopped-piece : (framing : Framing) (table : MethodTable) (limits : Limits) (before after : Option (List ℕ)) → StoppedAfter framing table limits (bytes_in (take i pieces) ++ bytes) before after
      → IsShortOf framing table limits (bytes_in pieces) before after
  stopped-piece framing table limits before after stops =
      subst (λ all. IsShortOf framing table limits all before after) all-bytes (stops (bytes_in (drop (i + 1) pieces)))
