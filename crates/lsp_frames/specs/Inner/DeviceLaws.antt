-- What the sources of this crate keep. No public contract cites this file.
use Rattle.std.specs.Prelude.{List, ℕ, [], Option, Some, None, IfSome}
use Rattle.std.proofs.Common.{refl}
use Rattle.lsp_frames.specs.Devices.{Unfinished, GivesFrontOf}

pub front_at_first : (held : List ℕ) → GivesFrontOf held [] Unfinished
front_at_first held = record { front = (held, refl); whole = λ e. cc }

pub gives_nothing_at_first : (known : Option (List ℕ)) → IfSome known (λ held. GivesFrontOf held [] Unfinished)
gives_nothing_at_first None = tt
gives_nothing_at_first (Some held) = front_at_first held
