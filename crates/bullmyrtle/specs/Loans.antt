-- What the places that a host gets are good for: whoever owns a handle owns the lent bytes, where they lie, and has the handle again once it gives them back.
use Rattle.std.specs.Prelude.{ℕ, ◌<◌, List, length}
use Rattle.std.specs.Borrow.{full_share, u8}
use Rattle.std.specs.Vec.{vec_ptr}
use seplogic.Ra.Ura.{Ura}
use base.Logic.{ent, sep, wand}
use base.Fml.{Fml}
use mir.Val.{Val}
use types.Logic.{Logic, sem}
use denote.Array.{Array}
use denote.RawPtr.{Ptr, lies_at}
use Rattle.host_calls.specs.Hosting.{left, output_at}
use Rattle.bullmyrtle.specs.declared.handle.Handle.{Handle}
use Rattle.bullmyrtle.specs.contracts.handle.Handle.{the_row}

-- P has Q in it: Q can be taken out, and P is there again once Q is put back
pub record Holds (P Q : Fml) : Type 2 where
  pub go : (M : Type 1) (𝓤 : Ura M) (𝓛 : Logic 𝓤) → ent 𝓤 (sem 𝓛 P) (sep 𝓤 (sem 𝓛 Q) (wand 𝓤 (sem 𝓛 Q) (sem 𝓛 P)))

-- the handle has just these bytes at p, if there are any
abbrev pub LendsBytes : Handle → Ptr → List ℕ → Type 2
LendsBytes h p bytes = 0 < length bytes → (ws : List Val) → Holds (the_row.own_val h ws) (lies_at (Array u8 (length bytes)) full_share p bytes)

-- It lends the texts of the last event, and what is left to be written.
pub record LendsAll (h : Handle) : Type 2 where
  pub name : LendsBytes h (vec_ptr h.value.texts.name) h.value.texts.name.items
  pub text : LendsBytes h (vec_ptr h.value.texts.text) h.value.texts.text.items
  pub id : LendsBytes h (vec_ptr h.value.texts.id) h.value.texts.id.items
  pub output : LendsBytes h (output_at h.value) (left h.value)
