-- What a connection says, as it is read strictly: messages without a fault, whose requests have keys as their ids.
use Rattle.std.specs.Prelude.{◌≡◌, ◌<◌, ◌^◌, ℕ, false, true, List, [], ◌∷◌, None, Some, ⊤, decimal}
use Rattle.lsp_frames.specs.declared.frame.Frame.{Frame}
use Rattle.conversation_reading.specs.Strictly.{has_fault, limited_reading}
use Rattle.conversation_reading.specs.declared.entry.Entry.{Entry}
use Rattle.conversation_reading.specs.declared.entry.WrittenId.TheVariants.{Number}
use Rattle.conversation_reading.specs.declared.reading.Reading.{Reading}
use Rattle.conversation_reading.specs.declared.reading.Reading.TheVariants.{Foreign, NotText, NotJson, OverLimits, HalfPair, Single, Array}
use Rattle.conversation_rules.specs.Entries.{is_answer, is_both, is_request}
use Rattle.conversation_rules.specs.Owed.{has_twice}

-- its id is a whole number of 64 bits, in decimal digits
pub record IsPlainId (entry : Entry) : Type 0 where
  pub key : ℕ
  pub small : key < 2 ^ 64
  pub is : entry.id ≡ Some (Number (decimal key))

-- An entry that breaks no rule by itself. A request has such an id, and what is neither a request nor an answer has none.
pub record IsSaid (entry : Entry) : Type 0 where
  pub faultless : has_fault entry.faults ≡ false
  pub one_kind : is_both entry.there ≡ false
  pub once : has_twice entry ≡ false
  pub plain : is_request entry.kind ≡ true → IsPlainId entry
  pub unnamed : is_request entry.kind ≡ false → is_answer entry.kind ≡ false → entry.id ≡ None

abbrev pub AreSaid : List Entry → Type 0
AreSaid [] = ⊤
AreSaid (entry ∷ entries) = IsSaid entry × AreSaid entries

-- an array isn't empty
abbrev pub AreSome : List Entry → Type 0
AreSome [] = ⊥
AreSome (entry ∷ entries) = AreSaid (entry ∷ entries)

abbrev pub IsWell : Reading → Type 0
IsWell Foreign = ⊥
IsWell NotText = ⊥
IsWell NotJson = ⊥
IsWell OverLimits = ⊤
IsWell HalfPair = ⊥
IsWell (Single entry) = IsSaid entry
IsWell (Array entries) = AreSome entries

-- contents that are all such
abbrev pub AreWell : List Frame → Type 0
AreWell [] = ⊤
AreWell (frame ∷ frames) = IsWell (limited_reading frame.foreign frame.content) × AreWell frames
