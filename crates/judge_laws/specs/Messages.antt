-- Contents that are messages of one kind by all rules (JSON-RPC 2.0, sections 4 to 6).
use Rattle.std.specs.Fmt.{signed_decimal}
use Rattle.std.specs.Prelude.{◌≡◌, ℕ, ◌+◌, false, List, [], ◌∷◌, length, Option, None, Some, ⊤, decimal}
use Rattle.connection_messages.specs.Texts.{fixed_error}
use Rattle.connection_messages.specs.declared.answer.Answer.{Answer}
use Rattle.connection_messages.specs.declared.answer.Answer.TheVariants.{Result, Error, Standard}
use Rattle.conversation_reading.specs.Strictly.{has_fault}
use Rattle.conversation_reading.specs.declared.entry.Entry.{Entry}
use Rattle.conversation_reading.specs.declared.entry.Kind.{Kind}
use Rattle.conversation_reading.specs.declared.entry.WrittenId.{WrittenId}
use Rattle.conversation_reading.specs.declared.entry.WrittenId.TheVariants.{Null, Text, Number}
use Rattle.conversation_reading.specs.declared.reading.Reading.{Reading}
use Rattle.conversation_reading.specs.declared.reading.Reading.TheVariants.{Foreign, NotText, NotJson, OverLimits, HalfPair, Single, Array}
use Rattle.conversation_rules.specs.Entries.{is_both}
use Rattle.conversation_rules.specs.Owed.{has_twice}
use Rattle.message_ids.specs.declared.id.Id.{Id}
use Rattle.message_ids.specs.declared.id.Id.TheVariants as ids

-- an entry of this kind that breaks no rule by itself
pub record IsEntry (kind : Kind) (entry : Entry) : Type 0 where
  pub kind_is : entry.kind ≡ kind
  pub faultless : has_fault entry.faults ≡ false
  pub one_kind : is_both entry.there ≡ false
  pub once : has_twice entry ≡ false

abbrev pub AreEntries : Kind → List Entry → Type 0
AreEntries kind [] = ⊤
AreEntries kind (entry ∷ entries) = IsEntry kind entry × AreEntries kind entries

-- a content that is one entry, and can be read
abbrev pub IsMessage : Kind → Reading → Type 0
IsMessage kind Foreign = ⊥
IsMessage kind NotText = ⊥
IsMessage kind NotJson = ⊥
IsMessage kind OverLimits = ⊥
IsMessage kind HalfPair = ⊥
IsMessage kind (Single entry) = IsEntry kind entry
IsMessage kind (Array entries) = ⊥

-- a content that is an array of entries, and not an empty one
abbrev pub AreSome : Kind → List Entry → Type 0
AreSome kind [] = ⊥
AreSome kind (entry ∷ entries) = AreEntries kind (entry ∷ entries)

abbrev pub AreMessages : Kind → Reading → Type 0
AreMessages kind Foreign = ⊥
AreMessages kind NotText = ⊥
AreMessages kind NotJson = ⊥
AreMessages kind OverLimits = ⊥
AreMessages kind HalfPair = ⊥
AreMessages kind (Single entry) = ⊥
AreMessages kind (Array entries) = AreSome kind entries

-- ---- ids of calls

-- its id is this number, in decimal digits
abbrev pub HasKey : ℕ → Entry → Type 0
HasKey key entry = entry.id ≡ Some (Number (decimal key))

-- they count up from a number
abbrev pub HaveKeys : ℕ → List Entry → Type 0
HaveKeys key [] = ⊤
HaveKeys key (entry ∷ entries) = HasKey key entry × HaveKeys (key + 1) entries

-- of a content that is one entry, and of an array of so many
abbrev pub IsKeyed : ℕ → Reading → Type 0
IsKeyed key Foreign = ⊥
IsKeyed key NotText = ⊥
IsKeyed key NotJson = ⊥
IsKeyed key OverLimits = ⊥
IsKeyed key HalfPair = ⊥
IsKeyed key (Single entry) = HasKey key entry
IsKeyed key (Array entries) = ⊥

abbrev pub AreKeyed : ℕ → ℕ → Reading → Type 0
AreKeyed key count Foreign = ⊥
AreKeyed key count NotText = ⊥
AreKeyed key count NotJson = ⊥
AreKeyed key count OverLimits = ⊥
AreKeyed key count HalfPair = ⊥
AreKeyed key count (Single entry) = ⊥
AreKeyed key count (Array entries) = (length entries ≡ count) × HaveKeys key entries

-- it is one entry, which has no id
abbrev pub HasNoId : Reading → Type 0
HasNoId Foreign = ⊥
HasNoId NotText = ⊥
HasNoId NotJson = ⊥
HasNoId OverLimits = ⊥
HasNoId HalfPair = ⊥
HasNoId (Single entry) = entry.id ≡ None
HasNoId (Array entries) = ⊥

-- ---- ids of answers

-- a connection's id, as it writes it: a number in decimal digits
abbrev pub written_as : Id → WrittenId
written_as ids.Null = Null
written_as (ids.Text text) = Text text
written_as (ids.Signed z) = Number (signed_decimal z)
written_as (ids.Unsigned n) = Number (decimal n)

-- it is one entry, which has this id
abbrev pub HasId : WrittenId → Reading → Type 0
HasId id Foreign = ⊥
HasId id NotText = ⊥
HasId id NotJson = ⊥
HasId id OverLimits = ⊥
HasId id HalfPair = ⊥
HasId id (Single entry) = entry.id ≡ Some id
HasId id (Array entries) = ⊥

-- their ids, in the order of the entries
abbrev pub EachHasId : List WrittenId → List Entry → Type 0
EachHasId [] [] = ⊤
EachHasId [] (entry ∷ entries) = ⊥
EachHasId (id ∷ ids) [] = ⊥
EachHasId (id ∷ ids) (entry ∷ entries) = (entry.id ≡ Some id) × EachHasId ids entries

-- it is an array whose entries have these ids
abbrev pub HaveIds : List WrittenId → Reading → Type 0
HaveIds ids Foreign = ⊥
HaveIds ids NotText = ⊥
HaveIds ids NotJson = ⊥
HaveIds ids OverLimits = ⊥
HaveIds ids HalfPair = ⊥
HaveIds ids (Single entry) = ⊥
HaveIds ids (Array entries) = EachHasId ids entries

-- ---- codes of answers

-- the code of an answer's error, as a connection writes it
abbrev pub code_of : Answer → Option (List ℕ)
code_of (Result text) = None
code_of (Error e) = Some (signed_decimal e.code)
code_of (Standard s) = Some (signed_decimal (fixed_error s).code)

-- it is one entry, which has this code, or none
abbrev pub HasCode : Option (List ℕ) → Reading → Type 0
HasCode code Foreign = ⊥
HasCode code NotText = ⊥
HasCode code NotJson = ⊥
HasCode code OverLimits = ⊥
HasCode code HalfPair = ⊥
HasCode code (Single entry) = entry.code ≡ code
HasCode code (Array entries) = ⊥
