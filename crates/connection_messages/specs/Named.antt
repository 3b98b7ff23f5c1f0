-- The members that an envelope has, by their names.
use Rattle.std.specs.Prelude.{◌≡◌, ◌==◌, ℕ, List, Bool, Option, Some, None, codes, if◌then◌else◌}
use Rattle.std.specs.Borrow.{Bor}
use Rattle.std.specs.List.{starts_with}
use Rattle.std.specs.Str.{bytes_eq}
use Rattle.json_texts.specs.Standing.{HasName}
use Rattle.connection_messages.specs.declared.read.envelope.Envelope.{Envelope}
use Rattle.connection_messages.specs.declared.read.envelope.Member.{Member}
use Rattle.connection_messages.specs.declared.read.envelope.Member.TheVariants.{Version, Id, Method, Params, Result, Error, Request, Other}

-- the text begins with this, which is a name with its quotes and the colon behind it
abbrev pub begins : List ℕ → List ℕ → Bool
begins text word = starts_with ◌==◌ text word

abbrev pub first_of_names : Bool → Bool → Bool → Bool → Bool → Bool → Bool → Member
first_of_names version id method params result error request =
    if version then Version else (if id then Id else (if method then Method else (if params then Params else (if result then Result else (if error then Error else (if request then Request else Other))))))

-- the member whose name the text begins with
abbrev pub member_of : List ℕ → Member
member_of text =
    first_of_names (begins text (codes "\"jsonrpc\":")) (begins text (codes "\"id\":")) (begins text (codes "\"method\":")) (begins text (codes "\"params\":")) (begins text (codes "\"result\":"))
    (begins text (codes "\"error\":")) (begins text (codes "\"requestId\":"))

-- and the one of this name
abbrev pub member_named : List ℕ → Member
member_named name =
    first_of_names (bytes_eq name (codes "jsonrpc")) (bytes_eq name (codes "id")) (bytes_eq name (codes "method")) (bytes_eq name (codes "params")) (bytes_eq name (codes "result"))
    (bytes_eq name (codes "error")) (bytes_eq name (codes "requestId"))

-- the length of its name, with its quotes and the colon behind it
abbrev pub name_len : Member → Option ℕ
name_len Version = Some 10
name_len Id = Some 5
name_len Method = Some 9
name_len Params = Some 9
name_len Result = Some 9
name_len Error = Some 8
name_len Request = Some 12
name_len Other = None

-- a name stands there, which is this member's
abbrev pub HasMember : List ℕ → ℕ → ℕ → Member → Type 0
HasMember text from end member = (named : HasName text from end) × (member ≡ member_named named.name)

-- the envelope of an object without members
abbrev pub no_parts : Envelope
no_parts = record { version = None; id = None; method = None; params = None; result = None; error = None; request = None }

-- the envelope with one more member
abbrev pub with_part : Member → Bor (List ℕ) → Envelope → Envelope
with_part Version part e = record e { version = Some part }
with_part Id part e = record e { id = Some part }
with_part Method part e = record e { method = Some part }
with_part Params part e = record e { params = Some part }
with_part Result part e = record e { result = Some part }
with_part Error part e = record e { error = Some part }
with_part Request part e = record e { request = Some part }
with_part Other part e = e
