-- Several things that the host says in one call: the same as to say them one after the other.
use Rattle.std.specs.Prelude.{◌≡◌, ◌⊎◌, ℕ, zero, suc, ◌+◌, ◌<◌, ◌≤◌, ◌==◌, ℤ, pos, negsuc, List, [], ◌∷◌, Bool, true, false, Option, Some, None, Ok, Err, length, take, drop, if◌then◌else◌}
use Rattle.host_calls.specs.declared.code.Why.TheVariants.{Settings}
use Rattle.host_calls.specs.declared.outlet.Outlet.{Outlet}
use Rattle.host_calls.specs.declared.sayings.Saying.{Saying}
use Rattle.host_calls.specs.declared.sayings.SayingKind.{SayingKind}
use Rattle.host_calls.specs.declared.sayings.SayingKind.TheVariants.{Answer, Fail, Close, Call, Batch, Notify, Withdraw, Cancel}
use Rattle.host_calls.specs.Batches.{parts}
use Rattle.host_calls.specs.Codes.{Said, code_of_said}
use Rattle.host_calls.specs.Saying.{HasCalled, HasCalledParts, HasNotified, HasWithdrawn, HasAnswered, HasFailed, HasCancelled}

abbrev pub kind_of : ℕ → Option SayingKind
kind_of n =
    if n == 1 then Some Answer else (if n == 2 then Some Fail else (if n == 3 then Some Close else (if n == 4 then Some Call else (
    if n == 5 then Some Batch else (if n == 6 then Some Notify else (if n == 7 then Some Withdraw else (if n == 8 then Some Cancel else None)))))))

-- ---- how they lie in the bytes: each name and text behind those before

abbrev pub name_of : Saying → List ℕ → List ℕ
name_of h bytes = take h.name_len bytes

abbrev pub text_of : Saying → List ℕ → List ℕ
text_of h bytes = take h.text_len (drop h.name_len bytes)

-- the bytes behind its own
abbrev pub behind : Saying → List ℕ → List ℕ
behind h bytes = drop h.text_len (drop h.name_len bytes)

-- two lengths for each
abbrev pub lengths_of : List Saying → List ℕ
lengths_of [] = []
lengths_of (h ∷ hs) = h.name_len ∷ h.text_len ∷ lengths_of hs

-- how many bytes they have
abbrev pub byte_count : List Saying → ℕ
byte_count [] = 0
byte_count (h ∷ hs) = h.name_len + h.text_len + byte_count hs

-- they have all bytes
abbrev pub are_whole : List Saying → List ℕ → Bool
are_whole hs bytes = byte_count hs == length bytes

-- ---- one of them

-- Those behind it are its calls, where there are so many.
abbrev pub SaysBatch : Outlet → Outlet → Saying → List Saying → List ℕ → ℕ → ℕ → Said → Type 0
SaysBatch a b h hs bytes k key said =
    ((length hs < h.calls) × (b ≡ a) × (key ≡ k) × (said ≡ Err Settings))
    ⊎ ((h.calls ≤ length hs) × HasCalledParts a b h.number (parts bytes (lengths_of (take h.calls hs))) k key said)

-- From a to b it is said as one of its kind, with its own name and text, and those behind it; and its key changes from k to this one.
abbrev pub SaysAs : Option SayingKind → Outlet → Outlet → Saying → List Saying → List ℕ → ℕ → ℕ → Said → Type 0
SaysAs (Some Answer) a b h hs bytes k key said = HasAnswered a b h.number (text_of h bytes) said × (key ≡ k)
SaysAs (Some Fail) a b h hs bytes k key said = HasFailed a b h.number h.code (name_of h bytes) (text_of h bytes) said × (key ≡ k)
SaysAs (Some Close) a b h hs bytes k key said = HasAnswered a b h.number [] said × (key ≡ k)
SaysAs (Some Call) a b h hs bytes k key said = HasCalled a b h.number (name_of h bytes) (text_of h bytes) k key said
SaysAs (Some Batch) a b h hs bytes k key said = SaysBatch a b h hs (behind h bytes) k key said
SaysAs (Some Notify) a b h hs bytes k key said = HasNotified a b (name_of h bytes) (text_of h bytes) said × (key ≡ k)
SaysAs (Some Withdraw) a b h hs bytes k key said = HasWithdrawn a b h.key said × (key ≡ k)
SaysAs (Some Cancel) a b h hs bytes k key said = HasCancelled a b h.number said × (key ≡ k)
SaysAs None a b h hs bytes k key said = (b ≡ a) × (key ≡ k) × (said ≡ Err Settings)

-- It is said, and is g then: the same with its code and its key.
abbrev pub SaysOne : Outlet → Outlet → Saying → List Saying → List ℕ → Saying → Type 0
SaysOne a b h hs bytes g = (said : Said) × (key : ℕ) × SaysAs (kind_of h.kind) a b h hs bytes h.key key said
    × (g ≡ record h { said = code_of_said said; key = key })

-- how many of those behind it are its calls
abbrev pub calls_of : Saying → ℕ
calls_of h = if h.kind == 5 then h.calls else 0

-- ---- all of them

-- 1 where it was refused
abbrev pub refused_by : ℤ → ℕ
refused_by (pos zero) = 0
refused_by (pos (suc n)) = 1
refused_by (negsuc n) = 1

abbrev pub refused_of : Saying → ℕ
refused_of g = refused_by g.said

-- From a to b they are said one after the other and become gs, but for the first, so many, which are the calls of a batch before them. So many are refused.
abbrev pub SaysAll : Outlet → ℕ → List Saying → List ℕ → Outlet → List Saying → ℕ → Type 0
SaysAll a passed [] bytes b [] n = (b ≡ a) × (n ≡ 0)
SaysAll a passed [] bytes b (g ∷ gs) n = ⊥
SaysAll a passed (h ∷ hs) bytes b [] n = ⊥
SaysAll a (suc passed) (h ∷ hs) bytes b (g ∷ gs) n = (g ≡ h) × SaysAll a passed hs (behind h bytes) b gs n
SaysAll a zero (h ∷ hs) bytes b (g ∷ gs) n = (m : Outlet) × (more : ℕ) × SaysOne a m h hs bytes g × SaysAll m (calls_of h) hs (behind h bytes) b gs more
    × (n ≡ refused_of g + more)

-- All are said; or they don't have all bytes, and nothing has changed.
abbrev pub HasSaidAll : Outlet → Outlet → List Saying → List Saying → List ℕ → ℕ → ℕ → Said → Type 0
HasSaidAll a b hs gs bytes k refused (Ok _) = (are_whole hs bytes ≡ true) × SaysAll a 0 hs bytes b gs refused
HasSaidAll a b hs gs bytes k refused (Err why) = (are_whole hs bytes ≡ false) × (why ≡ Settings) × (b ≡ a) × (gs ≡ hs) × (refused ≡ k)
