-- What bytes that the host passes are read as, or why they aren't.
use Rattle.std.specs.Prelude.{◌≡◌, ◌≢◌, ◌⊎◌, ℕ, ℤ, List, [], Option, Some, None, true, false, IsUtf8}
use Rattle.json_texts.specs.Texts.{compact_text}
use Rattle.json_texts.specs.declared.json_text.TheConstants.{MOST_DEPTH_OUT}
use Rattle.connection_messages.specs.Params.{is_structured}
use Rattle.connection_messages.specs.declared.answer.Answer.{Answer}
use Rattle.connection_messages.specs.declared.answer.Answer.TheVariants.{Result, Error, Standard}
use Rattle.connection_messages.specs.declared.outgoing.Outgoing.{Outgoing}
use Rattle.connection_history.specs.declared.refused.Refused.TheVariants.{Memory}
use Rattle.host_calls.specs.declared.code.Why.{Why}
use Rattle.host_calls.specs.declared.code.Why.TheVariants.{Refused, NotText, NotJson}

abbrev pub IsMemory : Why → Type 0
IsMemory why = why ≡ Refused Memory

-- ---- a text

abbrev pub IsText : List ℕ → List ℕ → Type 0
IsText bytes text = (text ≡ bytes) × IsUtf8 bytes

abbrev pub IsntText : List ℕ → Why → Type 0
IsntText bytes why = IsMemory why ⊎ ((why ≡ NotText) × ¬ (IsUtf8 bytes))

-- ---- a JSON value

abbrev pub IsJson : List ℕ → List ℕ → Type 0
IsJson bytes text = compact_text MOST_DEPTH_OUT bytes ≡ Some text

abbrev pub IsntJson : List ℕ → Why → Type 0
IsntJson bytes why = IsMemory why ⊎ ((why ≡ NotJson) × (compact_text MOST_DEPTH_OUT bytes ≡ None))

-- no bytes are none
abbrev pub IsData : List ℕ → Option (List ℕ) → Type 0
IsData bytes None = bytes ≡ []
IsData bytes (Some text) = (bytes ≢ []) × IsJson bytes text

abbrev pub IsntData : List ℕ → Why → Type 0
IsntData bytes why = (bytes ≢ []) × IsntJson bytes why

-- ---- params, which are an array or an object

abbrev pub IsParams : List ℕ → Option (List ℕ) → Type 0
IsParams bytes None = bytes ≡ []
IsParams bytes (Some text) = (bytes ≢ []) × IsJson bytes text × (is_structured text ≡ true)

abbrev pub IsPlain : List ℕ → Type 0
IsPlain bytes = (text : List ℕ) × IsJson bytes text × (is_structured text ≡ false)

abbrev pub AreNoParams : List ℕ → Why → Type 0
AreNoParams bytes why = (bytes ≢ []) × (IsntJson bytes why ⊎ ((why ≡ NotJson) × IsPlain bytes))

-- ---- a call or a notification

abbrev pub IsOutgoing : List ℕ → List ℕ → Outgoing → Type 0
IsOutgoing method params o = IsText method o.method × IsParams params o.params

abbrev pub IsNoOutgoing : List ℕ → List ℕ → Why → Type 0
IsNoOutgoing method params why = IsntText method why ⊎ (IsUtf8 method × AreNoParams params why)

-- ---- an answer that is an error

abbrev pub IsFailure : ℤ → List ℕ → List ℕ → Answer → Type 0
IsFailure code message bytes (Error e) = (e.code ≡ code) × IsText message e.message × IsData bytes e.«data»
IsFailure code message bytes (Result text) = ⊥
IsFailure code message bytes (Standard it) = ⊥

abbrev pub IsNoFailure : List ℕ → List ℕ → Why → Type 0
IsNoFailure message bytes why = IsntText message why ⊎ (IsUtf8 message × IsntData bytes why)
