-- The error objects of the fixed errors, as texts.
use Rattle.std.proofs.Common.{◌≡◌, ℕ, List, codes, refl, ap, sym, ◌∙◌}
use Rattle.std.specs.Fmt.{digits}
use Rattle.json.proofs.OnLiterals.{json_on_literals}
use Rattle.message_ids.specs.declared.standard.Standard.{Standard}
use Rattle.message_ids.specs.declared.standard.Standard.TheVariants.{ParseError, InvalidRequest, MethodNotFound, InvalidParams, InternalError, Cancelled, NoReply, InvalidReply}
use Rattle.message_texts.specs.Texts.{code_text, error_rest, fixed_error_text}

abbrev pub written : Standard → List ℕ
written ParseError = codes "{\"code\":-32700,\"message\":\"Parse error\"}"
written InvalidRequest = codes "{\"code\":-32600,\"message\":\"Invalid Request\"}"
written MethodNotFound = codes "{\"code\":-32601,\"message\":\"Method not found\"}"
written InvalidParams = codes "{\"code\":-32602,\"message\":\"Invalid params\"}"
written InternalError = codes "{\"code\":-32603,\"message\":\"Internal error\"}"
written Cancelled = codes "{\"code\":-32800,\"message\":\"Request cancelled\"}"
written NoReply = codes "{\"code\":-32000,\"message\":\"No reply\"}"
written InvalidReply = codes "{\"code\":-32603,\"message\":\"Invalid reply\"}"

written-is : (s : Standard) → written s ≡ fixed_error_text s
unfolding json_on_literals digits code_text error_rest
written-is ParseError = refl
written-is InvalidRequest = refl
written-is MethodNotFound = refl
written-is InvalidParams = refl
written-is InternalError = refl
written-is Cancelled = refl
written-is NoReply = refl
written-is InvalidReply = refl

pub written-of : (s t : Standard) → t ≡ s → written s ≡ fixed_error_text t
written-of s t is = written-is s ∙ ap fixed_error_text (sym is)
