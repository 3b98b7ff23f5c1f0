-- Bytes that are a document, and bytes that are none.
use Rattle.std.proofs.Common.{◌≡◌, ℕ, List, Some, None, refl, inl, inr}
use Rattle.std.proofs.lemmas.Bool.{cases_Bool}
use Rattle.std.proofs.lemmas.Str.{IsUtf8-from_is_utf8, is_utf8-from_IsUtf8}
use Rattle.std.specs.Str.{IsUtf8, is_utf8}
use Rattle.toml.specs.Data.{Members}
use Rattle.toml.specs.Parse.{parse_document}
use Rattle.method_steps.specs.Made.{document_of}

pub some_document : (bytes : List ℕ) (top : Members) → IsUtf8 bytes × (parse_document bytes ≡ Some top) → document_of bytes ≡ Some top
some_document bytes top h = rw (is_utf8-from_IsUtf8 bytes h.0) h.1

pub no_document : (bytes : List ℕ) → (IsUtf8 bytes → parse_document bytes ≡ None) → document_of bytes ≡ None
no_document bytes h =
    elim (cases_Bool (is_utf8 bytes)) [
      | inl same_so ↦ rw same_so (h (IsUtf8-from_is_utf8 bytes same_so))
      | inr other_so ↦ rw other_so refl
    ]
