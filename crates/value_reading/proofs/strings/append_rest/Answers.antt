use Rattle.std.proofs.Common.{◌≡◌, ◌+◌, ◌-◌, ◌++◌, string_bytes, sym, subst, ◌∙◌, arith}
use Rattle.std.specs.Char.{encode_utf8}
use Rattle.std.specs.Str.{IsCharBoundary}
use Rattle.std.proofs.lemmas.Str.{IsCharBoundary-after_ascii}
use Rattle.value_reading.specs.Lexed.{HasBytes}
use Rattle.value_reading.proofs.Quoted.{no_bytes, more_bytes, rest_over}
use Rattle.value_reading.proofs.strings.append_rest.Goals as goal

pub loop-at-init : goal.loop-at-init
loop-at-init c =
    let text = c.args.text.now in
    let at = c.args.at.now in
    record { order = omega arith; boundary = c.requires.boundary; bytes = subst (λ b. HasBytes text at b at) (sym c.requires.empty) (no_bytes text at) }

pub returns-then-byte-eq34-clause-string : goal.returns-then-byte-eq34-clause-string
returns-then-byte-eq34-clause-string c =
    rest_over c.args.text.now (string_bytes c.loop-at.copy) c.args.at.now c.loop-at.at c.loop-at.invariant.bytes (sym c.byte_at-byte.ensures ∙ c.if-byte-eq34.true)

pub loop-at-preserved-then-byte-eq92 : goal.loop-at-preserved-then-byte-eq92
loop-at-preserved-then-byte-eq92 c =
    let text = c.args.text.now in
    let from = c.args.at.now in
    let before = c.loop-at.invariant in
    let end = c.in-Some.end in
    let escape = c.in-Some.ensures in
    let bounds = escape.bounds in
    let behind = before.order in
    let back : end - 1 + 1 ≡ end = omega (arith, bounds.0) in
    let new : string_bytes c.push.new.self ≡ string_bytes c.loop-at.copy ++ encode_utf8 c.in-Some.character = c.in_ok-push.ensures.bytes in
    record {
      order = omega (arith, behind, bounds.0);
      boundary = subst (IsCharBoundary text) back (IsCharBoundary-after_ascii text (end - 1) c.utf8.text (omega (arith, bounds.0, bounds.1)) escape.ascii);
      bytes = subst (λ b. HasBytes text from b end) (sym new)
          (more_bytes text (string_bytes c.loop-at.copy) (encode_utf8 c.in-Some.character) from c.loop-at.at end before.bytes escape.escape);
    }
