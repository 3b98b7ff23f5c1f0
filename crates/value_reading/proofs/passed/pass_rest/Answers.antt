use Rattle.std.proofs.Common.{◌++◌, [], slice_range, sym, ◌∙◌, arith}
use Rattle.std.specs.Char.{encode_utf8}
use Rattle.value_reading.proofs.Quoted.{no_bytes, more_bytes, rest_over}
use Rattle.value_reading.proofs.passed.pass_rest.Goals as goal

pub loop-at-init : goal.loop-at-init
loop-at-init c = record { order = omega arith; bytes = ([], no_bytes c.args.text.now c.args.at.now) }

pub returns-then-byte-eq34-clause-string : goal.returns-then-byte-eq34-clause-string
returns-then-byte-eq34-clause-string c =
    let before = c.loop-at.invariant.bytes in
    (before.0, rest_over c.args.text.now before.0 c.args.at.now c.loop-at.at before.1 (sym c.byte_at-byte.ensures ∙ c.if-byte-eq34.true))

pub loop-at-preserved-then-byte-eq92 : goal.loop-at-preserved-then-byte-eq92
loop-at-preserved-then-byte-eq92 c =
    let order = c.loop-at.invariant.order in
    let before = c.loop-at.invariant.bytes in
    let end = c.in-Some.end in
    let escape = c.in-Some.ensures in
    let bounds = escape.bounds in
    let bytes = encode_utf8 c.in-Some.field-0-0 in
    record {
      order = omega (arith, order, bounds.0);
      bytes = (before.0 ++ bytes, more_bytes c.args.text.now before.0 bytes c.args.at.now c.loop-at.at end before.1 escape.escape);
    }

pub loop-at-preserved : goal.loop-at-preserved
loop-at-preserved c =
    let text = c.args.text.now in
    let at = c.loop-at.at in
    let order = c.loop-at.invariant.order in
    let before = c.loop-at.invariant.bytes in
    let end = c.pass_run.new.at in
    let run = c.in_ok-pass_run.ensures in
    let bounds = run.bounds in
    let bytes = slice_range text at end in
    record {
      order = omega (arith, order, bounds.0);
      bytes = (before.0 ++ bytes, more_bytes text before.0 bytes c.args.at.now at end before.1 run.bytes);
    }
