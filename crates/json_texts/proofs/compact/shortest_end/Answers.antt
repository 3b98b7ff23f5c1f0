use Rattle.std.proofs.Common.{get_or, ◌+◌, ◌≡◌, true, false, Some, None, sym, ap, ◌∙◌, arith}
use Rattle.json_texts.specs.Standing.{is_escape_letter}
use Rattle.json_texts.proofs.Lexed.{nothing_yet, plain_more, escape_more}
use Rattle.json_texts.proofs.Ahead.{none_ahead, further}
use Rattle.json_texts.proofs.FoundStrings.{run_found, quote_found, none_found, long_found, escape_found, past_found}
use Rattle.json_texts.proofs.compact.shortest_end.Goals as goal

pub loop-at-init : goal.loop-at-init
loop-at-init c = (omega arith, nothing_yet c.args.text.now c.args.from, λ found finds. finds, none_ahead c.args.text.now c.args.from)

pub returns-then-byte-eq34-clause-part : goal.returns-then-byte-eq34-clause-part
returns-then-byte-eq34-clause-part c = plain_more c.args.text.now c.args.from c.loop-at.at c.next_stop-stop.result.0 c.loop-at.invariant.1 c.next_stop-stop.ensures.value

pub returns-then-not-is_short_escape-clause-part : goal.returns-then-not-is_short_escape-clause-part
returns-then-not-is_short_escape-clause-part c = plain_more c.args.text.now c.args.from c.loop-at.at c.next_stop-stop.result.0 c.loop-at.invariant.1 c.next_stop-stop.ensures.value

pub loop-at-preserved : goal.loop-at-preserved
loop-at-preserved c =
    let text = c.args.text.now in
    let stop = c.next_stop-stop.result.0 in
    let before = c.loop-at.invariant.0 in
    let is = c.next_stop-stop.ensures.value in
    let letter : is_escape_letter (get_or text (stop + 1) 0) ≡ true =
    ap is_escape_letter (sym c.byte_at.ensures) ∙ sym c.is_short_escape.ensures ∙ c.if-not-is_short_escape.false in (
      omega (arith, before, is),
      escape_more text c.args.from stop (plain_more text c.args.from c.loop-at.at stop c.loop-at.invariant.1 is) (omega (arith, c.byte_at-byte.ensures, c.if-byte-ne92.false)) letter,
      λ found finds. c.loop-at.invariant.2 found (run_found text c.loop-at.at stop found is (escape_found text stop found (omega (arith, c.byte_at-byte.ensures, c.if-byte-ne92.false)) finds)),
      further text stop 2 c.next_stop-stop.result.1 c.next_stop-stop.ensures.ahead,
    )

pub returns-then-byte-eq34-clause-found : goal.returns-then-byte-eq34-clause-found
returns-then-byte-eq34-clause-found c =
    let text = c.args.text.now in
    let stop = c.next_stop-stop.result.0 in
    c.loop-at.invariant.2 (Some stop) (run_found text c.loop-at.at stop (Some stop) c.next_stop-stop.ensures.value (quote_found text stop (omega (arith, c.byte_at-byte.ensures, c.if-byte-eq34.true))))

pub returns-then-byte-ne92-clause-found : goal.returns-then-byte-ne92-clause-found
returns-then-byte-ne92-clause-found c =
    let text = c.args.text.now in
    let stop = c.next_stop-stop.result.0 in
    let quote = c.if-byte-eq34.false in
    let backslash = c.if-byte-ne92.true in
    c.loop-at.invariant.2 None
    (run_found text c.loop-at.at stop None c.next_stop-stop.ensures.value
    (none_found text stop None (λ e. quote (c.byte_at-byte.ensures ∙ e)) (λ e. backslash (c.byte_at-byte.ensures ∙ e))))

pub returns-then-not-is_short_escape-clause-found : goal.returns-then-not-is_short_escape-clause-found
returns-then-not-is_short_escape-clause-found c =
    let text = c.args.text.now in
    let stop = c.next_stop-stop.result.0 in
    let letter : is_escape_letter (get_or text (stop + 1) 0) ≡ false =
    ap is_escape_letter (sym c.byte_at.ensures) ∙ sym c.is_short_escape.ensures ∙ c.if-not-is_short_escape.true in
    c.loop-at.invariant.2 (Some stop)
    (run_found text c.loop-at.at stop (Some stop) c.next_stop-stop.ensures.value
    (long_found text stop (Some stop) (omega (arith, c.byte_at-byte.ensures, c.if-byte-ne92.false)) letter))

pub returns-clause-found : goal.returns-clause-found
returns-clause-found c = c.loop-at.invariant.2 None (past_found c.args.text.now c.loop-at.at None (omega (arith, c.loop-at-test.false)))
