use Rattle.std.proofs.Common.{◌∙◌, arith}
use Rattle.json_texts.proofs.Whole.{natural_found, signed_found}
use Rattle.json_texts.proofs.FoundNumbers.{signed_read, unsigned_read}
use Rattle.json_texts.proofs.compact.whole_end.Goals as goal

pub returns-then-byte_at-eq45-clause-number : goal.returns-then-byte_at-eq45-clause-number
returns-then-byte_at-eq45-clause-number c =
    signed_found c.args.text.now c.args.from c.natural_end.result (omega (arith, c.byte_at.ensures, c.if-byte_at-eq45.true)) c.natural_end.ensures.signed c.natural_end.ensures.bounds

pub returns-clause-number : goal.returns-clause-number
returns-clause-number c = natural_found c.args.text.now c.args.from c.natural_end-2.result c.natural_end-2.ensures.number c.natural_end-2.ensures.bounds

pub returns-then-byte_at-eq45-clause-rest : goal.returns-then-byte_at-eq45-clause-rest
returns-then-byte_at-eq45-clause-rest c =
    signed_read c.args.text.now c.args.from c.natural_end.result (omega (arith, c.byte_at.ensures, c.if-byte_at-eq45.true)) c.natural_end.ensures.rest

pub returns-clause-rest : goal.returns-clause-rest
returns-clause-rest c =
    let other = c.if-byte_at-eq45.false in
    unsigned_read c.args.text.now c.args.from c.natural_end-2.result (λ e. other (c.byte_at.ensures ∙ e)) c.natural_end-2.ensures.rest
