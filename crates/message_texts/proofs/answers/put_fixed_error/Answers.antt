use Rattle.std.proofs.Common.{◌++◌}
use Rattle.message_texts.specs.Texts.{error_head}
use Rattle.message_texts.proofs.Behind.{two_parts}
use Rattle.message_texts.proofs.OnResults.{OnErr-follows, starts_with_append, starts_with_trans}
use Rattle.message_texts.proofs.answers.put_fixed_error.Goals as goal

pub returns-clause-front : goal.returns-clause-front
returns-clause-front c =
    let middle = c.extend_from_slice.new.self.items in
    OnErr-follows c.put_error_end.result
    (λ front. starts_with_trans c.put_error_end.new.bytes.items middle c.args.bytes.now.items front
    (starts_with_append middle c.args.bytes.now.items (error_head ++ c.as_bytes.result.now)
    (two_parts c.args.bytes.now.items error_head c.as_bytes.result.now c.put_error_head.new.bytes.items middle c.in_ok-put_error_head.ensures.text c.in_ok-extend_from_slice.ensures.items)))
    c.put_error_end.ensures.front
