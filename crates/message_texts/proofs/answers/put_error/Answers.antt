use Rattle.std.proofs.Common.{◌≡◌, ◌++◌, arith}
use Rattle.std.specs.Option.{option_copied}
use Rattle.message_texts.specs.Texts.{error_head, error_end, error_text}
use Rattle.message_texts.proofs.Behind.{two_parts, three_parts}
use Rattle.message_texts.proofs.OnResults.{OnOk-follows, OnErr-follows, starts_with_append, starts_with_trans}
use Rattle.message_texts.proofs.answers.put_error.Goals as goal

pub returns-clause-text : goal.returns-clause-text
returns-clause-text c =
    let error = error_text c.args.code c.args.message.now (option_copied c.args.extra) in
    let placed : c.put_error_object.new.bytes.items ≡ c.put_error_head.new.bytes.items ++ error = grind arith in
    OnOk-follows c.put_error_end.result
    (λ last. three_parts c.args.bytes.now.items error_head error (error_end c.args.id.now) c.put_error_head.new.bytes.items c.put_error_object.new.bytes.items
    c.put_error_end.new.bytes.items c.in_ok-put_error_head.ensures.text placed last)
    c.put_error_end.ensures.text

pub returns-clause-front : goal.returns-clause-front
returns-clause-front c =
    let error = error_text c.args.code c.args.message.now (option_copied c.args.extra) in
    let middle = c.put_error_object.new.bytes.items in
    let placed : middle ≡ c.put_error_head.new.bytes.items ++ error = grind arith in
    OnErr-follows c.put_error_end.result
    (λ front. starts_with_trans c.put_error_end.new.bytes.items middle c.args.bytes.now.items front
    (starts_with_append middle c.args.bytes.now.items (error_head ++ error)
    (two_parts c.args.bytes.now.items error_head error c.put_error_head.new.bytes.items middle c.in_ok-put_error_head.ensures.text placed)))
    c.put_error_end.ensures.front
