use Rattle.std.proofs.Common.{◌++◌}
use Rattle.std.specs.Option.{option_copied}
use Rattle.std.specs.Prelude.{codes}
use Rattle.json.specs.Print.{quoted}
use Rattle.message_texts.specs.Texts.{data_member, error_rest}
use Rattle.message_texts.proofs.Behind.{two_parts, four_parts}
use Rattle.message_texts.proofs.OnResults.{OnOk-follows, on_err, put_last, starts_with_append, starts_with_trans}
use Rattle.message_texts.proofs.answers.put_error_rest.Goals as goal

pub returns-in_err-put_quoted-clause-front : goal.returns-in_err-put_quoted-clause-front
returns-in_err-put_quoted-clause-front c =
    let extra = data_member (option_copied c.args.extra) in
    let middle = c.extend_from_slice.new.self.items in
    on_err c.from_residual-in_err-put_quoted.result
    (starts_with_trans c.put_quoted.new.bytes.items middle c.args.bytes.now.items c.in_err-put_quoted.ensures.front
    (starts_with_append middle c.args.bytes.now.items (extra ++ codes "\"message\":")
    (two_parts c.args.bytes.now.items extra (codes "\"message\":") c.put_data.new.bytes.items middle c.in_ok-put_data.ensures.text c.in_ok-extend_from_slice.ensures.items)))

pub returns-clause-text : goal.returns-clause-text
unfolding error_rest
returns-clause-text c =
    OnOk-follows c.extend_from_slice-2.result
    (λ last. four_parts c.args.bytes.now.items (data_member (option_copied c.args.extra)) (codes "\"message\":") (quoted c.args.message.now) (codes "}")
    c.put_data.new.bytes.items c.extend_from_slice.new.self.items c.put_quoted.new.bytes.items c.extend_from_slice-2.new.self.items
    c.in_ok-put_data.ensures.text c.in_ok-extend_from_slice.ensures.items c.in_ok-put_quoted.ensures.text last)
    (put_last c.extend_from_slice-2.result _ _ _ c.extend_from_slice-2.ensures.items)
