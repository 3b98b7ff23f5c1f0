use Rattle.std.proofs.Common.{◌≡◌, ◌++◌, arith}
use Rattle.std.specs.Prelude.{codes}
use Rattle.std.specs.Fmt.{signed_decimal}
use Rattle.message_texts.specs.Texts.{code_text}
use Rattle.message_texts.proofs.Behind.{three_parts}
use Rattle.message_texts.proofs.OnResults.{OnOk-follows, put_last}
use Rattle.message_texts.proofs.answers.put_code.Goals as goal

pub returns-clause-text : goal.returns-clause-text
unfolding code_text
returns-clause-text c =
    let middle : c.put_decimal.new.bytes.items ≡ c.extend_from_slice.new.self.items ++ signed_decimal c.args.code = grind arith in
    OnOk-follows c.extend_from_slice-2.result
    (λ last. three_parts c.args.bytes.now.items (codes "{\"code\":") (signed_decimal c.args.code) (codes ",")
    c.extend_from_slice.new.self.items c.put_decimal.new.bytes.items c.extend_from_slice-2.new.self.items c.in_ok-extend_from_slice.ensures.items middle last)
    (put_last c.extend_from_slice-2.result _ _ _ c.extend_from_slice-2.ensures.items)
