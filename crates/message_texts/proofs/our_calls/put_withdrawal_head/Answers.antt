use Rattle.std.proofs.Common.{◌++◌, ap, ◌∙◌}
use Rattle.std.specs.Prelude.{codes}
use Rattle.message_texts.proofs.Behind.{five_parts}
use Rattle.message_texts.proofs.OnResults.{OnOk-follows, put_last}
use Rattle.message_texts.proofs.our_calls.put_withdrawal_head.Goals as goal

pub returns-clause-text : goal.returns-clause-text
returns-clause-text c =
    OnOk-follows c.extend_from_slice-5.result
    (λ last. five_parts c.args.bytes.now.items (codes "{\"jsonrpc\":\"2.0\",\"method\":\"") c.args.method.now (codes "\",\"params\":{\"") c.args.member.now (codes "\":")
    c.extend_from_slice.new.self.items c.extend_from_slice-2.new.self.items c.extend_from_slice-3.new.self.items c.extend_from_slice-4.new.self.items c.extend_from_slice-5.new.self.items
    c.in_ok-extend_from_slice.ensures.items
    (c.in_ok-extend_from_slice-2.ensures.items ∙ ap (λ s. c.extend_from_slice.new.self.items ++ s) c.as_bytes.ensures.value)
    c.in_ok-extend_from_slice-3.ensures.items
    (c.in_ok-extend_from_slice-4.ensures.items ∙ ap (λ s. c.extend_from_slice-3.new.self.items ++ s) c.as_bytes-2.ensures.value)
    last)
    (put_last c.extend_from_slice-5.result _ _ _ c.extend_from_slice-5.ensures.items)
