use Rattle.std.specs.Prelude.{codes}
use Rattle.message_texts.specs.Texts.{id_text, error_end}
use Rattle.message_texts.proofs.Behind.{three_parts}
use Rattle.message_texts.proofs.OnResults.{OnOk-follows, put_last}
use Rattle.message_texts.proofs.answers.put_error_end.Goals as goal

pub returns-clause-text : goal.returns-clause-text
unfolding error_end
returns-clause-text c =
    OnOk-follows c.extend_from_slice-2.result
    (λ last. three_parts c.args.bytes.now.items (codes ",\"id\":") (id_text c.args.id.now) (codes ",\"jsonrpc\":\"2.0\"}")
    c.extend_from_slice.new.self.items c.put_id.new.bytes.items c.extend_from_slice-2.new.self.items
    c.in_ok-extend_from_slice.ensures.items c.in_ok-put_id.ensures.text last)
    (put_last c.extend_from_slice-2.result _ _ _ c.extend_from_slice-2.ensures.items)
