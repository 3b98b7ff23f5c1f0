use Rattle.std.proofs.Common.{◌≡◌, sym, ◌∙◌}
use Rattle.std.specs.Prelude.{codes}
use Rattle.std.proofs.lemmas.Slice.Eq.{bytes_eq-Decides}
use Rattle.connection_messages.proofs.Enveloped.{params_give, null_params_give}
use Rattle.connection_messages.proofs.read.compact.read_params.Goals as goal

pub returns-then-is_structured : goal.returns-then-is_structured
returns-then-is_structured c =
    params_give c.args.null_params c.args.part c.in-Some.part c.in_ok-copy_text.field-0 c.in-Some.is (sym c.is_structured.ensures ∙ c.if-is_structured.true) c.in_ok-copy_text.ensures

pub returns-then-is_word : goal.returns-then-is_word
returns-then-is_word c =
    let same : c.in-Some.part.now ≡ codes "null" = (bytes_eq-Decides c.in-Some.part.now (codes "null")).0 (sym c.is_word.ensures ∙ c.if-is_word.true) in
    null_params_give c.args.null_params c.args.part c.in-Some.part c.in_ok-read_null_params.field-0 c.in-Some.is same c.in_ok-read_null_params.ensures
