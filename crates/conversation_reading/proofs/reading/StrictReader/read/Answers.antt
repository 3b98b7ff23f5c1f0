use Rattle.std.proofs.Common.{◌≡◌, sym, ap, ◌∙◌}
use Rattle.json_texts.specs.Texts.{value_of}
use Rattle.json_texts.proofs.ReadBack.{IfOk-follows}
use Rattle.conversation_reading.specs.Strictly.{json_reading, reading_of, limited}
use Rattle.conversation_reading.specs.declared.reading.TheConstants.{MOST_DEPTH_IN}
use Rattle.conversation_reading.proofs.Texts.{reading_of_text, reading_of_no_text}
use Rattle.conversation_reading.proofs.reading.StrictReader.read.Goals as goal

pub returns-in-Some : goal.returns-in-Some
returns-in-Some c =
    let content = c.args.content.now in
    let same : c.in-Some.text.now ≡ content = c.in-Some.ensures.0 in
    IfOk-follows c.read_text.result
    (λ reading e. e ∙ ap (λ text. limited (json_reading text (value_of MOST_DEPTH_IN text))) same ∙ ap limited (reading_of_text content c.in-Some.ensures.1) ∙ ap (λ f. limited (reading_of f content)) (sym c.if-foreign.false))
    c.read_text.ensures

pub returns-in-None : goal.returns-in-None
returns-in-None c = ap limited (reading_of_no_text c.args.content.now (λ utf8. absurd (c.in-None.ensures utf8))) ∙ ap (λ f. limited (reading_of f c.args.content.now)) (sym c.if-foreign.false)
