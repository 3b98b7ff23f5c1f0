use Rattle.std.proofs.Common.{◌≡◌, ◌<◌, ◌+◌, length, get_or, true, ap, sym, subst, ◌∙◌, arith}
use Rattle.std.proofs.lemmas.List.{get_or_past}
use Rattle.json.specs.Word.{is_space}
use Rattle.value_reading.specs.Lexed.{HasBlanks}
use Rattle.value_reading.proofs.Lexemes.{no_blanks, more_blanks, blanks_behind}
use Rattle.value_reading.proofs.passing.blanks_end.Goals as goal

pub loop-at-init : goal.loop-at-init
loop-at-init c = no_blanks c.args.text.now c.args.from

pub loop-at-preserved : goal.loop-at-preserved
loop-at-preserved c =
    let text = c.args.text.now in
    let at = c.loop-at.at in
    let next = c.spaces_end-at.result in
    let same = c.as_bytes-bytes.ensures.value in
    let within : at < length text = omega (arith, c.loop-at-test.true, ap length same) in
    let is : is_space (get_or text at 0) ≡ true = ap (λ t. is_space (get_or t at 0)) (sym same) ∙ sym c.is_blank.ensures ∙ c.if-is_blank.true in
    blanks_behind text c.args.from (at + 1) next (more_blanks text c.args.from at c.loop-at.invariant within is) (subst (λ t. HasBlanks t (at + 1) next) same c.spaces_end-at.ensures)

pub returns-else-is_blank-clause-stop : goal.returns-else-is_blank-clause-stop
returns-else-is_blank-clause-stop c =
    ap (λ t. is_space (get_or t c.loop-at.at 0)) (sym c.as_bytes-bytes.ensures.value) ∙ sym c.is_blank.ensures ∙ c.if-is_blank.false

pub returns-after-loop-at-clause-stop : goal.returns-after-loop-at-clause-stop
returns-after-loop-at-clause-stop c =
    ap is_space (get_or_past c.args.text.now c.loop-at.at 0 (omega (arith, c.loop-at-test.false, ap length c.as_bytes-bytes.ensures.value)))
