use Rattle.std.proofs.Common.{◌≡◌, ◌∙◌, sym, ap, subst, arith, false}
use Rattle.json_texts.specs.Compacting.{ReadsSame, With}
use Rattle.json_texts.proofs.Lexed.{with_none}
use Rattle.json_texts.proofs.Blanks.{reads_on}
use Rattle.json_texts.proofs.spaced.past_naturals.Goals as goal

pub returns-clause-same : goal.returns-clause-same
returns-clause-same c = λ r.
    let text = c.args.text.now in
    let old = c.args.out.now in
    let new = c.append_naturals.new.out in
    let from = c.args.from in
    let at = c.in_ok-at.at in
    let kept : c.args.kept ≡ from = omega (arith, c.if-kept-from.false) in
    let before : With old text c.args.kept from ≡ old = ap (λ k. With old text k from) kept ∙ with_none old text from in
    subst (λ w. ReadsSame text w at false) (sym (with_none new text at)) (reads_on text old new from at (subst (λ w. ReadsSame text w from false) before r) c.in_ok-at.ensures.read)
