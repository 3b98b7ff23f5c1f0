use Rattle.std.proofs.Common.{ℕ, Option, IfSome, true, false, subst, arith}
use Rattle.json_texts.specs.Compacting.{ReadsSame, With}
use Rattle.json_texts.proofs.Lexed.{begin_text, same_tokens}
use Rattle.json_texts.proofs.Blanks.{past_gap}
use Rattle.json_texts.proofs.spaced.append_text.Goals as goal

pub returns-clause-same : goal.returns-clause-same
returns-clause-same c = λ done.
    let text = c.args.text.now in
    let first = c.past_blanks.new.out in
    let out = c.append_whole.new.out in
    let gap = c.past_blanks-2.new.out in
    let before = With first text c.in_ok-from.kept c.in_ok-from.from in
    let begun = past_gap text (With c.args.out.now text 0 0) before 0 c.in_ok-from.from false c.in_ok-from.ensures.blanks c.in_ok-from.ensures.written (begin_text text c.args.out.now c.requires.empty) in
    let value : ReadsSame text (With out text c.in-Some.kept c.in-Some.end) c.in-Some.end true =
    subst (λ (r : Option (ℕ × ℕ)). IfSome r (λ e. ReadsSame text before c.in_ok-from.from false → ReadsSame text (With out text e.1 e.0) e.0 true)) c.in-Some.is c.in_ok-end.ensures.same begun in
    let passed = past_gap text (With out text c.in-Some.kept c.in-Some.end) (With gap text c.in_ok-end-2.kept c.in_ok-end-2.end) c.in-Some.end c.in_ok-end-2.end true c.in_ok-end-2.ensures.blanks
    c.in_ok-end-2.ensures.written value in
    same_tokens text gap c.append.new.self c.in_ok-end-2.kept c.in_ok-end-2.end true (omega (arith, c.if-end-text.false)) passed c.in_ok-append.ensures
