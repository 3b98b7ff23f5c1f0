use Rattle.std.proofs.Common.{ℕ, Option, IfSome, ◌≡◌, ◌++◌, ◌∷◌, [], ap, subst, refl, ◌∙◌, arith, append_assoc, false, get_or, ◌+◌}
use Rattle.json.specs.Print.{quoted}
use Rattle.json_texts.specs.Compacting.{HasCompactString, With}
use Rattle.json_texts.proofs.Lexed.{past_string, with_one}
use Rattle.json_texts.proofs.Blanks.{past_gap, byte_read}
use Rattle.json_texts.proofs.Written.{name_written}
use Rattle.json_texts.proofs.spaced.append_name.Goals as goal

pub returns-clause-name : goal.returns-clause-name
returns-clause-name c =
    let text = c.args.text.now in
    let out = c.args.out.now in
    let new = c.append_string.new.out in
    let w = With out text c.args.kept c.args.from in
    let string : HasCompactString text (c.args.from + 1) (With out text c.args.kept (c.args.from + 1)) (With new text c.in-Some.kept c.in-Some.end) c.in-Some.end =
    subst (λ (r : Option (ℕ × ℕ)). IfSome r (λ e. HasCompactString text (c.args.from + 1) (With out text c.args.kept (c.args.from + 1)) (With new text e.1 e.0) e.0)) c.in-Some.is c.in_ok-end.ensures.string in
    let quote : get_or text c.args.from 0 ≡ 34 = omega (arith, c.byte_at.ensures, c.if-byte_at-ne34.false) in
    let colon : get_or text c.in_ok-end-2.end 0 ≡ 58 = omega (arith, c.byte_at-2.ensures, c.if-byte_at-ne58.false) in
    let gap = c.past_blanks.new.out in
    let named = name_written text out (With new text c.in-Some.kept c.in-Some.end) c.args.kept c.args.from c.in-Some.end c.requires.0 quote string in
    record {
      name = string.bytes;
      written = c.in_ok-past_blanks.ensures.written ∙ with_one gap text c.in_ok-end-2.kept c.in_ok-end-2.end 57 c.in_ok-end-2.ensures.bounds.0 colon
          ∙ ap (λ l. l ++ 58 ∷ []) (c.in_ok-end-2.ensures.written ∙ named) ∙ append_assoc w (quoted string.bytes) (58 ∷ []);
    }

pub returns-clause-same : goal.returns-clause-same
returns-clause-same c = λ r.
    let text = c.args.text.now in
    let out = c.args.out.now in
    let new = c.append_string.new.out in
    let gap = c.past_blanks.new.out in
    let string : HasCompactString text (c.args.from + 1) (With out text c.args.kept (c.args.from + 1)) (With new text c.in-Some.kept c.in-Some.end) c.in-Some.end =
    subst (λ (r : Option (ℕ × ℕ)). IfSome r (λ e. HasCompactString text (c.args.from + 1) (With out text c.args.kept (c.args.from + 1)) (With new text e.1 e.0) e.0)) c.in-Some.is c.in_ok-end.ensures.string in
    let quote : get_or text c.args.from 0 ≡ 34 = omega (arith, c.byte_at.ensures, c.if-byte_at-ne34.false) in
    let colon : get_or text c.in_ok-end-2.end 0 ≡ 58 = omega (arith, c.byte_at-2.ensures, c.if-byte_at-ne58.false) in
    let after_string = past_string text out (With new text c.in-Some.kept c.in-Some.end) c.args.kept c.args.from c.in-Some.end c.requires.0 quote r string in
    let after_gap = past_gap text (With new text c.in-Some.kept c.in-Some.end) (With gap text c.in_ok-end-2.kept c.in_ok-end-2.end) c.in-Some.end c.in_ok-end-2.end false c.in_ok-end-2.ensures.blanks
    c.in_ok-end-2.ensures.written after_string in
    let after_colon = byte_read text gap c.in_ok-end-2.kept c.in_ok-end-2.end 57 false c.in_ok-end-2.ensures.bounds.0 colon refl after_gap in
    past_gap text (With gap text c.in_ok-end-2.kept (c.in_ok-end-2.end + 1)) (With c.past_blanks-2.new.out text c.in_ok-past_blanks.field-0.1 c.in_ok-past_blanks.field-0.0) (c.in_ok-end-2.end + 1)
    c.in_ok-past_blanks.field-0.0 false c.in_ok-past_blanks.ensures.blanks c.in_ok-past_blanks.ensures.written after_colon
