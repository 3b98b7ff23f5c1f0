use Rattle.std.proofs.Common.{subst, arith}
use Rattle.json_texts.specs.Compacting.{HasCompactPart, With}
use Rattle.json_texts.proofs.Lexed.{begin_string, end_string, more_string}
use Rattle.json_texts.proofs.compacting.append_any_string.Goals as goal

pub loop-at-init : goal.loop-at-init
loop-at-init c = record {
  order = omega arith;
  behind = omega arith;
  string = begin_string c.args.text.now (With c.args.out.now c.args.text.now c.args.kept c.args.from) c.args.from;
}

pub returns-then-text-stop-eq34-clause-string : goal.returns-then-text-stop-eq34-clause-string
returns-then-text-stop-eq34-clause-string c =
    let text = c.args.text.now in
    let ensured = c.in-Some.ensures in
    end_string text (With c.args.out.now text c.args.kept c.args.from) c.loop-at.out c.args.from c.loop-at.kept c.loop-at.at c.in-Some.stop c.loop-at.invariant.order ensured.bounds.0 ensured.bounds.1
    c.loop-at.invariant.string ensured.part c.if-text-stop-eq34.true

pub loop-at-preserved : goal.loop-at-preserved
loop-at-preserved c =
    let text = c.args.text.now in
    let stop = c.in-Some.stop in
    let end = c.in_ok-end.end in
    let before = c.loop-at.invariant in
    let bounds = c.in-Some.ensures.bounds in
    let out = c.loop-at.out in
    let part : HasCompactPart text stop (With out text c.loop-at.kept stop) c.append_escapes.new.out end =
    subst (λ w. HasCompactPart text stop w c.append_escapes.new.out end) c.in_ok-append.ensures c.in_ok-end.ensures.escapes in
    record {
      order = omega arith;
      behind = omega (arith, before.behind, bounds, c.in_ok-end.ensures.bounds);
      string = more_string text (With c.args.out.now text c.args.kept c.args.from) out c.append_escapes.new.out c.args.from c.loop-at.kept c.loop-at.at stop end before.order bounds.0 bounds.1
          before.string c.in-Some.ensures.part part;
    }
