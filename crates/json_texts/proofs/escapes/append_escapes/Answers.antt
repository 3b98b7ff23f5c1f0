use Rattle.std.proofs.Common.{arith}
use Rattle.json_texts.proofs.Lexed.{begin_string, more_escapes}
use Rattle.json_texts.proofs.escapes.append_escapes.Goals as goal

pub loop-at-init : goal.loop-at-init
loop-at-init c = record { behind = omega arith; within = c.requires; part = begin_string c.args.text.now c.args.out.now c.args.from }

pub loop-at-preserved : goal.loop-at-preserved
loop-at-preserved c =
    let escaped = c.in-Some.ensures in
    record {
      behind = omega (arith, c.loop-at.invariant.behind, escaped.bounds);
      within = escaped.bounds.1;
      part = more_escapes c.args.text.now c.args.out.now c.loop-at.out c.append_character.new.out c.args.from c.loop-at.at c.in-Some.character c.in-Some.end c.loop-at.invariant.part
          escaped.escape c.in_ok-append_character.ensures;
    }
