use Rattle.std.proofs.Common.{◌≡◌, ◌∷◌, [], ◌+◌, ◌-◌, suc, false, refl, arith, get_or}
use Rattle.json_texts.specs.Texts.{json_text}
use Rattle.json_texts.specs.Compacting.{With}
use Rattle.json_texts.proofs.Lexed.{with_one}
use Rattle.json_texts.proofs.Blanks.{byte_read, weaker}
use Rattle.json_texts.proofs.Written as written
use Rattle.json_texts.proofs.spaced.append_whole.Goals as goal

pub returns-then-levels-gt0-clause-value : goal.returns-then-levels-gt0-clause-value
returns-then-levels-gt0-clause-value c =
    let text = c.args.text.now in
    let new = c.append_members.new.out in
    let opened : get_or text c.args.from 0 ≡ 123 = omega (arith, c.byte_at.ensures, c.if-byte_at-eq123.true) in
    let above : c.args.levels ≡ suc (c.args.levels - 1) = omega (arith, c.if-levels-gt0.true) in
    written.found_weaker c.append_members.result
    (λ e m. written.object_written c.args.levels (c.args.levels - 1) text c.args.out.now (With new text e.1 e.0) c.args.kept c.args.from c.requires.0 opened above m) c.append_members.ensures.members

pub returns-then-levels-gt0-clause-same : goal.returns-then-levels-gt0-clause-same
returns-then-levels-gt0-clause-same c =
    let text = c.args.text.now in
    let new = c.append_members.new.out in
    let opened : get_or text c.args.from 0 ≡ 123 = omega (arith, c.byte_at.ensures, c.if-byte_at-eq123.true) in
    written.found_weaker c.append_members.result
    (λ e f r. weaker text (With new text e.1 e.0) e.0 (f (byte_read text c.args.out.now c.args.kept c.args.from 122 false c.requires.0 opened refl r))) c.append_members.ensures.same

pub returns-then-levels-gt0-clause-longest : goal.returns-then-levels-gt0-clause-longest
returns-then-levels-gt0-clause-longest c =
    let text = c.args.text.now in
    let out = c.args.out.now in
    let opened : get_or text c.args.from 0 ≡ 123 = omega (arith, c.byte_at.ensures, c.if-byte_at-eq123.true) in
    written.found_weaker c.append_members.result
    (λ e f k. f (written.known_stays (c.args.levels - 1) (With out text c.args.kept c.args.from) (123 ∷ []) (With out text c.args.kept (c.args.from + 1)) c.args.longest.now
    (with_one out text c.args.kept c.args.from 122 c.requires.0 opened) k)) c.append_members.ensures.longest

pub returns-else-byte_at-eq123-clause-longest : goal.returns-else-byte_at-eq123-clause-longest
returns-else-byte_at-eq123-clause-longest c =
    let text = c.args.text.now in
    written.found_weaker c.append_value.result
    (λ e v k. written.known_stays (c.args.levels - 1) (With c.args.out.now text c.args.kept c.args.from) (json_text v.value) (With c.append_value.new.out text e.1 e.0) c.args.longest.now v.written k)
    c.append_value.ensures.value
