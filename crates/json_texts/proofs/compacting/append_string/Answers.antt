use Rattle.std.proofs.Common.{◌≤◌, arith}
use Rattle.json_texts.specs.Compacting.{With}
use Rattle.json_texts.proofs.Lexed.{begin_string, end_string, nothing_yet, plain_more}
use Rattle.json_texts.proofs.compacting.append_string.Goals as goal

pub returns-in-Some-clause-string : goal.returns-in-Some-clause-string
returns-in-Some-clause-string c =
    let text = c.args.text.now in
    let from = c.args.from in
    let quote = c.in-Some.quote in
    let before = With c.args.out.now text c.args.kept from in
    let ensured = c.in-Some.ensures in
    let past : from ≤ quote = omega (arith, ensured.value) in
    end_string text before c.args.out.now from c.args.kept from quote c.requires.0 past ensured.within (begin_string text before from)
    (plain_more text from from quote (nothing_yet text from) ensured.value) ensured.quote
