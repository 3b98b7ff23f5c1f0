use Rattle.std.proofs.Common.{◌≤◌, ◌<◌, length, Ok, sym, ◌∙◌, ap}
use Rattle.handler_future.proofs.Elements.{few_called, many_refused}
use Rattle.handler_future.proofs.each.calls_for_few.Goals as goal

pub returns-then-elements-gt-MOST_LISTED : goal.returns-then-elements-gt-MOST_LISTED
returns-then-elements-gt-MOST_LISTED c =
    let many : 16 < length c.args.elements.now = c.if-elements-gt-MOST_LISTED.true in
    many_refused c.args.method.now c.args.elements.now many

pub returns : goal.returns
returns c =
    let few : length c.args.elements.now ≤ 16 = c.if-elements-gt-MOST_LISTED.false in
    few_called c.args.method.now c.args.elements.now few ∙ ap Ok (sym c.in_ok-calls_for.ensures)
