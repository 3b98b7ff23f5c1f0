use Rattle.std.proofs.Common.{◌≤◌, length, map, take, ap, sym, ◌∙◌}
use Rattle.std.proofs.lemmas.List.{take-map}
use Rattle.open_numbers.specs.Kept.{kept_in}
use Rattle.open_numbers.proofs.Indexed.{IsIndexed-taken}
use Rattle.open_numbers.proofs.numbers.Numbers.index_or_take_back.Goals as goal

pub invariant_of-self : goal.invariant_of-self
invariant_of-self c =
    let window = c.self.inside.window in
    let before = c.args.before in
    let given : before ≤ length (map kept_in window) = rw (c.self.view_is) c.requires.1 in
    rw (c.truncate.ensures, ← take-map kept_in before window)
    (IsIndexed-taken (map kept_in window) c.unindex.new.earlier c.unindex.new.recent before c.unindex.ensures.end given c.unindex.ensures.indexed)

pub returns-in-Err-clause-err : goal.returns-in-Err-clause-err
returns-in-Err-clause-err c =
    let window = c.self.inside.window in
    ap (map kept_in) c.truncate.ensures ∙ sym (take-map kept_in c.args.before window) ∙ ap (take c.args.before) c.self.view_is
