use Rattle.std.proofs.Common.{◌<◌, ap, sym, arith}
use Rattle.open_numbers.specs.Requests.{is_reached_by}
use Rattle.open_numbers.proofs.Places.{kept-missing}
use Rattle.open_numbers.proofs.numbers.find_recent.Goals as goal

pub loop-number-init : goal.loop-number-init
loop-number-init c = λ k from below.
    let before : k < c.first.result = omega (arith, c.max-number.ensures, from, below) in
    ap (is_reached_by c.args.id.now) (kept-missing c.args.window.now k (sym (c.first.ensures.gone k before)))
