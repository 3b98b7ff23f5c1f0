use Rattle.std.proofs.Common.{arith}
use lib.Count.{count_trailing_zeros}
use Rattle.json.specs.Run.{is_plain}
use Rattle.json_texts.proofs.Ahead.{further, first_ahead}
use Rattle.json_texts.proofs.Runs.{run_bound}
use Rattle.json_texts.proofs.plain.next_stop.Goals as goal

pub returns-clause-value : goal.returns-clause-value
returns-clause-value c =
    let run = first_ahead c.args.text.now c.args.from c.args.ahead c.requires.ahead (omega (arith, c.if-ahead-eq0.false)) in
    omega (arith, run)

pub returns-clause-bound : goal.returns-clause-bound
returns-clause-bound c =
    let run = first_ahead c.args.text.now c.args.from c.args.ahead c.requires.ahead (omega (arith, c.if-ahead-eq0.false)) in
    omega (arith, run, run_bound is_plain c.args.text.now c.args.from c.requires.place)

pub returns-clause-ahead : goal.returns-clause-ahead
returns-clause-ahead c = further c.args.text.now c.args.from (count_trailing_zeros 64 c.args.ahead) c.args.ahead c.requires.ahead
