use Rattle.std.proofs.Common.{sym}
use Rattle.answer_desk.specs.Desk.{view}
use Rattle.answer_desk.specs.Seen.{waiting_of}
use Rattle.answer_desk.proofs.Finished.{none_wait}
use Rattle.answer_desk.proofs.desk.Desk.is_empty.Goals as goal

pub returns : goal.returns
unfolding view
returns c =
    let self = c.args.self.now in
    none_wait (waiting_of self.numbers) self.units.items _ c.is_empty.result (sym self.units.ok.0) c.is_empty.ensures
