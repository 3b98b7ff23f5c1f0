-- One more seat of the table is split off, and all that were are the workers'.
use Rattle.std.proofs.Common.{[], ◌∷◌, ◌++◌, ◌∙◌, arith}
use Rattle.std.proofs.lemmas.Grind.{common_steps}
use Rattle.std.proofs.lemmas.List.Elements.{All-push, All-same}
use Rattle.job_slots.specs.Seats.{IsWorkerOf}
use Rattle.rpc_peer.proofs.server.split_seats.Goals as goal

pub loop-preserved : goal.loop-preserved
loop-preserved g c =
    let IsOne = IsWorkerOf c.args.slots.now in
    record {
      table = c.in-Ok.ensures.table;
      looks = c.in-Ok.ensures.looks ∙ c.loop.invariant.looks;
      seats = All-same IsOne c.push.new.self.items (c.loop.seats.items ++ c.in-Ok.seat ∷ []) c.in_ok-push.ensures.items
          (All-push IsOne c.loop.seats.items c.in-Ok.seat c.loop.invariant.seats c.in-Ok.ensures.worker);
      many = grind (arith, common_steps);
    }
