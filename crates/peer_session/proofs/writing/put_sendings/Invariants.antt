use Rattle.std.proofs.Common.{◌≡◌, ◌++◌, take}
use Rattle.peer_session.specs.Framings.{bytes_in}
use Rattle.session_runs.specs.Runs.{unwritten_numbers, unwritten_of}
use Rattle.peer_session.specs.Inner.Writing.{Counts}
use Rattle.peer_session.proofs.writing.put_sendings.Given as goal

abbrev pub invariant-loop-place : goal.invariant-loop-place
invariant-loop-place l =
    let items = unwritten_of l.runs (take l.place (unwritten_numbers l.runs)) in
    record {
      bytes : l.bytes.items ≡ l.initial.bytes.items ++ bytes_in l.framing items;
      counts : Counts l.written items;
    }
