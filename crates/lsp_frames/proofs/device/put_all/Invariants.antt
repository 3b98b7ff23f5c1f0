use Rattle.std.proofs.Common.{◌≡◌, ◌-◌, ◌≤◌, length, take}
use Rattle.std.specs.Io.KnownBytes.{Appends}
use Rattle.lsp_frames.proofs.device.put_all.Given as goal

-- so many bytes are taken, and no call has failed
abbrev pub invariant-loop-taken : goal.invariant-loop-taken
invariant-loop-taken g l = record {
  within : l.taken ≤ length l.bytes;
  front : Appends (g.S.Sink.bytes_taken l.initial.sink) (g.S.Sink.bytes_taken l.sink) (take l.taken l.bytes);
  no_failure : g.S.Sink.failures l.sink ≡ g.S.Sink.failures l.initial.sink;
}

abbrev pub decreases-loop-taken : goal.decreases-loop-taken
decreases-loop-taken g l = length l.bytes - l.taken
