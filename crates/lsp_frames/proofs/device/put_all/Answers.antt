use Rattle.std.proofs.Common.{length, ap, ◌∙◌, arith, length-drop}
use Rattle.std.proofs.lemmas.List.{take_rest}
use Rattle.lsp_frames.proofs.DeviceSteps.{appends_more}
use Rattle.lsp_frames.proofs.device.put_all.Goals as goal

pub loop-taken-preserved : goal.loop-taken-preserved
loop-taken-preserved g c = record {
  within = omega (arith, c.in-Ok.ensures.count.1, ap length (take_rest c.args.bytes.now c.loop-taken.taken), length-drop c.loop-taken.taken c.args.bytes.now);
  front = appends_more (g.S.Sink.bytes_taken c.args.sink.now) (g.S.Sink.bytes_taken c.loop-taken.sink) (g.S.Sink.bytes_taken c.put.new.self)
      c.args.bytes.now _ c.loop-taken.taken c.in-Ok.n (take_rest c.args.bytes.now c.loop-taken.taken) c.loop-taken.invariant.front c.in-Ok.ensures.bytes;
  no_failure = c.in-Ok.ensures.cause ∙ c.loop-taken.invariant.no_failure;
}
