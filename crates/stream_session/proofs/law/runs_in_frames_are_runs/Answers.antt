-- The general promise, told of frames.
use Rattle.stream_session.proofs.OfFrames.{run-of-frames, short-of-frames}
use Rattle.stream_session.proofs.law.runs_in_frames_are_runs.Goals as goal

pub returns-clause-run : goal.returns-clause-run
returns-clause-run c = λ table limits input ending before after report run. run-of-frames table limits input ending before after report run

pub returns-clause-cut_short : goal.returns-clause-cut_short
returns-clause-cut_short c = λ table limits input ending before after short. short-of-frames table limits input before after short
