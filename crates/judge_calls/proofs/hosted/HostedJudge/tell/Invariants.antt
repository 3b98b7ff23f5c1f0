use Rattle.std.proofs.Common.{◌≡◌, ◌≤◌, length, drop}
use Rattle.judge_calls.proofs.ToldSoFar.{moved}
use Rattle.judge_calls.proofs.hosted.HostedJudge.tell.Given as goal

abbrev pub invariant-loop-place : goal.invariant-loop-place
invariant-loop-place l = record {
  end : l.place-end ≡ length l.initial.room;
  same : length l.room ≡ length l.initial.room;
  few : l.place ≤ length l.initial.self.judge.untold;
  left : l.self.judge ≡ record l.initial.self.judge { untold = drop l.place l.initial.self.judge.untold };
  room : l.room ≡ moved l.initial.self.judge.untold l.initial.room l.place;
}
