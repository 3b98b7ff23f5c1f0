use Rattle.std.proofs.Common.{◌≡◌, ◌≤◌, length, take, drop}
use Rattle.host_calls.proofs.SaidSoFar.{SoFar}
use Rattle.host_calls.proofs.outlet.Outlet.say_each.Given as goal

abbrev pub invariant-loop-place : goal.invariant-loop-place
invariant-loop-place l = record {
  end : l.place-end ≡ length l.sayings;
  few : l.refused ≤ l.place;
  same : drop l.place l.sayings ≡ drop l.place l.initial.sayings;
  said : SoFar l.initial.self l.initial.sayings l.bytes l.self l.passed (drop l.place l.initial.sayings) l.rest (take l.place l.sayings) l.refused;
}
