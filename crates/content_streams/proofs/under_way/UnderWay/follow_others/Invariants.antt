use Rattle.std.proofs.Common.{◌≡◌, ◌≤◌, ◌+◌, ◌-◌, ◌++◌, length, take, drop}
use Rattle.std.specs.VecDeque.{deque_len, deque_capacity}
use Rattle.content_streams.specs.Inner.Heads.{SmallFrames, followed}
use Rattle.content_streams.proofs.under_way.UnderWay.follow_others.Given as goal

-- the places so far and those of the frames that are left, for which there is room
abbrev pub invariant-loop-index : goal.invariant-loop-index
invariant-loop-index l = record {
  places : l.places.items ++ (followed l.under_way l.rest (drop l.index l.frames)).0 ≡ l.initial.places.items ++ (followed l.fn.self l.piece l.frames).0;
  under_way : (followed l.under_way l.rest (drop l.index l.frames)).1 ≡ (followed l.fn.self l.piece l.frames).1;
  small : SmallFrames (take l.index l.frames);
  within : l.index ≤ length l.frames;
  room : deque_len l.places + (length l.frames - l.index) ≤ deque_capacity l.places;
}

abbrev pub decreases-loop-index : goal.decreases-loop-index
decreases-loop-index l = length l.frames - l.index
