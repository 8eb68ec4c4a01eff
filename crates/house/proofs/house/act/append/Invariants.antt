use Rattle.std.proofs.Common.{◌≡◌, ◌++◌, length, take, drop, deque_items, deque_capacity}
use Rattle.house.proofs.house.act.append.Given as goal

-- the frames so far stand in the buffer's front and behind the pending ones
abbrev pub invariant-loop-n : goal.invariant-loop-n
invariant-loop-n l = record {
  long : length l.buffer ≡ length l.initial.buffer;
  front : take l.n l.buffer ≡ take l.n l.frames;
  rest : drop l.n l.buffer ≡ drop l.n l.initial.buffer;
  pending : deque_items l.pending ≡ deque_items l.initial.pending ++ take l.n l.frames;
  capacity : deque_capacity l.pending ≡ deque_capacity l.initial.pending;
}
