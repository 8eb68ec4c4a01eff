use Rattle.std.proofs.Common.{◌≡◌, take, map, vec_items}
use Rattle.runs.specs.Isolation.{all_sent}
use Rattle.runs.specs.Replays.{shown_entry}
use Rattle.pairing.proofs.group.all_sent.Given as goal

-- the frames of the entries so far
abbrev pub invariant-loop-entry : goal.invariant-loop-entry
invariant-loop-entry l = vec_items l.sent ≡ all_sent (map shown_entry (take l.entry-index l.entries))
