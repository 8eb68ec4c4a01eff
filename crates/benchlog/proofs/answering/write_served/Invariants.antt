use Rattle.std.proofs.Common.{◌≡◌, ◌*◌, take}
use Rattle.std.specs.List.{flat_map}
use Rattle.house.specs.Turns.{copied_in}
use Rattle.benchlog.specs.Bytes.{sent_bytes}
use Rattle.benchlog.proofs.answering.write_served.Given as goal

-- the frames so far were written
abbrev pub invariant-loop-frame : goal.invariant-loop-frame
invariant-loop-frame l = record {
  count : l.at ≡ 13 * l.frame-index;
  bytes : l.buffer ≡ copied_in (flat_map sent_bytes (take l.frame-index l.sent)) l.initial.buffer;
}
