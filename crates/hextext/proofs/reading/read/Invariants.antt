use Rattle.hextext.proofs.Readings.{Reads}
use Rattle.hextext.proofs.reading.read.Given as goal

-- what was read so far
abbrev pub invariant-loop-byte : goal.invariant-loop-byte
invariant-loop-byte l = Reads l.text l.byte-index l.bytes.items l.mode l.at
