-- Both laws hold of the seats of a station. Assumes nothing.
use Rattle.std.specs.List.{AllByRecursion}
use Rattle.std.specs.Prelude.{List}
use Rattle.std.proofs.ByRecursion.{All-weaker}
use Rattle.station.specs.Kinds.{Seat}
use Rattle.station.specs.Rules.{Lawful, Sound, Stands}
use Rattle.runs.specs.Memory.{MemoryLaw}
use Rattle.runs.specs.Isolation.{IsolationLaw}
use Rattle.runs.proofs.Remembered.{memory_law}
use Rattle.runs.proofs.Isolated.{isolation_law}

lawful : (ss : List Seat) → Stands ss → AllByRecursion Lawful ss
lawful ss h = All-weaker Sound Lawful (λ s sound. sound.1) ss h.1

pub memory_stands : (ss : List Seat) → Stands ss → MemoryLaw ss
memory_stands ss h = memory_law ss (lawful ss h)

pub isolation_stands : (ss : List Seat) → Stands ss → IsolationLaw ss
isolation_stands ss h = isolation_law ss (lawful ss h)
