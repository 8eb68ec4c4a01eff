use Rattle.std.proofs.Common.{◌≡◌, ℕ, List, ◌++◌, map}
use Rattle.std.specs.Io.KnownBytes.{Appends}
use Rattle.benchlog.specs.Items.{shown_found}
use Rattle.benchlog.specs.Reading.{told}
use Rattle.benchlog.specs.Readers.{left}
use Rattle.benchlog.specs.Benches.{bench_bus, RanItems}
use Rattle.benchlog.proofs.bench.Bench.run.Given as goal

-- what was handed out so far was run, and its answers were written
abbrev pub invariant-loop-found : goal.invariant-loop-found
invariant-loop-found g l = record {
  read : told l.log ≡ map shown_found l.yielded ++ left l.found-iterator;
  ran : (bytes : List ℕ) × RanItems (map shown_found l.yielded) (bench_bus g.S.Station.seats l.initial.self) (bench_bus g.S.Station.seats l.self) bytes × Appends (g.K.Sink.contents l.initial.out) (g.K.Sink.contents l.out) bytes;
}
