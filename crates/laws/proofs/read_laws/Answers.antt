use Rattle.laws.proofs.MemoryReads.{every_reads_one, every_reads_four, every_reads_back}
use Rattle.laws.proofs.read_laws.Goals as goal

pub returns : goal.returns
returns c = record { reads_one = every_reads_one; reads_four = every_reads_four; reads_back = every_reads_back }
