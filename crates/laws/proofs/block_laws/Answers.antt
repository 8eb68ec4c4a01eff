use Rattle.laws.proofs.Blocks.{every_takes_block_writes, block_writes_keep_channels}
use Rattle.laws.proofs.block_laws.Goals as goal

pub returns : goal.returns
returns c = record { takes_block_writes = every_takes_block_writes; block_writes_keep_channels = block_writes_keep_channels }
