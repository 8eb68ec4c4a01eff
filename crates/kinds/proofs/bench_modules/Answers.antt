use Rattle.std.proofs.Common.{◌++◌}
use Rattle.kinds.proofs.bench_modules.Goals as goal

pub returns : goal.returns
returns c i = c.new_relay.ensures i ++ (c.new_button_interface.ensures i ++ c.new_panel.ensures i)
