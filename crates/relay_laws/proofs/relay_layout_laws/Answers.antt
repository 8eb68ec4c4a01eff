use Rattle.relay_laws.proofs.RelayLayout.{actions_obeyed, pairs_link, idle_cells_ignored}
use Rattle.relay_laws.proofs.relay_layout_laws.Goals as goal

pub returns : goal.returns
returns c = record { actions = actions_obeyed; links = pairs_link; idle_cells = idle_cells_ignored }
