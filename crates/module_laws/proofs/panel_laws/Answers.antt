use Rattle.module_laws.proofs.Panel.{panel_keeps, panel_replies, links_nobody}
use Rattle.module_laws.proofs.panel_laws.Goals as goal

pub returns : goal.returns
returns c = record { nothing_else = panel_keeps; replies = panel_replies; no_links = links_nobody }
