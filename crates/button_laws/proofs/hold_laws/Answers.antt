use Rattle.button_laws.proofs.Holding.{hold_ends, hold_stays, locked_ignores_pushes, silent_while_held, pushes_keep_the_rest}
use Rattle.button_laws.proofs.hold_laws.Goals as goal

pub returns : goal.returns
returns c = record { hold_ends = hold_ends; hold_stays = hold_stays; locked_ignores_pushes = locked_ignores_pushes; silent_while_held = silent_while_held; pushes_keep_the_rest = pushes_keep_the_rest }
