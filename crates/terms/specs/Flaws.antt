-- What is wrong with a frame. Assumes nothing.
use Rattle.std.specs.Prelude.{cond, ◌||◌, drop, ◌==◌, nat_lt, Option, None, Some}
use Rattle.bus.specs.declared.frame.Frame.{Frame}
use Rattle.bus.specs.Frames.{zeros}
use Rattle.terms.specs.declared.flaw.Flaw.{Flaw}
use Rattle.terms.specs.declared.flaw.Flaw.TheVariants.{Priority, Rtr, Count, RequestWithData, Leftover}

-- the first of the rules that a frame breaks, in the order in which a well-formed frame has them
abbrev pub flaw_of : Frame → Option Flaw
flaw_of f =
    cond (nat_lt f.priority 4)
    (cond (nat_lt f.rtr 2)
    (cond (nat_lt f.count 9)
    (cond (f.rtr == 0 || f.count == 0)
    (cond (zeros (drop f.count f.bytes)) None (Some Leftover))
    (Some (RequestWithData f.count)))
    (Some (Count f.count)))
    (Some (Rtr f.rtr)))
    (Some (Priority f.priority))
