-- The kinds that the laws are about, and what a record tells of a module. Assumes nothing.
use Rattle.std.specs.Prelude.{ℕ, suc, List, [], ◌∷◌}
use Rattle.station.specs.declared.event.Event.{Event}
use Rattle.station.specs.declared.event.Event.TheVariants.{Heard, Second, Pushed}
use Rattle.station.specs.Kinds.{Record, Kind}
use Rattle.module.specs.Designs.{designed}
use Rattle.timing.specs.Times.{Time}
use Rattle.interface.specs.declared.variant.Variant.{Variant}
use Rattle.interface.specs.declared.setup.InterfaceSetup.{InterfaceSetup}
use Rattle.interface.specs.Channels.{hold_on}
use Rattle.interface.specs.Interfaces.{design}
use Rattle.interface.specs.States.{decoded}

-- the kind of a button interface
abbrev pub interface_kind : Variant → InterfaceSetup → Kind
interface_kind v s = designed (design v s)

-- a law holds of each button interface, whatever its variant and setup
abbrev pub EveryInterface : (Variant → Kind → Type 0) → Type 0
EveryInterface Law = (v : Variant) (s : InterfaceSetup) → Law v (interface_kind v s)

-- the hold on a channel, counted from 1
abbrev pub hold : Record → ℕ → ℕ
hold r channel = hold_on (decoded r.state).holds channel

-- how many of the events are seconds
abbrev pub seconds : List Event → ℕ
seconds [] = 0
seconds (Heard f ∷ es) = seconds es
seconds (Second ∷ es) = suc (seconds es)
seconds (Pushed p ∷ es) = seconds es

-- the time that the clock shows
abbrev pub time : Record → Time
time r = (decoded r.state).clock
