-- The seats of the bench program. Assumes nothing.
use Rattle.std.specs.Prelude.{List, [], ◌∷◌}
use Rattle.station.specs.Kinds.{Seat}
use Rattle.interface.specs.declared.setup.InterfaceSetup.{InterfaceSetup}
use Rattle.panel.specs.declared.panel.PanelSetup.{PanelSetup}
use Rattle.relay.specs.declared.relay.RelaySetup.{RelaySetup}
use Rattle.relay.specs.declared.timers.Timers.{Timers}
use Rattle.kinds.specs.Kinds.{relay_kind, panel_kind, buttons_kind, new_seat}

-- every setup number is 1
abbrev pub one_second : Timers
one_second = record { first = 1; second = 1 }

abbrev pub bench_relay : RelaySetup
bench_relay = record { timers = record { one = one_second; two = one_second; three = one_second; four = one_second } }

abbrev pub bench_interface : InterfaceSetup
bench_interface = record { serial = record { high = 1; low = 1 }; map = 1; year = 1; week = 1 }

abbrev pub bench_panel : PanelSetup
bench_panel = record { year = 1; week = 1 }

-- a relay, a button interface and a panel, all new
abbrev pub bench_seats : List Seat
bench_seats =
    new_seat (relay_kind bench_relay) 0x10 16
    ∷ new_seat (buttons_kind bench_interface) 0x20 32 ∷ new_seat (panel_kind bench_panel) 0x30 4 ∷ []
