-- What a door chime does: it follows one address, and strikes when a button there changes. Assumes nothing.
use Rattle.std.specs.Prelude.{ℕ, Bool, true, false, cond, ◌&&◌, [], ◌∷◌, replicate, ◌==◌, slice_index}
use Rattle.bus.specs.declared.frame.Frame.{Frame}
use Rattle.station.specs.declared.edge.Edge.{Edge}
use Rattle.station.specs.declared.edge.Edge.TheVariants.{Press, Release, LongPress}
use Rattle.station.specs.declared.event.Event.{Event}
use Rattle.station.specs.declared.event.Event.TheVariants.{Heard, Second, Pushed}
use Rattle.station.specs.declared.event.Push.{Push}
use Rattle.station.specs.Kinds.{Record, Outcome, Kind, Seat, kind_of, is_status, linked}
use Rattle.chime.specs.declared.chime.Chime.{Chime}
use Rattle.chime.specs.Commands.{command_of, obeyed}

-- the first state byte is the address that it follows
abbrev pub followed : Record → ℕ
followed r = slice_index r.state 0

-- the second is how many strokes it then makes
abbrev pub strokes : Record → ℕ
strokes r = slice_index r.state 1

-- it names that address alone
abbrev pub names : ℕ → Record → ℕ → Bool
names own r a = a == followed r

-- a stroke: a frame that is not well formed, by its priority and its count
abbrev pub stroke : ℕ → ℕ → Frame
stroke tone own = record { priority = 7; address = own; rtr = 0; count = 9; bytes = 0x51 ∷ tone ∷ replicate 6 0 }

-- it becomes such a record, and makes no sound
abbrev pub silent : Record → Outcome
silent r = record { after = r; sent = [] }

-- it strikes so many times, and stays as it is
abbrev pub struck : ℕ → ℕ → ℕ → Record → Outcome
struck tone own n r = record { after = r; sent = replicate n (stroke tone own) }

-- a press, and no other edge
abbrev pub is_press : Edge → Bool
is_press Press = true
is_press Release = false
is_press LongPress = false

-- it is rung by a press of its one button
abbrev pub rings : Push → Bool
rings p = p.channel == 1 && is_press p.edge

-- a frame with the own address is a command; a button status from the address that it follows makes it strike; a second
-- does nothing; its button makes it strike once
abbrev pub acts : ℕ → ℕ → Record → Event → Outcome
acts tone own r (Heard f) =
    cond (f.address == own) (silent (obeyed r (command_of f)))
    (cond (is_status f && linked names own r f.address) (struck tone own (strokes r) r) (silent r))
acts tone own r Second = silent r
acts tone own r (Pushed p) = cond (p.address == own && rings p) (struck tone own 1 r) (silent r)

-- 37 cells and a button; its setup is its tone
abbrev pub chime_kind : ℕ → Kind
chime_kind tone = kind_of 37 1 (tone ∷ []) names (acts tone)

-- what a chime remembers
abbrev pub content : Chime → Record
content c = record { cells = c.cells; state = c.link ∷ c.strokes ∷ [] }

-- the seat that it is
abbrev pub seat : Chime → Seat
seat c = record { kind = chime_kind c.tone; address = c.address; content = content c }

-- the seat that a new one is: it follows no address
abbrev pub new_seat : ℕ → ℕ → Seat
new_seat tone own = record { kind = chime_kind tone; address = own; content = record { cells = replicate 37 255; state = replicate 2 0 } }
