-- To whom a relay sends lamp commands, and when. Assumes nothing.
use Rattle.std.specs.Prelude.{◌≡◌, ℕ, true, ◌⊎◌, List}
use Rattle.std.specs.List.{AllByRecursion}
use Rattle.bus.specs.declared.frame.Frame.{Frame}
use Rattle.bus.specs.Frames.{is_command}
use Rattle.station.specs.declared.event.Event.{Event}
use Rattle.station.specs.declared.event.Event.TheVariants.{Heard, Second, Pushed}
use Rattle.station.specs.declared.event.Push.{Push}
use Rattle.station.specs.Kinds.{Record, Kind, from_link}

-- the event is a button status from a linked address, and g is the command 0xF6 or 0xF5 to that address
abbrev pub LampOfLink : Kind → ℕ → Record → Event → Frame → Type 0
LampOfLink k own r e g =
    (f : Frame) × (e ≡ Heard f) × (from_link k own r f ≡ true) × (g.address ≡ f.address) × ((is_command 0xF6 2 g ≡ true) ⊎ (is_command 0xF5 2 g ≡ true))

-- each frame sent bears the own address, or else is such a lamp command
abbrev pub LampsOnlyToLinks : Kind → Type 0
LampsOnlyToLinks k =
    (own : ℕ) (r : Record) (e : Event) → AllByRecursion (λ g. (g.address ≡ own) ⊎ LampOfLink k own r e g) (k.acts own r e).sent

-- each frame bears the address
abbrev pub AllBear : ℕ → List Frame → Type 0
AllBear a fs = AllByRecursion (λ g. g.address ≡ a) fs

-- what is sent on a second, a push, a command and a broadcast bears the own address
pub record ElseFromOwnAddress (k : Kind) : Type 0 where
  pub second : (own : ℕ) (r : Record) → AllBear own (k.acts own r Second).sent
  pub push : (own : ℕ) (r : Record) (p : Push) → AllBear own (k.acts own r (Pushed p)).sent
  pub command : (own : ℕ) (r : Record) (f : Frame) → f.address ≡ own → AllBear own (k.acts own r (Heard f)).sent
  pub broadcast : (own : ℕ) (r : Record) (f : Frame) → f.address ≡ 0 → AllBear own (k.acts own r (Heard f)).sent
