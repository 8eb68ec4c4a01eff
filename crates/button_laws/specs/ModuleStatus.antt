-- What a button interface tells of itself: its buttons and channels, and its type. Assumes nothing.
use Rattle.std.specs.Prelude.{◌≡◌, ℕ, true, List, [], ◌∷◌}
use Rattle.bus.specs.declared.frame.Frame.{Frame}
use Rattle.bus.specs.Frames.{is_command, is_type_request, message}
use Rattle.station.specs.declared.event.Event.TheVariants.{Heard}
use Rattle.station.specs.Kinds.{Record, Kind}
use Rattle.module.specs.Bits.{has_bit}
use Rattle.module.specs.Pushes.{bit}
use Rattle.timing.specs.Holds.{locked}
use Rattle.interface.specs.declared.variant.Variant.{Variant}
use Rattle.interface.specs.States.{decoded}
use Rattle.button_laws.specs.Interfaces.{hold}

-- one reply and nothing else, with the buttons that are pressed, and with a byte that has the bit of each locked channel
pub record TellsStatus (own : ℕ) (r : Record) (sent : List Frame) : Type 0 where
  pub bits : ℕ
  pub reply : sent ≡ message 3 own (0xED ∷ (decoded r.state).pressed ∷ 0xFF ∷ 0xFF ∷ bits ∷ 0 ∷ 0 ∷ []) ∷ []
  pub of_channel : (channel : ℕ) → has_bit bits (bit channel) ≡ locked (hold r channel)

-- who asks at the own address gets it
abbrev pub StatusIsTold : Variant → Kind → Type 0
StatusIsTold v kind =
    (own : ℕ) (r : Record) (f : Frame) → f.address ≡ own → is_command 0xFA 2 f ≡ true → TellsStatus own r (kind.acts own r (Heard f)).sent

-- who asks for the type at the own address gets one reply, and nothing else: the type code and the setup
abbrev pub TypeIsTold : Variant → Kind → Type 0
TypeIsTold v kind =
    (own : ℕ) (r : Record) (f : Frame) → f.address ≡ own → is_type_request f ≡ true →
    (kind.acts own r (Heard f)).sent ≡ message 3 own (0xFF ∷ v.code ∷ kind.setup) ∷ []
