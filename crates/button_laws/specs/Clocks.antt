-- What the clock of a button interface shows. Assumes nothing.
use Rattle.std.specs.Prelude.{◌≡◌, ℕ, ◌+◌, ◌*◌, ◌%◌, Bool, true, false, ◌&&◌, ◌⊎◌, List, [], ◌∷◌, replicate, ◌==◌, ◌≢◌}
use Rattle.std.specs.List.{AllByRecursion}
use Rattle.bus.specs.declared.frame.Frame.{Frame}
use Rattle.bus.specs.Frames.{byte, is_command, message}
use Rattle.station.specs.declared.event.Event.{Event}
use Rattle.station.specs.declared.event.Event.TheVariants.{Heard, Second, Pushed}
use Rattle.station.specs.Kinds.{Record, Kind}
use Rattle.station.specs.Rules.{later}
use Rattle.timing.specs.Times.{Time, Real, real}
use Rattle.interface.specs.declared.variant.Variant.{Variant}
use Rattle.interface.specs.States.{decoded}
use Rattle.button_laws.specs.Interfaces.{seconds, time}

-- the state bytes of a new module tell a real time
abbrev pub NewClockIsReal : Type 0
NewClockIsReal = Real (decoded (replicate 32 0)).clock

-- whatever happens, a clock with a real time has one afterwards
abbrev pub ClockStaysReal : Variant → Kind → Type 0
ClockStaysReal v kind = (own : ℕ) (r : Record) (es : List Event) → Real (time r) → Real (time (later kind own r es))

-- a frame that tells a time tells a real one
abbrev pub TellsRealTime : Frame → Type 0
TellsRealTime g = is_command 0xD8 4 g ≡ true → real (byte g 1) (byte g 2) (byte g 3) ≡ true

-- so does each frame that is sent, whatever happened before
abbrev pub EveryTimeShownIsReal : Variant → Kind → Type 0
EveryTimeShownIsReal v kind =
    (own : ℕ) (r : Record) (es : List Event) (e : Event) → Real (time r) → AllByRecursion TellsRealTime (kind.acts own (later kind own r es) e).sent

-- the seconds since the start of the week
abbrev pub second_of_week : Time → ℕ
second_of_week t = ((t.day * 24 + t.hour) * 60 + t.minute) * 60 + t.second

-- the frame sets the clock: it bears address 0 and carries a time that exists
abbrev pub sets : Frame → Bool
sets f = f.address == 0 && (is_command 0xD8 4 f && real (byte f 1) (byte f 2) (byte f 3))

-- none of the events does
abbrev pub NoneSets : List Event → Type 0
NoneSets [] = Unit {0}
NoneSets (Heard f ∷ es) = (sets f ≡ false) × NoneSets es
NoneSets (Second ∷ es) = NoneSets es
NoneSets (Pushed p ∷ es) = NoneSets es

-- where nothing sets it, only seconds move the clock, each by one; a week has 604,800
abbrev pub ClockKeepsTime : Variant → Kind → Type 0
ClockKeepsTime v kind =
    (own : ℕ) (r : Record) (es : List Event) → Real (time r) → NoneSets es →
    second_of_week (time (later kind own r es)) ≡ (second_of_week (time r) + seconds es) % 604800

-- what sets it sets it to the full minute
abbrev pub ClockIsSet : Variant → Kind → Type 0
ClockIsSet v kind =
    (own : ℕ) (r : Record) (f : Frame) → sets f ≡ true →
    time (kind.acts own r (Heard f)).after ≡ record { day = byte f 1; hour = byte f 2; minute = byte f 3; second = 0 }

-- a frame that does not bear address 0 leaves the clock as it was, the own replies too
abbrev pub SetOnlyForAll : Variant → Kind → Type 0
SetOnlyForAll v kind = (own : ℕ) (r : Record) (f : Frame) → (f.address ≢ 0) → time (kind.acts own r (Heard f)).after ≡ time r

-- who asks for the time, with the own address or with 0, is told it, and nothing else is sent
abbrev pub ClockIsTold : Variant → Kind → Type 0
ClockIsTold v kind =
    (own : ℕ) (r : Record) (f : Frame) → (f.address ≡ own) ⊎ (f.address ≡ 0) → is_command 0xD7 1 f ≡ true →
    (kind.acts own r (Heard f)).sent ≡ message 3 own (0xD8 ∷ (time r).day ∷ (time r).hour ∷ (time r).minute ∷ []) ∷ []
