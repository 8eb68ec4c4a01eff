-- What whoever listens to a relay knows of its contacts. Assumes nothing.
use Rattle.std.specs.Prelude.{◌≡◌, ℕ, ◌/◌, ◌%◌, Bool, true, false, if◌then◌else◌, ◌&&◌, List, [], ◌∷◌, ◌++◌, ◌==◌, slice_index}
use Rattle.bus.specs.declared.frame.Frame.{Frame}
use Rattle.bus.specs.Frames.{is_command}
use Rattle.station.specs.declared.event.Event.{Event}
use Rattle.station.specs.Kinds.{Record, Kind}
use Rattle.station.specs.Rules.{later}
use Rattle.relay.specs.declared.per_channel.PerChannel.{PerChannel}
use Rattle.relay.specs.Contacts.{Contact}
use Rattle.relay.specs.Relays.{contacts}
use Rattle.relay_laws.specs.RelayReports.{is_made}

-- which contacts are made
abbrev pub picture : PerChannel Contact → PerChannel Bool
picture x = record { one = is_made x.one; two = is_made x.two; three = is_made x.three; four = is_made x.four }

-- a contact in the picture after its bits in the second and in the third byte of a 00: made, no longer made, or as it was
abbrev pub by_bits : ℕ → ℕ → Bool → Bool
by_bits on off was = if on % 2 == 1 then true else if off % 2 == 1 then false else was

abbrev pub by_bytes : ℕ → ℕ → PerChannel Bool → PerChannel Bool
by_bytes on off p =
    record { one = by_bits (on / 1) (off / 1) p.one; two = by_bits (on / 2) (off / 2) p.two; three = by_bits (on / 4) (off / 4) p.three; four = by_bits (on / 8) (off / 8) p.four }

-- a listener heeds each 00 with four bytes from the address, and nothing else
abbrev pub heard_one : ℕ → PerChannel Bool → Frame → PerChannel Bool
heard_one own p f = if is_command 0x00 4 f && f.address == own then by_bytes (slice_index f.bytes 1) (slice_index f.bytes 2) p else p

abbrev pub heard : ℕ → PerChannel Bool → List Frame → PerChannel Bool
heard own p [] = p
heard own p (f ∷ fs) = heard own (heard_one own p f) fs

-- all that a seat sends over a list of events, in order
abbrev pub sent_over : Kind → ℕ → Record → List Event → List Frame
sent_over k own r [] = []
sent_over k own r (e ∷ es) = (k.acts own r e).sent ++ sent_over k own (k.acts own r e).after es

-- who begins with the right picture has the right picture after any list of events
abbrev pub ListenersAreRight : Kind → Type 0
ListenersAreRight k =
    (own : ℕ) (r : Record) (es : List Event) → heard own (picture (contacts r)) (sent_over k own r es) ≡ picture (contacts (later k own r es))
