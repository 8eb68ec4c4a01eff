-- What the relay tells of its channels. Assumes nothing.
use Rattle.std.specs.Prelude.{ℕ, ◌+◌, ◌/◌, ◌%◌, Bool, cond, not, ◌&&◌, List, [], ◌∷◌, ◌++◌, Some, None, Option, ◌==◌}
use Rattle.bus.specs.declared.frame.Frame.{Frame}
use Rattle.bus.specs.Frames.{message}
use Rattle.relay.specs.declared.per_channel.PerChannel.{PerChannel}
use Rattle.relay.specs.Channels.{each, paired}
use Rattle.relay.specs.Contacts.{Contact, is_closed, code, time}

-- which contacts are made
abbrev pub made : PerChannel Contact → PerChannel Bool
made x = each is_closed x

-- the status of a channel, by 0xFB with its bit
abbrev pub status_frame : ℕ → ℕ → Contact → Frame
status_frame own bit x =
    message 3 own (0xFB ∷ bit ∷ 0 ∷ code x ∷ 0 ∷ time x / 65536 ∷ time x / 256 % 256 ∷ time x % 256 ∷ [])

-- the status of a channel where it is wanted
abbrev pub told : ℕ → ℕ → Bool → Contact → List Frame
told own bit wanted x = cond wanted (status_frame own bit x ∷ []) []

-- the statuses of the wanted channels, in order
abbrev pub statuses : ℕ → PerChannel Bool → PerChannel Contact → List Frame
statuses own w x =
    told own 1 w.one x.one ++ (told own 2 w.two x.two ++ (told own 4 w.three x.three ++ told own 8 w.four x.four))

-- a contact is made and was not, or was and is not
abbrev pub differ : Bool → Bool → Bool
differ was is = cond was (not is) is

abbrev pub changes : PerChannel Bool → PerChannel Bool → PerChannel Bool
changes was is = paired differ was is

-- the bit where the second is and the first is not
abbrev pub rise : ℕ → Bool → Bool → ℕ
rise bit was is = cond (is && not was) bit 0

-- the bits of all channels where the second is and the first is not
abbrev pub risen : PerChannel Bool → PerChannel Bool → ℕ
risen was is =
    rise 1 was.one is.one + (rise 2 was.two is.two + (rise 4 was.three is.three + rise 8 was.four is.four))

-- the bits now closed and the bits now open, by 0x00, where there are any
abbrev pub switched : ℕ → PerChannel Bool → PerChannel Bool → List Frame
switched own was is =
    cond (risen was is == 0 && risen is was == 0) [] (message 0 own (0x00 ∷ risen was is ∷ risen is was ∷ 0 ∷ []) ∷ [])

-- what follows a change of contacts
abbrev pub report : ℕ → PerChannel Bool → PerChannel Contact → List Frame
report own was x = statuses own (changes was (made x)) x ++ switched own was (made x)

-- the lamps of a linked button: on by 0xF6 where the contact is now made, out by 0xF5 where it no longer is
abbrev pub lamp : ℕ → Bool → Bool → Option ℕ → List Frame
lamp address was is None = []
lamp address was is (Some bits) = cond (differ was is) (message 3 address (cond is 0xF6 0xF5 ∷ bits ∷ []) ∷ []) []

-- for each channel that changed, with the bits of the pair that it obeyed
abbrev pub lamps : ℕ → PerChannel Bool → PerChannel Bool → PerChannel (Option ℕ) → List Frame
lamps address was is bits =
    lamp address was.one is.one bits.one
    ++ (lamp address was.two is.two bits.two ++ (lamp address was.three is.three bits.three ++ lamp address was.four is.four bits.four))
