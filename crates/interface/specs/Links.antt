-- The link records of a button interface's memory: whom they link, and what they do. Assumes nothing.
use Rattle.std.specs.Prelude.{ℕ, zero, suc, ◌+◌, ◌*◌, Bool, cond, ◌&&◌, List, is_some, Some, None, Option, ◌==◌, bit_and, slice_index}
use Rattle.bus.specs.declared.frame.Frame.{Frame}
use Rattle.bus.specs.Frames.{byte}
use Rattle.module.specs.Bits.{has_bit}
use Rattle.module.specs.Searches.{first, rows_in_use}
use Rattle.timing.specs.declared.locking.Locking.{Locking}
use Rattle.timing.specs.declared.locking.Locking.TheVariants.{Lock, Toggle, Unlock}
use Rattle.timing.specs.TimeCodes.{hold_of_code}
use Rattle.interface.specs.declared.link.Link.{Link}
use Rattle.interface.specs.Channels.{held_after}

-- a byte of link record k: 0 its address, 1 button bits, 2 action, 3 time code, 4 channel bits
abbrev pub link_byte : List ℕ → ℕ → ℕ → ℕ
link_byte cells k n = slice_index cells (0x0100 + 5 * k + n)

-- link record k
abbrev pub link_at : List ℕ → ℕ → Link
link_at cells k =
    record { address = link_byte cells k 0; buttons = link_byte cells k 1; action = link_byte cells k 2; code = link_byte cells k 3; channels = link_byte cells k 4 }

-- the record bears the address
abbrev pub bears : List ℕ → ℕ → ℕ → Bool
bears cells a k = link_byte cells k 0 == a

-- one of the 51 records does
abbrev pub named : List ℕ → ℕ → Bool
named cells a = is_some (first (bears cells a) 0 51)

-- which of the records bear the address of a seat
abbrev pub links_in_use : List ℕ → List ℕ
links_in_use cells = rows_in_use cells 0x0100 5 51

-- the record acts on a button status: it bears the sender's address and the bit of a button just pressed
abbrev pub matches : List ℕ → Frame → ℕ → Bool
matches cells f k = bears cells f.address k && has_bit (link_byte cells k 1) (byte f 1)

-- to lock for a time, if there is one
abbrev pub lock_for : Option ℕ → Option Locking
lock_for None = None
lock_for (Some t) = Some (Lock t)

-- to lock or free, where locking is for a time, if there is one
abbrev pub toggle_for : Option ℕ → Option Locking
toggle_for None = None
toggle_for (Some t) = Some (Toggle t)

-- what an action with a time code asks: 3 to lock, 4 to lock or free, 5 to free, others nothing
abbrev pub asked : ℕ → ℕ → Option Locking
asked action code =
    cond (action == 3) (lock_for (hold_of_code code))
    (cond (action == 4) (toggle_for (hold_of_code code)) (cond (action == 5) (Some Unlock) None))

-- the holds after record k, of whose channel bits only those in `channels` count
abbrev pub by_record : ℕ → List ℕ → Frame → ℕ → List ℕ → List ℕ
by_record channels cells f k hs =
    cond (matches cells f k) (held_after (asked (link_byte cells k 2) (link_byte cells k 3)) (bit_and (link_byte cells k 4) channels) hs) hs

-- n numbers from i on act in their order; what one leaves is what the next one finds
unfoldable pub in_turn : {A : Type 0} → (ℕ → A → A) → ℕ → ℕ → A → A
in_turn act i zero x = x
in_turn act i (suc n) x = in_turn act (suc i) n (act i x)

-- the holds after all records
abbrev pub by_records : ℕ → List ℕ → Frame → List ℕ → List ℕ
by_records channels cells f hs = in_turn (by_record channels cells f) 0 51 hs
