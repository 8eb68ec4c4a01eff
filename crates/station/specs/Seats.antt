-- What a list of seats does and answers. Assumes nothing.
use Rattle.std.specs.Prelude.{ℕ, ◌+◌, ◌*◌, min, Bool, false, cond, List, [], ◌∷◌, map, length, Some, None, Option, ◌==◌, nat_lt, slice_index}
use Rattle.std.specs.List.{flat_map, list_any, find}
use Rattle.bus.specs.declared.frame.Frame.{Frame}
use Rattle.station.specs.declared.event.Event.{Event}
use Rattle.station.specs.Kinds.{Seat, bytes, links, hears, after, sent}

-- how many frames an event may send: nine a seat
abbrev pub places : List Seat → ℕ
places ss = 9 * length ss

-- the seats after an event, each by itself
abbrev pub after_all : Event → List Seat → List Seat
after_all e ss = map (after e) ss

-- the frames sent on an event, in seat order
abbrev pub sent_all : Event → List Seat → List Frame
sent_all e ss = flat_map (sent e) ss

-- some seat hears the frame
abbrev pub some_hears : Frame → List Seat → Bool
some_hears f ss = list_any (λ s. hears s.kind s.address s.content f) ss

-- how many seats stand at an address
abbrev pub count_at : ℕ → List Seat → ℕ
count_at a [] = 0
count_at a (s ∷ ss) = cond (s.address == a) 1 0 + count_at a ss

-- the same, where 2 stands for more
abbrev pub standing : ℕ → List Seat → ℕ
standing a ss = min 2 (count_at a ss)

-- the first seat at an address
abbrev pub first_at : ℕ → List Seat → Option Seat
first_at a ss = find (λ s. s.address == a) ss

-- an answer of a seat, or a default where there is none
abbrev pub asked : {A : Type 0} → A → (Seat → A) → Option Seat → A
asked d f None = d
asked d f (Some s) = f s

-- the byte at a place of a list
abbrev pub nth : ℕ → List ℕ → Option ℕ
nth n xs = cond (nat_lt n (length xs)) (Some (slice_index xs n)) None

-- the first seat at the address a links the address b
abbrev pub first_links : ℕ → ℕ → List Seat → Bool
first_links a b ss = asked false (λ s. links s.kind s.address s.content b) (first_at a ss)

-- the buttons of the first seat at an address
abbrev pub first_buttons : ℕ → List Seat → ℕ
first_buttons a ss = asked 0 (λ s. s.kind.buttons) (first_at a ss)

-- a byte of the record of the first seat at an address
abbrev pub first_byte : ℕ → ℕ → List Seat → Option ℕ
first_byte a n ss = asked None (λ s. nth n (bytes s.content)) (first_at a ss)
