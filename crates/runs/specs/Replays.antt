-- What a replay does. Assumes nothing.
use Rattle.std.specs.Prelude.{◌≡◌, ◌<◌, List, map, length, take, vec_items, Result}
use Rattle.bus.specs.declared.refusal.Refusal.{Refusal}
use Rattle.station.specs.Kinds.{Seat}
use Rattle.house.specs.declared.call.Call.{Call}
use Rattle.house.specs.Answers.{Answer, accepted, counts, cleared, byte, shown}
use Rattle.runs.specs.declared.entry.Entry.{Entry as NotedEntry}
use Rattle.runs.specs.declared.entry.Reply.{Reply}
use Rattle.runs.specs.declared.entry.Reply.TheVariants.{Accepted, Counts, Cleared, Byte}
use Rattle.house.specs.Houses.{bus_of}
use Rattle.station.specs.declared.station.Station.{Ghosts}
use Rattle.runs.specs.declared.replayed.Replayed.{Replayed}
use Rattle.runs.specs.declared.replayed.Unfinished.{Unfinished}
use Rattle.runs.specs.declared.replayed.Unfinished.TheVariants.{NoHouse, Stopped}
use Rattle.runs.specs.Runs.{Entry, Run, quiet}

-- a reply as an answer
abbrev pub answer_of : Reply → Answer
answer_of Accepted = accepted
answer_of (Counts s p) = counts s p
answer_of (Cleared n) = cleared n
answer_of (Byte b) = byte b

abbrev pub shown_reply : Result Reply Refusal → Answer
shown_reply r = shown answer_of r

-- an entry of the code as an entry
abbrev pub shown_entry : NotedEntry → Entry
shown_entry e = record { call = e.call; answer = shown_reply e.answer; sent = vec_items e.sent }

module _ {S : Type 0} {G : Ghosts S} where
  -- the entries of a replay
  abbrev pub entries_of : Replayed S G → List Entry
  entries_of r = map shown_entry (vec_items r.entries)

  -- what a replay did: a run of these calls that begins with the seats of the station and no frame pending, and ends with
  -- the house that comes back
  pub record Ran (seats_of : S → List Seat) (station : S) (made : List Call) (r : Replayed S G) : Type 0 where
    pub run : Run (quiet (seats_of station)) (entries_of r) (bus_of seats_of r.house)
    pub calls : map (λ e. e.call) (entries_of r) ≡ made

  -- where memory was wanting, the station comes back, or what was done is a run of the first calls, and some were left
  abbrev pub LeftOff : (S → List Seat) → S → List Call → Unfinished S G → Type 0
  LeftOff seats_of station calls (NoHouse s) = s ≡ station
  LeftOff seats_of station calls (Stopped r) = (length (vec_items r.entries) < length calls) × Ran seats_of station (take (length (vec_items r.entries)) calls) r
