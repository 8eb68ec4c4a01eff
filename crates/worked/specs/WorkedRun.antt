-- Worked runs: two houses that have a relay and a panel in common and differ in all else. Assumes nothing.
use Rattle.std.specs.Prelude.{◌≡◌, ℕ, zero, suc, Bool, true, false, not, List, [], ◌∷◌, ◌++◌, map, filter, length, replicate, Some, ◌==◌}
use Rattle.std.specs.List.{list_any}
use Rattle.bus.specs.declared.frame.Frame.{Frame}
use Rattle.bus.specs.Frames.{message, well_formed}
use Rattle.station.specs.Kinds.{Seat}
use Rattle.station.specs.Rules.{put, Stands}
use Rattle.station.specs.Seats.{first_buttons, first_byte}
use Rattle.panel.specs.declared.panel.PanelSetup.{PanelSetup}
use Rattle.relay.specs.declared.relay.RelaySetup.{RelaySetup}
use Rattle.relay.specs.declared.timers.Timers.{Timers}
use Rattle.kinds.specs.Kinds.{relay_kind, panel_kind}
use Rattle.chime.specs.Chimes.{chime_kind, stroke}
use Rattle.house.specs.declared.call.Call.{Call}
use Rattle.house.specs.declared.call.Call.TheVariants.{Put, Push, Second, Step, Clear, Record}
use Rattle.house.specs.Answers.{Answer, refused, accepted, counts, cleared, byte}
use Rattle.house.specs.Turns.{Bus}
use Rattle.groups.specs.Links.{link}
use Rattle.runs.specs.Runs.{Entry, Run, quiet, is_served}
use Rattle.runs.specs.Ledgers.{new_ledger}
use Rattle.runs.specs.Memory.{Throughout}
use Rattle.runs.specs.Isolation.{Compared, members, frames_of, concerning, all_sent}

-- each timer is set to a minute
abbrev pub relay_setup : RelaySetup
relay_setup =
    let t : Timers = record { first = 60; second = 60 } in
    record { timers = record { one = t; two = t; three = t; four = t } }

-- built in the third week of 2014
abbrev pub panel_setup : PanelSetup
panel_setup = record { year = 14; week = 3 }

-- a relay with these cells, whose channel 1 is open, 0, or closed, 1
abbrev pub relay_at : ℕ → List ℕ → ℕ → Seat
relay_at address cells one =
    record { kind = relay_kind relay_setup; address = address; content = record { cells = cells; state = one ∷ replicate 15 0 } }

-- a panel with these lamps on and these buttons down, a bit for each
abbrev pub panel_at : ℕ → ℕ → ℕ → Seat
panel_at address lamps buttons =
    record { kind = panel_kind panel_setup; address = address; content = record { cells = replicate 256 255; state = lamps ∷ 0 ∷ 0 ∷ buttons ∷ [] } }

-- a chime at 0x30 that strikes twice when a button at the address 0x40 changes
abbrev pub chime : Seat
chime = record { kind = chime_kind 5; address = 0x30; content = record { cells = replicate 37 255; state = 0x40 ∷ 2 ∷ [] } }

-- the cells of a relay that links nothing
abbrev pub no_links : List ℕ
no_links = replicate 1024 255

-- the cells of one whose channel 1 is toggled by button 1 of a panel
abbrev pub linked_cells : ℕ → List ℕ
linked_cells panel = put no_links 0x3C (panel ∷ 0x01 ∷ 0xFF ∷ 0xFF ∷ [])

-- one house at the start. The panel 0x20 was used before: lamp 3 is on, and button 2 is down
abbrev pub here : List Seat
here = panel_at 0x30 0 0 ∷ relay_at 0x10 no_links 0 ∷ panel_at 0x20 4 2 ∷ []

-- the other house at the start, with the same relay 0x10 and the same panel 0x20, but a chime at 0x30
abbrev pub there : List Seat
there = relay_at 0x10 no_links 0 ∷ panel_at 0x40 0 0 ∷ panel_at 0x20 4 2 ∷ relay_at 0x50 no_links 0 ∷ chime ∷ []

-- the group: the addresses of the relay and the panel that both have, and three where no module is
abbrev pub group : ℕ → Bool
group a = list_any (λ b. a == b) (0 ∷ 0x10 ∷ 0x20 ∷ 0x77 ∷ 255 ∷ [])

-- another group: the address of the panel alone
abbrev pub panel_only : ℕ → Bool
panel_only a = a == 0x20

-- the write of a link: the first pair of channel 1 in a relay's toggle table bears that address and its button 1
abbrev pub link_write : ℕ → ℕ → Frame
link_write relay panel = message 3 relay (0xCA ∷ 0x00 ∷ 0x3C ∷ panel ∷ 0x01 ∷ 0xFF ∷ 0xFF ∷ [])

-- its answer: the four cells as they are now
abbrev pub link_answer : ℕ → ℕ → Frame
link_answer relay panel = message 3 relay (0xCC ∷ 0x00 ∷ 0x3C ∷ panel ∷ 0x01 ∷ 0xFF ∷ 0xFF ∷ [])

-- a button status: these buttons were just pressed, these released, a bit for each. A relay sends the same when its channels
-- close and open
abbrev pub buttons_told : ℕ → ℕ → ℕ → Frame
buttons_told address pressed released = message 0 address (0x00 ∷ pressed ∷ released ∷ 0x00 ∷ [])

-- a channel status, by the channel's bit: 0 is open, 1 closed, 3 closed for so many seconds more
abbrev pub channel_told : ℕ → ℕ → ℕ → ℕ → Frame
channel_told relay bit state seconds = message 3 relay (0xFB ∷ bit ∷ 0x00 ∷ state ∷ 0x00 ∷ 0x00 ∷ 0x00 ∷ seconds ∷ [])

-- lamp 1 of a panel is to be on
abbrev pub one_lit : ℕ → Frame
one_lit panel = message 3 panel (0xF6 ∷ 0x01 ∷ [])

-- channel 2 of a relay is to be closed for a second
abbrev pub two_start : ℕ → Frame
two_start relay = message 3 relay (0x03 ∷ 0x02 ∷ 0x00 ∷ 0x00 ∷ 0x01 ∷ [])

-- the time of day for every module: none of these answers it
abbrev pub time_of_day : Frame
time_of_day = message 3 0 (0xD8 ∷ 0x00 ∷ 0x0C ∷ 0x1E ∷ [])

-- a request for the type of the module at an address
abbrev pub type_request : ℕ → Frame
type_request address = record { priority = 3; address = address; rtr = 1; count = 0; bytes = replicate 8 0 }

-- the stroke of the chime
abbrev pub ding : Frame
ding = stroke 5 0x30

-- an entry of these parts
abbrev pub noted : Call → Answer → List Frame → Entry
noted c r fs = record { call = c; answer = r; sent = fs }

-- from here on, n is the number of places in the buffer of each call

-- so many frames that are pending pass, and nothing more is sent
abbrev pub emptying : ℕ → ℕ → List Entry
emptying n zero = []
emptying n (suc k) = noted (Step n) (counts 0 k) [] ∷ emptying n k

-- the one frame that is pending passes, and these are sent; then they pass
abbrev pub answered_by : ℕ → List Frame → List Entry
answered_by n fs = noted (Step n) (counts (length fs) (length fs)) fs ∷ emptying n (length fs)

-- a frame is put, and answered by these
abbrev pub asking : ℕ → Frame → List Frame → List Entry
asking n f fs = noted (Put f) accepted [] ∷ answered_by n fs

-- button 1 is pressed, which the panel tells
abbrev pub press : ℕ → ℕ → Entry
press n panel = noted (Push panel 1 0 n) (counts 1 1) (buttons_told panel 1 0 ∷ [])

-- a link is written
abbrev pub linking : ℕ → ℕ → ℕ → List Entry
linking n relay panel = asking n (link_write relay panel) (link_answer relay panel ∷ [])

-- the linked button is pressed: the relay hears it and sends three frames, the last to the panel; another seat sends others
abbrev pub toggling : ℕ → ℕ → ℕ → List Frame → List Entry
toggling n relay panel others =
    press n panel ∷ answered_by n (channel_told relay 1 1 0 ∷ buttons_told relay 1 0 ∷ one_lit panel ∷ others)

-- two frames that no module answers; and button 2 of the panel is released, which no module links
abbrev pub unanswered : ℕ → List Entry
unanswered n =
    asking n time_of_day []
    ++ (asking n (type_request 0x77) [] ++ (noted (Push 0x20 2 1 n) (counts 1 1) (buttons_told 0x20 0 2 ∷ []) ∷ answered_by n []))

-- channel 2 of the relay is closed for a second, and the second passes
abbrev pub timing : ℕ → List Entry
timing n =
    asking n (two_start 0x10) (channel_told 0x10 2 3 1 ∷ buttons_told 0x10 2 0 ∷ [])
    ++ (noted (Second n) (counts 2 2) (channel_told 0x10 2 0 0 ∷ buttons_told 0x10 0 2 ∷ []) ∷ emptying n 2)

-- in the one house alone: a button that no module links is pressed. Before the frame has passed, a push and a put are refused.
-- A byte is read: the panel's lamps. A clear removes nothing
abbrev pub here_alone : List Entry
here_alone =
    press 144 0x30
    ∷ noted (Push 0x20 1 0 144) (refused 8) []
    ∷ noted (Put (link_write 0x10 0x40)) (refused 8) []
    ∷ noted (Record 0x20 256) (byte (Some 4)) []
    ∷ answered_by 144 [] ++ (noted Clear (cleared 0) [] ∷ [])

-- in the other alone: a step with nothing to pass and a second with too few places are refused. A frame goes to an address
-- without a module, and the button of the chime is pressed
abbrev pub there_alone : List Entry
there_alone =
    noted (Step 200) (refused 9) []
    ∷ noted (Second 44) (refused 4) []
    ∷ asking 200 (type_request 0x99) [] ++ (noted (Push 0x30 1 0 200) (counts 1 1) (ding ∷ []) ∷ answered_by 200 [])

-- the run of the one house
abbrev pub here_run : List Entry
here_run = linking 144 0x10 0x20 ++ (here_alone ++ (toggling 144 0x10 0x20 [] ++ (unanswered 144 ++ timing 144)))

-- the run of the other: it links and toggles its own relay too, and the chime strikes with it
abbrev pub there_run : List Entry
there_run =
    linking 200 0x50 0x40
    ++ (linking 200 0x10 0x20
    ++ (there_alone
    ++ (toggling 200 0x10 0x20 [] ++ (unanswered 200 ++ (toggling 200 0x50 0x40 (ding ∷ ding ∷ []) ++ timing 200)))))

-- the one house at the end
abbrev pub here_end : List Seat
here_end = panel_at 0x30 0 1 ∷ relay_at 0x10 (linked_cells 0x20) 1 ∷ panel_at 0x20 5 1 ∷ []

-- the other at the end
abbrev pub there_end : List Seat
there_end = relay_at 0x10 (linked_cells 0x20) 1 ∷ panel_at 0x40 1 1 ∷ panel_at 0x20 5 1 ∷ relay_at 0x50 (linked_cells 0x40) 1 ∷ chime ∷ []

-- a write of a link that begins three cells before the end of the memory: one byte has no cell
abbrev pub long_write : ℕ → Frame
long_write relay = message 3 relay (0xCA ∷ 0x03 ∷ 0xFD ∷ 0x20 ∷ 0x01 ∷ 0xFF ∷ 0xFF ∷ [])

-- a third run, for the law of memory alone. One write comes after another to the same cells, one reaches past the end, and
-- one is removed by a clear before it has passed; a frame is pending in the end
abbrev pub lossy_run : List Entry
lossy_run =
    linking 144 0x10 0x40
    ++ (linking 144 0x10 0x20
    ++ (asking 144 (long_write 0x10) []
    ++ (noted (Put (link_write 0x10 0x40)) accepted [] ∷ noted Clear (cleared 1) [] ∷ press 144 0x30 ∷ [])))

-- how it ends
abbrev pub lossy_end : Bus
lossy_end =
    record { seats = panel_at 0x30 0 1 ∷ relay_at 0x10 (linked_cells 0x20) 0 ∷ panel_at 0x20 4 2 ∷ []; pending = buttons_told 0x30 1 0 ∷ [] }

-- a house that was built with a fault: two panels have one address
abbrev pub faulty : List Seat
faulty = panel_at 0x20 4 2 ∷ panel_at 0x20 0 0 ∷ []

-- there each call is refused, but that of a byte
abbrev pub faulty_run : List Entry
faulty_run = noted (Put time_of_day) (refused 2) [] ∷ noted (Record 0x20 256) (byte (Some 4)) [] ∷ []

-- the calls of a run that were refused
abbrev pub refused_calls : List Entry → List Call
refused_calls es = map (λ e. e.call) (filter (λ e. not (is_served e.answer)) es)

-- what the laws ask for: the seats are those of a station, and the law of isolation can compare the first two runs. For it
-- the faulty house is compared with the same one with a chime in front, where nothing was called
pub record PremisesMet : Type 0 where
  pub here_stands : Stands here
  pub there_stands : Stands there
  pub faulty_stands : Stands faulty
  pub compared : Compared group here here_run here_end there there_run there_end
  pub lossy : Run (quiet here) lossy_run lossy_end
  pub faulty_compared : Compared panel_only faulty faulty_run faulty (chime ∷ faulty) [] (chime ∷ faulty)

-- what there is to see in the runs. In order: the houses have other sizes, and the runs other lengths; the module at 0x30 has
-- eight buttons in one house, and one in the other, whose stroke is not well formed; a link inside the group; two outside
-- it, one of them from the start; the calls that concern the group; the refused calls in each house; the cell of the link
-- at the start, at the end, and at the end of the third run; the frames of the group; all other frames in each house
pub record MuchHappens : Type 0 where
  pub houses : (length here ≡ 3) × (length there ≡ 5)
  pub runs : (length here_run ≡ 27) × (length there_run ≡ 37)
  pub buttons : (first_buttons 0x30 here ≡ 8) × (first_buttons 0x30 there ≡ 1)
  pub strokes : well_formed ding ≡ false
  pub inner_link : link here_end 0x10 0x20 ≡ true
  pub other_links : (link there_end 0x50 0x40 ≡ true) × (link there 0x30 0x40 ≡ true)
  pub calls :
      concerning group here_run ≡ Put (link_write 0x10 0x20) ∷ Push 0x20 1 0 0 ∷ Put time_of_day ∷ Put (type_request 0x77) ∷ Push 0x20 2 1 0 ∷ Put (two_start 0x10) ∷ Second 0 ∷ []
  pub here_refused : refused_calls here_run ≡ Push 0x20 1 0 144 ∷ Put (link_write 0x10 0x40) ∷ []
  pub there_refused : refused_calls there_run ≡ Step 200 ∷ Second 44 ∷ []
  pub first_cell : first_byte 0x10 0x3C here ≡ Some 0xFF
  pub last_cell : (first_byte 0x10 0x3C here_end ≡ Some 0x20) × (first_byte 0x10 0x3C lossy_end.seats ≡ Some 0x20)
  pub frames :
      frames_of group (all_sent here_run) ≡ link_answer 0x10 0x20
      ∷ buttons_told 0x20 1 0 ∷ channel_told 0x10 1 1 0 ∷ buttons_told 0x10 1 0 ∷ one_lit 0x20
      ∷ buttons_told 0x20 0 2
      ∷ channel_told 0x10 2 3 1 ∷ buttons_told 0x10 2 0 ∷ channel_told 0x10 2 0 0 ∷ buttons_told 0x10 0 2 ∷ []
  pub here_others : frames_of (λ a. not (group a)) (all_sent here_run) ≡ buttons_told 0x30 1 0 ∷ []
  pub there_others :
      frames_of (λ a. not (group a)) (all_sent there_run) ≡ link_answer 0x50 0x40
      ∷ ding
      ∷ buttons_told 0x40 1 0 ∷ channel_told 0x50 1 1 0 ∷ buttons_told 0x50 1 0 ∷ one_lit 0x40 ∷ ding ∷ ding ∷ []

-- what the laws say of the runs. In order: ledger and house agree all through each run; in the first two the group's seats
-- are the same at the end, and so are its frames; the same of the faulty house
pub record LawsApplied : Type 0 where
  pub here_memory : Throughout here (new_ledger here) (quiet here) here_run
  pub there_memory : Throughout there (new_ledger there) (quiet there) there_run
  pub lossy_memory : Throughout here (new_ledger here) (quiet here) lossy_run
  pub faulty_memory : Throughout faulty (new_ledger faulty) (quiet faulty) faulty_run
  pub same_end : members group here_end ≡ members group there_end
  pub same_frames : frames_of group (all_sent here_run) ≡ frames_of group (all_sent there_run)
  pub faulty_end : members panel_only faulty ≡ members panel_only (chime ∷ faulty)
  pub faulty_frames : frames_of panel_only (all_sent faulty_run) ≡ []
