-- A kind of module by its answers, one for each way in which an event can reach a seat. Assumes nothing.
use Rattle.std.specs.Prelude.{◌≡◌, ℕ, ◌≤◌, Bool, cond, ◌&&◌, ◌⊎◌, List, [], length, ◌==◌}
use Rattle.std.specs.List.{AllByRecursion}
use Rattle.bus.specs.declared.frame.Frame.{Frame}
use Rattle.station.specs.declared.edge.Edge.{Edge}
use Rattle.station.specs.declared.event.Event.{Event}
use Rattle.station.specs.declared.event.Event.TheVariants.{Heard, Second, Pushed}
use Rattle.station.specs.Kinds.{Record, Outcome, Kind, kind_of, is_status, linked}
use Rattle.station.specs.Rules.{stored}

-- nothing comes of it
abbrev pub idle : Record → Outcome
idle r = record { after = r; sent = [] }

-- each answer is given the own address and the record: to a frame with the own address; to one with address 0; to a
-- button status from a linked address; to a second; to an edge at a channel
pub record Design : Type 0 where
  pub memory : ℕ
  pub buttons : ℕ
  pub setup : List ℕ
  pub names : ℕ → Record → ℕ → Bool
  pub command : ℕ → Record → Frame → Outcome
  pub broadcast : ℕ → Record → Frame → Outcome
  pub status : ℕ → Record → Frame → Outcome
  pub second : ℕ → Record → Outcome
  pub push : ℕ → Record → ℕ → Edge → Outcome

-- the design's answer to an event
abbrev pub answered : Design → ℕ → Record → Event → Outcome
answered d own r (Heard f) =
    cond (f.address == own) (d.command own r f)
    (cond (f.address == 0) (d.broadcast own r f) (cond (is_status f && linked d.names own r f.address) (d.status own r f) (idle r)))
answered d own r Second = d.second own r
answered d own r (Pushed p) = cond (p.address == own) (d.push own r p.channel p.edge) (idle r)

-- the kind that a design makes
abbrev pub designed : Design → Kind
designed d = kind_of d.memory d.buttons d.setup d.names (answered d)

-- an answer that keeps the rules: nine frames at most, each bearing the own address or one that is allowed, and these
-- cells after it
pub record Proper (own : ℕ) (Allowed : ℕ → Type 0) (cells : List ℕ) (o : Outcome) : Type 0 where
  pub nine : length o.sent ≤ 9
  pub bears : AllByRecursion (λ f. (f.address ≡ own) ⊎ Allowed f.address) o.sent
  pub keeps : o.after.cells ≡ cells

-- no address is allowed besides the own
abbrev pub OnlyOwn : ℕ → Type 0
OnlyOwn a = ⊥

-- a design that keeps the rules at every record
pub record Orderly (d : Design) : Type 0 where
  pub small : d.memory ≤ 1024
  pub command : (own : ℕ) (r : Record) (f : Frame) → Proper own OnlyOwn (stored r.cells f) (d.command own r f)
  pub broadcast : (own : ℕ) (r : Record) (f : Frame) → Proper own OnlyOwn r.cells (d.broadcast own r f)
  pub status : (own : ℕ) (r : Record) (f : Frame) → Proper own (λ a. a ≡ f.address) r.cells (d.status own r f)
  pub second : (own : ℕ) (r : Record) → Proper own OnlyOwn r.cells (d.second own r)
  pub push : (own : ℕ) (r : Record) (channel : ℕ) (edge : Edge) → Proper own OnlyOwn r.cells (d.push own r channel edge)
