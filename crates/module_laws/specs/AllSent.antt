-- With what priority and from whom modules send and hear, and how large they are. Assumes nothing.
use Rattle.std.specs.Prelude.{◌≡◌, ◌≢◌, ℕ, slice_index}
use Rattle.std.specs.List.{AllByRecursion}
use Rattle.bus.specs.declared.frame.Frame.{Frame}
use Rattle.station.specs.declared.event.Event.{Event}
use Rattle.station.specs.declared.event.Event.TheVariants.{Heard}
use Rattle.station.specs.Kinds.{Record, Kind}
use Rattle.kinds.specs.Kinds.{EveryRelay, EveryPanel, EveryButtonInterface}

-- priority 0 in a frame that begins with 00 and 3 in any other; RTR 0
pub record HasHeader (g : Frame) : Type 0 where
  pub highest : slice_index g.bytes 0 ≡ 0x00 → g.priority ≡ 0
  pub lowest : slice_index g.bytes 0 ≢ 0x00 → g.priority ≡ 3
  pub rtr : g.rtr ≡ 0

-- each frame that is sent has such a header
abbrev pub SendsWithHeader : Kind → Type 0
SendsWithHeader k = (own : ℕ) (r : Record) (e : Event) → AllByRecursion HasHeader (k.acts own r e).sent

-- each frame that is sent bears the own address
abbrev pub SendsAsItself : Kind → Type 0
SendsAsItself k = (own : ℕ) (r : Record) (e : Event) → AllByRecursion (λ g. g.address ≡ own) (k.acts own r e).sent

-- with what priority a frame arrives makes no difference
abbrev pub HearsAnyPriority : Kind → Type 0
HearsAnyPriority k =
    (own : ℕ) (r : Record) (p : ℕ) (f : Frame) →
    k.acts own r (Heard (record { priority = p; address = f.address; rtr = f.rtr; count = f.count; bytes = f.bytes })) ≡ k.acts own r (Heard f)

-- so it is with each panel and each button interface
pub record AllButRelays (Law : Kind → Type 0) : Type 0 where
  pub panel : EveryPanel Law
  pub buttons : EveryButtonInterface Law

-- so many cells, and so many buttons
abbrev pub Has : ℕ → ℕ → Kind → Type 0
Has cells buttons k = (k.memory ≡ cells) × (k.buttons ≡ buttons)

-- 1,024 cells and no button in a relay, 256 and eight in a panel, 1,024 and eight in a button interface
pub record Sizes : Type 0 where
  pub relay : EveryRelay (Has 1024 0)
  pub panel : EveryPanel (Has 256 8)
  pub buttons : EveryButtonInterface (Has 1024 8)
