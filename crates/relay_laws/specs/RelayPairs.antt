-- The pairs of a relay's memory: where they stand, and which one a channel obeys. Assumes nothing.
use Rattle.std.specs.Prelude.{◌≡◌, ℕ, ◌+◌, ◌*◌, ◌<◌, ◌≢◌, Bool, true, false, not, ◌&&◌, List, Some, None, Option, ◌==◌, bit_and, slice_index}
use Rattle.bus.specs.declared.frame.Frame.{Frame}
use Rattle.laws.specs.Channels.{ChannelNumber, index}

-- where pair i of table t of a channel begins: with the address, then the button bits
abbrev pub place : ChannelNumber → ℕ → ℕ → ℕ
place c t i = 256 * index c + 30 * t + 2 * i

-- that pair bears the sender's address and has a bit in common with the buttons just pressed
abbrev pub pair_fits : List ℕ → ChannelNumber → Frame → ℕ → ℕ → Bool
pair_fits cells c f t i =
    slice_index cells (place c t i) == f.address && not (bit_and (slice_index cells (place c t i + 1)) (slice_index f.bytes 1) == 0)

-- it is the first of the channel that does, but for those of table 3, which do not count
pub record FirstFits (cells : List ℕ) (c : ChannelNumber) (f : Frame) (t i : ℕ) : Type 0 where
  pub within : i < 15
  pub it_fits : pair_fits cells c f t i ≡ true
  pub none_before : (u j : ℕ) → j < 15 → (u ≢ 3) → place c u j < place c t i → pair_fits cells c f u j ≡ false

-- no pair of the channel fits
abbrev pub NoneFits : List ℕ → ChannelNumber → Frame → Type 0
NoneFits cells c f = (t i : ℕ) → t < 8 → (t ≢ 3) → i < 15 → pair_fits cells c f t i ≡ false

-- the table and the number in it of a pair
pub record PairNumber : Type 0 where
  pub table : ℕ
  pub number : ℕ

-- a pair of one of the tables, not of table 3, that is the first of its channel that fits
pub record IsObeyed (cells : List ℕ) (c : ChannelNumber) (f : Frame) (p : PairNumber) : Type 0 where
  pub in_tables : p.table < 8
  pub not_the_third : p.table ≢ 3
  pub first : FirstFits cells c f p.table p.number

-- that pair a channel obeys, or none where none fits
abbrev pub Obeys : List ℕ → ChannelNumber → Frame → Option PairNumber → Type 0
Obeys cells c f None = NoneFits cells c f
Obeys cells c f (Some p) = IsObeyed cells c f p
