-- The four channels of a relay. Assumes nothing.
use Rattle.std.specs.Prelude.{ℕ}
use Rattle.relay.specs.declared.per_channel.PerChannel.{PerChannel}

pub data ChannelNumber : Type 0 where
  channel_1 : ChannelNumber
  channel_2 : ChannelNumber
  channel_3 : ChannelNumber
  channel_4 : ChannelNumber

-- where the channel stands in the memory, from 0
abbrev pub index : ChannelNumber → ℕ
index channel_1 = 0
index channel_2 = 1
index channel_3 = 2
index channel_4 = 3

-- the value that the channel has
abbrev pub of_channel : {A : Type 0} → ChannelNumber → PerChannel A → A
of_channel channel_1 x = x.one
of_channel channel_2 x = x.two
of_channel channel_3 x = x.three
of_channel channel_4 x = x.four
