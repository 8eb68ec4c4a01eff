-- What a clause reads of channels. Assumes nothing.
use Rattle.relay.specs.declared.channel.Channel.{Channel}
use Rattle.relay.specs.declared.channel.Channel.TheVariants.{Open, Closed, Running}
use Rattle.relay.specs.declared.per_channel.PerChannel.{PerChannel}
use Rattle.relay.specs.Channels.{each}
use Rattle.relay.specs.Contacts.{Contact, opened, closed, running}

-- what a channel is
abbrev pub shown : Channel → Contact
shown Open = opened
shown Closed = closed
shown (Running s) = running s.value

-- what each channel is
abbrev pub all_shown : PerChannel Channel → PerChannel Contact
all_shown x = each shown x
