-- What a reader has left. Assumes nothing.
use Rattle.std.specs.Prelude.{zero, List, drop, Ok, Err, Result}
use Rattle.bus.specs.declared.refusal.Refusal.{Refusal}
use Rattle.benchlog.specs.declared.reader.Reader.{Reader}
use Rattle.benchlog.specs.declared.item.Item.{Item}
use Rattle.benchlog.specs.Items.{LogItem, Found, shown_item}
use Rattle.benchlog.specs.Reading.{reading}

-- what a reader has still to hand out
abbrev pub left : Reader → List Found
left r = reading zero r.cursor (drop r.cursor r.log.now)

-- an item of the code, where nothing refuses it
abbrev pub read_as : Result Item Refusal → Result LogItem Refusal
read_as (Ok i) = Ok (shown_item i)
read_as (Err r) = Err r
