-- The items of a log, and the calls that they record. Assumes nothing.
use Rattle.std.specs.Prelude.{ℕ, List, slice_index, Ok, Err, Result}
use Rattle.bus.specs.Frames.{of_body}
use Rattle.house.specs.declared.call.Call.{Call}
use Rattle.house.specs.declared.call.Call.TheVariants.{Put as PutCall, Push as PushCall, Second as SecondCall, Step as StepCall, Clear as ClearCall}
use Rattle.benchlog.specs.declared.kind.ItemKind.{ItemKind}
use Rattle.benchlog.specs.declared.kind.ItemKind.TheVariants.{Put, Second, Push, Step, Clear}
use Rattle.benchlog.specs.declared.item.Item.{Item}
use Rattle.benchlog.specs.declared.fault.Fault.{Fault}

-- an item: its kind, the bytes of its body, and the place of its kind byte, counted from 0
pub record LogItem : Type 0 where
  pub kind : ItemKind
  pub body : List ℕ
  pub place : ℕ

-- what a reader hands out: an item, or what is wrong
abbrev pub Found : Type 0
Found = Result LogItem Fault

-- an item of the code
abbrev pub shown_item : Item → LogItem
shown_item i = record { kind = i.kind; body = i.body.now; place = i.place }

-- what the code found
abbrev pub shown_found : Result Item Fault → Found
shown_found (Ok i) = Ok (shown_item i)
shown_found (Err x) = Err x

-- how many places a bench's buffer for frames has: nine for each of three seats
abbrev pub bench_places : ℕ
bench_places = 27

-- the push that a body records
abbrev pub pushed : List ℕ → Call
pushed b = PushCall (slice_index b 0) (slice_index b 1) (slice_index b 2) bench_places

-- the call that a kind and a body record
abbrev pub call_of : ItemKind → List ℕ → Call
call_of Put b = PutCall (of_body b)
call_of Second b = SecondCall bench_places
call_of Push b = pushed b
call_of Step b = StepCall bench_places
call_of Clear b = ClearCall

abbrev pub recorded : LogItem → Call
recorded i = call_of i.kind i.body
