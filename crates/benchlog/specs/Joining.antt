-- Which bytes items are, how items join to a log, and where none begins. Assumes nothing.
use Rattle.std.specs.Prelude.{◌≡◌, ℕ, ◌+◌, ◌<◌, ◌&&◌, if◌then◌else◌, List, [], ◌∷◌, ◌++◌, length, drop, map, Ok, Err, ◌==◌, nat_lt}
use Rattle.std.specs.List.{flat_map, AllByRecursion}
use Rattle.std.specs.Bool.{MatchBool}
use Rattle.bus.specs.Refusals.{number}
use Rattle.benchlog.specs.declared.fault.Fault.{Fault}
use Rattle.benchlog.specs.declared.kind.ItemKind.{ItemKind}
use Rattle.benchlog.specs.declared.kind.ItemKind.TheVariants.{Put, Second, Push, Step, Clear}
use Rattle.benchlog.specs.Items.{Found}
use Rattle.benchlog.specs.Reading.{told}

-- an item without its place: its kind, and the bytes of its body
abbrev pub PlainItem : Type 0
PlainItem = ItemKind × List ℕ

-- the byte with which an item of that kind begins
abbrev pub kind_byte : ItemKind → ℕ
kind_byte Put = 1
kind_byte Second = 2
kind_byte Push = 3
kind_byte Step = 4
kind_byte Clear = 5

-- how many bytes the body behind such a byte has: a put has a frame of twelve bytes, a push has three bytes, the others none
abbrev pub body_size : ℕ → ℕ
body_size b = if b == 1 then 12 else if b == 3 then 3 else 0

-- its body has as many bytes as its kind asks
abbrev pub IsWhole : PlainItem → Type 0
IsWhole i = length i.1 ≡ body_size (kind_byte i.0)

-- an item as bytes, and items one behind the other
abbrev pub plain_bytes : PlainItem → List ℕ
plain_bytes i = kind_byte i.0 ∷ i.1

abbrev pub joined : List PlainItem → List ℕ
joined is = flat_map plain_bytes is

-- items found one behind the other, from a place on
abbrev pub placed : ℕ → List PlainItem → List Found
placed n [] = []
placed n (i ∷ is) = Ok (record { kind = i.0; body = i.1; place = n }) ∷ placed (n + length (plain_bytes i)) is

-- what was found, so many places further on
abbrev pub moved : ℕ → Found → Found
moved n (Ok i) = Ok (record { kind = i.kind; body = i.body; place = n + i.place })
moved n (Err f) = Err (record { refusal = f.refusal; place = n + f.place })

-- no item begins these bytes, and this is the number that says why: 12, a byte from 1 to 5 is the first, but fewer bytes follow
-- than the body has; 11, another byte is the first
abbrev pub NoItem : ℕ → List ℕ → Type 0
NoItem n [] = ⊥
NoItem n (b ∷ bytes) = MatchBool (nat_lt 0 b && nat_lt b 6) ((n ≡ 12) × (length bytes < body_size b)) (n ≡ 11)

-- whole items, joined, read as just these items, each at its place
abbrev pub JoinedRead : Type 0
JoinedRead = (is : List PlainItem) → AllByRecursion IsWhole is → told (joined is) ≡ placed 0 is

-- with any bytes behind them they read as these items, and then as what those bytes tell
abbrev pub RestRead : Type 0
RestRead =
    (is : List PlainItem) (rest : List ℕ) → AllByRecursion IsWhole is →
    told (joined is ++ rest) ≡ placed 0 is ++ map (moved (length (joined is))) (told rest)

-- with bytes behind them that no item begins, they read as these items and one fault: its place is behind the items, its
-- number the one that says why
abbrev pub DamagedRead : Type 0
DamagedRead =
    (is : List PlainItem) (rest : List ℕ) (n : ℕ) → AllByRecursion IsWhole is → NoItem n rest →
    (f : Fault) × (told (joined is ++ rest) ≡ placed 0 is ++ Err f ∷ []) × (f.place ≡ length (joined is)) × (number f.refusal ≡ n)

-- the bytes of a log that are behind what was found: an item's, or from a fault's place on all
abbrev pub bytes_of : List ℕ → Found → List ℕ
bytes_of log (Ok i) = plain_bytes (i.kind, i.body)
bytes_of log (Err f) = drop f.place log

-- the items of any log, joined, and then what stands from the fault's place on, if there is one, are the log
abbrev pub WholeLog : Type 0
WholeLog = (log : List ℕ) → flat_map (bytes_of log) (told log) ≡ log

-- what was found stands in the log at its place: an item is whole, and its bytes are there; at a fault no item begins
abbrev pub StandsIn : List ℕ → Found → Type 0
StandsIn log (Ok i) = IsWhole (i.kind, i.body) × ((rest : List ℕ) × (drop i.place log ≡ plain_bytes (i.kind, i.body) ++ rest))
StandsIn log (Err f) = NoItem (number f.refusal) (drop f.place log)

abbrev pub FoundStands : Type 0
FoundStands = (log : List ℕ) → AllByRecursion (StandsIn log) (told log)
