-- How a log reads. Assumes nothing.
use Rattle.std.specs.Prelude.{◌≡◌, ℕ, zero, suc, ◌+◌, cond, List, [], ◌∷◌, length, take, nat_lt, Ok, Err, Result}
use Rattle.bus.specs.declared.refusal.Refusal.{Refusal}
use Rattle.bus.specs.declared.refusal.Refusal.TheVariants.{CutShort}
use Rattle.benchlog.specs.declared.kind.ItemKind.{ItemKind}
use Rattle.benchlog.specs.Kinds.{kind_of, body_length}
use Rattle.benchlog.specs.Items.{LogItem, Found}

-- the item whose kind byte stands at a place, before these bytes, unless it is of no kind or its body is cut short
abbrev pub item_from : Result ItemKind Refusal → ℕ → List ℕ → Result LogItem Refusal
item_from (Err r) n bytes = Err r
item_from (Ok k) n bytes =
    cond (nat_lt (length bytes) (body_length k)) (Err CutShort) (Ok (record { kind = k; body = take (body_length k) bytes; place = n }))

-- an item and what comes after its body, or a fault, after which nothing comes
abbrev pub followed : Result LogItem Refusal → ℕ → (ℕ → List Found) → List Found
followed (Err r) n after = Err (record { refusal = r; place = n }) ∷ []
followed (Ok i) n after = Ok i ∷ after (length i.body)

-- what bytes tell from a place on, where so many of them belong to the body of the item before; the next one is a kind
-- byte
abbrev pub reading : (in_body place : ℕ) → List ℕ → List Found
reading in_body n [] = []
reading (suc i) n (b ∷ bytes) = reading i (n + 1) bytes
reading zero n (b ∷ bytes) = followed (item_from (kind_of b) n bytes) n (λ i. reading i (n + 1) bytes)

-- what a log tells: its items in their order, and at most one fault, which is the last
abbrev pub told : List ℕ → List Found
told log = reading zero 0 log

-- nothing comes after a fault
abbrev pub EndsAtFault : List Found → Type 0
EndsAtFault [] = Unit {0}
EndsAtFault (Ok i ∷ fs) = EndsAtFault fs
EndsAtFault (Err x ∷ fs) = fs ≡ []
