-- A log with an item of each kind, by hand. Assumes nothing.
use Rattle.std.specs.Prelude.{◌≡◌, ℕ, List, [], ◌∷◌, ◌++◌, Ok, Err}
use Rattle.std.specs.List.{AllByRecursion}
use Rattle.bus.specs.declared.refusal.Refusal.TheVariants.{UnknownItem, CutShort}
use Rattle.benchlog.specs.declared.kind.ItemKind.TheVariants.{Put, Second, Push, Step, Clear}
use Rattle.benchlog.specs.Items.{Found}
use Rattle.benchlog.specs.Reading.{told}
use Rattle.benchlog.specs.Joining.{PlainItem, IsWhole, joined, NoItem}

-- a frame to address 10, and a press of button 1 at address 20
abbrev pub frame_body : List ℕ
frame_body = 3 ∷ 0x10 ∷ 0 ∷ 2 ∷ 2 ∷ 1 ∷ 0 ∷ 0 ∷ 0 ∷ 0 ∷ 0 ∷ 0 ∷ []

abbrev pub press_body : List ℕ
press_body = 0x20 ∷ 1 ∷ 0 ∷ []

-- the items
abbrev pub five_items : List PlainItem
five_items = (Put, frame_body) ∷ (Push, press_body) ∷ (Second, []) ∷ (Step, []) ∷ (Clear, []) ∷ []

-- the bytes
abbrev pub five_bytes : List ℕ
five_bytes = 1 ∷ 3 ∷ 0x10 ∷ 0 ∷ 2 ∷ 2 ∷ 1 ∷ 0 ∷ 0 ∷ 0 ∷ 0 ∷ 0 ∷ 0 ∷ 3 ∷ 0x20 ∷ 1 ∷ 0 ∷ 2 ∷ 4 ∷ 5 ∷ []

-- the items at their places
abbrev pub five_found : List Found
five_found =
    Ok (record { kind = Put; body = frame_body; place = 0 })
    ∷ Ok (record { kind = Push; body = press_body; place = 13 })
    ∷ Ok (record { kind = Second; body = []; place = 17 })
    ∷ Ok (record { kind = Step; body = []; place = 18 })
    ∷ Ok (record { kind = Clear; body = []; place = 19 })
    ∷ []

-- so the laws on joined items have examples: whole items, and bytes that no item begins, by either number
pub record JoiningExample : Type 0 where
  pub whole : AllByRecursion IsWhole five_items
  pub bytes : joined five_items ≡ five_bytes
  pub read : told five_bytes ≡ five_found
  pub unknown : NoItem 11 (9 ∷ [])
  pub unknown_read : told (five_bytes ++ 9 ∷ []) ≡ five_found ++ Err (record { refusal = UnknownItem; place = 20 }) ∷ []
  pub cut : NoItem 12 (3 ∷ 0x20 ∷ [])
  pub cut_read : told (five_bytes ++ 3 ∷ 0x20 ∷ []) ≡ five_found ++ Err (record { refusal = CutShort; place = 20 }) ∷ []
