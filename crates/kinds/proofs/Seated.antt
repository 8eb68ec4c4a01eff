-- A seat by its parts. Assumes nothing.
use Rattle.std.proofs.Common.{◌≡◌, ℕ, [], ◌∷◌, replicate}
use Rattle.station.specs.Kinds.{Kind, Seat}
use Rattle.kinds.specs.Kinds.{new_seat}

pub seated : (s : Seat) (k : Kind) (address n : ℕ) → s.kind ≡ k → s.address ≡ address → s.content.cells ≡ replicate k.memory 255 → s.content.state ≡ replicate n 0 → s ∷ [] ≡ new_seat k address n ∷ []
seated s k address n kind at cells state i = record { kind = kind i; address = at i; content = record { cells = cells i; state = state i } } ∷ []
