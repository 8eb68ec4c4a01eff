-- Four cells in a row, and those that bytes were put into. Assumes nothing.
use Rattle.std.proofs.Common.{◌≡◌, ℕ, ◌+◌, ◌<◌, ◌≤◌, List, [], ◌∷◌, length, get_or, take, drop, sym, ap, ◌∙◌, arith}
use Rattle.std.proofs.lemmas.List.{drop_more}
use Rattle.station.specs.Rules.{put}
use Rattle.station.proofs.Puts.{length-put, put_stands}

-- four cells in a row
abbrev pub four : List ℕ → ℕ → List ℕ
four cells a = get_or cells a 0 ∷ get_or cells (a + 1) 0 ∷ get_or cells (a + 2) 0 ∷ get_or cells (a + 3) 0 ∷ []

-- the cells from a place on: the one there, then the others
next : (cells : List ℕ) (a b : ℕ) → b ≡ a + 1 → a < length cells → drop a cells ≡ get_or cells a 0 ∷ drop b cells
next cells a b e h = drop_more cells a 0 h ∙ ap (λ j. get_or cells a 0 ∷ drop j cells) (sym e)

pub take_one : (cells : List ℕ) (a : ℕ) → a + 1 ≤ length cells → get_or cells a 0 ∷ [] ≡ take 1 (drop a cells)
take_one cells a h = sym (ap (take 1) (drop_more cells a 0 (omega arith)))

pub take_four : (cells : List ℕ) (a : ℕ) → a + 4 ≤ length cells → four cells a ≡ take 4 (drop a cells)
take_four cells a h =
    let x = get_or cells a 0 in
    let y = get_or cells (a + 1) 0 in
    let z = get_or cells (a + 2) 0 in
    sym (ap (take 4) (next cells a (a + 1) (omega arith) (omega arith))
    ∙ (ap (λ t. x ∷ take 3 t) (next cells (a + 1) (a + 2) (omega arith) (omega arith))
    ∙ (ap (λ t. x ∷ y ∷ take 2 t) (next cells (a + 2) (a + 3) (omega arith) (omega arith)) ∙ ap (λ t. x ∷ y ∷ z ∷ take 1 t) (next cells (a + 3) (a + 4) (omega arith) (omega arith)))))

pub four-put : (cells : List ℕ) (a b c d e : ℕ) → a + 4 ≤ length cells → four (put cells a (b ∷ c ∷ d ∷ e ∷ [])) a ≡ b ∷ c ∷ d ∷ e ∷ []
four-put cells a b c d e h =
    let bs = b ∷ c ∷ d ∷ e ∷ [] in
    take_four (put cells a bs) a (omega (arith, length-put cells a bs)) ∙ put_stands cells a bs h
