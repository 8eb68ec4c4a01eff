-- How a reader goes on in a log. Assumes nothing.
use Rattle.std.proofs.Common.{◌≡◌, ℕ, zero, suc, ◌+◌, ◌<◌, arith, length-append, List, [], ◌∷◌, ◌++◌, length, drop, slice_index, Ok, Err, Result, refl, ap, ◌∙◌}
use Rattle.std.specs.List.{flat_map}
use Rattle.std.proofs.lemmas.List.{drop_more, drop-drop}
use Rattle.bus.specs.declared.refusal.Refusal.{Refusal}
use Rattle.benchlog.specs.Kinds.{kind_of}
use Rattle.benchlog.specs.Items.{LogItem, Found}
use Rattle.benchlog.specs.Reading.{reading, told, item_from, followed, EndsAtFault}
use Rattle.benchlog.specs.Benches.{end_in}

-- the bytes of a body tell nothing
pub body_passed : (i n : ℕ) (bytes : List ℕ) → reading i n bytes ≡ reading zero (n + i) (drop i bytes)
body_passed zero n bytes = ap (λ m. reading zero m bytes) (omega arith)
body_passed (suc i) n [] = refl
body_passed (suc i) n (b ∷ bytes) = body_passed i (n + 1) bytes ∙ ap (λ m. reading zero m (drop i bytes)) (omega arith)

-- from a place in a log on: its first item, and what comes after the body
pub item_passed : (log : List ℕ) (n : ℕ) (r : Result LogItem Refusal) → n < length log → item_from (kind_of (slice_index log n)) n (drop (n + 1) log) ≡ r → reading zero n (drop n log) ≡ followed r n (λ i. reading zero (n + 1 + i) (drop (n + 1 + i) log))
item_passed log n r h e =
    let bytes = drop (n + 1) log in
    let passed : (m : ℕ) → reading m (n + 1) bytes ≡ reading zero (n + 1 + m) (drop (n + 1 + m) log) = λ m. body_passed m (n + 1) bytes ∙ ap (reading zero (n + 1 + m)) (drop-drop m (n + 1) log) in
    ap (reading zero n) (drop_more log n 0 h)
    ∙ ap (λ q. followed q n (λ m. reading m (n + 1) bytes)) e
    ∙ (λ p. followed r n (λ m. passed m p))

followed_ends : (r : Result LogItem Refusal) (n : ℕ) (after : ℕ → List Found) → ((m : ℕ) → EndsAtFault (after m)) → EndsAtFault (followed r n after)
followed_ends (Ok i) n after h = h (length i.body)
followed_ends (Err e) n after h = refl

reading_ends : (i n : ℕ) (bytes : List ℕ) → EndsAtFault (reading i n bytes)
reading_ends i n [] = tt
reading_ends (suc i) n (b ∷ bytes) = reading_ends i (n + 1) bytes
reading_ends zero n (b ∷ bytes) = followed_ends (item_from (kind_of b) n bytes) n (λ m. reading m (n + 1) bytes) (λ m. reading_ends m (n + 1) bytes)

pub told_ends : (log : List ℕ) → EndsAtFault (told log)
told_ends log = reading_ends zero 0 log

-- so what stands before something is no fault
pub no_end_before : (ps qs : List Found) (q : Found) → EndsAtFault (ps ++ q ∷ qs) → flat_map end_in ps ≡ []
no_end_before [] qs q h = refl
no_end_before (Ok i ∷ ps) qs q h = no_end_before ps qs q h
no_end_before (Err e ∷ ps) qs q h = absurd (omega (arith, ap length h, length-append ps (q ∷ qs)))
