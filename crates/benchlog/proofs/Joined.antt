-- Items as bytes, and what a log tells of them. Assumes nothing.
use Rattle.std.proofs.Common.{◌≡◌, ℕ, zero, suc, ◌+◌, ◌<◌, ◌≤◌, ◌&&◌, Bool, true, false, arith, length-append, List, [], ◌∷◌, ◌++◌, length, take, drop, map, nat_lt, cond, ◌==◌, Ok, Err, Result, refl, sym, ap, subst, ◌∙◌}
use Rattle.std.specs.Prelude.{MatchResult}
use Rattle.std.specs.Bool.{MatchBool}
use Rattle.std.specs.List.{flat_map, AllByRecursion}
use Rattle.std.proofs.lemmas.List.{append_assoc, append-nil, drop-drop, drop_at, length-take-le, take-append-drop}
use Rattle.std.proofs.lemmas.Bool.Decides.{nat_tests}
use Rattle.std.proofs.Math.Seq.{take-append_seam}
use Rattle.bus.specs.declared.refusal.Refusal.{Refusal}
use Rattle.bus.specs.declared.refusal.Refusal.TheVariants.{CutShort}
use Rattle.bus.specs.Refusals.{number}
use Rattle.benchlog.specs.declared.kind.ItemKind.{ItemKind}
use Rattle.benchlog.specs.declared.kind.ItemKind.TheVariants.{Put, Second, Push, Step, Clear}
use Rattle.benchlog.specs.Kinds.{kind_of, body_length}
use Rattle.benchlog.specs.Items.{LogItem, Found}
use Rattle.benchlog.specs.Reading.{reading, told, item_from, followed}
use Rattle.benchlog.specs.Joining.{PlainItem, kind_byte, body_size, IsWhole, joined, placed, moved, NoItem, JoinedRead, RestRead, DamagedRead, bytes_of, WholeLog, StandsIn, FoundStands}
use Rattle.benchlog.proofs.Passing.{body_passed}

-- a byte begins a kind exactly if it is 1 to 5, and then the kind's body is as long as is said of the byte
abbrev Begins : ℕ → Result ItemKind Refusal → Type 0
Begins b r =
    MatchResult r
    (λ k. (kind_byte k ≡ b) × (body_length k ≡ body_size b) × ((nat_lt 0 b && nat_lt b 6) ≡ true))
    (λ e. (number e ≡ 11) × ((nat_lt 0 b && nat_lt b 6) ≡ false))

begins_above : (b : ℕ) → 5 < b → Begins b (kind_of b)
begins_above b h =
    let one : (b == 1) ≡ false = grind (arith, nat_tests) in
    let two : (b == 2) ≡ false = grind (arith, nat_tests) in
    let three : (b == 3) ≡ false = grind (arith, nat_tests) in
    let four : (b == 4) ≡ false = grind (arith, nat_tests) in
    let five : (b == 5) ≡ false = grind (arith, nat_tests) in
    let above : (nat_lt 0 b && nat_lt b 6) ≡ false = grind (arith, nat_tests) in
    rw (one, two, three, four, five) (refl, above)

begins : (b : ℕ) → Begins b (kind_of b)
begins zero = (refl, refl)
begins (suc zero) = (refl, refl, refl)
begins (suc (suc zero)) = (refl, refl, refl)
begins (suc (suc (suc zero))) = (refl, refl, refl)
begins (suc (suc (suc (suc zero)))) = (refl, refl, refl)
begins (suc (suc (suc (suc (suc zero))))) = (refl, refl, refl)
begins (suc (suc (suc (suc (suc (suc b)))))) = begins_above (suc (suc (suc (suc (suc (suc b)))))) (omega arith)

-- what an item that was read of a byte and of those behind it is, and why none was
abbrev Reads : ℕ → ℕ → List ℕ → Result LogItem Refusal → Type 0
Reads b n bytes r =
    MatchResult r
    (λ i. IsWhole (i.kind, i.body) × (kind_byte i.kind ≡ b) × (i.place ≡ n) × (i.body ++ drop (length i.body) bytes ≡ bytes))
    (λ e. NoItem (number e) (b ∷ bytes))

enough : (k : ItemKind) (b n : ℕ) (bytes : List ℕ) (t : Bool) → t ≡ nat_lt (length bytes) (body_length k) → kind_byte k ≡ b → body_length k ≡ body_size b → (nat_lt 0 b && nat_lt b 6) ≡ true → Reads b n bytes (cond t (Err CutShort) (Ok (record { kind = k; body = take (body_length k) bytes; place = n })))
enough k b n bytes true h e l m =
    let fewer : length bytes < body_size b = grind (arith, nat_tests) in
    subst (λ t. MatchBool t ((number CutShort ≡ 12) × (length bytes < body_size b)) (number CutShort ≡ 11)) (sym m) (refl, fewer)
enough k b n bytes false h e l m =
    let fits : body_length k ≤ length bytes = grind (arith, nat_tests) in
    let counted = length-take-le (body_length k) bytes fits in
    (counted ∙ l ∙ ap body_size (sym e), e, refl, ap (λ j. take (body_length k) bytes ++ drop j bytes) counted ∙ take-append-drop (body_length k) bytes)

reads_of : (r : Result ItemKind Refusal) (b n : ℕ) (bytes : List ℕ) → Begins b r → Reads b n bytes (item_from r n bytes)
reads_of (Ok k) b n bytes h = enough k b n bytes _ refl h.0 h.1 h.2
reads_of (Err e) b n bytes h = subst (λ t. MatchBool t ((number e ≡ 12) × (length bytes < body_size b)) (number e ≡ 11)) (sym h.1) h.0

reads : (b n : ℕ) (bytes : List ℕ) → Reads b n bytes (item_from (kind_of b) n bytes)
reads b n bytes = reads_of (kind_of b) b n bytes (begins b)

-- what was found stands there
next_rest : (log : List ℕ) (n b : ℕ) (bytes : List ℕ) → drop n log ≡ b ∷ bytes → drop (n + 1) log ≡ bytes
next_rest log n b bytes e = sym (drop-drop 1 n log) ∙ ap (drop 1) e

followed_stands : (log : List ℕ) (b n : ℕ) (bytes : List ℕ) (r : Result LogItem Refusal) (after : ℕ → List Found) → drop n log ≡ b ∷ bytes → Reads b n bytes r → ((m : ℕ) → AllByRecursion (StandsIn log) (after m)) → AllByRecursion (StandsIn log) (followed r n after)
followed_stands log b n bytes (Ok i) after e h more =
    let there = ap (λ j. drop j log) h.2 ∙ e ∙ ap (λ c. c ∷ bytes) (sym h.1) ∙ ap (λ t. kind_byte i.kind ∷ t) (sym h.3) in
    ((h.0, (drop (length i.body) bytes, there)), more (length i.body))
followed_stands log b n bytes (Err r) after e h more = (subst (NoItem (number r)) (sym e) h, tt)

stands_from : (log : List ℕ) (i n : ℕ) (bytes : List ℕ) → drop n log ≡ bytes → AllByRecursion (StandsIn log) (reading i n bytes)
stands_from log i n [] e = tt
stands_from log (suc i) n (b ∷ bytes) e = stands_from log i (n + 1) bytes (next_rest log n b bytes e)
stands_from log zero n (b ∷ bytes) e =
    followed_stands log b n bytes (item_from (kind_of b) n bytes) (λ m. reading m (n + 1) bytes) e (reads b n bytes) (λ m. stands_from log m (n + 1) bytes (next_rest log n b bytes e))

pub found_stands : FoundStands
found_stands log = stands_from log zero 0 log refl

-- nothing is left out
followed_whole : (log : List ℕ) (b n : ℕ) (bytes : List ℕ) (r : Result LogItem Refusal) (after : ℕ → List Found) → drop n log ≡ b ∷ bytes → Reads b n bytes r → ((m : ℕ) → flat_map (bytes_of log) (after m) ≡ drop m bytes) → flat_map (bytes_of log) (followed r n after) ≡ b ∷ bytes
followed_whole log b n bytes (Ok i) after e h more =
    ap (λ t. kind_byte i.kind ∷ i.body ++ t) (more (length i.body)) ∙ ap (λ t. kind_byte i.kind ∷ t) h.3 ∙ ap (λ c. c ∷ bytes) h.1
followed_whole log b n bytes (Err r) after e h more = append-nil (drop n log) ∙ e

whole_from : (log : List ℕ) (i n : ℕ) (bytes : List ℕ) → drop n log ≡ bytes → flat_map (bytes_of log) (reading i n bytes) ≡ drop i bytes
whole_from log zero n [] e = refl
whole_from log (suc i) n [] e = refl
whole_from log (suc i) n (b ∷ bytes) e = whole_from log i (n + 1) bytes (next_rest log n b bytes e)
whole_from log zero n (b ∷ bytes) e =
    followed_whole log b n bytes (item_from (kind_of b) n bytes) (λ m. reading m (n + 1) bytes) e (reads b n bytes) (λ m. whole_from log m (n + 1) bytes (next_rest log n b bytes e))

pub whole_log : WholeLog
whole_log log = whole_from log zero 0 log refl

-- an item is read back
all_of : (body more : List ℕ) (n : ℕ) → length body ≡ n → take n (body ++ more) ≡ body
all_of body more n e = ap (λ m. take m (body ++ more)) (sym e) ∙ take-append_seam body more

fits : (k : ItemKind) (n m : ℕ) (body more : List ℕ) → length body ≡ m → body_length k ≡ m → item_from (Ok k) n (body ++ more) ≡ Ok (record { kind = k; body = body; place = n })
fits k n m body more h e =
    let long : nat_lt (length (body ++ more)) (body_length k) ≡ false = grind (arith, nat_tests, length-append body more) in
    ap (λ t. cond t (Err CutShort) (Ok (record { kind = k; body = take (body_length k) (body ++ more); place = n }))) long
    ∙ ap (λ b. Ok (record { kind = k; body = b; place = n })) (all_of body more (body_length k) (h ∙ sym e))

item_read : (k : ItemKind) (n : ℕ) (body more : List ℕ) → length body ≡ body_size (kind_byte k) → item_from (kind_of (kind_byte k)) n (body ++ more) ≡ Ok (record { kind = k; body = body; place = n })
item_read Put n body more h = fits Put n 12 body more h refl
item_read Second n body more h = fits Second n 0 body more h refl
item_read Push n body more h = fits Push n 3 body more h refl
item_read Step n body more h = fits Step n 0 body more h refl
item_read Clear n body more h = fits Clear n 0 body more h refl

-- joined items, before other bytes
joined_from : (is : List PlainItem) (n : ℕ) (rest : List ℕ) → AllByRecursion IsWhole is → reading zero n (joined is ++ rest) ≡ placed n is ++ reading zero (n + length (joined is)) rest
joined_from [] n rest h = ap (λ m. reading zero m rest) (omega arith)
joined_from (i ∷ is) n rest h =
    let body = i.1 in
    let more = joined is ++ rest in
    let here = body ++ more in
    let found : Found = Ok (record { kind = i.0; body = body; place = n }) in
    let next = n + suc (length body) in
    ap (λ t. reading zero n (kind_byte i.0 ∷ t)) (append_assoc body (joined is) rest)
    ∙ ap (λ r. followed r n (λ m. reading m (n + 1) here)) (item_read i.0 n body more h.0)
    ∙ ap (λ t. found ∷ t) (body_passed (length body) (n + 1) here ∙ ap (reading zero (n + 1 + length body)) (drop_at body more (length body) refl) ∙ ap (λ m. reading zero m more) (omega arith) ∙ joined_from is next rest h.1)
    ∙ ap (λ m. found ∷ (placed next is ++ reading zero m rest)) (omega (arith, length-append body (joined is)))

-- the same bytes further on
item_moved : (k n m : ℕ) (d : ItemKind) (body : List ℕ) (t : Bool) (after before : ℕ → List Found) → m ≡ k + n → ((i : ℕ) → after i ≡ map (moved k) (before i)) → followed (cond t (Err CutShort) (Ok (record { kind = d; body = body; place = m }))) m after ≡ map (moved k) (followed (cond t (Err CutShort) (Ok (record { kind = d; body = body; place = n }))) n before)
item_moved k n m d body true after before e h = ap (λ j. Err (record { refusal = CutShort; place = j }) ∷ []) e
item_moved k n m d body false after before e h =
    ap (λ j. Ok (record { kind = d; body = body; place = j }) ∷ after (length body)) e ∙ ap (λ t. Ok (record { kind = d; body = body; place = k + n }) ∷ t) (h (length body))

followed_moved : (k n m : ℕ) (bytes : List ℕ) (r : Result ItemKind Refusal) (after before : ℕ → List Found) → m ≡ k + n → ((i : ℕ) → after i ≡ map (moved k) (before i)) → followed (item_from r m bytes) m after ≡ map (moved k) (followed (item_from r n bytes) n before)
followed_moved k n m bytes (Err c) after before e h = ap (λ j. Err (record { refusal = c; place = j }) ∷ []) e
followed_moved k n m bytes (Ok d) after before e h = item_moved k n m d (take (body_length d) bytes) _ after before e h

reading_moved : (k i n m : ℕ) (bytes : List ℕ) → m ≡ k + n → reading i m bytes ≡ map (moved k) (reading i n bytes)
reading_moved k i n m [] e = refl
reading_moved k (suc i) n m (b ∷ bytes) e = reading_moved k i (n + 1) (m + 1) bytes (omega arith)
reading_moved k zero n m (b ∷ bytes) e =
    followed_moved k n m bytes (kind_of b) (λ i. reading i (m + 1) bytes) (λ i. reading i (n + 1) bytes) e (λ i. reading_moved k i (n + 1) (m + 1) bytes (omega arith))

pub joined_read : JoinedRead
joined_read is h = ap told (sym (append-nil (joined is))) ∙ joined_from is 0 [] h ∙ append-nil (placed 0 is)

pub rest_read : RestRead
rest_read is rest h = joined_from is 0 rest h ∙ ap (λ t. placed 0 is ++ t) (reading_moved (length (joined is)) 0 0 (0 + length (joined is)) rest (omega arith))

-- where no item begins
short : (k : ItemKind) (n : ℕ) (bytes : List ℕ) → NoItem n (kind_byte k ∷ bytes) → length bytes < body_size (kind_byte k)
short Put n bytes w = w.1
short Second n bytes w = w.1
short Push n bytes w = w.1
short Step n bytes w = w.1
short Clear n bytes w = w.1

same_number : (t : Bool) (m n : ℕ) (P : Type 0) → MatchBool t ((m ≡ 12) × P) (m ≡ 11) → MatchBool t ((n ≡ 12) × P) (n ≡ 11) → m ≡ n
same_number true m n P h w = h.0 ∙ sym w.0
same_number false m n P h w = h ∙ sym w

abbrev OneFault : ℕ → List Found → Type 0
OneFault n fs = (r : Refusal) × (fs ≡ Err (record { refusal = r; place = 0 }) ∷ []) × (number r ≡ n)

no_item_of : (b n : ℕ) (bytes : List ℕ) (r : Result LogItem Refusal) (after : ℕ → List Found) → Reads b 0 bytes r → NoItem n (b ∷ bytes) → OneFault n (followed r 0 after)
no_item_of b n bytes (Ok i) after h w =
    let few = short i.kind n bytes (subst (λ c. NoItem n (c ∷ bytes)) (sym h.1) w) in
    absurd (omega (arith, few, h.0, ap length h.3, length-append i.body (drop (length i.body) bytes)))
no_item_of b n bytes (Err e) after h w = (e, refl, same_number (nat_lt 0 b && nat_lt b 6) (number e) n (length bytes < body_size b) h w)

no_item : (n : ℕ) (rest : List ℕ) → NoItem n rest → OneFault n (told rest)
no_item n [] w = absurd w
no_item n (b ∷ bytes) w = no_item_of b n bytes (item_from (kind_of b) 0 bytes) (λ m. reading m (0 + 1) bytes) (reads b 0 bytes) w

pub damaged_read : DamagedRead
damaged_read is rest n h w =
    let f = no_item n rest w in
    let behind = length (joined is) in
    (record { refusal = f.0; place = behind + 0 }, rest_read is rest h ∙ ap (λ fs. placed 0 is ++ map (moved behind) fs) f.1, omega arith, f.2)
