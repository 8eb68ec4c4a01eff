-- Every memory is what its ledger says. Assumes nothing.
use Rattle.std.proofs.Common.{◌≡◌, ℕ, List, [], ◌∷◌, ◌++◌, map, length, get_or, Some, None, Option, refl, sym, ap, subst, ◌∙◌}
use Rattle.std.specs.List.{AllByRecursion, AllZip}
use Rattle.bus.specs.declared.frame.Frame.{Frame}
use Rattle.bus.specs.declared.refusal.Refusal.{Refusal}
use Rattle.station.specs.declared.event.Event.{Event}
use Rattle.station.specs.declared.event.Event.TheVariants.{Heard, Second as ASecond, Pushed}
use Rattle.station.specs.Kinds.{Seat, after}
use Rattle.station.specs.Rules.{Lawful, written, cells_after}
use Rattle.station.specs.Seats.{after_all, sent_all}
use Rattle.house.specs.declared.call.Call.{Call}
use Rattle.house.specs.declared.call.Call.TheVariants.{Put, Push, Second, Step, Clear, Record}
use Rattle.house.specs.Faults.{first_refusal}
use Rattle.house.specs.Turns.{Bus, Turn, called, checks, decided, turn, edge_of}
use Rattle.runs.specs.Runs.{Entry, Run, quiet}
use Rattle.runs.specs.Ledgers.{Ledger, Memory, memory_of, told}
use Rattle.runs.specs.Memory.{left_in, LastLeft, kept, Keeps, Agrees, NumbersRight, Throughout, MemoryLaw}
use Rattle.runs.proofs.Bytes.{IsLeft, left_stands, last_more}

-- seats that keep the rules do so after an event
pub lawful_after : (e : Event) (ss : List Seat) → AllByRecursion Lawful ss → AllByRecursion Lawful (after_all e ss)
lawful_after e [] h = tt
lawful_after e (s ∷ ss) h = ((λ es. h.0 (e ∷ es)), lawful_after e ss h.1)

-- the memory of a seat after an event
abbrev memory_after : Event → Memory → Memory
memory_after e m = record { address = m.address; cells = cells_after m.address m.cells e }

memories_after : (e : Event) (ss : List Seat) → AllByRecursion Lawful ss → map memory_of (after_all e ss) ≡ map (memory_after e) (map memory_of ss)
memories_after e [] h = refl
memories_after e (s ∷ ss) h =
    let here = (h.0 []).writes e in
    λ i. record { address = s.address; cells = here i } ∷ memories_after e ss h.1 i

-- an event that writes nowhere leaves them
memories_same : (e : Event) → ((m : Memory) → memory_after e m ≡ m) → (ss : List Seat) → AllByRecursion Lawful ss → map memory_of (after_all e ss) ≡ map memory_of ss
memories_same e same [] h = refl
memories_same e same (s ∷ ss) h =
    let here = (h.0 []).writes e in
    let stays : memory_of (after e s) ≡ memory_of s = (λ i. record { address = s.address; cells = here i }) ∙ same (memory_of s) in
    λ i. stays i ∷ memories_same e same ss h.1 i

-- a seat after a frame has passed
keeps_more : (fs : List Frame) (f : Frame) (start now : Seat) → Lawful now → Keeps fs start now → Keeps (fs ++ f ∷ []) start (after (Heard f) now)
keeps_more fs f start now h k =
    let own = now.address in
    let cells = now.content.cells in
    let wrote = (h []).writes (Heard f) in
    let size : length cells ≡ start.kind.memory = k.size in
    record {
      kind = k.kind;
      address = k.address;
      size = (h (Heard f ∷ [])).sized ∙ ap (λ t. t.memory) k.kind;
      bytes = λ n low.
          let left : IsLeft (left_in start.address start.kind.memory n f) (get_or cells n 0) (get_or (after (Heard f) now).content.cells n 0) =
          subst (λ t. IsLeft (left_in start.address start.kind.memory n f) (get_or cells n 0) (get_or t n 0)) (sym wrote)
          (subst (λ a. IsLeft (left_in a start.kind.memory n f) (get_or cells n 0) (get_or (written own cells f) n 0)) k.address
          (subst (λ z. IsLeft (left_in own z n f) (get_or cells n 0) (get_or (written own cells f) n 0)) size (left_stands own cells n f))) in
          last_more start.address start.kind.memory n fs f (get_or start.content.cells n 0) (get_or cells n 0) (get_or (after (Heard f) now).content.cells n 0) (k.bytes n low) left;
    }

-- a seat after an event that leaves its cells
keeps_same : (fs : List Frame) (e : Event) (start now : Seat) → Lawful now → (after e now).content.cells ≡ now.content.cells → Keeps fs start now → Keeps fs start (after e now)
keeps_same fs e start now h same k =
    record {
      kind = k.kind;
      address = k.address;
      size = ap length same ∙ k.size;
      bytes = λ n low. subst (λ t. LastLeft start.address start.kind.memory n fs (get_or start.content.cells n 0) (get_or t n 0)) (sym same) (k.bytes n low);
    }

all_more : (fs : List Frame) (f : Frame) (start ss : List Seat) → AllByRecursion Lawful ss → AllZip (Keeps fs) start ss → AllZip (Keeps (fs ++ f ∷ [])) start (after_all (Heard f) ss)
all_more fs f [] [] h k = tt
all_more fs f [] (s ∷ ss) h k = k
all_more fs f (t ∷ ts) [] h k = k
all_more fs f (t ∷ ts) (s ∷ ss) h k = (keeps_more fs f t s h.0 k.0, all_more fs f ts ss h.1 k.1)

all_same : (fs : List Frame) (e : Event) → ((m : Memory) → memory_after e m ≡ m) → (start ss : List Seat) → AllByRecursion Lawful ss → AllZip (Keeps fs) start ss → AllZip (Keeps fs) start (after_all e ss)
all_same fs e same [] [] h k = tt
all_same fs e same [] (s ∷ ss) h k = k
all_same fs e same (t ∷ ts) [] h k = k
all_same fs e same (t ∷ ts) (s ∷ ss) h k =
    let stays : (after e s).content.cells ≡ s.content.cells = (h.0 []).writes e ∙ ap (λ m. m.cells) (same (memory_of s)) in
    (keeps_same fs e t s h.0 stays k.0, all_same fs e same ts ss h.1 k.1)

-- the ledger that agrees with a bus, when these frames have passed
abbrev book : List Frame → Bus → Ledger
book fs x = record { queue = x.pending; passed = fs; memories = map memory_of x.seats }

abbrev noted : Call → Turn → Entry
noted c t = record { call = c; answer = t.answer; sent = t.sent }

-- what one turn of the house does to ledger and seats
record Follows (start : List Seat) (fs : List Frame) (x : Bus) (c : Call) (t : Turn) : Type 0 where
  passed : List Frame
  ledger : told (noted c t) (book fs x) ≡ book passed (record { seats = t.seats; pending = t.pending })
  keeps : AllZip (Keeps fs) start x.seats → AllZip (Keeps passed) start t.seats
  numbers : NumbersRight t.answer t.sent (book fs x) (told (noted c t) (book fs x))
  lawful : AllByRecursion Lawful t.seats

-- the ledger after an event at which no frame passes
quiet_event : (fs : List Frame) (ss : List Seat) (q : List Frame) → AllByRecursion Lawful ss → (e : Event) → ((m : Memory) → memory_after e m ≡ m) → book fs (record { seats = ss; pending = q ++ sent_all e ss }) ≡ book fs (record { seats = after_all e ss; pending = q ++ sent_all e ss })
quiet_event fs ss q h e same = λ i. record { queue = q ++ sent_all e ss; passed = fs; memories = sym (memories_same e same ss h) i }

-- a step with nothing pending is refused; the definition answers it with nothing done
step_follows : (start : List Seat) (fs : List Frame) (ss : List Seat) (q : List Frame) → AllByRecursion Lawful ss → (n : ℕ) → Follows start fs (record { seats = ss; pending = q }) (Step n) (decided None ss q (Step n))
step_follows start fs ss [] h n = record { passed = fs; ledger = refl; keeps = λ k. k; numbers = (refl, refl); lawful = h }
step_follows start fs ss (f ∷ q) h n =
    record {
      passed = fs ++ f ∷ [];
      ledger = λ i. record { queue = q ++ sent_all (Heard f) ss; passed = fs ++ f ∷ []; memories = sym (memories_after (Heard f) ss h) i };
      keeps = all_more fs f start ss h;
      numbers = (refl, refl);
      lawful = lawful_after (Heard f) ss h;
    }

served_follows : (start : List Seat) (fs : List Frame) (ss : List Seat) (q : List Frame) → AllByRecursion Lawful ss → (c : Call) → Follows start fs (record { seats = ss; pending = q }) c (decided None ss q c)
served_follows start fs ss q h (Put f) = record { passed = fs; ledger = refl; keeps = λ k. k; numbers = tt; lawful = h }
served_follows start fs ss q h (Push a c e n) =
    let push = Pushed (record { address = a; channel = c; edge = edge_of e }) in
    record { passed = fs; ledger = quiet_event fs ss q h push (λ m. refl); keeps = all_same fs push (λ m. refl) start ss h; numbers = (refl, refl); lawful = lawful_after push ss h }
served_follows start fs ss q h (Second n) =
    record { passed = fs; ledger = quiet_event fs ss q h ASecond (λ m. refl); keeps = all_same fs ASecond (λ m. refl) start ss h; numbers = (refl, refl); lawful = lawful_after ASecond ss h }
served_follows start fs ss q h (Step n) = step_follows start fs ss q h n
served_follows start fs ss q h Clear = record { passed = fs; ledger = refl; keeps = λ k. k; numbers = refl; lawful = h }
served_follows start fs ss q h (Record a n) = record { passed = fs; ledger = refl; keeps = λ k. k; numbers = tt; lawful = h }

follows : (start : List Seat) (fs : List Frame) (x : Bus) → AllByRecursion Lawful x.seats → (c : Call) → Follows start fs x c (turn x.seats x.pending c)
follows start fs x h c = by (first_refusal (checks x.seats x.pending c))
  where
    by : (o : Option Refusal) → Follows start fs x c (decided o x.seats x.pending c)
    by None = served_follows start fs x.seats x.pending h c
    by (Some r) = record { passed = fs; ledger = refl; keeps = λ k. k; numbers = tt; lawful = h }

throughout : (start : List Seat) (fs : List Frame) (x : Bus) (es : List Entry) (y : Bus) → AllByRecursion Lawful x.seats → AllZip (Keeps fs) start x.seats → Run x es y → Throughout start (book fs x) x es
throughout start fs x [] y h k run = record { queue = refl; memories = refl; seats = k }
throughout start fs x (e ∷ es) y h k run =
    let f = follows start fs x h e.call in
    let ledger : told e (book fs x) ≡ book f.passed (called e.call x) = ap (λ z. told z (book fs x)) run.0 ∙ f.ledger in
    let now : Agrees start (book fs x) x = record { queue = refl; memories = refl; seats = k } in
    let numbers = subst (λ z. NumbersRight z.answer z.sent (book fs x) (told z (book fs x))) (sym run.0) f.numbers in
    let later = throughout start f.passed (called e.call x) es y f.lawful (f.keeps k) run.1 in
    (now, numbers, subst (λ l. Throughout start l (called e.call x) es) (sym ledger) later)

-- at first, each cell holds its first content
kept_at_first : (ss : List Seat) → AllByRecursion Lawful ss → AllZip (Keeps []) ss ss
kept_at_first [] h = tt
kept_at_first (s ∷ ss) h = (record { kind = refl; address = refl; size = (h.0 []).sized; bytes = λ n low. kept tt refl }, kept_at_first ss h.1)

pub memory_law : (ss : List Seat) → AllByRecursion Lawful ss → MemoryLaw ss
memory_law ss h es y run = throughout ss [] (quiet ss) es y h (kept_at_first ss h) run
