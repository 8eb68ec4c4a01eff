-- What is answered to a call that was served. Assumes nothing.
use Rattle.std.specs.Prelude.{if◌then◌else◌}
use Rattle.std.proofs.Common.{◌≡◌, ℕ, arith, Bool, true, false, nat_lt, List, [], ◌∷◌, ◌++◌, take, Ok, Result, refl, sym, ap, ◌∙◌}
use Rattle.bus.specs.declared.frame.Frame.{Frame}
use Rattle.bus.specs.declared.refusal.Refusal.{Refusal}
use Rattle.bus.specs.declared.refusal.Refusal.TheVariants.{ShortBuffer}
use Rattle.station.specs.Kinds.{Seat}
use Rattle.house.specs.Faults.{builder}
use Rattle.house.specs.declared.call.Call.{Call}
use Rattle.house.specs.Turns.{Bus, turn, decided, with_places, copied_in, Rises}
use Rattle.runs.specs.declared.entry.Reply.{Reply}
use Rattle.runs.specs.declared.entry.Reply.TheVariants.{Accepted, Counts, Cleared, Byte}
use Rattle.runs.specs.Replays.{answer_of, shown_reply}
use Rattle.runs.specs.Making.{sent_number}
use Rattle.runs.proofs.Making.{sent_kept}
use Rattle.benchlog.specs.declared.kind.ItemKind.{ItemKind}
use Rattle.benchlog.specs.declared.kind.ItemKind.TheVariants.{Put, Second, Push, Step, Clear}
use Rattle.benchlog.specs.Items.{LogItem, bench_places, call_of, recorded}
use Rattle.benchlog.specs.Bytes.{answer_bytes, served_bytes}
use Rattle.benchlog.specs.Benches.{item_bytes, RefusedItems, AnswerNumbersRise}

reply_bytes : (r : Reply) (fs : List Frame) → answer_bytes (answer_of r) fs ≡ served_bytes fs
reply_bytes Accepted fs = refl
reply_bytes (Counts s p) fs = refl
reply_bytes (Cleared n) fs = refl
reply_bytes (Byte b) fs = refl

-- the call of an item says the places of a bench's buffer
bench_call : (k : ItemKind) (body : List ℕ) → with_places bench_places (call_of k body) ≡ call_of k body
bench_call Put body = refl
bench_call Second body = refl
bench_call Push body = refl
bench_call Step body = refl
bench_call Clear body = refl

-- the frames that the call of an item left at the front of a bench's buffer, as bytes, are its answer
pub item_served : (x : Bus) (i : LogItem) (n : ℕ) (c : Call) (r : Result Reply Refusal) (reply : Reply) (old new : List Frame) → n ≡ bench_places → c ≡ recorded i → r ≡ Ok reply → shown_reply r ≡ (turn x.seats x.pending (with_places n c)).answer → new ≡ copied_in (turn x.seats x.pending (with_places n c)).sent old → served_bytes (take (sent_number (shown_reply r)) new) ≡ item_bytes x i
item_served x i n c r reply old new e f g a b =
    let d = with_places n c in
    let fs = (turn x.seats x.pending d).sent in
    let same : d ≡ recorded i = ap (λ m. with_places m c) e ∙ ap (with_places bench_places) f ∙ bench_call i.kind i.body in
    let kept = ap (take (sent_number (shown_reply r))) b ∙ ap (λ z. take (sent_number z) (copied_in fs old)) a ∙ sent_kept x.seats x.pending d old in
    ap served_bytes kept
    ∙ sym (reply_bytes reply fs)
    ∙ ap (λ z. answer_bytes (shown_reply z) fs) (sym g)
    ∙ ap (λ z. answer_bytes z fs) a
    ∙ ap (λ k. answer_bytes (turn x.seats x.pending k).answer (turn x.seats x.pending k).sent) same

-- a call that is refused does nothing
pub refused_items : RefusedItems
refused_items x i r e =
    let c = recorded i in
    (ap (λ o. record { seats = (decided o x.seats x.pending c).seats; pending = (decided o x.seats x.pending c).pending }) e, ap (λ o. answer_bytes (decided o x.seats x.pending c).answer (decided o x.seats x.pending c).sent) e)

-- the numbers that refuse a buffer
rise_if : (ss : List Seat) (b : Bool) → Rises (if b then builder ss ++ (true, ShortBuffer) ∷ [] else [])
rise_if ss true = search arith
rise_if ss false = tt

pub answer_numbers_rise : AnswerNumbersRise
answer_numbers_rise ss places = rise_if ss (nat_lt places 360)
