-- Bytes that are written to a buffer one after the other. Assumes nothing.
use Rattle.std.proofs.Common.{◌≡◌, ℕ, ◌+◌, ◌*◌, ◌<◌, ◌≤◌, arith, length-append, List, [], ◌∷◌, ◌++◌, length, take, drop, set, get_or, refl, sym, ap, ◌∙◌}
use Rattle.std.specs.List.{flat_map}
use Rattle.std.proofs.lemmas.List.{append_assoc, drop-drop, drop_more, length-take-le, take_all, take_more}
use Rattle.std.proofs.lemmas.Grind.{flat_map-append}
use Rattle.std.proofs.lemmas.Slice.{put_mid-paste}
use Rattle.std.proofs.Math.Seq.{take-append_seam, drop-append-add, set-append_seam}
use borrow.Rule.Slice.PartMut.{put_mid}
use Rattle.bus.specs.declared.frame.Frame.{Frame}
use Rattle.house.specs.Turns.{copied_in}
use Rattle.benchlog.specs.Bytes.{sent_bytes}

-- what is written behind the front joins it
pub copied_more : (done ys old part : List ℕ) (n k : ℕ) → n ≡ length done → k ≡ length ys → part ≡ ys → put_mid n k (copied_in done old) part ≡ copied_in (done ++ ys) old
copied_more done ys old part n k e f p =
    let m = length done in
    let rest = drop m old in
    put_mid-paste n k (copied_in done old) part ys k p refl f
    ∙ ap (λ j. take j (done ++ rest) ++ take k ys ++ drop (j + k) (done ++ rest)) e
    ∙ ap (λ t. t ++ take k ys ++ drop (m + k) (done ++ rest)) (take-append_seam done rest)
    ∙ ap (λ t. done ++ t ++ drop (m + k) (done ++ rest)) (take_all k ys (omega (arith, f)))
    ∙ ap (λ t. done ++ ys ++ t) (drop-append-add done rest k ∙ drop-drop k m old ∙ ap (λ j. drop j old) (omega (arith, f, length-append done ys)))

-- so many bytes are written for frames
pub bytes_counted : (fs : List Frame) → length (flat_map sent_bytes fs) ≡ 13 * length fs
bytes_counted [] = refl
bytes_counted (f ∷ fs) = omega (arith, bytes_counted fs)

pub first_counted : (fs : List Frame) (n : ℕ) → n ≤ length fs → length (flat_map sent_bytes (take n fs)) ≡ 13 * n
first_counted fs n h = bytes_counted (take n fs) ∙ ap (λ m. 13 * m) (length-take-le n fs h)

-- one frame more
pub bytes_more : (fs : List Frame) (n : ℕ) (d : Frame) → n < length fs → flat_map sent_bytes (take n fs) ++ sent_bytes (get_or fs n d) ≡ flat_map sent_bytes (take (n + 1) fs)
bytes_more fs n d h = sym (ap (flat_map sent_bytes) (take_more fs n d h) ∙ flat_map-append sent_bytes (take n fs) (get_or fs n d ∷ []))

-- one byte more
pub byte_more : (done old : List ℕ) (n b : ℕ) → n ≡ length done → n < length old → set (copied_in done old) n b ≡ copied_in (done ++ b ∷ []) old
byte_more done old n b e h =
    let m = length done in
    ap (λ j. set (copied_in done old) j b) e
    ∙ ap (λ t. set (done ++ t) m b) (drop_more old m 0 (omega (arith, e, h)))
    ∙ set-append_seam done (get_or old m 0) (drop (m + 1) old) b
    ∙ sym (append_assoc done (b ∷ []) (drop (m + 1) old))
    ∙ ap (λ j. done ++ b ∷ [] ++ drop j old) (omega (arith, length-append done (b ∷ [])))
