-- How a run of a log goes on. Assumes nothing.
use Rattle.std.proofs.Common.{◌≡◌, ℕ, List, [], ◌∷◌, ◌++◌, length, take, drop, Some, None, Option, Ok, Err, sym, ap, ◌∙◌}
use Rattle.std.specs.List.{flat_map}
use Rattle.std.specs.Io.KnownBytes.{Appends}
use Rattle.std.proofs.lemmas.List.{append_assoc, append-nil, map-append}
use Rattle.std.proofs.lemmas.Grind.{flat_map-append}
use Rattle.std.proofs.Math.Seq.{take-append_seam}
use Rattle.house.specs.Turns.{Bus, copied_in}
use Rattle.runs.specs.Runs.{entry}
use Rattle.runs.proofs.Making.{run_more}
use Rattle.benchlog.specs.Items.{Found, recorded}
use Rattle.benchlog.specs.Bytes.{fault_bytes}
use Rattle.benchlog.specs.Benches.{RanItems, entry_bytes, item_bytes, after_found, found_bytes, call_in, end_in}

-- one item or fault more
pub ran_more : (fs : List Found) (f : Found) (x y : Bus) (bytes : List ℕ) → flat_map end_in fs ≡ [] → RanItems fs x y bytes → RanItems (fs ++ f ∷ []) x (after_found f y) (bytes ++ found_bytes y f)
ran_more fs (Ok i) x y bytes e r =
    let new = entry y (recorded i) in
    let first = flat_map entry_bytes r.entries in
    let last = item_bytes y i in
    record {
      entries = r.entries ++ new ∷ [];
      run = run_more x r.entries y (recorded i) r.run;
      calls = map-append (λ k. k.call) r.entries (new ∷ []) ∙ ap (λ cs. cs ++ recorded i ∷ []) r.calls ∙ sym (flat_map-append call_in fs (Ok i ∷ []));
      answers =
          ap (λ t. t ++ last) (r.answers ∙ ap (λ t. first ++ t) e ∙ append-nil first)
          ∙ sym (ap (λ t. t ++ flat_map end_in (fs ++ Ok i ∷ [])) (flat_map-append entry_bytes r.entries (new ∷ []) ∙ ap (λ t. first ++ t) (append-nil last))
          ∙ ap (λ t. first ++ last ++ t) (flat_map-append end_in fs (Ok i ∷ []) ∙ ap (λ t. t ++ []) e)
          ∙ append-nil (first ++ last));
    }
ran_more fs (Err g) x y bytes e r =
    let first = flat_map entry_bytes r.entries in
    let last = fault_bytes g in
    record {
      entries = r.entries;
      run = r.run;
      calls = r.calls ∙ sym (flat_map-append call_in fs (Err g ∷ []) ∙ append-nil (flat_map call_in fs));
      answers =
          ap (λ t. t ++ last) (r.answers ∙ ap (λ t. first ++ t) e ∙ append-nil first)
          ∙ sym (ap (λ t. first ++ t) (flat_map-append end_in fs (Err g ∷ []) ∙ ap (λ t. t ++ (last ++ [])) e ∙ append-nil last));
    }

-- the front of a buffer that bytes were copied in
pub front : (bytes old : List ℕ) (n : ℕ) (new : List ℕ) → n ≡ length bytes → new ≡ copied_in bytes old → take n new ≡ bytes
front bytes old n new e f = ap (take n) f ∙ ap (λ m. take m (copied_in bytes old)) e ∙ take-append_seam bytes (drop (length bytes) old)

-- what was written first, and then the rest
pub appended : (a b c : Option (List ℕ)) (bs cs : List ℕ) → Appends a b bs → Appends b c cs → Appends a c (bs ++ cs)
appended None b c bs cs h k = tt
appended (Some xs) None c bs cs h k = absurd h
appended (Some xs) (Some ys) None bs cs h k = absurd k
appended (Some xs) (Some ys) (Some zs) bs cs h k = k ∙ ap (λ t. t ++ cs) h ∙ append_assoc xs bs cs
