-- The frames of entries. Assumes nothing.
use Rattle.std.proofs.Common.{◌≡◌, ℕ, ◌+◌, ◌<◌, List, [], ◌∷◌, ◌++◌, take, length, get_or, map, vec_items, sym, ap, ◌∙◌}
use Rattle.std.proofs.lemmas.List.{flat_map_more, map-append, take_more}
use Rattle.runs.specs.declared.entry.Entry.{Entry as NotedEntry}
use Rattle.runs.specs.Isolation.{all_sent}
use Rattle.runs.specs.Runs.{Entry}
use Rattle.runs.specs.Replays.{shown_entry}

-- with one entry more
pub sent_more : (es : List NotedEntry) (k : ℕ) (d : NotedEntry) → k < length es → all_sent (map shown_entry (take (k + 1) es)) ≡ all_sent (map shown_entry (take k es)) ++ vec_items (get_or es k d).sent
sent_more es k d h =
    let e = get_or es k d in
    ap (λ xs. all_sent (map shown_entry xs)) (take_more es k d h) ∙ (ap all_sent (map-append shown_entry (take k es) (e ∷ [])) ∙ sym (flat_map_more (λ (x : Entry). x.sent) [] (map shown_entry (take k es)) (shown_entry e)))
