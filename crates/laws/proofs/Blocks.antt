-- What comes of a block write. Assumes nothing.
use Rattle.std.proofs.Common.{◌≡◌, ℕ, ◌+◌, ◌<◌, ◌≤◌, true, cond, ◌||◌, leb, List, [], ◌∷◌, length, sym, refl, ap, ◌∙◌, subst}
use Rattle.std.proofs.lemmas.Bool.{cond-true, cond-false, or_right, le-leb, lt-leb}
use Rattle.bus.specs.declared.frame.Frame.{Frame}
use Rattle.bus.specs.Frames.{byte, is_command, message}
use Rattle.bus.proofs.Commands.{other_command}
use Rattle.station.specs.Rules.{cell, payload, put, stored}
use Rattle.module.specs.Designs.{Design, designed}
use Rattle.module.specs.Memories.{block_frame, in_memory, memory_sent}
use Rattle.relay.specs.Relays.{contacts, commanded, named_channels, carried_out}
use Rattle.relay.specs.Relays.{design as relay_design}
use Rattle.relay.proofs.Decoded.{decoded}
use Rattle.laws.specs.Blocks.{block, BlockWritten, TakesBlockWrites, BlockWritesKeepChannels}
use Rattle.kinds.specs.Kinds.{EveryRelay, EveryModule}
use Rattle.module.proofs.Answered.{at_own}
use Rattle.laws.proofs.Cells.{four, four-put}
use Rattle.laws.proofs.Commands.{MemoryOnly, ByMemory, memory_only, every_by_memory}

block_only : (f : Frame) → is_command 0xCA 7 f ≡ true → MemoryOnly f
block_only f w = memory_only 0xCA 7 f w refl refl refl refl refl

module _ (cells : List ℕ) (f : Frame) (w : is_command 0xCA 7 f ≡ true) where
  carries : payload f ≡ block f
  carries = cond-false (is_command 0xFC 4 f) _ _ (other_command 0xCA 7 f w 0xFC 4 refl) ∙ cond-true (is_command 0xCA 7 f) _ _ w

  stored_block : stored cells f ≡ cond (leb (cell f + 4) (length cells)) (put cells (cell f) (block f)) cells
  stored_block = ap (λ bs. cond (leb (cell f + length bs) (length cells)) (put cells (cell f) bs) cells) carries

  stored_fits : cell f + 4 ≤ length cells → stored cells f ≡ put cells (cell f) (block f)
  stored_fits h = stored_block ∙ cond-true (leb (cell f + 4) (length cells)) _ _ (le-leb _ _ h)

  stored_past : length cells < cell f + 4 → stored cells f ≡ cells
  stored_past h = stored_block ∙ cond-false (leb (cell f + 4) (length cells)) _ _ (lt-leb _ _ h)

  sent_block : (own : ℕ) → memory_sent own cells f ≡ in_memory 4 f cells (block_frame own f (stored cells f))
  sent_block own =
      cond-false (is_command 0xFD 3 f) _ _ (other_command 0xCA 7 f w 0xFD 3 refl)
      ∙ cond-true (is_command 0xC9 3 f || is_command 0xCA 7 f) _ _ (or_right (is_command 0xC9 3 f) (is_command 0xCA 7 f) w)

  sent_fits : (own : ℕ) → cell f + 4 ≤ length cells → memory_sent own cells f ≡ message 3 own (0xCC ∷ byte f 1 ∷ byte f 2 ∷ block f) ∷ []
  sent_fits own h =
      let held : four (stored cells f) (cell f) ≡ block f = ap (λ t. four t (cell f)) (stored_fits h) ∙ four-put cells (cell f) (byte f 3) (byte f 4) (byte f 5) (byte f 6) h in
      sent_block own ∙ (cond-true (leb (cell f + 4) (length cells)) _ _ (le-leb _ _ h) ∙ ap (λ bs. message 3 own (0xCC ∷ byte f 1 ∷ byte f 2 ∷ bs) ∷ []) held)

  sent_past : (own : ℕ) → length cells < cell f + 4 → memory_sent own cells f ≡ []
  sent_past own h = sent_block own ∙ cond-false (leb (cell f + 4) (length cells)) _ _ (lt-leb _ _ h)

pub takes_block_writes : (d : Design) → ByMemory d → TakesBlockWrites (designed d)
takes_block_writes d m own r f e w =
    let sends = m.sends own r f (block_only f w) in
    let stores = m.stores own r f in
    let cells = r.cells in
    subst (BlockWritten own r f) (sym (at_own d own r f e)) (record {
      answer = λ h. sends ∙ sent_fits cells f w own h;
      stores = λ h. stores ∙ stored_fits cells f w h;
      no_answer = λ h. sends ∙ sent_past cells f w own h;
      stores_none = λ h. stores ∙ stored_past cells f w h;
    })

pub every_takes_block_writes : EveryModule TakesBlockWrites
every_takes_block_writes = every_by_memory TakesBlockWrites takes_block_writes

pub block_writes_keep_channels : EveryRelay BlockWritesKeepChannels
block_writes_keep_channels s own r f e w =
    ap (λ o. contacts o.after) (at_own (relay_design s) own r f e)
    ∙ (decoded (stored r.cells f) (carried_out (commanded f) (named_channels f) (contacts r))
    ∙ ap (λ a. carried_out a (named_channels f) (contacts r)) (block_only f w).no_action)
