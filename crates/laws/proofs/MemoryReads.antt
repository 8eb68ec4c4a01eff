-- What comes of a memory read. Assumes nothing.
use Rattle.std.proofs.Common.{◌≡◌, ℕ, ◌+◌, ◌≤◌, true, false, cond, ◌||◌, eqb, leb, List, [], ◌∷◌, length, take, drop, sym, refl, ap, ◌∙◌, subst, arith}
use Rattle.std.proofs.lemmas.Bool.{cond-true, cond-false, cond_both, or_left, le-leb, lt-leb}
use Rattle.bus.specs.declared.frame.Frame.{Frame}
use Rattle.bus.specs.Frames.{byte, is_command, message}
use Rattle.bus.proofs.Commands.{other_command}
use Rattle.station.specs.declared.event.Event.TheVariants.{Heard}
use Rattle.station.specs.Kinds.{Record}
use Rattle.station.specs.Rules.{cell, payload, put, stored}
use Rattle.module.specs.Designs.{Design, answered, designed}
use Rattle.module.specs.Memories.{cell_frame, block_frame, in_memory, memory_sent}
use Rattle.kinds.specs.Kinds.{EveryModule}
use Rattle.laws.specs.Blocks.{block}
use Rattle.laws.specs.MemoryReads.{CellsRead, AnswersReads, ReadsBack}
use Rattle.module.proofs.Answered.{at_own}
use Rattle.laws.proofs.Blocks.{takes_block_writes}
use Rattle.station.proofs.Puts.{length-put}
use Rattle.laws.proofs.Cells.{four, four-put, take_one, take_four}
use Rattle.laws.proofs.Commands.{MemoryOnly, ByMemory, memory_only, every_by_memory}

-- a command that writes nothing stores nothing
stored_none : (code n : ℕ) (cells : List ℕ) (f : Frame) → is_command code n f ≡ true → eqb code 0xFC ≡ false → eqb code 0xCA ≡ false → stored cells f ≡ cells
stored_none code n cells f w one block =
    let none : payload f ≡ [] =
    cond-false (is_command 0xFC 4 f) _ _ (other_command code n f w 0xFC 4 one) ∙ cond-false (is_command 0xCA 7 f) _ _ (other_command code n f w 0xCA 7 block) in
    ap (λ bs. cond (leb (cell f + length bs) (length cells)) (put cells (cell f) bs) cells) none
    ∙ cond_both (leb (cell f + 0) (length cells)) cells cells (λ t. t ≡ cells) (λ _. refl) (λ _. refl)

-- what a memory sends is a reply if the cells asked for are there
module _ (d : Design) (m : ByMemory d) (own : ℕ) (r : Record) (f : Frame) (e : f.address ≡ own) where
  cells_read : (code n : ℕ) (g : Frame) → MemoryOnly f → memory_sent own r.cells f ≡ in_memory n f r.cells g → stored r.cells f ≡ r.cells →
      (cell f + n ≤ length r.cells → g ≡ message 3 own (code ∷ byte f 1 ∷ byte f 2 ∷ take n (drop (cell f) r.cells))) → CellsRead own code n r f (answered d own r (Heard f))
  cells_read code n g only sent none is =
      let sends = m.sends own r f only ∙ sent in
      subst (CellsRead own code n r f) (sym (at_own d own r f e)) (record {
        answer = λ h. sends ∙ (cond-true (leb (cell f + n) (length r.cells)) _ _ (le-leb _ _ h) ∙ ap (λ t. t ∷ []) (is h));
        no_answer = λ h. sends ∙ cond-false (leb (cell f + n) (length r.cells)) _ _ (lt-leb _ _ h);
        stores_none = m.stores own r f ∙ none;
      })

  one_read : is_command 0xFD 3 f ≡ true → CellsRead own 0xFE 1 r f (answered d own r (Heard f))
  one_read w =
      cells_read 0xFE 1 (cell_frame own f r.cells) (memory_only 0xFD 3 f w refl refl refl refl refl) (cond-true (is_command 0xFD 3 f) _ _ w)
      (stored_none 0xFD 3 r.cells f w refl refl) (λ h. ap (λ bs. message 3 own (0xFE ∷ byte f 1 ∷ byte f 2 ∷ bs)) (take_one r.cells (cell f) h))

  four_read : is_command 0xC9 3 f ≡ true → CellsRead own 0xCC 4 r f (answered d own r (Heard f))
  four_read w =
      let cells = r.cells in
      let none = stored_none 0xC9 3 cells f w refl refl in
      cells_read 0xCC 4 (block_frame own f (stored cells f)) (memory_only 0xC9 3 f w refl refl refl refl refl)
      (cond-false (is_command 0xFD 3 f) _ _ (other_command 0xC9 3 f w 0xFD 3 refl)
      ∙ cond-true (is_command 0xC9 3 f || is_command 0xCA 7 f) _ _ (or_left (is_command 0xC9 3 f) (is_command 0xCA 7 f) w))
      none (λ h. ap (λ bs. message 3 own (0xCC ∷ byte f 1 ∷ byte f 2 ∷ bs)) (ap (λ t. four t (cell f)) none ∙ take_four cells (cell f) h))

reads_back : (d : Design) → ByMemory d → ReadsBack (designed d)
reads_back d m own r w f at-w is-w fits at_f is_f same =
    let cells = r.cells in
    let a = cell w in
    let written = put cells a (block w) in
    let now = (answered d own r (Heard w)).after in
    let stores : now.cells ≡ written = (takes_block_writes d m own r w at-w is-w).stores fits in
    let size : length now.cells ≡ length cells = ap length stores ∙ length-put cells a (block w) in
    let long : a + 4 ≤ length written = omega (arith, length-put cells a (block w)) in
    let held : take 4 (drop (cell f) now.cells) ≡ block w =
    ap (λ j. take 4 (drop j now.cells)) same
    ∙ (ap (λ t. take 4 (drop a t)) stores ∙ (sym (take_four written a long) ∙ four-put cells a (byte w 3) (byte w 4) (byte w 5) (byte w 6) fits)) in
    (four_read d m own now f at_f is_f).answer (omega arith) ∙ ap (λ bs. message 3 own (0xCC ∷ byte f 1 ∷ byte f 2 ∷ bs) ∷ []) held

pub every_reads_one : EveryModule (AnswersReads 0xFD 0xFE 1)
every_reads_one = every_by_memory (AnswersReads 0xFD 0xFE 1) one_read

pub every_reads_four : EveryModule (AnswersReads 0xC9 0xCC 4)
every_reads_four = every_by_memory (AnswersReads 0xC9 0xCC 4) four_read

pub every_reads_back : EveryModule ReadsBack
every_reads_back = every_by_memory ReadsBack reads_back
