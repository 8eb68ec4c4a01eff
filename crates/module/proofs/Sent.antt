-- How much the shared parts send. Assumes nothing.
use Rattle.std.proofs.Common.{ℕ, ◌+◌, ◌≤◌, Bool, cond, ◌||◌, leb, List, [], ◌∷◌, length, arith}
use Rattle.std.specs.List.{AllByRecursion}
use Rattle.std.proofs.lemmas.Bool.{cond_both}
use Rattle.bus.specs.declared.frame.Frame.{Frame}
use Rattle.bus.specs.Frames.{is_command}
use Rattle.station.specs.Rules.{cell, stored}
use Rattle.module.specs.Memories.{cell_frame, block_frame, in_memory, memory_sent}

-- a frame or none
pub one_at_most : (b : Bool) (f : Frame) → length (cond b (f ∷ []) []) ≤ 1
one_at_most b f = cond_both b (f ∷ []) [] (λ t. length t ≤ 1) (λ _. omega arith) (λ _. omega arith)

pub memory_sends_one : (own : ℕ) (cells : List ℕ) (f : Frame) → length (memory_sent own cells f) ≤ 1
memory_sends_one own cells f =
    let block = in_memory 4 f cells (block_frame own f (stored cells f)) in
    let blocks : Bool = is_command 0xC9 3 f || is_command 0xCA 7 f in
    cond_both (is_command 0xFD 3 f) (in_memory 1 f cells (cell_frame own f cells)) (cond blocks block []) (λ t. length t ≤ 1)
    (λ _. one_at_most (leb (cell f + 1) (length cells)) (cell_frame own f cells))
    (λ _. cond_both blocks block [] (λ t. length t ≤ 1) (λ _. one_at_most (leb (cell f + 4) (length cells)) (block_frame own f (stored cells f))) (λ _. omega arith))

-- what holds of a frame holds of all where it is sent or none is
pub all_one : (P : Frame → Type 0) (b : Bool) (f : Frame) → P f → AllByRecursion P (cond b (f ∷ []) [])
all_one P b f p = cond_both b (f ∷ []) [] (AllByRecursion P) (λ _. (p, tt)) (λ _. tt)

-- what holds of the two replies holds of all that a memory sends
pub all_memory : (P : Frame → Type 0) (own : ℕ) (cells : List ℕ) (f : Frame) → P (cell_frame own f cells) → P (block_frame own f (stored cells f)) → AllByRecursion P (memory_sent own cells f)
all_memory P own cells f p q =
    let block = in_memory 4 f cells (block_frame own f (stored cells f)) in
    let blocks : Bool = is_command 0xC9 3 f || is_command 0xCA 7 f in
    cond_both (is_command 0xFD 3 f) (in_memory 1 f cells (cell_frame own f cells)) (cond blocks block []) (AllByRecursion P)
    (λ _. all_one P (leb (cell f + 1) (length cells)) (cell_frame own f cells) p)
    (λ _. cond_both blocks block [] (AllByRecursion P) (λ _. all_one P (leb (cell f + 4) (length cells)) (block_frame own f (stored cells f)) q) (λ _. tt))
