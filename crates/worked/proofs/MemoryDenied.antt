-- What the law of memory denies. Assumes nothing.
use Rattle.std.proofs.Common.{◌≡◌, ℕ, zero, suc, ◌+◌, ◌<◌, Bool, true, false, List, [], ◌∷◌, ◌++◌, length, replicate, is_some, Some, None, Option, MatchOption, ◌==◌, slice_index, sym, refl, subst, ap, ◌∙◌, arith}
use Rattle.std.proofs.lemmas.List.{append_assoc}
use Rattle.std.specs.List.{AllByRecursion}
use Rattle.std.proofs.ByRecursion.{All-append}
use Rattle.bus.specs.declared.frame.Frame.{Frame}
use Rattle.station.specs.Kinds.{Seat, Kind}
use Rattle.runs.specs.Ledgers.{Ledger, Memory}
use Rattle.runs.specs.Memory.{left_in, Unwritten, LastLeft, left, kept, Keeps}
use Rattle.worked.specs.WorkedRun.{relay_at, panel_at, no_links, linked_cells, link_write, long_write}
use Rattle.worked.specs.Denied.{sound, MemoryDenied}

-- a byte, if there is one, else another
abbrev or_else : ℕ → Option ℕ → ℕ
or_else b None = b
or_else b (Some c) = c

module _ (own size n : ℕ) where
  -- the byte that the last of these frames left that writes the cell
  abbrev last_byte : List Frame → ℕ → ℕ
  last_byte [] b = b
  last_byte (f ∷ fs) b = last_byte fs (or_else b (left_in own size n f))

  unwritten_stays : (fs : List Frame) (b : ℕ) → Unwritten own size n fs → last_byte fs b ≡ b
  unwritten_stays [] b u = refl
  unwritten_stays (f ∷ fs) b u = ap (λ o. last_byte fs (or_else b o)) u.0 ∙ unwritten_stays fs b u.1

  at_last : (before : List Frame) (f : Frame) (later : List Frame) (initial b : ℕ) → left_in own size n f ≡ Some b → Unwritten own size n later → last_byte (before ++ f ∷ later) initial ≡ b
  at_last [] f later initial b l u = ap (λ o. last_byte later (or_else initial o)) l ∙ unwritten_stays later b u
  at_last (g ∷ before) f later initial b l u = at_last before f later (or_else initial (left_in own size n g)) b l u

  -- so the byte can be worked out
  is_last : (fs : List Frame) (initial b : ℕ) → LastLeft own size n fs initial b → last_byte fs initial ≡ b
  is_last fs initial b (left before f later e l u) = ap (λ t. last_byte t initial) e ∙ at_last before f later initial b l u
  is_last fs initial b (kept u e) = unwritten_stays fs initial u ∙ sym e

  one_byte : (initial b c : ℕ) (fs : List Frame) → LastLeft own size n fs initial b → LastLeft own size n fs initial c → b ≡ c
  one_byte initial b c fs h k = sym (is_last fs initial b h) ∙ is_last fs initial c k

-- of a relay at the start and now, the byte of a cell is that
byte_now : (fs : List Frame) (now : Seat) → Keeps fs (relay_at 0x10 no_links 0) now → (n : ℕ) → n < 1024 → last_byte 0x10 1024 n fs (slice_index no_links n) ≡ slice_index now.content.cells n
byte_now fs now k n low = is_last 0x10 1024 n fs _ _ (k.bytes n low)

-- the byte of cell 0x3C of the second memory
abbrev first_byte_of : List Memory → ℕ
first_byte_of [] = 0
first_byte_of (m ∷ []) = 0
first_byte_of (m ∷ n ∷ ms) = slice_index n.cells 0x3C

pub memory_denied : MemoryDenied
memory_denied =
    record {
      decided = one_byte;
      unwritten = λ k. omega (arith, byte_now _ _ k 0x3C (omega arith));
      forgotten = λ k. omega (arith, byte_now _ _ k 0x3C (omega arith));
      older = λ k. omega (arith, byte_now _ _ k 0x3C (omega arith));
      half = λ k. omega (arith, byte_now _ _ k 0x3FD (omega arith));
      moved = λ k. omega (arith, k.address);
      turned = λ k. omega (arith, ap (λ t. t.memory) k.kind);
      shrunk = λ k. omega (arith, k.size);
      sent = λ h. omega (arith, h.0);
      waiting = λ h. omega (arith, h.1);
      removed = λ h. omega (arith, h);
      queue = λ a. omega (arith, ap length a.queue);
      cells = λ a. omega (arith, ap first_byte_of a.memories);
      throughout = λ h. omega (arith, h.1);
      at_the_end = λ a. omega (arith, ap first_byte_of a.memories);
    }
