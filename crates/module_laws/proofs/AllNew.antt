-- What a new module remembers, and where it stands in its record. Assumes nothing.
use Rattle.std.proofs.Common.{◌≡◌, ℕ, ltb, replicate, get_or, inl, inr, arith, length-append}
use Rattle.std.proofs.lemmas.Bool.{cases_Bool, ltb-true, ltb-false}
use Rattle.std.proofs.lemmas.List.{get_or-replicate, get_or_past, length-replicate, get_or_append_left, get_or-append-add}
use Rattle.module_laws.specs.AllNew.{Blank, NewModules, RecordsAreInPlace}

zero : (n i : ℕ) → get_or {A = ℕ} (replicate n 0) i 0 ≡ 0
zero n i =
    let none : ℕ = 0 in
    elim (cases_Bool (ltb i n)) [
      | inl e ↦ get_or-replicate n i none none (ltb-true i n e)
      | inr e ↦ get_or_past (replicate n none) i none (omega (arith, ltb-false i n e, length-replicate n none))
    ]

blank : (cells state_bytes : ℕ) → Blank cells state_bytes (record { cells = replicate cells 255; state = replicate state_bytes 0 })
blank cells state_bytes =
    let full : ℕ = 255 in
    let none : ℕ = 0 in
    record {
      cells = length-replicate cells full;
      erased = λ i h. get_or-replicate cells i full none h;
      state = length-replicate state_bytes none;
      zeros = zero state_bytes;
    }

pub new_modules : NewModules
new_modules = record { relay = λ s own. blank 1024 16; panel = λ s own. blank 256 4; buttons = λ s own. blank 1024 32 }

pub records_are_in_place : RecordsAreInPlace
records_are_in_place r =
    record { cells = λ n h. get_or_append_left r.cells r.state 0 n h; state = λ n. get_or-append-add r.cells r.state n 0; count = length-append r.cells r.state }
