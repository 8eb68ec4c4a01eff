-- The state bytes tell the state that they were made of, whatever follows them. Assumes nothing.
use Rattle.std.proofs.Common.{◌≡◌, ℕ, ◌+◌, ◌*◌, ◌/◌, ◌%◌, List, [], ◌∷◌, ◌++◌, length, get_or, sym, refl, ap, ◌∙◌, arith}
use Rattle.std.proofs.lemmas.List.{length-map}
use Rattle.module.specs.declared.lamps.Lamps.{Lamps}
use Rattle.timing.specs.Shown.{held}
use Rattle.timing.specs.Times.{Time}
use Rattle.interface.specs.declared.interface.Interface.{Interface}
use Rattle.interface.specs.States.{State, encoded, decoded, state_of}

one_decoded : (h : ℕ) → h / 65536 * 65536 + h / 256 % 256 * 256 + h % 256 ≡ h
one_decoded h = omega arith

pub decoded_encoded : (l : Lamps) (pressed a b c d e f g h : ℕ) (t : Time) (more : List ℕ) → let x : State = record { lamps = l; pressed = pressed; holds = a ∷ b ∷ c ∷ d ∷ e ∷ f ∷ g ∷ h ∷ []; clock = t } in decoded (encoded x ++ more) ≡ x
decoded_encoded l pressed a b c d e f g h t more =
    λ i. record { lamps = l; pressed = pressed; holds = one_decoded a i ∷ one_decoded b i ∷ one_decoded c i ∷ one_decoded d i ∷ one_decoded e i ∷ one_decoded f i ∷ one_decoded g i ∷ one_decoded h i ∷ []; clock = t }

-- eight holds, one by one
eight : (hs : List ℕ) → length hs ≡ 8 → hs ≡ get_or hs 0 0 ∷ get_or hs 1 0 ∷ get_or hs 2 0 ∷ get_or hs 3 0 ∷ get_or hs 4 0 ∷ get_or hs 5 0 ∷ get_or hs 6 0 ∷ get_or hs 7 0 ∷ []
eight [] e = absurd (omega arith)
eight (a ∷ []) e = absurd (omega arith)
eight (a ∷ b ∷ []) e = absurd (omega arith)
eight (a ∷ b ∷ c ∷ []) e = absurd (omega arith)
eight (a ∷ b ∷ c ∷ d ∷ []) e = absurd (omega arith)
eight (a ∷ b ∷ c ∷ d ∷ f ∷ []) e = absurd (omega arith)
eight (a ∷ b ∷ c ∷ d ∷ f ∷ g ∷ []) e = absurd (omega arith)
eight (a ∷ b ∷ c ∷ d ∷ f ∷ g ∷ h ∷ []) e = absurd (omega arith)
eight (a ∷ b ∷ c ∷ d ∷ f ∷ g ∷ h ∷ i ∷ []) e = refl
eight (a ∷ b ∷ c ∷ d ∷ f ∷ g ∷ h ∷ i ∷ j ∷ more) e = absurd (omega arith)

-- the state bytes of a state with eight holds tell it
pub told : (x : State) → length x.holds ≡ 8 → decoded (encoded x) ≡ x
told x e =
    let with : List ℕ → State = λ hs. record { lamps = x.lamps; pressed = x.pressed; holds = hs; clock = x.clock } in
    let apart = eight x.holds e in
    let hs = x.holds in
    ap (λ t. decoded (encoded (with t))) apart
    ∙ (decoded_encoded x.lamps x.pressed (get_or hs 0 0) (get_or hs 1 0) (get_or hs 2 0) (get_or hs 3 0) (get_or hs 4 0) (get_or hs 5 0) (get_or hs 6 0) (get_or hs 7 0) x.clock []
    ∙ ap with (sym apart))

-- so do those of an interface
pub interface_told : (i : Interface) → decoded (encoded (state_of i)) ≡ state_of i
interface_told i = told (state_of i) (length-map i.holds.channels held ∙ i.holds.eight)
