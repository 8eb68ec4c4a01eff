-- Which state bytes button interfaces have, and how they are read. Assumes nothing.
use Rattle.std.proofs.Common.{◌≡◌, ℕ, zero, suc, ◌+◌, ◌-◌, ◌*◌, ◌/◌, ◌%◌, ◌<◌, ◌≤◌, Bool, true, false, cond, ◌&&◌, ◌||◌, eqb, leb, ltb, List, [], ◌∷◌, ◌++◌, length, get_or, Some, None, Option, sym, refl, ap, ◌∙◌, subst, arith, length-append}
use lib.Bits.{bit_and, bit_or}
use Rattle.std.specs.List.{AllByRecursion, flat_map}
use Rattle.std.proofs.ByRecursion.{All-append}
use Rattle.std.proofs.lemmas.Bool.{cond_both, and_parts, ltb-true, leb-true, eqb-false}
use Rattle.std.proofs.lemmas.List.{get_or_past}
use Rattle.std.proofs.lemmas.Nat.{or_lt, and_le_l, pow_below}
use Rattle.bus.specs.declared.frame.Frame.{Frame}
use Rattle.bus.specs.Frames.{byte, is_command}
use Rattle.station.specs.declared.edge.Edge.{Edge}
use Rattle.station.specs.declared.edge.Edge.TheVariants.{Press, Release, LongPress}
use Rattle.station.specs.declared.event.Event.{Event}
use Rattle.station.specs.declared.event.Event.TheVariants.{Heard, Second, Pushed}
use Rattle.station.specs.Kinds.{Record, Outcome}
use Rattle.module.specs.declared.lamps.Lamps.{Lamps}
use Rattle.module.specs.Bits.{has_bit}
use Rattle.module.specs.Designs.{idle}
use Rattle.module.specs.LampBytes.{marked, in_mode, lamps_after}
use Rattle.module.specs.Pushes.{bit, down, possible, accepted, after_edge, pressed_after}
use Rattle.timing.specs.declared.locking.Locking.{Locking}
use Rattle.timing.specs.declared.locking.Locking.TheVariants.{Lock, Toggle, Unlock}
use Rattle.timing.specs.Holds.{locked, hold_for, obeyed}
use Rattle.timing.specs.Times.{Time, Real, real, set_to, next, a_second_later}
use Rattle.interface.specs.declared.setup.InterfaceSetup.{InterfaceSetup}
use Rattle.interface.specs.Channels.{hold_on, on_named, held_after, all_ticked}
use Rattle.interface.specs.Interfaces.{clock_after, commanded, after_command, after_broadcast, after_status, after_second, after_push}
use Rattle.interface.specs.Links.{matches, link_byte, asked, by_record, in_turn, by_records}
use Rattle.interface.specs.States.{State, hold_bytes, hold_at, encoded, decoded}
use Rattle.interface.proofs.Decoded.{told}
use Rattle.buttons.specs.Buttons.{variant}
use Rattle.buttons.specs.Buttons.{design as buttons_design}
use Rattle.kinds.specs.Kinds.{buttons_kind, EveryButtonInterface}
use Rattle.button_laws.proofs.Eight.{length-held_after, length-ticked, length-by_records}
use Rattle.module_laws.specs.StateBytes.{InterfaceBytes, OfBytes, HasAlways, InterfacesAreRead}
use Rattle.module_laws.proofs.StateBytes.{spread, always_so}

abbrev Byte : ℕ → Type 0
Byte b = b < 256

-- a hold of three bytes
abbrev Short : ℕ → Type 0
Short h = h < 16777216

byte_at : (xs : List ℕ) → AllByRecursion Byte xs → (i : ℕ) → get_or xs i 0 < 256
byte_at [] h i = omega (arith, get_or_past {X = ℕ} [] i 0 (omega arith))
byte_at (x ∷ xs) h zero = h.0
byte_at (x ∷ xs) h (suc i) = byte_at xs h.1 i

hold_small : (h : ℕ) → Short h → AllByRecursion Byte (hold_bytes h)
hold_small h s = (omega (arith, s), (omega arith, (omega arith, tt)))

holds_small : (hs : List ℕ) → AllByRecursion Short hs → AllByRecursion Byte (flat_map hold_bytes hs)
holds_small [] a = tt
holds_small (h ∷ hs) a = All-append Byte (hold_bytes h) (flat_map hold_bytes hs) (hold_small h a.0) (holds_small hs a.1)

length-holds : (hs : List ℕ) → length (flat_map hold_bytes hs) ≡ 3 * length hs
length-holds [] = refl
length-holds (h ∷ hs) = omega (arith, length-holds hs)

-- lamps of three bytes
record SmallLamps (l : Lamps) : Type 0 where
  on : l.on < 256
  slow : l.slow < 256
  fast : l.fast < 256

-- a state that bytes tell
record Small (x : State) : Type 0 where
  lamps : SmallLamps x.lamps
  pressed : x.pressed < 256
  holds : AllByRecursion Short x.holds
  eight : length x.holds ≡ 8
  clock : Real x.clock

state_bytes : (x : State) → Small x → InterfaceBytes (encoded x)
state_bytes x h =
    let back = told x h.eight in
    let t = x.clock in
    let clock : List ℕ = t.day ∷ t.hour ∷ t.minute ∷ t.second ∷ [] in
    let c = h.clock in
    let all : AllByRecursion Byte (encoded x) = (
      h.lamps.on,
      (
        h.lamps.slow,
        (
          h.lamps.fast,
          (
            h.pressed,
            All-append Byte (flat_map hold_bytes x.holds) clock (holds_small x.holds h.holds)
                (omega (arith, c.day), (omega (arith, c.hour), (omega (arith, c.minute), (omega (arith, c.second), tt)))),
          ),
        ),
      ),
    ) in
    record {
      count = omega (arith, length-append (flat_map hold_bytes x.holds) clock, length-holds x.holds, h.eight);
      bytes = byte_at (encoded x) all;
      day = subst (λ n. n < 7) (sym (ap (λ (y : State). y.clock.day) back)) c.day;
      hour = subst (λ n. n < 24) (sym (ap (λ (y : State). y.clock.hour) back)) c.hour;
      minute = subst (λ n. n < 60) (sym (ap (λ (y : State). y.clock.minute) back)) c.minute;
      second = subst (λ n. n < 60) (sym (ap (λ (y : State). y.clock.second) back)) c.second;
    }

-- the state that bytes tell
hold_short : (s : List ℕ) (i : ℕ) → ((k : ℕ) → get_or s k 0 < 256) → hold_at s i < 16777216
hold_short s i h = omega (arith, h i, h (i + 1), h (i + 2))

small_told : (s : List ℕ) → InterfaceBytes s → Small (decoded s)
small_told s h =
    let b = h.bytes in
    record {
      lamps = record { on = b 0; slow = b 1; fast = b 2 };
      pressed = b 3;
      holds = (hold_short s 4 b, (hold_short s 7 b, (hold_short s 10 b, (hold_short s 13 b, (hold_short s 16 b, (hold_short s 19 b, (hold_short s 22 b, (hold_short s 25 b, tt))))))));
      eight = refl;
      clock = record { day = h.day; hour = h.hour; minute = h.minute; second = h.second };
    }

-- the bytes of a state that bytes tell are these bytes
hold_back : (a b c : ℕ) → b < 256 → c < 256 → hold_bytes (a * 65536 + b * 256 + c) ≡ a ∷ b ∷ c ∷ []
hold_back a b c m l =
    let high : (a * 65536 + b * 256 + c) / 65536 ≡ a = omega (arith, m, l) in
    let mid : (a * 65536 + b * 256 + c) / 256 % 256 ≡ b = omega (arith, m, l) in
    let low : (a * 65536 + b * 256 + c) % 256 ≡ c = omega (arith, m, l) in
    (λ i. high i ∷ mid i ∷ low i ∷ [])

pub interface_told : (s : List ℕ) → InterfaceBytes s → encoded (decoded s) ≡ s
interface_told s h =
    let b = h.bytes in
    let at : (k : ℕ) → hold_bytes (hold_at s k) ≡ get_or s k 0 ∷ get_or s (k + 1) 0 ∷ get_or s (k + 2) 0 ∷ [] = λ k. hold_back _ _ _ (b (k + 1)) (b (k + 2)) in
    (λ i.
    get_or s 0 0 ∷ get_or s 1 0 ∷ get_or s 2 0 ∷ get_or s 3 0
    ∷ ((at 4 i ++ (at 7 i ++ (at 10 i ++ (at 13 i ++ (at 16 i ++ (at 19 i ++ (at 22 i ++ (at 25 i ++ []))))))))
    ++ (get_or s 28 0 ∷ get_or s 29 0 ∷ get_or s 30 0 ∷ get_or s 31 0 ∷ [])))
    ∙ sym (spread s 0 32 (sym h.count))

-- what events make of such states
small_marked : (wanted : Bool) (old bits : ℕ) → old < 256 → bits < 256 → marked wanted old bits < 256
small_marked wanted old bits o b =
    cond_both wanted (bit_or old bits) (bit_and old (255 - bits)) Byte (λ _. or_lt 8 old bits o b) (λ _. omega (arith, and_le_l old (255 - bits), o))

small_mode : (on slow fast : Bool) (l : Lamps) (bits : ℕ) → SmallLamps l → bits < 256 → SmallLamps (in_mode on slow fast l bits)
small_mode on slow fast l bits h b =
    record { on = small_marked on l.on bits h.on b; slow = small_marked slow l.slow bits h.slow b; fast = small_marked fast l.fast bits h.fast b }

small_lamps : (l : Lamps) (f : Frame) → SmallLamps l → ((i : ℕ) → byte f i < 256) → SmallLamps (lamps_after l f)
small_lamps l f h b =
    cond_both (is_command 0xF4 4 f) _ _ SmallLamps (λ _. record { on = b 1; slow = b 2; fast = b 3 })
    (λ _. cond_both (is_command 0xF5 2 f) _ _ SmallLamps (λ _. small_mode false false false l (byte f 1) h (b 1))
    (λ _. cond_both (is_command 0xF6 2 f) _ _ SmallLamps (λ _. small_mode true false false l (byte f 1) h (b 1))
    (λ _. cond_both (is_command 0xF7 2 f) _ _ SmallLamps (λ _. small_mode false true false l (byte f 1) h (b 1))
    (λ _. cond_both (is_command 0xF8 2 f) _ _ SmallLamps (λ _. small_mode false false true l (byte f 1) h (b 1))
    (λ _. cond_both (is_command 0xF9 2 f) _ l SmallLamps (λ _. small_mode false true true l (byte f 1) h (b 1)) (λ _. h))))))

short_for : (t : ℕ) → hold_for t < 16777216
short_for t = omega arith

short_obeyed : (l : Locking) (h : ℕ) → Short h → Short (obeyed l h)
short_obeyed (Lock t) h s = short_for t
short_obeyed (Toggle t) h s = cond_both (locked h) 0 (hold_for t) Short (λ _. omega arith) (λ _. short_for t)
short_obeyed Unlock h s = omega arith

short_named : (l : Locking) (bits b : ℕ) (hs : List ℕ) → AllByRecursion Short hs → AllByRecursion Short (on_named l bits b hs)
short_named l bits b [] a = tt
short_named l bits b (h ∷ hs) a = (cond_both (has_bit bits b) (obeyed l h) h Short (λ _. short_obeyed l h a.0) (λ _. a.0), short_named l bits (2 * b) hs a.1)

short_held : (l : Option Locking) (bits : ℕ) (hs : List ℕ) → AllByRecursion Short hs → AllByRecursion Short (held_after l bits hs)
short_held None bits hs a = a
short_held (Some l) bits hs a = short_named l bits 1 hs a

short_turns : (act : ℕ → List ℕ → List ℕ) → ((k : ℕ) (hs : List ℕ) → AllByRecursion Short hs → AllByRecursion Short (act k hs)) → (i n : ℕ) (hs : List ℕ) → AllByRecursion Short hs → AllByRecursion Short (in_turn act i n hs)
unfolding in_turn
short_turns act step i zero hs a = a
short_turns act step i (suc n) hs a = short_turns act step (suc i) n (act i hs) (step i hs a)

short_records : (channels : ℕ) (cells : List ℕ) (f : Frame) (hs : List ℕ) → AllByRecursion Short hs → AllByRecursion Short (by_records channels cells f hs)
short_records channels cells f hs a =
    short_turns (by_record channels cells f) (λ k xs b. cond_both (matches cells f k) _ xs (AllByRecursion Short) (λ _. short_held (asked (link_byte cells k 2) (link_byte cells k 3)) _ xs b) (λ _. b)) 0 51 hs a

short_ticked : (hs : List ℕ) → AllByRecursion Short hs → AllByRecursion Short (all_ticked hs)
short_ticked [] a = tt
short_ticked (h ∷ hs) a = (cond_both (eqb h 0 || eqb h 0xFFFFFF) h (h - 1) Short (λ _. a.0) (λ _. omega (arith, a.0)), short_ticked hs a.1)

real_set : (t : Time) (f : Frame) → Real t → Real (clock_after t f)
real_set t f r =
    let day = byte f 1 in
    let hour = byte f 2 in
    let minute = byte f 3 in
    cond_both (eqb f.address 0 && is_command 0xD8 4 f) (set_to day hour minute t) t Real
    (λ _. cond_both (real day hour minute) _ t Real
    (λ e.
    let one = and_parts (ltb day 7) (ltb hour 24 && ltb minute 60) e in
    let two = and_parts (ltb hour 24) (ltb minute 60) one.1 in
    record { day = ltb-true day 7 one.0; hour = ltb-true hour 24 two.0; minute = ltb-true minute 60 two.1; second = omega arith })
    (λ _. r))
    (λ _. r)

next_within : (moves : Bool) (last n : ℕ) → n ≤ last → next moves last n ≤ last
next_within moves last n h =
    cond_both moves (cond (eqb n last) 0 (n + 1)) n (λ m. m ≤ last)
    (λ _. cond_both (eqb n last) 0 (n + 1) (λ m. m ≤ last) (λ _. omega arith) (λ e. let other = eqb-false n last e in below other))
    (λ _. h)
  where
    below : (n ≡ last → ⊥) → n + 1 ≤ last
    below other = omega (arith, h, other)

real_second : (t : Time) → Real t → Real (a_second_later t)
real_second t r =
    let minute_ends = eqb t.second 59 in
    let hour_ends = minute_ends && eqb t.minute 59 in
    let day_ends = hour_ends && eqb t.hour 23 in
    record {
      day = omega (arith, next_within day_ends 6 t.day (omega (arith, r.day)));
      hour = omega (arith, next_within hour_ends 23 t.hour (omega (arith, r.hour)));
      minute = omega (arith, next_within minute_ends 59 t.minute (omega (arith, r.minute)));
      second = omega (arith, next_within true 59 t.second (omega (arith, r.second)));
    }

small_edge : (e : Edge) (pressed b : ℕ) → pressed < 256 → b < 256 → after_edge e pressed b < 256
small_edge Press pressed b p h = or_lt 8 pressed b p h
small_edge Release pressed b p h = omega (arith, and_le_l pressed (255 - b), p)
small_edge LongPress pressed b p h = p

small_pressed : (pressed channel : ℕ) (e : Edge) → pressed < 256 → pressed_after 8 pressed channel e < 256
small_pressed pressed channel e p =
    cond_both (accepted 8 pressed channel e) (after_edge e pressed (bit channel)) pressed Byte
    (λ a.
    let one = and_parts (ltb 0 channel) (leb channel 8 && possible e (down pressed channel)) a in
    let two = and_parts (leb channel 8) (possible e (down pressed channel)) one.1 in
    let high : channel ≤ 8 = leb-true channel 8 two.0 in
    small_edge e pressed (bit channel) p (pow_below (channel - 1) 8 (omega (arith, high))))
    (λ _. p)

interface_after : (s : InterfaceSetup) (own : ℕ) (r : Record) (e : Event) → OfBytes e → InterfaceBytes r.state → InterfaceBytes ((buttons_kind s).acts own r e).after.state
interface_after s own r (Heard f) b h =
    let x = decoded r.state in
    let y = small_told r.state h in
    let P : Outcome → Type 0 = λ o. InterfaceBytes o.after.state in
    cond_both (eqb f.address own) ((buttons_design s).command own r f) _ P
    (λ _. state_bytes (after_command variant x f)
    (record {
      lamps = small_lamps x.lamps f y.lamps b;
      pressed = y.pressed;
      holds = short_held (commanded f) (bit_and (byte f 1) 0xFF) x.holds y.holds;
      eight = length-held_after (commanded f) (bit_and (byte f 1) 0xFF) x.holds;
      clock = real_set x.clock f y.clock;
    }))
    (λ _. cond_both (eqb f.address 0) ((buttons_design s).broadcast own r f) _ P
    (λ _. state_bytes (after_broadcast x f) (record { lamps = y.lamps; pressed = y.pressed; holds = y.holds; eight = y.eight; clock = real_set x.clock f y.clock }))
    (λ _. cond_both _ ((buttons_design s).status own r f) (idle r) P
    (λ _. state_bytes (after_status variant r.cells x f)
    (record { lamps = y.lamps; pressed = y.pressed; holds = short_records 0xFF r.cells f x.holds y.holds; eight = length-by_records 0xFF r.cells f x.holds; clock = y.clock }))
    (λ _. h)))
interface_after s own r Second b h =
    let x = decoded r.state in
    let y = small_told r.state h in
    state_bytes (after_second x)
    (record { lamps = y.lamps; pressed = y.pressed; holds = short_ticked x.holds y.holds; eight = length-ticked x.holds; clock = real_second x.clock y.clock })
interface_after s own r (Pushed p) b h =
    let x = decoded r.state in
    let y = small_told r.state h in
    cond_both (eqb p.address own) ((buttons_design s).push own r p.channel p.edge) (idle r) (λ o. InterfaceBytes o.after.state)
    (λ _. state_bytes (after_push variant x p.channel p.edge)
    (record {
      lamps = y.lamps;
      pressed = cond_both (locked (hold_on x.holds p.channel)) x.pressed _ Byte (λ _. y.pressed) (λ _. small_pressed x.pressed p.channel p.edge y.pressed);
      holds = y.holds;
      eight = y.eight;
      clock = y.clock;
    }))
    (λ _. h)

abbrev new_state : State
new_state =
    record { lamps = record { on = 0; slow = 0; fast = 0 }; pressed = 0; holds = 0 ∷ 0 ∷ 0 ∷ 0 ∷ 0 ∷ 0 ∷ 0 ∷ 0 ∷ []; clock = record { day = 0; hour = 0; minute = 0; second = 0 } }

new_interface : InterfaceBytes (encoded new_state)
new_interface =
    let z : 0 < 16777216 = omega arith in
    state_bytes new_state
    (record {
      lamps = record { on = omega arith; slow = omega arith; fast = omega arith };
      pressed = omega arith;
      holds = (z, (z, (z, (z, (z, (z, (z, (z, tt))))))));
      eight = refl;
      clock = record { day = omega arith; hour = omega arith; minute = omega arith; second = omega arith };
    })

pub interface_always : EveryButtonInterface (HasAlways InterfaceBytes 32)
interface_always s =
    record {
      new = λ own. new_interface;
      after = λ own r e b h. interface_after s own r e b h;
      always = λ own es all. always_so (buttons_kind s) InterfaceBytes own (λ r e b h. interface_after s own r e b h) _ es all new_interface;
    }

pub holds_read : (s : List ℕ) (channel : ℕ) → 1 ≤ channel → channel ≤ 8 → hold_on (decoded s).holds channel ≡ get_or s (4 + 3 * (channel - 1)) 0 * 65536 + get_or s (5 + 3 * (channel - 1)) 0 * 256 + get_or s (6 + 3 * (channel - 1)) 0
holds_read s zero l h = absurd (omega arith)
holds_read s (suc zero) l h = refl
holds_read s (suc (suc zero)) l h = refl
holds_read s (suc (suc (suc zero))) l h = refl
holds_read s (suc (suc (suc (suc zero)))) l h = refl
holds_read s (suc (suc (suc (suc (suc zero))))) l h = refl
holds_read s (suc (suc (suc (suc (suc (suc zero)))))) l h = refl
holds_read s (suc (suc (suc (suc (suc (suc (suc zero))))))) l h = refl
holds_read s (suc (suc (suc (suc (suc (suc (suc (suc zero)))))))) l h = refl
holds_read s (suc (suc (suc (suc (suc (suc (suc (suc (suc n))))))))) l h = absurd (omega arith)

pub interfaces_are_read : InterfacesAreRead
interfaces_are_read s =
    record { on = refl; slow = refl; fast = refl; pressed = refl; hold = holds_read s; day = refl; hour = refl; minute = refl; second = refl }
