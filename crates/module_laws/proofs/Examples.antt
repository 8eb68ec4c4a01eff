-- The examples are what is said of them. Assumes nothing.
use Rattle.std.proofs.Common.{◌≡◌, ℕ, zero, suc, ◌<◌, false, List, [], ◌∷◌, get_or, replicate, None, refl, arith}
use Rattle.std.specs.List.{AllByRecursion}
use Rattle.std.proofs.lemmas.Bool.{false≢true, true≢false}
use Rattle.station.specs.declared.edge.Edge.TheVariants.{Press}
use Rattle.station.specs.declared.event.Event.{Event}
use Rattle.station.specs.declared.event.Event.TheVariants.{Heard, Second, Pushed}
use Rattle.station.specs.Rules.{later}
use Rattle.module.specs.Searches.{first}
use Rattle.interface.specs.declared.setup.InterfaceSetup.{InterfaceSetup}
use Rattle.kinds.specs.Kinds.{buttons_kind}
use Rattle.button_laws.specs.Examples.{linked, pressed, lock}
use Rattle.button_laws.proofs.Examples.{none_of}
use Rattle.module_laws.specs.InterfaceKeeps.{record_asks}
use Rattle.module_laws.specs.Examples.{RecordsFit, AsksOrNot, ListedOrNot, InRangeOrNot, StateBytesOrNot}

pub records_fit : (s : InterfaceSetup) → RecordsFit s
unfolding first
records_fit s =
    record {
      link = refl;
      no_link = refl;
      fitting = refl;
      other_number = refl;
      other_channel = refl;
      other_button = refl;
      bears = record { number = 0; within = omega arith; bears = refl };
      first_hold = refl;
      other_hold = refl;
    }

pub listed_or_not : (s : InterfaceSetup) → ListedOrNot s
unfolding first
listed_or_not s =
    record {
      told_to_one = ((λ _. refl), (λ e. absurd (omega (arith, e))), refl);
      relays = ((λ _. refl), (λ e. absurd (omega (arith, e))), refl);
      not_linked = ((λ _. refl), (λ e. absurd (omega (arith, e))), refl);
      told_to_all = λ u. true≢false (u.1 refl);
      linked_button = λ u. true≢false u.2;
      asks_none = ((λ _. refl), (λ e. absurd (omega (arith, e))));
      asks = λ n. true≢false (n.0 refl);
    }

pub in_range_or_not : InRangeOrNot
in_range_or_not = record { inside = omega arith; outside = omega arith }

-- of another button of the linked module no record asks anything, whatever else happened to the module
unasked : (cells : List ℕ) → first (record_asks cells (pressed 0x20 2) 1) 0 51 ≡ None → (k : ℕ) → k < 51 → record_asks cells (pressed 0x20 2) 1 k ≡ false
unasked cells none k high = none_of (record_asks cells (pressed 0x20 2) 1) 0 51 none k (omega arith) high

-- the events before that one
abbrev before : List Event
before = Second ∷ Pushed (record { address = 0x10; channel = 1; edge = Press }) ∷ Heard (lock 0x10 2) ∷ Heard (lock 0x11 1) ∷ Heard (pressed 0x33 1) ∷ []

pub asks_or_not : (s : InterfaceSetup) → AsksOrNot s
unfolding first
asks_or_not s =
    record {
      nothing = (
        ((λ _. refl), (λ l. absurd (false≢true l))),
        (
          ((λ e. absurd (omega (arith, e))), (λ l. absurd (false≢true l))),
          (
            ((λ e. absurd (omega (arith, e))), (λ l. absurd (false≢true l))),
            (((λ e. absurd (omega (arith, e))), (λ _. unasked (later (buttons_kind s) 0x10 (linked 3 7) before).cells refl)), tt),
          ),
        ),
      );
      locks = λ n. true≢false (n.0.0 refl);
      unlocks = λ n. true≢false (n.0.0 refl);
      links = λ n. true≢false (n.0.1 refl 0 (omega arith));
    }

small : (n : ℕ) (i : ℕ) → n < 256 → get_or (replicate 32 n) i 0 < 256
small n i l = all_small (replicate 32 n) i (each 32)
  where
    each : (m : ℕ) → AllByRecursion (λ b. b < 256) (replicate m n)
    each zero = tt
    each (suc m) = (l, each m)

    all_small : (bs : List ℕ) (i : ℕ) → AllByRecursion (λ b. b < 256) bs → get_or bs i 0 < 256
    all_small [] i h = omega arith
    all_small (b ∷ bs) zero h = h.0
    all_small (b ∷ bs) (suc i) h = all_small bs i h.1

pub state_bytes_or_not : StateBytesOrNot
state_bytes_or_not =
    record {
      new = record { count = refl; bytes = λ i. small 0 i (omega arith); day = omega arith; hour = omega arith; minute = omega arith; second = omega arith };
      too_few = λ h. let no : 31 ≡ 32 = h.count in omega arith;
      no_day = λ h. let no : 7 < 7 = h.day in omega arith;
    }
