-- The examples are what is said of them. Assumes nothing.
use Rattle.std.proofs.Common.{◌≡◌, ℕ, zero, suc, ◌+◌, ◌<◌, ◌≤◌, Bool, true, false, List, [], ◌∷◌, is_some, Some, None, refl, sym, ap, ◌∙◌, inl, inr, arith}
use Rattle.std.proofs.lemmas.Bool.{cond-true, cond-false, cases_Bool, cases_eq, false≢true, true≢false}
use Rattle.station.specs.declared.edge.Edge.TheVariants.{Press}
use Rattle.station.specs.declared.event.Event.{Event}
use Rattle.station.specs.declared.event.Event.TheVariants.{Heard, Second, Pushed}
use Rattle.station.specs.Rules.{later}
use Rattle.module.specs.Searches.{first}
use Rattle.interface.specs.declared.setup.InterfaceSetup.{InterfaceSetup}
use Rattle.button_laws.specs.Holding.{record_acts, ActsAlone, ActsLast}
use Rattle.button_laws.specs.Interfaces.{interface_kind}
use Rattle.button_laws.specs.Examples.{eight, linked, pressed, lock, LinksAct, AsksOrNot, SetsOrNot}

-- of n numbers from i on none passes a test, if none is found
pub none_of : (t : ℕ → Bool) (i n : ℕ) → first t i n ≡ None → (k : ℕ) → i ≤ k → k < i + n → t k ≡ false
unfolding first
none_of t i zero h k low high = absurd (omega arith)
none_of t i (suc n) h k low high =
    elim (cases_Bool (t i)) [
      | inl e ↦ absurd (true≢false (ap is_some (sym (cond-true (t i) (Some i) (first t (suc i) n) e) ∙ h)))
      | inr e ↦
          elim (cases_eq i k) [
            | inl same ↦ ap t (sym same) ∙ e
            | inr other ↦ none_of t (suc i) n (sym (cond-false (t i) (Some i) (first t (suc i) n) e) ∙ h) k (omega (arith, other)) (omega arith)
          ]
    ]

-- record 0 is the only one that acts
others_of : (action hold : ℕ) → (j : ℕ) → 1 ≤ j → j < 51 → record_acts eight (linked action hold).cells (pressed 0x20 1) 1 j ≡ false
unfolding first
others_of action hold j low high = none_of (record_acts eight (linked action hold).cells (pressed 0x20 1) 1) 1 50 refl j low (omega arith)

-- so it acts alone, where its action asks something
alone : (action hold : ℕ) → record_acts eight (linked action hold).cells (pressed 0x20 1) 1 0 ≡ true → ActsAlone eight (linked action hold).cells (pressed 0x20 1) 1 0
alone action hold acts =
    record { within = omega arith; acts = acts; alone = λ j high other. others_of action hold j (omega (arith, other)) high }

last : (action hold : ℕ) → record_acts eight (linked action hold).cells (pressed 0x20 1) 1 0 ≡ true → ActsLast eight (linked action hold).cells (pressed 0x20 1) 1 0
last action hold acts = record { within = omega arith; acts = acts; last = λ j above high. others_of action hold j (omega arith) high }

pub links_act : (s : InterfaceSetup) → LinksAct s
unfolding first
links_act s =
    record {
      link = refl;
      locks = inl (refl, last 3 0 refl);
      locks_free = inr (refl, (refl, alone 4 0 refl));
      frees = inl (refl, last 5 7 refl);
      frees_locked = inr (refl, (omega arith, alone 4 7 refl));
      other_channel = λ a. false≢true a.acts;
      other_button = λ a. false≢true a.acts;
      other_record = λ a. false≢true a.acts;
    }

-- of another button of the linked module no record acts, whatever else happened to the module
unasked : (cells : List ℕ) → first (record_acts eight cells (pressed 0x20 2) 1) 0 51 ≡ None → (k : ℕ) → k < 51 → record_acts eight cells (pressed 0x20 2) 1 k ≡ false
unasked cells none k high = none_of (record_acts eight cells (pressed 0x20 2) 1) 0 51 none k (omega arith) high

-- the events before that one
abbrev before : List Event
before =
    Second ∷ Pushed (record { address = 0x10; channel = 1; edge = Press }) ∷ Heard (lock 0x10 2) ∷ Heard (lock 0x11 1) ∷ Heard (pressed 0x33 1) ∷ []

pub asks_or_not : (s : InterfaceSetup) → AsksOrNot s
unfolding first
asks_or_not s =
    record {
      nothing = (
        tt,
        (
          tt,
          (
            ((λ _. refl), (λ l. absurd (false≢true l))),
            (
              ((λ e. absurd (omega (arith, e))), (λ l. absurd (false≢true l))),
              (
                ((λ e. absurd (omega (arith, e))), (λ l. absurd (false≢true l))),
                (
                  ((λ e. absurd (omega (arith, e))), (λ _. unasked (later (interface_kind eight s) 0x10 (linked 3 0) before).cells refl)),
                  tt,
                ),
              ),
            ),
          ),
        ),
      );
      lock = λ n. true≢false (n.0.0 refl);
      unlock = λ n. true≢false (n.1.0.0 refl);
      link = λ n. true≢false (n.1.1.0.1 refl 0 (omega arith));
    }

pub sets_or_not : SetsOrNot
sets_or_not =
    record {
      set = λ n. true≢false n.0;
      not_set = (refl, (refl, (refl, tt)));
      last = record { day = omega arith; hour = omega arith; minute = omega arith; second = omega arith };
      no_day = λ t. omega (arith, t.day);
      no_second = λ t. omega (arith, t.second);
    }
