-- The examples are what is said of them. Assumes nothing.
use Rattle.std.proofs.Common.{◌+◌, ◌*◌, ◌≢◌, refl, sym, ◌∙◌, inl, length-set, arith}
use Rattle.std.proofs.lemmas.Bool.{false≢true, true≢false}
use Rattle.std.proofs.lemmas.List.{get_or-set_other}
use Rattle.module.specs.Searches.{first}
use Rattle.relay.specs.declared.relay.RelaySetup.{RelaySetup}
use Rattle.laws.specs.Channels.{channel_1, channel_2}
use Rattle.relay_laws.specs.RelayExamples.{linked, pressed, PairsFit, CommandsAsk, AsksOrNot}
use Rattle.laws.specs.Pairs.{FirstMatch, NoMatch}
use Rattle.laws.proofs.Pairs.{first_pair_found, no_pair_found}
use Rattle.relay.specs.declared.query.Query.{Query}
use Rattle.relay.specs.Relays.{query}
use Rattle.relay_laws.specs.RelayPairs.{FirstFits, NoneFits}
use Rattle.relay_laws.proofs.RelayPairs.{match_of}

-- the first pair of channel 1 that fits, and none of channel 2
abbrev asked : Query
asked = query (pressed 0x20 1)

found : FirstMatch linked.cells 0 asked 75
unfolding first
found = (first_pair_found linked.cells 0 asked 75).0 refl

none_found : NoMatch linked.cells 1 asked
unfolding first
none_found = (no_pair_found linked.cells 1 asked).0 refl

first_fits : FirstFits linked.cells channel_1 (pressed 0x20 1) 5 0
first_fits =
    record {
      within = omega arith;
      it_fits = refl;
      none_before = λ u j l d m. sym (match_of linked.cells channel_1 (pressed 0x20 1) u j l d) ∙ found.earlier (15 * u + j) (omega arith);
    }

none_fits : NoneFits linked.cells channel_2 (pressed 0x20 1)
none_fits t i l d m = sym (match_of linked.cells channel_2 (pressed 0x20 1) t i m d) ∙ none_found (15 * t + i) (omega arith)

pub pairs_fit : (s : RelaySetup) → PairsFit s
unfolding first
pairs_fit s =
    record {
      link = refl;
      fits = first_fits;
      obeyed = record { in_tables = omega arith; not_the_third = λ e. omega arith; first = first_fits };
      none = none_fits;
      none_obeyed = none_fits;
      other_button = λ h. false≢true h.it_fits;
      other_pair = λ h. false≢true h.it_fits;
      bears = record { channel = channel_1; table = 5; number = 0; in_tables = omega arith; not_the_third = λ e. omega arith; in_table = omega arith; bears = refl };
      alike = record {
        cells = record {
          size = sym (length-set linked.cells 0x005A 0x33);
          same = λ a busy.
              let other : a ≢ 0x005A = λ e. busy (inl (omega arith, omega arith)) in
              sym (get_or-set_other linked.cells 0x005A a 0x33 0 other);
        };
        state = refl;
      };
    }

pub commands_ask : CommandsAsk
commands_ask = record { opens = (refl, refl); runs = (refl, refl); high_bits = (refl, refl); not_the_first = λ h. false≢true h.1 }

pub asks_or_not : (s : RelaySetup) → AsksOrNot s
unfolding first
asks_or_not s =
    record {
      runs = refl;
      rests = refl;
      nothing = (
        tt,
        (
          tt,
          (
            ((λ e. absurd (omega (arith, e))), (λ _. none_fits)),
            (((λ _. refl), (λ l. absurd (false≢true l))), (((λ e. absurd (omega (arith, e))), (λ l. absurd (false≢true l))), tt)),
          ),
        ),
      );
      command = λ n. true≢false (n.1.0.0 refl);
      link = λ n. true≢false (n.1.0.1 refl 5 0 (omega arith) (λ e. omega arith) (omega arith));
    }
