-- How long what starts a time makes a channel run. Assumes nothing.
use Rattle.std.proofs.Common.{◌≡◌, ℕ, ◌<◌, sym, refl, ap, ◌∙◌, arith}
use Rattle.station.specs.declared.event.Event.{Event}
use Rattle.station.specs.declared.event.Event.TheVariants.{Heard}
use Rattle.station.specs.Kinds.{Record}
use Rattle.relay.specs.declared.relay.RelaySetup.{RelaySetup}
use Rattle.relay.specs.declared.timers.Timers.{Timers}
use Rattle.relay.specs.Contacts.{Contact, opened, closed, running}
use Rattle.relay.specs.Relays.{contacts}
use Rattle.laws.specs.Channels.{ChannelNumber, of_channel}
use Rattle.kinds.specs.Kinds.{relay_kind}
use Rattle.laws.specs.Numbers.{seconds}
use Rattle.relay_laws.specs.RelayLayout.{within_range, becomes, be_open, run_timer_1, run_timer_2}
use Rattle.relay_laws.specs.RelayStarts.{RunsFrom, TimesStarted}
use Rattle.relay_laws.proofs.RelayCommands.{commands_obeyed}
use Rattle.relay_laws.proofs.RelayLayout.{actions_obeyed}
use Rattle.relay_laws.proofs.RelayTimes.{times_run}

runs_from : (s : RelaySetup) (own : ℕ) (r : Record) (e : Event) (c : ChannelNumber) (n : ℕ) → 0 < n → of_channel c (contacts ((relay_kind s).acts own r e).after) ≡ running n → RunsFrom (relay_kind s) own r e c n
runs_from s own r e c n p h es none = times_run s own ((relay_kind s).acts own r e).after c n es p h none

-- where each state becomes the same
always : (x : Timers → Contact) (t : Timers) (was : Contact) → becomes x x x t was ≡ x t
always x t opened = refl
always x t closed = refl
always x t (running n) = refl

pub times_started : TimesStarted
times_started =
    record {
      by_command = λ s own r f c at asks some less. runs_from s own r (Heard f) c (seconds f) some ((commands_obeyed s).starts own r f c at (asks, some, less));
      by_start_1 = λ s own r f c i n l h e.
          runs_from s own r (Heard f) c (within_range n) (omega arith)
          (actions_obeyed.start_timer_1 s own r f c i l h ∙ (always run_timer_1 (of_channel c s.timers) (of_channel c (contacts r)) ∙ ap (λ t. running (within_range t)) (sym e)));
      by_start_2 = λ s own r f c i n l h e.
          runs_from s own r (Heard f) c (within_range n) (omega arith)
          (actions_obeyed.start_timer_2 s own r f c i l h ∙ (always run_timer_2 (of_channel c s.timers) (of_channel c (contacts r)) ∙ ap (λ t. running (within_range t)) (sym e)));
      by_toggle_1 = λ s own r f c i n l h e.
          runs_from s own r (Heard f) c (within_range n) (omega arith)
          (actions_obeyed.toggle_timer_1 s own r f c i l h ∙ (ap (becomes run_timer_1 be_open be_open (of_channel c s.timers)) e.1 ∙ ap (λ t. running (within_range t)) (sym e.0)));
      by_toggle_2 = λ s own r f c i n l h e.
          runs_from s own r (Heard f) c (within_range n) (omega arith)
          (actions_obeyed.toggle_timer_2 s own r f c i l h ∙ (ap (becomes run_timer_2 be_open be_open (of_channel c s.timers)) e.1 ∙ ap (λ t. running (within_range t)) (sym e.0)));
    }
