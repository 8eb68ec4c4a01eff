use Rattle.button_laws.proofs.Clocks.{new_clock_is_real, clock_stays_real, every_time_shown_is_real, clock_keeps_time, clock_is_set, set_only_for_all, clock_is_told}
use Rattle.button_laws.proofs.clock_laws.Goals as goal

pub returns : goal.returns
returns c =
    record {
      new_clock_is_real = new_clock_is_real;
      clock_stays_real = clock_stays_real;
      every_time_shown_is_real = every_time_shown_is_real;
      clock_keeps_time = clock_keeps_time;
      clock_is_set = clock_is_set;
      set_only_for_all = set_only_for_all;
      clock_is_told = clock_is_told;
    }
