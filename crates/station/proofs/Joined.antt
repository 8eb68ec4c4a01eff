-- What holds of two lists of seats, one after the other. Assumes nothing.
use Rattle.station.specs.SeatsLemmas.{count_at-append, listed-append}

pub ruleset joined = (count_at-append, listed-append)
