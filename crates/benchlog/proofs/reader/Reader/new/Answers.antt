use Rattle.std.proofs.Common.{arith, refl}
use Rattle.benchlog.proofs.Joined.{joined_read, rest_read, damaged_read, whole_log, found_stands}
use Rattle.benchlog.proofs.reader.Reader.new.Goals as goal

pub returns-clause-joined : goal.returns-clause-joined
returns-clause-joined c = joined_read

pub returns-clause-rest : goal.returns-clause-rest
returns-clause-rest c = rest_read

pub returns-clause-damaged : goal.returns-clause-damaged
returns-clause-damaged c = damaged_read

pub returns-clause-whole : goal.returns-clause-whole
returns-clause-whole c = whole_log

pub returns-clause-stands : goal.returns-clause-stands
returns-clause-stands c = found_stands

pub returns-clause-example : goal.returns-clause-example
returns-clause-example c = record {
  whole = (refl, (refl, (refl, (refl, (refl, tt)))));
  bytes = refl;
  read = refl;
  unknown = refl;
  unknown_read = refl;
  cut = (refl, omega arith);
  cut_read = refl;
}
