use Rattle.laws.proofs.Pairs.{first_pair_found, no_pair_found, first_match_obeyed, no_match_kept}
use Rattle.laws.proofs.pair_laws.Goals as goal

pub returns : goal.returns
returns c =
    record {
      first_pair_found = first_pair_found;
      no_pair_found = no_pair_found;
      first_match_obeyed = first_match_obeyed;
      no_match_kept = no_match_kept;
    }
