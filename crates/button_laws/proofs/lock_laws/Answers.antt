use Rattle.button_laws.proofs.Holding.{lock_sets_the_hold, lock_ends, unlock_frees, records_act_in_order, single_record_obeyed, linked_lock_ends, linked_unlock_frees}
use Rattle.button_laws.proofs.lock_laws.Goals as goal

pub returns : goal.returns
returns c =
    record {
      lock_sets_the_hold = lock_sets_the_hold;
      lock_ends = lock_ends;
      unlock_frees = unlock_frees;
      records_act_in_order = records_act_in_order;
      single_record_obeyed = single_record_obeyed;
      linked_lock_ends = linked_lock_ends;
      linked_unlock_frees = linked_unlock_frees;
    }
