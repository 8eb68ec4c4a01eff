use Rattle.module_laws.proofs.AllMemory.{nothing_out_of_range, memory_obeyed, cells_kept, cell_count_kept}
use Rattle.module_laws.proofs.AllSent.{sends_headed, send_as_themselves, hear_any_priority, sizes}
use Rattle.module_laws.proofs.AllNew.{new_modules}
use Rattle.module_laws.proofs.AllPushes.{every_push_told}
use Rattle.module_laws.proofs.AllUnlisted.{unlisted_ignored}
use Rattle.module_laws.proofs.all_module_laws.Goals as goal

pub returns : goal.returns
returns c =
    record {
      priorities = sends_headed;
      own_address = send_as_themselves;
      any_priority = hear_any_priority;
      sizes = sizes;
      new = new_modules;
      out_of_range = nothing_out_of_range;
      memory = memory_obeyed;
      cells_kept = cells_kept;
      cell_count = cell_count_kept;
      unlisted = unlisted_ignored;
      pushes = every_push_told;
    }
