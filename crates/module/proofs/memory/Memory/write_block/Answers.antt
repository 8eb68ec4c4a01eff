use Rattle.std.proofs.Common.{◌+◌, ◌-◌, List, ℕ, [], ◌∷◌, arith}
use Rattle.bus.specs.Frames.{byte}
use Rattle.station.proofs.Puts.{put_mid-put}
use Rattle.module.proofs.memory.Memory.write_block.Goals as goal

pub returns : goal.returns
returns g c =
    let at = c.args.cell in
    let f = c.args.frame.now in
    let bs : List ℕ = byte f 3 ∷ byte f 4 ∷ byte f 5 ∷ byte f 6 ∷ [] in
    put_mid-put c.args.self.now.cells at (at + 4 - at) c.copy_from_slice.new.self bs c.copy_from_slice.ensures.after (omega arith) (omega (arith, c.requires, c.args.self.now.full))
