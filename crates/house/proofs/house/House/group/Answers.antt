use Rattle.std.proofs.Common.{◌≡◌, length}
use Rattle.groups.specs.Links.{ListsGroup}
use Rattle.house.proofs.Checking.{numbered}
use Rattle.house.proofs.Grouping.{answered}
use Rattle.house.specs.Groups.{group_refusal}
use Rattle.house.proofs.house.House.group.Goals as goal

pub returns-clause-answer : goal.returns-clause-answer
returns-clause-answer g c =
    let ss = g.S.Station.seats c.args.self.now.built.station in
    rw c.ok_or.ensures.value
    (answered ss c.args.address c.new-group.result.marks c.list.result c.args.buffer.now c.list.new.buffer (g.met.S.Station.stands c.args.self.now.built.station).1 c.in_ok-check_group.ensures.0 c.new-group.ensures c.list.ensures)

pub returns-clause-number : goal.returns-clause-number
returns-clause-number g c =
    let ss = g.S.Station.seats c.args.self.now.built.station in
    let old = c.args.buffer.now in
    let new = c.list.new.buffer in
    numbered c.ok_or.result (group_refusal ss c.args.address (length old)) (λ n. ListsGroup ss c.args.address n old new) (λ e. new ≡ old) (returns-clause-answer g c)
