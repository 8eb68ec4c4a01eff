use Rattle.std.proofs.Common.{ap, ◌∙◌}
use Rattle.relay.specs.declared.relay.Relay.{Relay}
use Rattle.relay.specs.Relays.{content}
use Rattle.module.specs.Designs.{designed}
use Rattle.kinds.specs.Kinds.{relay_kind}
use Rattle.kinds.proofs.Seated.{seated}
use Rattle.kinds.proofs.new_relay.Goals as goal

pub returns : goal.returns
returns c =
    let same = c.new-2.ensures.content in
    seated _ (relay_kind c.args.setup) c.args.address 16
    (ap (λ (m : Relay). relay_kind m.setup) same ∙ ap designed c.new.ensures.design)
    c.new-2.ensures.address
    (ap (λ (m : Relay). (content m).cells) same ∙ c.new.ensures.cells)
    (ap (λ (m : Relay). (content m).state) same ∙ c.new.ensures.state)
