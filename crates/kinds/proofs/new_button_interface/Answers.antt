use Rattle.std.proofs.Common.{ap, ◌∙◌}
use Rattle.buttons.specs.declared.buttons.ButtonInterface.{ButtonInterface}
use Rattle.buttons.specs.Buttons.{content}
use Rattle.module.specs.Designs.{designed}
use Rattle.kinds.specs.Kinds.{buttons_kind}
use Rattle.kinds.proofs.Seated.{seated}
use Rattle.kinds.proofs.new_button_interface.Goals as goal

pub returns : goal.returns
returns c =
    let same = c.new-2.ensures.content in
    seated _ (buttons_kind c.args.setup) c.args.address 32
    (ap (λ (m : ButtonInterface). buttons_kind m.setup) same ∙ ap designed c.new.ensures.design)
    c.new-2.ensures.address
    (ap (λ (m : ButtonInterface). (content m).cells) same ∙ c.new.ensures.cells)
    (ap (λ (m : ButtonInterface). (content m).state) same ∙ c.new.ensures.state)
