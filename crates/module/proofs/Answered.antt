-- What holds of each answer of a design holds of what its kind does. Assumes nothing.
use Rattle.std.proofs.Common.{◌≡◌, ℕ, ◌<◌, true, false, not, ◌&&◌, eqb, ltb, ◌∙◌, arith}
use Rattle.std.specs.List.{AllByRecursion}
use Rattle.std.proofs.lemmas.Bool.{cond-true, cond-false, cond_both, and_parts, not-true, eq-eqb, ne_eqb, ltb-true}
use Rattle.bus.specs.declared.frame.Frame.{Frame}
use Rattle.station.specs.declared.event.Event.TheVariants.{Heard, Pushed}
use Rattle.station.specs.declared.event.Push.{Push}
use Rattle.station.specs.Kinds.{Record, Outcome, is_status, linked, from_link}
use Rattle.module.specs.Designs.{Design, idle, answered, designed}

module _ (d : Design) (own : ℕ) (r : Record) where
  -- a frame with the own address gets the answer to a command
  pub at_own : (f : Frame) → f.address ≡ own → answered d own r (Heard f) ≡ d.command own r f
  at_own f e = cond-true (eqb f.address own) _ _ (eq-eqb _ _ e)

  -- a linked address is neither 0 nor the own
  pub link_address : (f : Frame) → from_link (designed d) own r f ≡ true → (0 < f.address) × (eqb f.address own ≡ false)
  link_address f e =
      let a = f.address in
      let named = d.names own r a in
      let LinkedTo = (and_parts (is_status f) (linked d.names own r a) e).1 in
      let positive = and_parts (ltb 0 a) (ltb a 255 && (not (eqb a own) && named)) LinkedTo in
      let other = (and_parts (not (eqb a own)) named (and_parts (ltb a 255) (not (eqb a own) && named) positive.1).1).0 in
      (ltb-true 0 a positive.0, not-true (eqb a own) other)

  -- a button status from a linked address gets the answer to one
  pub at_link : (f : Frame) → from_link (designed d) own r f ≡ true → answered d own r (Heard f) ≡ d.status own r f
  at_link f e =
      let a = f.address in
      let l = link_address f e in
      let above : eqb a 0 ≡ false = ne_eqb a 0 (λ z. omega (arith, l.0)) in
      cond-false (eqb a own) _ _ l.1 ∙ (cond-false (eqb a 0) _ _ above ∙ cond-true (from_link (designed d) own r f) _ _ e)

  module _ (P : Frame → Type 0) where
    pub all_heard : (f : Frame) → AllByRecursion P (d.command own r f).sent → AllByRecursion P (d.broadcast own r f).sent → (from_link (designed d) own r f ≡ true → AllByRecursion P (d.status own r f).sent) → AllByRecursion P (answered d own r (Heard f)).sent
    all_heard f command broadcast status =
        let linking = from_link (designed d) own r f in
        let Q : Outcome → Type 0 = λ o. AllByRecursion P o.sent in
        cond_both (eqb f.address own) _ _ Q (λ _. command)
        (λ _. cond_both (eqb f.address 0) _ _ Q (λ _. broadcast) (λ _. cond_both linking _ _ Q status (λ _. tt)))

    pub all_pushed : (p : Push) → AllByRecursion P (d.push own r p.channel p.edge).sent → AllByRecursion P (answered d own r (Pushed p)).sent
    all_pushed p push = cond_both (eqb p.address own) (d.push own r p.channel p.edge) (idle r) (λ o. AllByRecursion P o.sent) (λ _. push) (λ _. tt)
