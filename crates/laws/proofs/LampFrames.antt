-- A relay sends lamp commands to links alone. Assumes nothing.
use Rattle.std.proofs.Common.{◌≡◌, ℕ, true, ◌⊎◌, sym, refl, subst, inl, inr, arith}
use Rattle.std.specs.List.{AllByRecursion}
use Rattle.bus.specs.declared.frame.Frame.{Frame}
use Rattle.station.specs.declared.event.Event.{Event}
use Rattle.station.specs.declared.event.Event.TheVariants.{Heard, Second, Pushed}
use Rattle.station.specs.Kinds.{Record, from_link}
use Rattle.relay.specs.declared.relay.RelaySetup.{RelaySetup}
use Rattle.relay.specs.Relays.{design as relay_design}
use Rattle.relay.specs.AllSent.{Forms, Lamps, all_command, all_status, all_second}
use Rattle.kinds.specs.Kinds.{relay_kind, EveryRelay}
use Rattle.laws.specs.LampFrames.{LampOfLink, LampsOnlyToLinks, ElseFromOwnAddress}
use Rattle.module.proofs.Answered.{at_own, link_address, all_heard, all_pushed}

-- what holds of each frame with the own address holds of each form
forms : (own : ℕ) (P : Frame → Type 0) → ((g : Frame) → g.address ≡ own → P g) → Forms P own
forms own P h = record { cell = λ a b c. h _ refl; block = λ a b c d e f. h _ refl; channel = λ a b c d e. h _ refl; switch = λ a b. h _ refl }

module _ (s : RelaySetup) (own : ℕ) (r : Record) where
  -- from the own address, or a lamp command to a link
  abbrev Due : Event → Frame → Type 0
  Due e g = (g.address ≡ own) ⊎ LampOfLink (relay_kind s) own r e g

  due_forms : (e : Event) → Forms (Due e) own
  due_forms e = forms own (Due e) (λ g o. inl o)

  due_lamps : (f : Frame) → from_link (relay_kind s) own r f ≡ true → Lamps (Due (Heard f)) f.address
  due_lamps f l = record { on = λ bits. inr (f, refl, l, refl, inl refl); out = λ bits. inr (f, refl, l, refl, inr refl) }

  due : (e : Event) → AllByRecursion (Due e) ((relay_kind s).acts own r e).sent
  due (Heard f) =
      all_heard (relay_design s) own r (Due (Heard f)) f (all_command (Due (Heard f)) own (due_forms (Heard f)) r f) tt
      (λ l. all_status (Due (Heard f)) s own (due_forms (Heard f)) r f (due_lamps f l))
  due Second = all_second (Due Second) own (due_forms Second) r
  due (Pushed p) = all_pushed (relay_design s) own r (Due (Pushed p)) p tt

pub lamps_only_to_links : EveryRelay LampsOnlyToLinks
lamps_only_to_links s own r e = due s own r e

-- the frame bears the own address
abbrev Own : ℕ → Frame → Type 0
Own own g = g.address ≡ own

own_forms : (own : ℕ) → Forms (Own own) own
own_forms own = forms own (Own own) (λ g e. e)

pub else_from_own_address : EveryRelay ElseFromOwnAddress
else_from_own_address s =
    record {
      second = λ own r. all_second (Own own) own (own_forms own) r;
      push = λ own r p. all_pushed (relay_design s) own r (Own own) p tt;
      command = λ own r f e.
          subst (λ o. AllByRecursion (Own own) o.sent) (sym (at_own (relay_design s) own r f e)) (all_command (Own own) own (own_forms own) r f);
      broadcast = λ own r f z.
          all_heard (relay_design s) own r (Own own) f (all_command (Own own) own (own_forms own) r f) tt (λ l. absurd (omega (arith, (link_address (relay_design s) own r f l).0)));
    }
