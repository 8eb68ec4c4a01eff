-- On which events each kind of module acts; of all others nothing comes. Assumes nothing.
use Rattle.std.proofs.Common.{◌≡◌, ℕ, Bool, false, ◌&&◌, eqb, List, [], ◌∷◌, ◌++◌, None, refl, ap, ◌∙◌, inl, inr}
use Rattle.std.proofs.lemmas.Bool.{true≢false, both_ways, cases_Bool, cond-false, cond_both, and_left, and_right, or_parts, or_from, eqb-true}
use Rattle.bus.specs.declared.frame.Frame.{Frame}
use Rattle.bus.specs.Frames.{is_command, is_type_request}
use Rattle.station.specs.declared.event.Event.TheVariants.{Heard, Second, Pushed}
use Rattle.station.specs.Kinds.{Record, Outcome, from_link}
use Rattle.station.specs.Rules.{stored}
use Rattle.module.specs.Designs.{idle}
use Rattle.module.specs.Memories.{memory_sent}
use Rattle.module.proofs.Unwritten.{stored_unwritten}
use Rattle.interface.specs.declared.setup.InterfaceSetup.{InterfaceSetup}
use Rattle.interface.specs.Interfaces.{clock_after, clock_sent, status_sent, type_sent}
use Rattle.interface.specs.Interfaces.{commanded as interface_commanded}
use Rattle.interface.specs.States.{encoded, decoded}
use Rattle.buttons.specs.Buttons.{variant}
use Rattle.buttons.specs.Buttons.{design as buttons_design}
use Rattle.panel.specs.declared.panel.PanelSetup.{PanelSetup}
use Rattle.panel.specs.Panels.{lamps, pressed}
use Rattle.panel.specs.Panels.{status_sent as panel_status, type_sent as panel_type, design as panel_design}
use Rattle.relay.specs.declared.relay.RelaySetup.{RelaySetup}
use Rattle.relay.specs.Relays.{contacts, commanded, named_channels, carried_out, answer}
use Rattle.relay.specs.Relays.{design as relay_design}
use Rattle.relay.specs.Reports.{made}
use Rattle.relay.proofs.Unchanged.{same_unreported}
use Rattle.kinds.specs.Kinds.{relay_kind, panel_kind, buttons_kind, EveryRelay, EveryPanel, EveryButtonInterface}
use Rattle.module_laws.specs.AllListed.{is_one_of, memory_commands, lamp_commands}
use Rattle.module_laws.specs.AllMemory.{NothingComes}
use Rattle.module_laws.proofs.LampCommands.{no_lamp_command}
use Rattle.module_laws.specs.AllUnlisted.{of_relay, of_panel, of_interface, UnlistedIgnored, EveryUnlistedIgnored}
use Rattle.module_laws.specs.StateBytes.{RelayBytes, PanelBytes, InterfaceBytes}
use Rattle.module_laws.proofs.AllMemory.{same_record, relay_stays, panel_stays, interface_stays}
use Rattle.module_laws.proofs.Panel.{no_memory}
use Rattle.module_laws.proofs.StateBytesInterface.{interface_told}

nothing : (r : Record) → NothingComes r (idle r)
nothing r = record { stays = refl; silent = refl }

-- the memory commands apart, and those behind them
record NoMemory (f : Frame) (others : List (Frame → Bool)) : Type 0 where
  write : is_command 0xFC 4 f ≡ false
  write_four : is_command 0xCA 7 f ≡ false
  read : is_command 0xFD 3 f ≡ false
  read_four : is_command 0xC9 3 f ≡ false
  rest : is_one_of others f ≡ false

no_memory_in : (f : Frame) (others : List (Frame → Bool)) → is_one_of (memory_commands ++ others) f ≡ false → NoMemory f others
no_memory_in f others h =
    let a = or_parts (is_command 0xFC 4 f) _ h in
    let b = or_parts (is_command 0xCA 7 f) _ a.1 in
    let c = or_parts (is_command 0xFD 3 f) _ b.1 in
    let d = or_parts (is_command 0xC9 3 f) _ c.1 in
    record { write = a.0; write_four = b.0; read = c.0; read_four = d.0; rest = d.1 }

-- the lamp commands, and those behind them
no_lamps_in : (f : Frame) (others : List (Frame → Bool)) → is_one_of (lamp_commands ++ others) f ≡ false → (is_one_of lamp_commands f ≡ false) × (is_one_of others f ≡ false)
no_lamps_in f others h =
    let none = no_lamp_command f others h in (
      or_from _ _ none.sets
          (or_from _ _ none.puts_out (or_from _ _ none.puts_on (or_from _ _ none.puts_slow (or_from _ _ none.puts_fast (or_from _ _ none.puts_very_fast refl))))),
      none.rest,
    )

module _ (own : ℕ) (cells : List ℕ) (f : Frame) (others : List (Frame → Bool)) (n : NoMemory f others) where
  unwritten : stored cells f ≡ cells
  unwritten = stored_unwritten cells f (or_from (is_command 0xFC 4 f) (is_command 0xCA 7 f) n.write n.write_four)

  unanswered : memory_sent own cells f ≡ []
  unanswered = no_memory own cells f n.read n.read_four n.write_four

relay_own : (s : RelaySetup) (own : ℕ) (r : Record) (f : Frame) → RelayBytes r.state → is_one_of of_relay.at_own f ≡ false → NothingComes r ((relay_design s).command own r f)
relay_own s own r f such h =
    let others : List (Frame → Bool) = is_command 0x01 2 ∷ is_command 0x02 2 ∷ is_command 0x03 5 ∷ is_command 0xFA 2 ∷ [] in
    let n = no_memory_in f others h in
    let a = or_parts (is_command 0x01 2 f) _ n.rest in
    let b = or_parts (is_command 0x02 2 f) _ a.1 in
    let c = or_parts (is_command 0x03 5 f) _ b.1 in
    let d = or_parts (is_command 0xFA 2 f) _ c.1 in
    let x = contacts r in
    let none : commanded f ≡ None = cond-false (is_command 0x01 2 f) _ _ a.0 ∙ (cond-false (is_command 0x02 2 f) _ _ b.0 ∙ cond-false (is_command 0x03 5 f) _ _ c.0) in
    let no_cells = unanswered own r.cells f others n in
    let quiet : answer own f (made x) (carried_out (commanded f) (named_channels f) x) ≡ [] =
    ap (λ t. answer own f (made x) (carried_out t (named_channels f) x)) none ∙ (cond-false (is_command 0xFA 2 f) _ _ d.0 ∙ same_unreported own x) in
    record { stays = same_record _ r (unwritten own r.cells f others n) (relay_stays s own r f such none); silent = λ i. no_cells i ++ quiet i }

relay_unlisted : EveryRelay (UnlistedIgnored of_relay RelayBytes)
relay_unlisted s own r (Heard f) such h =
    let N : Outcome → Type 0 = NothingComes r in
    cond_both (eqb f.address own) ((relay_design s).command own r f) _ N (λ at. relay_own s own r f such (h.0 (eqb-true f.address own at)))
    (λ _. cond_both (eqb f.address 0) (idle r) _ N (λ _. nothing r)
    (λ _. cond_both (from_link (relay_kind s) own r f) ((relay_design s).status own r f) (idle r) N (λ l. absurd (both_ways (from_link (relay_kind s) own r f) h.2 l)) (λ _. nothing r)))
relay_unlisted s own r Second such h = absurd (true≢false h)
relay_unlisted s own r (Pushed p) such h = cond_both (eqb p.address own) (idle r) (idle r) (NothingComes r) (λ _. nothing r) (λ _. nothing r)

panel_own : (s : PanelSetup) (own : ℕ) (r : Record) (f : Frame) → PanelBytes r.state → is_one_of of_panel.at_own f ≡ false → NothingComes r ((panel_design s).command own r f)
panel_own s own r f such h =
    let replies : List (Frame → Bool) = is_command 0xFA 2 ∷ is_type_request ∷ [] in
    let n = no_memory_in f (lamp_commands ++ replies) h in
    let l = no_lamps_in f replies n.rest in
    let a = or_parts (is_command 0xFA 2 f) _ l.1 in
    let b = or_parts (is_type_request f) _ a.1 in
    let no_cells = unanswered own r.cells f (lamp_commands ++ replies) n in
    let no_status : panel_status own (lamps r) (pressed r) f ≡ [] = cond-false (is_command 0xFA 2 f) _ _ a.0 in
    let no_type : panel_type own s (lamps r) f ≡ [] = cond-false (is_type_request f) _ _ b.0 in
    record { stays = same_record _ r (unwritten own r.cells f (lamp_commands ++ replies) n) (panel_stays s own r f such l.0); silent = λ i. no_cells i ++ (no_status i ++ no_type i) }

panel_unlisted : EveryPanel (UnlistedIgnored of_panel PanelBytes)
panel_unlisted s own r (Heard f) such h =
    let N : Outcome → Type 0 = NothingComes r in
    cond_both (eqb f.address own) ((panel_design s).command own r f) _ N (λ at. panel_own s own r f such (h.0 (eqb-true f.address own at)))
    (λ _. cond_both (eqb f.address 0) (idle r) _ N (λ _. nothing r) (λ _. cond_both (from_link (panel_kind s) own r f) (idle r) (idle r) N (λ _. nothing r) (λ _. nothing r)))
panel_unlisted s own r Second such h = nothing r
panel_unlisted s own r (Pushed p) such h =
    cond_both (eqb p.address own) ((panel_design s).push own r p.channel p.edge) (idle r) (NothingComes r) (λ at. absurd (true≢false (h (eqb-true p.address own at)))) (λ _. nothing r)

-- no frame that sets the clock
unset : (f : Frame) → (f.address ≡ 0 → is_one_of of_interface.at_zero f ≡ false) → (eqb f.address 0 && is_command 0xD8 4 f) ≡ false
unset f h =
    elim (cases_Bool (eqb f.address 0)) [
      | inl e ↦
          let a = or_parts (is_command 0xD7 1 f) _ (h (eqb-true f.address 0 e)) in
          let b = or_parts (is_command 0xD8 4 f) _ a.1 in
          and_right (eqb f.address 0) (is_command 0xD8 4 f) b.0
      | inr e ↦ and_left (eqb f.address 0) (is_command 0xD8 4 f) e
    ]

interface_own : (s : InterfaceSetup) (own : ℕ) (r : Record) (f : Frame) → InterfaceBytes r.state → is_one_of of_interface.at_own f ≡ false → (f.address ≡ 0 → is_one_of of_interface.at_zero f ≡ false) → NothingComes r ((buttons_design s).command own r f)
interface_own s own r f such h zero =
    let others : List (Frame → Bool) = is_command 0xFA 2 ∷ is_type_request ∷ is_command 0x12 5 ∷ is_command 0x13 2 ∷ is_command 0xD7 1 ∷ [] in
    let n = no_memory_in f (lamp_commands ++ others) h in
    let l = no_lamps_in f others n.rest in
    let a = or_parts (is_command 0xFA 2 f) _ l.1 in
    let b = or_parts (is_type_request f) _ a.1 in
    let c = or_parts (is_command 0x12 5 f) _ b.1 in
    let d = or_parts (is_command 0x13 2 f) _ c.1 in
    let e = or_parts (is_command 0xD7 1 f) _ d.1 in
    let x = decoded r.state in
    let none : interface_commanded f ≡ None = cond-false (is_command 0x12 5 f) _ _ c.0 ∙ cond-false (is_command 0x13 2 f) _ _ d.0 in
    let no_cells = unanswered own r.cells f (lamp_commands ++ others) n in
    let no_status : status_sent own x f ≡ [] = cond-false (is_command 0xFA 2 f) _ _ a.0 in
    let no_type : type_sent variant s own f ≡ [] = cond-false (is_type_request f) _ _ b.0 in
    let no_clock : clock_sent own x.clock f ≡ [] = cond-false (is_command 0xD7 1 f) _ _ e.0 in
    record {
      stays = same_record _ r (unwritten own r.cells f (lamp_commands ++ others) n) (interface_stays s own r f such l.0 none (unset f zero));
      silent = λ i. no_cells i ++ (no_status i ++ (no_type i ++ no_clock i));
    }

interface_zero : (s : InterfaceSetup) (own : ℕ) (r : Record) (f : Frame) → InterfaceBytes r.state → f.address ≡ 0 → (f.address ≡ 0 → is_one_of of_interface.at_zero f ≡ false) → NothingComes r ((buttons_design s).broadcast own r f)
interface_zero s own r f such at zero =
    let x = decoded r.state in
    let a = or_parts (is_command 0xD7 1 f) _ (zero at) in
    let kept : clock_after x.clock f ≡ x.clock = cond-false (eqb f.address 0 && is_command 0xD8 4 f) _ _ (unset f zero) in
    let state : encoded (record { lamps = x.lamps; pressed = x.pressed; holds = x.holds; clock = clock_after x.clock f }) ≡ r.state =
    (λ i. encoded (record { lamps = x.lamps; pressed = x.pressed; holds = x.holds; clock = kept i })) ∙ interface_told r.state such in
    record { stays = same_record _ r refl state; silent = cond-false (is_command 0xD7 1 f) _ _ a.0 }

interface_unlisted : EveryButtonInterface (UnlistedIgnored of_interface InterfaceBytes)
interface_unlisted s own r (Heard f) such h =
    let N : Outcome → Type 0 = NothingComes r in
    cond_both (eqb f.address own) ((buttons_design s).command own r f) _ N (λ at. interface_own s own r f such (h.0 (eqb-true f.address own at)) h.1)
    (λ _. cond_both (eqb f.address 0) ((buttons_design s).broadcast own r f) _ N (λ at. interface_zero s own r f such (eqb-true f.address 0 at) h.1)
    (λ _. cond_both (from_link (buttons_kind s) own r f) ((buttons_design s).status own r f) (idle r) N (λ l. absurd (both_ways (from_link (buttons_kind s) own r f) h.2 l)) (λ _. nothing r)))
interface_unlisted s own r Second such h = absurd (true≢false h)
interface_unlisted s own r (Pushed p) such h =
    cond_both (eqb p.address own) ((buttons_design s).push own r p.channel p.edge) (idle r) (NothingComes r) (λ at. absurd (true≢false (h (eqb-true p.address own at)))) (λ _. nothing r)

pub unlisted_ignored : EveryUnlistedIgnored
unlisted_ignored = record { relay = relay_unlisted; panel = panel_unlisted; buttons = interface_unlisted }
