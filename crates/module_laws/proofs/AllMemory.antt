-- What commands on the memory do to the cells of any module, and what they answer. Assumes nothing.
use Rattle.std.proofs.Common.{◌≡◌, ℕ, zero, suc, ◌+◌, ◌<◌, ◌≤◌, true, false, cond, ◌&&◌, ◌||◌, eqb, leb, List, [], ◌∷◌, length, get_or, None, sym, refl, ap, ◌∙◌, subst, arith}
use lib.Bits.{bit_and}
use Rattle.std.proofs.lemmas.Bool.{cond-true, cond-false, cond_both, and_right, or_parts, or_from, or_left, or_right, le-leb, lt-leb, eqb-true}
use Rattle.bus.specs.declared.frame.Frame.{Frame}
use Rattle.bus.specs.Frames.{byte, is_command}
use Rattle.bus.proofs.Commands.{other_command}
use Rattle.station.specs.declared.edge.Edge.{Edge}
use Rattle.station.specs.declared.event.Event.TheVariants.{Heard, Second, Pushed}
use Rattle.station.specs.Kinds.{Record, Outcome}
use Rattle.station.specs.Rules.{cell, payload, put, stored}
use Rattle.station.proofs.Puts.{length-put, put_inside, put_outside}
use Rattle.module.specs.Designs.{Design, idle, answered, designed}
use Rattle.module.specs.Memories.{cell_frame, block_frame, in_memory, memory_sent}
use Rattle.module.proofs.Answered.{at_own}
use Rattle.module.proofs.Unwritten.{stored_unwritten}
use Rattle.interface.specs.declared.setup.InterfaceSetup.{InterfaceSetup}
use Rattle.interface.specs.Channels.{held_after}
use Rattle.interface.specs.Interfaces.{clock_after}
use Rattle.interface.specs.Interfaces.{commanded as interface_commanded}
use Rattle.interface.specs.States.{encoded, decoded}
use Rattle.buttons.specs.Buttons.{design as buttons_design}
use Rattle.panel.specs.declared.panel.PanelSetup.{PanelSetup}
use Rattle.panel.specs.Panels.{lamps, pressed}
use Rattle.panel.specs.Panels.{state_of as panel_state, design as panel_design}
use Rattle.relay.specs.declared.relay.RelaySetup.{RelaySetup}
use Rattle.relay.specs.Relays.{state_of, contacts, commanded, named_channels, carried_out}
use Rattle.relay.specs.Relays.{design as relay_design}
use Rattle.laws.proofs.Cells.{four as four_cells, four-put}
use Rattle.laws.proofs.Commands.{MemoryOnly, ByMemory, memory_only, relay_by_memory, panel_by_memory, buttons_by_memory}
use Rattle.kinds.specs.Kinds.{EveryModule}
use Rattle.module_laws.specs.AllListed.{is_one_of, lamp_commands}
use Rattle.module_laws.specs.AllMemory.{NothingComes, OutOfRange, BytesWritten, IsAnswered, reply, MemoryObeyed, CellsKept, CellCountKept}
use Rattle.module_laws.specs.StateBytes.{RelayBytes, PanelBytes, InterfaceBytes, EveryModuleWith}
use Rattle.module_laws.proofs.LampCommands.{lamps_same}
use Rattle.module_laws.proofs.Panel.{no_memory}
use Rattle.module_laws.proofs.StateBytes.{relay_told, panel_told}
use Rattle.module_laws.proofs.StateBytesInterface.{interface_told}

pub same_record : (a b : Record) → a.cells ≡ b.cells → a.state ≡ b.state → a ≡ b
same_record a b p q i = record { cells = p i; state = q i }

-- the state bytes stay where nothing is asked of a relay's channels
pub relay_stays : (s : RelaySetup) (own : ℕ) (r : Record) (f : Frame) → RelayBytes r.state → commanded f ≡ None → ((relay_design s).command own r f).after.state ≡ r.state
relay_stays s own r f h none = ap (λ a. state_of (carried_out a (named_channels f) (contacts r))) none ∙ relay_told r h

-- nor of a panel's lamps
pub panel_stays : (s : PanelSetup) (own : ℕ) (r : Record) (f : Frame) → PanelBytes r.state → is_one_of lamp_commands f ≡ false → ((panel_design s).command own r f).after.state ≡ r.state
panel_stays s own r f h none = ap (λ l. panel_state l (pressed r)) (lamps_same (lamps r) f none) ∙ panel_told r h

-- nor of an interface's lamps, channels and clock
pub interface_stays : (s : InterfaceSetup) (own : ℕ) (r : Record) (f : Frame) → InterfaceBytes r.state → is_one_of lamp_commands f ≡ false → interface_commanded f ≡ None → (eqb f.address 0 && is_command 0xD8 4 f) ≡ false → ((buttons_design s).command own r f).after.state ≡ r.state
interface_stays s own r f h asks_no_lamp none unset =
    let x = decoded r.state in
    let no_lamps = lamps_same x.lamps f asks_no_lamp in
    let no_clock : clock_after x.clock f ≡ x.clock = cond-false (eqb f.address 0 && is_command 0xD8 4 f) _ _ unset in
    (λ i. encoded (record { lamps = no_lamps i; pressed = x.pressed; holds = held_after (none i) (bit_and (byte f 1) 0xFF) x.holds; clock = no_clock i }))
    ∙ interface_told r.state h

-- a frame that is a command on the memory asks for nothing else
record OnlyMemory (f : Frame) : Type 0 where
  basic : MemoryOnly f
  asks_no_lamp : is_one_of lamp_commands f ≡ false
  unlocked : interface_commanded f ≡ None
  unset : is_command 0xD8 4 f ≡ false

only_memory : (code n : ℕ) (f : Frame) → is_command code n f ≡ true → MemoryOnly f → ((c m : ℕ) → eqb code c ≡ false → is_command c m f ≡ false) → eqb code 0xF4 ≡ false → eqb code 0xF5 ≡ false → eqb code 0xF6 ≡ false → eqb code 0xF7 ≡ false → eqb code 0xF8 ≡ false → eqb code 0xF9 ≡ false → eqb code 0x12 ≡ false → eqb code 0x13 ≡ false → eqb code 0xD8 ≡ false → OnlyMemory f
only_memory code n f w basic other a b c d e g lock unlock set =
    record {
      basic = basic;
      asks_no_lamp =
          or_from _ _ (other 0xF4 4 a)
          (or_from _ _ (other 0xF5 2 b) (or_from _ _ (other 0xF6 2 c) (or_from _ _ (other 0xF7 2 d) (or_from _ _ (other 0xF8 2 e) (or_from _ _ (other 0xF9 2 g) refl)))));
      unlocked = cond-false (is_command 0x12 5 f) _ _ (other 0x12 5 lock) ∙ cond-false (is_command 0x13 2 f) _ _ (other 0x13 2 unlock);
      unset = other 0xD8 4 set;
    }

only_fc : (f : Frame) → is_command 0xFC 4 f ≡ true → OnlyMemory f
only_fc f w = only_memory 0xFC 4 f w (memory_only 0xFC 4 f w refl refl refl refl refl) (other_command 0xFC 4 f w) refl refl refl refl refl refl refl refl refl

only_fd : (f : Frame) → is_command 0xFD 3 f ≡ true → OnlyMemory f
only_fd f w = only_memory 0xFD 3 f w (memory_only 0xFD 3 f w refl refl refl refl refl) (other_command 0xFD 3 f w) refl refl refl refl refl refl refl refl refl

only_c9 : (f : Frame) → is_command 0xC9 3 f ≡ true → OnlyMemory f
only_c9 f w = only_memory 0xC9 3 f w (memory_only 0xC9 3 f w refl refl refl refl refl) (other_command 0xC9 3 f w) refl refl refl refl refl refl refl refl refl

only_ca : (f : Frame) → is_command 0xCA 7 f ≡ true → OnlyMemory f
only_ca f w = only_memory 0xCA 7 f w (memory_only 0xCA 7 f w refl refl refl refl refl) (other_command 0xCA 7 f w) refl refl refl refl refl refl refl refl refl

-- what a frame of the memory stores and sends
module _ (own : ℕ) (cells : List ℕ) (f : Frame) where
  stored_of : (bs : List ℕ) → payload f ≡ bs → stored cells f ≡ cond (leb (cell f + length bs) (length cells)) (put cells (cell f) bs) cells
  stored_of bs e = ap (λ t. cond (leb (cell f + length t) (length cells)) (put cells (cell f) t) cells) e

  stored_within : (bs : List ℕ) → payload f ≡ bs → cell f + length bs ≤ length cells → stored cells f ≡ put cells (cell f) bs
  stored_within bs e h = stored_of bs e ∙ cond-true (leb (cell f + length bs) (length cells)) _ _ (le-leb _ _ h)

  stored_beyond : (bs : List ℕ) → payload f ≡ bs → length cells < cell f + length bs → stored cells f ≡ cells
  stored_beyond bs e h = stored_of bs e ∙ cond-false (leb (cell f + length bs) (length cells)) _ _ (lt-leb _ _ h)

  in_within : (n : ℕ) (g : Frame) → cell f + n ≤ length cells → in_memory n f cells g ≡ g ∷ []
  in_within n g h = cond-true (leb (cell f + n) (length cells)) _ _ (le-leb _ _ h)

  in_beyond : (n : ℕ) (g : Frame) → length cells < cell f + n → in_memory n f cells g ≡ []
  in_beyond n g h = cond-false (leb (cell f + n) (length cells)) _ _ (lt-leb _ _ h)

  abbrev one : List ℕ
  one = byte f 3 ∷ []

  abbrev four : List ℕ
  four = byte f 3 ∷ byte f 4 ∷ byte f 5 ∷ byte f 6 ∷ []

  carries_one : is_command 0xFC 4 f ≡ true → payload f ≡ one
  carries_one w = cond-true (is_command 0xFC 4 f) _ _ w

  carries_four : is_command 0xCA 7 f ≡ true → payload f ≡ four
  carries_four w = cond-false (is_command 0xFC 4 f) _ _ (other_command 0xCA 7 f w 0xFC 4 refl) ∙ cond-true (is_command 0xCA 7 f) _ _ w

  sent_fc : is_command 0xFC 4 f ≡ true → memory_sent own cells f ≡ []
  sent_fc w = no_memory own cells f (other_command 0xFC 4 f w 0xFD 3 refl) (other_command 0xFC 4 f w 0xC9 3 refl) (other_command 0xFC 4 f w 0xCA 7 refl)

  sent_fd : is_command 0xFD 3 f ≡ true → memory_sent own cells f ≡ in_memory 1 f cells (cell_frame own f cells)
  sent_fd w = cond-true (is_command 0xFD 3 f) _ _ w

  sent_c9 : is_command 0xC9 3 f ≡ true → memory_sent own cells f ≡ in_memory 4 f cells (block_frame own f (stored cells f))
  sent_c9 w =
      cond-false (is_command 0xFD 3 f) _ _ (other_command 0xC9 3 f w 0xFD 3 refl)
      ∙ cond-true (is_command 0xC9 3 f || is_command 0xCA 7 f) _ _ (or_left (is_command 0xC9 3 f) (is_command 0xCA 7 f) w)

  sent_ca : is_command 0xCA 7 f ≡ true → memory_sent own cells f ≡ in_memory 4 f cells (block_frame own f (stored cells f))
  sent_ca w =
      cond-false (is_command 0xFD 3 f) _ _ (other_command 0xCA 7 f w 0xFD 3 refl)
      ∙ cond-true (is_command 0xC9 3 f || is_command 0xCA 7 f) _ _ (or_right (is_command 0xC9 3 f) (is_command 0xCA 7 f) w)

  unwritten_fd : is_command 0xFD 3 f ≡ true → stored cells f ≡ cells
  unwritten_fd w = stored_unwritten cells f (or_from (is_command 0xFC 4 f) (is_command 0xCA 7 f) (other_command 0xFD 3 f w 0xFC 4 refl) (other_command 0xFD 3 f w 0xCA 7 refl))

  unwritten_c9 : is_command 0xC9 3 f ≡ true → stored cells f ≡ cells
  unwritten_c9 w = stored_unwritten cells f (or_from (is_command 0xFC 4 f) (is_command 0xCA 7 f) (other_command 0xC9 3 f w 0xFC 4 refl) (other_command 0xC9 3 f w 0xCA 7 refl))

  -- cells that bytes were put into
  put_one : cell f + 1 ≤ length cells → (i : ℕ) → i < 1 → get_or (put cells (cell f) one) (cell f + i) 0 ≡ get_or f.bytes (3 + i) 0
  put_one h zero l = put_inside one cells (cell f) 0 (omega arith) h
  put_one h (suc i) l = absurd (omega arith)

  put_four : cell f + 4 ≤ length cells → (i : ℕ) → i < 4 → get_or (put cells (cell f) four) (cell f + i) 0 ≡ get_or f.bytes (3 + i) 0
  put_four h zero l = put_inside four cells (cell f) 0 (omega arith) h
  put_four h (suc zero) l = put_inside four cells (cell f) 1 (omega arith) h
  put_four h (suc (suc zero)) l = put_inside four cells (cell f) 2 (omega arith) h
  put_four h (suc (suc (suc zero))) l = put_inside four cells (cell f) 3 (omega arith) h
  put_four h (suc (suc (suc (suc i)))) l = absurd (omega arith)

-- a design that does on such frames what its memory does, and whose state bytes stay
record Plain (Such : List ℕ → Type 0) (d : Design) : Type 0 where
  memory : ByMemory d
  state : (own : ℕ) (r : Record) (f : Frame) → Such r.state → OnlyMemory f → (d.command own r f).after.state ≡ r.state
  broadcast : (own : ℕ) (r : Record) (f : Frame) → (d.broadcast own r f).after.cells ≡ r.cells
  status : (own : ℕ) (r : Record) (f : Frame) → (d.status own r f).after.cells ≡ r.cells
  second : (own : ℕ) (r : Record) → (d.second own r).after.cells ≡ r.cells
  push : (own : ℕ) (r : Record) (channel : ℕ) (edge : Edge) → (d.push own r channel edge).after.cells ≡ r.cells

module _ (Such : List ℕ → Type 0) (d : Design) (plain : Plain Such d) where
  -- nothing comes where nothing is stored and nothing sent
  none : (own : ℕ) (r : Record) (f : Frame) → f.address ≡ own → Such r.state → OnlyMemory f → stored r.cells f ≡ r.cells → memory_sent own r.cells f ≡ [] → NothingComes r (answered d own r (Heard f))
  none own r f at such only kept silent =
      subst (NothingComes r) (sym (at_own d own r f at))
      (record { stays = same_record _ r (plain.memory.stores own r f ∙ kept) (plain.state own r f such only); silent = plain.memory.sends own r f only.basic ∙ silent })

  out_of_range : OutOfRange Such (designed d)
  out_of_range =
      record {
        write = λ own r f at w such h. none own r f at such (only_fc f w) (stored_beyond own r.cells f _ (carries_one own r.cells f w) h) (sent_fc own r.cells f w);
        read = λ own r f at w such h. none own r f at such (only_fd f w) (unwritten_fd own r.cells f w) (sent_fd own r.cells f w ∙ in_beyond own r.cells f 1 _ h);
        read_four = λ own r f at w such h. none own r f at such (only_c9 f w) (unwritten_c9 own r.cells f w) (sent_c9 own r.cells f w ∙ in_beyond own r.cells f 4 _ h);
        write_four = λ own r f at w such h.
            none own r f at such (only_ca f w) (stored_beyond own r.cells f _ (carries_four own r.cells f w) h) (sent_ca own r.cells f w ∙ in_beyond own r.cells f 4 _ h);
      }

  -- n bytes are stored, and these frames sent
  stores_these : (own : ℕ) (r : Record) (f : Frame) → f.address ≡ own → Such r.state → OnlyMemory f → (bs : List ℕ) (fs : List Frame) → stored r.cells f ≡ put r.cells (cell f) bs →
      ((i : ℕ) → i < length bs → get_or (put r.cells (cell f) bs) (cell f + i) 0 ≡ get_or f.bytes (3 + i) 0) → memory_sent own r.cells f ≡ fs →
      BytesWritten (length bs) r f fs (answered d own r (Heard f))
  stores_these own r f at such only bs fs kept puts sent =
      let stores : (d.command own r f).after.cells ≡ put r.cells (cell f) bs = plain.memory.stores own r f ∙ kept in
      subst (BytesWritten (length bs) r f fs) (sym (at_own d own r f at)) (record {
        holds = λ i l. ap (λ t. get_or t (cell f + i) 0) stores ∙ puts i l;
        others = λ a out. ap (λ t. get_or t a 0) stores ∙ put_outside bs r.cells (cell f) a out;
        size = ap length stores ∙ length-put r.cells (cell f) bs;
        state = plain.state own r f such only;
        sent = plain.memory.sends own r f only.basic ∙ sent;
      })

  answers_these : (own : ℕ) (r : Record) (f : Frame) → f.address ≡ own → Such r.state → OnlyMemory f → (fs : List Frame) → stored r.cells f ≡ r.cells → memory_sent own r.cells f ≡ fs →
      IsAnswered r fs (answered d own r (Heard f))
  answers_these own r f at such only fs kept sent =
      subst (IsAnswered r fs) (sym (at_own d own r f at))
      (record { stays = same_record _ r (plain.memory.stores own r f ∙ kept) (plain.state own r f such only); sent = plain.memory.sends own r f only.basic ∙ sent })

  obeys : MemoryObeyed Such (designed d)
  obeys =
      record {
        write = λ own r f at w such h.
            let c = r.cells in
            stores_these own r f at such (only_fc f w) (byte f 3 ∷ []) [] (stored_within own c f _ (carries_one own c f w) h) (put_one own c f h) (sent_fc own c f w);
        write_four = λ own r f at w such h.
            let c = r.cells in
            let bs : List ℕ = byte f 3 ∷ byte f 4 ∷ byte f 5 ∷ byte f 6 ∷ [] in
            let kept = stored_within own c f bs (carries_four own c f w) h in
            let told : four_cells (stored c f) (cell f) ≡ bs = ap (λ t. four_cells t (cell f)) kept ∙ four-put c (cell f) (byte f 3) (byte f 4) (byte f 5) (byte f 6) h in
            stores_these own r f at such (only_ca f w) bs (reply own 0xCC f bs ∷ []) kept (put_four own c f h)
            (sent_ca own c f w ∙ (in_within own c f 4 _ h ∙ ap (λ t. reply own 0xCC f t ∷ []) told));
        read = λ own r f at w such h.
            let c = r.cells in
            answers_these own r f at such (only_fd f w) _ (unwritten_fd own c f w) (sent_fd own c f w ∙ in_within own c f 1 _ h);
        read_four = λ own r f at w such h.
            let c = r.cells in
            let kept = unwritten_c9 own c f w in
            answers_these own r f at such (only_c9 f w) (reply own 0xCC f (four_cells c (cell f)) ∷ []) kept
            (sent_c9 own c f w ∙ (in_within own c f 4 _ h ∙ ap (λ t. reply own 0xCC f (four_cells t (cell f)) ∷ []) kept));
      }

  keeps : CellsKept (designed d)
  keeps own r (Heard f) h =
      let Same : Outcome → Type 0 = λ o. o.after.cells ≡ r.cells in
      cond_both (eqb f.address own) (d.command own r f) _ Same
      (λ at.
      let a = or_parts (is_command 0xFC 4 f) _ (h (eqb-true f.address own at)) in
      let b = or_parts (is_command 0xCA 7 f) _ a.1 in
      plain.memory.stores own r f ∙ stored_unwritten r.cells f (or_from (is_command 0xFC 4 f) (is_command 0xCA 7 f) a.0 b.0))
      (λ _. cond_both (eqb f.address 0) (d.broadcast own r f) _ Same (λ _. plain.broadcast own r f) (λ _. cond_both _ (d.status own r f) (idle r) Same (λ _. plain.status own r f) (λ _. refl)))
  keeps own r Second h = plain.second own r
  keeps own r (Pushed p) h =
      cond_both (eqb p.address own) (d.push own r p.channel p.edge) (idle r) (λ o. o.after.cells ≡ r.cells) (λ _. plain.push own r p.channel p.edge) (λ _. refl)

  count_keeps : CellCountKept (designed d)
  count_keeps own r (Heard f) =
      let Same : Outcome → Type 0 = λ o. length o.after.cells ≡ length r.cells in
      cond_both (eqb f.address own) (d.command own r f) _ Same
      (λ _. ap length (plain.memory.stores own r f)
      ∙ cond_both (leb (cell f + length (payload f)) (length r.cells)) (put r.cells (cell f) (payload f)) r.cells (λ t. length t ≡ length r.cells)
      (λ _. length-put r.cells (cell f) (payload f)) (λ _. refl))
      (λ _. cond_both (eqb f.address 0) (d.broadcast own r f) _ Same (λ _. ap length (plain.broadcast own r f))
      (λ _. cond_both _ (d.status own r f) (idle r) Same (λ _. ap length (plain.status own r f)) (λ _. refl)))
  count_keeps own r Second = ap length (plain.second own r)
  count_keeps own r (Pushed p) =
      cond_both (eqb p.address own) (d.push own r p.channel p.edge) (idle r) (λ o. length o.after.cells ≡ length r.cells) (λ _. ap length (plain.push own r p.channel p.edge)) (λ _. refl)

relay_plain : (s : RelaySetup) → Plain RelayBytes (relay_design s)
relay_plain s = record { memory = relay_by_memory s; state = λ own r f h only. relay_stays s own r f h only.basic.no_action; broadcast = λ own r f. refl; status = λ own r f. refl; second = λ own r. refl; push = λ own r c e. refl }

panel_plain : (s : PanelSetup) → Plain PanelBytes (panel_design s)
panel_plain s = record { memory = panel_by_memory s; state = λ own r f h only. panel_stays s own r f h only.asks_no_lamp; broadcast = λ own r f. refl; status = λ own r f. refl; second = λ own r. refl; push = λ own r c e. refl }

buttons_plain : (s : InterfaceSetup) → Plain InterfaceBytes (buttons_design s)
buttons_plain s =
    record {
      memory = buttons_by_memory s;
      state = λ own r f h only. interface_stays s own r f h only.asks_no_lamp only.unlocked (and_right (eqb f.address 0) (is_command 0xD8 4 f) only.unset);
      broadcast = λ own r f. refl;
      status = λ own r f. refl;
      second = λ own r. refl;
      push = λ own r c e. refl;
    }

pub nothing_out_of_range : EveryModuleWith OutOfRange
nothing_out_of_range =
    record {
      relay = λ s. out_of_range RelayBytes (relay_design s) (relay_plain s);
      panel = λ s. out_of_range PanelBytes (panel_design s) (panel_plain s);
      buttons = λ s. out_of_range InterfaceBytes (buttons_design s) (buttons_plain s);
    }

pub memory_obeyed : EveryModuleWith MemoryObeyed
memory_obeyed =
    record {
      relay = λ s. obeys RelayBytes (relay_design s) (relay_plain s);
      panel = λ s. obeys PanelBytes (panel_design s) (panel_plain s);
      buttons = λ s. obeys InterfaceBytes (buttons_design s) (buttons_plain s);
    }

pub cells_kept : EveryModule CellsKept
cells_kept =
    record {
      relay = λ s. keeps RelayBytes (relay_design s) (relay_plain s);
      panel = λ s. keeps PanelBytes (panel_design s) (panel_plain s);
      buttons = λ s. keeps InterfaceBytes (buttons_design s) (buttons_plain s);
    }

pub cell_count_kept : EveryModule CellCountKept
cell_count_kept =
    record {
      relay = λ s. count_keeps RelayBytes (relay_design s) (relay_plain s);
      panel = λ s. count_keeps PanelBytes (panel_design s) (panel_plain s);
      buttons = λ s. count_keeps InterfaceBytes (buttons_design s) (buttons_plain s);
    }
