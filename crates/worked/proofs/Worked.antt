-- The worked runs meet the premises. Assumes nothing.
use Rattle.std.proofs.Common.{◌≡◌, ℕ, Bool, true, false, List, [], ◌∷◌, ◌++◌, refl, sym, subst, ap, ◌∙◌, arith, rules}
use Rattle.module.specs.Designs.{Orderly}
use Rattle.module.specs.Orderly.{orderly_lawful}
use Rattle.module.specs.Searches.{first}
use Rattle.station.specs.Kinds.{Record, Seat}
use Rattle.std.specs.List.{AllByRecursion}
use Rattle.station.specs.Rules.{Lawful}
use Rattle.house.specs.declared.call.Call.TheVariants.{Put, Clear}
use Rattle.house.specs.Answers.{accepted, cleared}
use Rattle.runs.specs.Isolation.{Apart}
use Rattle.panel.specs.declared.panel.PanelSetup.{PanelSetup}
use Rattle.panel.specs.Panels.{design as panel_design}
use Rattle.relay.specs.Relays.{design as relay_design}
use Rattle.relay.specs.Orderly.{relay_orderly}
use Rattle.chime.specs.Lawful.{chime_lawful}
use Rattle.runs.specs.Runs.{quiet}
use Rattle.runs.proofs.Stations.{memory_stands, isolation_stands}
use Rattle.groups.specs.Links.{Uncrossed}
use Rattle.worked.specs.WorkedRun.{relay_setup, panel_setup, relay_at, panel_at, chime, no_links, linked_cells, here, there, faulty, group, panel_only, ding, link_write, long_write, noted, press, asking, linking, toggling, unanswered, timing, here_alone, there_alone, here_run, there_run, here_end, there_end, lossy_run, lossy_end, faulty_run, PremisesMet, MuchHappens, LawsApplied}
use Rattle.worked.proofs.Borders.{Within, some_stray, none_stray, none_stray_here, none_stray_there, relay_within, panel_within, chime_within, uncrossed}
use Rattle.worked.proofs.Runs.{Course, then, done, joined, run_of, always_of, clears_nothing}

relay_lawful : (a : ℕ) → Lawful (relay_at a no_links 0)
relay_lawful a = orderly_lawful (relay_design _) a _ (relay_orderly _) refl

panel_orderly : (s : PanelSetup) → Orderly (panel_design s)
panel_orderly s = search rules

panel_lawful : (a lamps buttons : ℕ) → Lawful (panel_at a lamps buttons)
panel_lawful a lamps buttons = orderly_lawful (panel_design _) a _ (panel_orderly _) refl

chime_is_lawful : Lawful chime
chime_is_lawful = chime_lawful 5 0x30 _ (record { full = refl; few = omega arith })

chime_inside : (g : ℕ → Bool) → g 0x30 ≡ g 0x40 → Within g chime
chime_inside g e = chime_within g 5 0x30 chime.content e

-- a seat whatever it remembers
abbrev recalling : Record → Seat → Seat
recalling r s = record { kind = s.kind; address = s.address; content = r }

abbrev here_with : Record → Record → Record → List Seat
here_with a b c = recalling a (panel_at 0x30 0 0) ∷ recalling b (relay_at 0x10 no_links 0) ∷ recalling c (panel_at 0x20 4 2) ∷ []

abbrev there_with : Record → Record → Record → Record → List Seat
there_with a b c d = recalling a (relay_at 0x10 no_links 0) ∷ recalling b (panel_at 0x40 0 0) ∷ recalling c (panel_at 0x20 4 2) ∷ recalling d (relay_at 0x50 no_links 0) ∷ chime ∷ []

-- the seats of a house of which no relay links across the border
record HereKept (ss : List Seat) : Type 0 where
  a : Record
  b : Record
  c : Record
  seats : ss ≡ here_with a b c
  relay : some_stray group true b.cells ≡ false

record ThereKept (ss : List Seat) : Type 0 where
  a : Record
  b : Record
  c : Record
  d : Record
  seats : ss ≡ there_with a b c d
  relay : some_stray group true a.cells ≡ false
  other : some_stray group false d.cells ≡ false

here_uncrossed : (ss : List Seat) → HereKept ss → Uncrossed group ss
here_uncrossed ss k =
    subst (Uncrossed group) (sym k.seats)
    (uncrossed group (here_with k.a k.b k.c) (panel_within group panel_setup _ k.a, (relay_within group relay_setup _ k.b k.relay, (panel_within group panel_setup _ k.c, tt))))

there_uncrossed : (ss : List Seat) → ThereKept ss → Uncrossed group ss
there_uncrossed ss k =
    subst (Uncrossed group) (sym k.seats)
    (uncrossed group (there_with k.a k.b k.c k.d) (relay_within group relay_setup _ k.a k.relay, (panel_within group panel_setup _ k.b, (panel_within group panel_setup _ k.c, (relay_within group relay_setup _ k.d k.other, (chime_inside group refl, tt))))))

-- before and after the write of the link
module _ {ss : List Seat} {a b c : Record} (e : ss ≡ here_with a b c) where
  here_new : b.cells ≡ no_links → HereKept ss
  here_new f = record { a = a; b = b; c = c; seats = e; relay = ap (some_stray group true) f ∙ none_stray true }

  here_linked : b.cells ≡ linked_cells 0x20 → HereKept ss
  here_linked f = record { a = a; b = b; c = c; seats = e; relay = ap (some_stray group true) f ∙ none_stray_here }

-- before both writes, between them, and after both
module _ {ss : List Seat} {a b c d : Record} (e : ss ≡ there_with a b c d) where
  there_new : a.cells ≡ no_links → d.cells ≡ no_links → ThereKept ss
  there_new f g = record { a = a; b = b; c = c; d = d; seats = e; relay = ap (some_stray group true) f ∙ none_stray true; other = ap (some_stray group false) g ∙ none_stray false }

  there_half : a.cells ≡ no_links → d.cells ≡ linked_cells 0x40 → ThereKept ss
  there_half f g = record { a = a; b = b; c = c; d = d; seats = e; relay = ap (some_stray group true) f ∙ none_stray true; other = ap (some_stray group false) g ∙ none_stray_there }

  there_linked : a.cells ≡ linked_cells 0x20 → d.cells ≡ linked_cells 0x40 → ThereKept ss
  there_linked f g = record { a = a; b = b; c = c; d = d; seats = e; relay = ap (some_stray group true) f ∙ none_stray_here; other = ap (some_stray group false) g ∙ none_stray_there }

-- the houses on the way
abbrev here_with_link : ℕ → ℕ → ℕ → ℕ → List Seat
here_with_link other one lamps buttons = panel_at 0x30 0 other ∷ relay_at 0x10 (linked_cells 0x20) one ∷ panel_at 0x20 lamps buttons ∷ []

abbrev lossy_first_seats : List Seat
lossy_first_seats = panel_at 0x30 0 0 ∷ relay_at 0x10 (linked_cells 0x40) 0 ∷ panel_at 0x20 4 2 ∷ []

abbrev there_half_seats : List Seat
there_half_seats = relay_at 0x10 no_links 0 ∷ panel_at 0x40 0 0 ∷ panel_at 0x20 4 2 ∷ relay_at 0x50 (linked_cells 0x40) 0 ∷ chime ∷ []

abbrev there_with_links : ℕ → ℕ → ℕ → List Seat
there_with_links one lamps buttons =
    relay_at 0x10 (linked_cells 0x20) one ∷ panel_at 0x40 0 0 ∷ panel_at 0x20 lamps buttons ∷ relay_at 0x50 (linked_cells 0x40) 0 ∷ chime ∷ []

here_linking : Course HereKept (quiet here) (linking 144 0x10 0x20) (quiet (here_with_link 0 0 4 2))
unfolding first
here_linking = then (here_new refl refl) (then (here_new refl refl) (then (here_linked refl refl) (done (here_linked refl refl))))

here_aside : Course HereKept (quiet (here_with_link 0 0 4 2)) here_alone (quiet (here_with_link 1 0 4 2))
unfolding first
here_aside = then (here_linked refl refl) (then (here_linked refl refl) (then (here_linked refl refl) (then (here_linked refl refl) (then (here_linked refl refl) (then (here_linked refl refl) (done (here_linked refl refl)))))))

here_toggling : Course HereKept (quiet (here_with_link 1 0 4 2)) (toggling 144 0x10 0x20 []) (quiet (here_with_link 1 1 5 3))
unfolding first
here_toggling = then (here_linked refl refl) (then (here_linked refl refl) (then (here_linked refl refl) (then (here_linked refl refl) (then (here_linked refl refl) (done (here_linked refl refl))))))

here_unanswered : Course HereKept (quiet (here_with_link 1 1 5 3)) (unanswered 144) (quiet here_end)
unfolding first
here_unanswered = then (here_linked refl refl) (then (here_linked refl refl) (then (here_linked refl refl) (then (here_linked refl refl) (then (here_linked refl refl) (then (here_linked refl refl) (done (here_linked refl refl)))))))

here_timing : Course HereKept (quiet here_end) (timing 144) (quiet here_end)
unfolding first
here_timing = then (here_linked refl refl) (then (here_linked refl refl) (then (here_linked refl refl) (then (here_linked refl refl) (then (here_linked refl refl) (then (here_linked refl refl) (then (here_linked refl refl) (done (here_linked refl refl))))))))

there_outside : Course ThereKept (quiet there) (linking 200 0x50 0x40) (quiet there_half_seats)
unfolding first
there_outside = then (there_new refl refl refl) (then (there_new refl refl refl) (then (there_half refl refl refl) (done (there_half refl refl refl))))

there_linking : Course ThereKept (quiet there_half_seats) (linking 200 0x10 0x20) (quiet (there_with_links 0 4 2))
unfolding first
there_linking = then (there_half refl refl refl) (then (there_half refl refl refl) (then (there_linked refl refl refl) (done (there_linked refl refl refl))))

there_aside : Course ThereKept (quiet (there_with_links 0 4 2)) there_alone (quiet (there_with_links 0 4 2))
unfolding first
there_aside = then (there_linked refl refl refl) (then (there_linked refl refl refl) (then (there_linked refl refl refl) (then (there_linked refl refl refl) (then (there_linked refl refl refl) (then (there_linked refl refl refl) (done (there_linked refl refl refl)))))))

there_toggling : Course ThereKept (quiet (there_with_links 0 4 2)) (toggling 200 0x10 0x20 []) (quiet (there_with_links 1 5 3))
unfolding first
there_toggling = then (there_linked refl refl refl) (then (there_linked refl refl refl) (then (there_linked refl refl refl) (then (there_linked refl refl refl) (then (there_linked refl refl refl) (done (there_linked refl refl refl))))))

there_unanswered : Course ThereKept (quiet (there_with_links 1 5 3)) (unanswered 200) (quiet (there_with_links 1 5 1))
unfolding first
there_unanswered = then (there_linked refl refl refl) (then (there_linked refl refl refl) (then (there_linked refl refl refl) (then (there_linked refl refl refl) (then (there_linked refl refl refl) (then (there_linked refl refl refl) (done (there_linked refl refl refl)))))))

there_outside_toggling : Course ThereKept (quiet (there_with_links 1 5 1)) (toggling 200 0x50 0x40 (ding ∷ ding ∷ [])) (quiet there_end)
unfolding first
there_outside_toggling = then (there_linked refl refl refl) (then (there_linked refl refl refl) (then (there_linked refl refl refl) (then (there_linked refl refl refl) (then (there_linked refl refl refl) (then (there_linked refl refl refl) (then (there_linked refl refl refl) (done (there_linked refl refl refl))))))))

there_timing : Course ThereKept (quiet there_end) (timing 200) (quiet there_end)
unfolding first
there_timing = then (there_linked refl refl refl) (then (there_linked refl refl refl) (then (there_linked refl refl refl) (then (there_linked refl refl refl) (then (there_linked refl refl refl) (then (there_linked refl refl refl) (then (there_linked refl refl refl) (done (there_linked refl refl refl))))))))

here_course : Course HereKept (quiet here) here_run (quiet here_end)
here_course = joined here_linking (joined here_aside (joined here_toggling (joined here_unanswered here_timing)))

there_course : Course ThereKept (quiet there) there_run (quiet there_end)
there_course =
    joined there_outside
    (joined there_linking (joined there_aside (joined there_toggling (joined there_unanswered (joined there_outside_toggling there_timing)))))

-- the third run, of which nothing is asked but that it is a run
lossy_first : Course (λ ss. Unit {0}) (quiet here) (linking 144 0x10 0x40) (quiet lossy_first_seats)
unfolding first
lossy_first = then tt (then tt (then tt (done tt)))

lossy_second : Course (λ ss. Unit {0}) (quiet lossy_first_seats) (linking 144 0x10 0x20) (quiet (here_with_link 0 0 4 2))
unfolding first
lossy_second = then tt (then tt (then tt (done tt)))

lossy_ending : Course (λ ss. Unit {0}) (quiet (here_with_link 0 0 4 2)) (asking 144 (long_write 0x10) [] ++ (noted (Put (link_write 0x10 0x40)) accepted [] ∷ noted Clear (cleared 1) [] ∷ press 144 0x30 ∷ [])) lossy_end
unfolding first
lossy_ending = then tt (then tt (then tt (then tt (then tt (done tt)))))

lossy_course : Course (λ ss. Unit {0}) (quiet here) lossy_run lossy_end
lossy_course = joined lossy_first (joined lossy_second lossy_ending)

-- the faulty house
faulty_lawful : AllByRecursion Lawful faulty
faulty_lawful = (panel_lawful 0x20 4 2, (panel_lawful 0x20 0 0, tt))

module _ (g : ℕ → Bool) where
  faulty_within : AllByRecursion (Within g) faulty
  faulty_within = (panel_within g panel_setup 0x20 (panel_at 0x20 4 2).content, (panel_within g panel_setup 0x20 (panel_at 0x20 0 0).content, tt))

  faulty_apart : Apart g faulty faulty_run faulty
  faulty_apart =
      let border = uncrossed g faulty faulty_within in
      record { run = (refl, (refl, refl)); border = (border, (border, border)); clears = clears_nothing faulty_run refl }

  longer_apart : g 0x30 ≡ g 0x40 → Apart g (chime ∷ faulty) [] (chime ∷ faulty)
  longer_apart e = record { run = refl; border = uncrossed g (chime ∷ faulty) (chime_inside g e, faulty_within); clears = tt }

pub premises_met : PremisesMet
premises_met =
    record {
      here_stands = (omega arith, ((omega arith, panel_lawful 0x30 0 0), ((omega arith, relay_lawful 0x10), ((omega arith, panel_lawful 0x20 4 2), tt))));
      there_stands = (omega arith, ((omega arith, relay_lawful 0x10), ((omega arith, panel_lawful 0x40 0 0), ((omega arith, panel_lawful 0x20 4 2), ((omega arith, relay_lawful 0x50), ((omega arith, chime_is_lawful), tt))))));
      faulty_stands = (omega arith, ((omega arith, panel_lawful 0x20 4 2), ((omega arith, panel_lawful 0x20 0 0), tt)));
      compared =
          record {
            lawful = (relay_lawful 0x10, (panel_lawful 0x40 0 0, (panel_lawful 0x20 4 2, (relay_lawful 0x50, (chime_is_lawful, tt)))));
            alike = refl;
            here =
                record {
                  run = run_of here_course;
                  border = always_of {Q = Uncrossed group} here_uncrossed here_course;
                  clears = clears_nothing here_run refl;
                };
            there =
                record {
                  run = run_of there_course;
                  border = always_of {Q = Uncrossed group} there_uncrossed there_course;
                  clears = clears_nothing there_run refl;
                };
            calls = refl;
          };
      lossy = run_of lossy_course;
      faulty_compared =
          record { lawful = (chime_is_lawful, faulty_lawful); alike = refl; here = faulty_apart panel_only; there = longer_apart panel_only refl; calls = refl };
    }

pub much_happens : MuchHappens
unfolding first
much_happens =
    record {
      houses = (refl, refl);
      runs = (refl, refl);
      buttons = (refl, refl);
      strokes = refl;
      inner_link = refl;
      other_links = (refl, refl);
      calls = refl;
      here_refused = refl;
      there_refused = refl;
      first_cell = refl;
      last_cell = (refl, refl);
      frames = refl;
      here_others = refl;
      there_others = refl;
    }

-- by the laws as they stand, so a premise more in one of them is refused here
pub laws_applied : LawsApplied
laws_applied =
    let p = premises_met in
    let c = p.compared in
    let d = p.faulty_compared in
    let alike = isolation_stands here p.here_stands group here_run here_end there there_run there_end c in
    let faulty_alike = isolation_stands faulty p.faulty_stands panel_only faulty_run faulty (chime ∷ faulty) [] (chime ∷ faulty) d in
    record {
      here_memory = memory_stands here p.here_stands here_run (quiet here_end) c.here.run;
      there_memory = memory_stands there p.there_stands there_run (quiet there_end) c.there.run;
      lossy_memory = memory_stands here p.here_stands lossy_run lossy_end p.lossy;
      faulty_memory = memory_stands faulty p.faulty_stands faulty_run (quiet faulty) d.here.run;
      same_end = alike.0;
      same_frames = alike.1;
      faulty_end = faulty_alike.0;
      faulty_frames = faulty_alike.1;
    }
