-- The seats of a group by themselves: their calls determine what comes of them. Assumes nothing.
use Rattle.std.proofs.Common.{◌≡◌, List, [], ◌∷◌, ◌++◌, Some, None, Option, ◌⊎◌, sym, refl, subst, inl, inr}
use Rattle.bus.specs.declared.frame.Frame.{Frame}
use Rattle.station.specs.declared.event.Event.TheVariants.{Heard}
use Rattle.station.specs.Kinds.{Seat}
use Rattle.house.specs.declared.call.Call.{Call}
use Rattle.house.specs.Turns.{Turn, acted, served}

-- what a move leads to: the seats and the pending frames after it, the frames sent, and the calls yet to come
pub record Move : Type 0 where
  pub seats : List Seat
  pub pending : List Frame
  pub sent : List Frame
  pub calls : List Call

-- the move of a turn
abbrev pub made : Turn → List Call → Move
made t cs = record { seats = t.seats; pending = t.pending; sent = t.sent; calls = cs }

-- the next move: the oldest frame passes, or, with none pending, the next call is served
abbrev pub next : List Seat → List Frame → List Call → Option Move
next gs [] [] = None
next gs [] (c ∷ cs) = Some (made (served gs [] c) cs)
next gs (f ∷ q) cs = Some (made (acted (Heard f) gs q) cs)

-- the seats, the pending frames and the calls, moved on until nothing is left: the seats then, and all the frames sent
pub data RunsAlone : List Seat → List Frame → List Call → List Seat → List Frame → Type 0 where
  at_end : {gs : List Seat} → RunsAlone gs [] [] gs []
  by_move : {gs end : List Seat} {q fs : List Frame} {cs : List Call} (m : Move) → next gs q cs ≡ Some m → RunsAlone m.seats m.pending m.calls end fs → RunsAlone gs q cs end (m.sent ++ fs)

-- each next move is determined, so the end is
pub same_end : {gs end last : List Seat} {q fs hs : List Frame} {cs : List Call} → RunsAlone gs q cs end fs → RunsAlone gs q cs last hs → (end ≡ last) × (fs ≡ hs)
same_end at_end at_end = (refl, refl)
same_end at_end (by_move m e y) = absurd cc
same_end (by_move m e x) at_end = absurd cc
same_end (by_move m e x) (by_move n d y) =
    let same : n ≡ m = cc in
    let rest = same_end x (rw same at y) in
    (rest.0, λ i. (sym same i).sent ++ rest.1 i)

-- a move is the next, or it changes nothing
abbrev pub Follows : List Seat → List Frame → List Call → Move → Type 0
Follows gs q cs m = (next gs q cs ≡ Some m) ⊎ (m ≡ record { seats = gs; pending = q; sent = []; calls = cs })

-- such a move, then all the others
pub moved_first : (gs : List Seat) (q : List Frame) (cs : List Call) (m : Move) (end : List Seat) (fs : List Frame) → Follows gs q cs m → RunsAlone m.seats m.pending m.calls end fs → RunsAlone gs q cs end (m.sent ++ fs)
moved_first gs q cs m end fs (inl e) rest = by_move m e rest
moved_first gs q cs m end fs (inr e) rest = subst (λ n. RunsAlone n.seats n.pending n.calls end fs → RunsAlone gs q cs end (n.sent ++ fs)) (sym e) (λ y. y) rest
