use Rattle.std.proofs.Common.{◌≡◌, ◌∷◌, [], ◌++◌, replicate, refl, ap, ◌∙◌, arith}
use Rattle.std.proofs.lemmas.List.{length-replicate, replicate-append-replicate}
use Rattle.bus.proofs.Outboxes.{sends_both, sends_same, sends_none, room_left}
use Rattle.chime.specs.Chimes.{stroke}
use Rattle.chime.proofs.chime.Chime.strike.Goals as goal

pub loop-init : goal.loop-init
loop-init c = sends_none c.args.out.now _ refl

pub send-requires : goal.send-requires
send-requires c =
    let s = stroke c.args.self.now.tone c.args.self.now.address in
    let n = c.loop.counter in
    room_left n 1 c.loop.invariant (omega (arith, length-replicate n s)) (omega (arith, c.requires))

pub loop-preserved : goal.loop-preserved
loop-preserved c =
    let s = stroke c.args.self.now.tone c.args.self.now.address in
    let n = c.loop.counter in
    sends_same (sends_both c.loop.invariant c.send.ensures) (ap (λ f. replicate n s ++ f ∷ []) c.stroke.ensures ∙ replicate-append-replicate n 1 s)

pub returns : goal.returns
returns c =
    let s = stroke c.args.self.now.tone c.args.self.now.address in
    let all : c.loop.counter ≡ c.args.times = omega arith in
    sends_same c.loop.invariant (ap (λ n. replicate n s) all)
