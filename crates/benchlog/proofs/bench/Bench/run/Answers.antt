use Rattle.std.proofs.Common.{◌≡◌, ◌++◌, ◌∷◌, [], map, take, ap, sym, subst, ◌∙◌}
use Rattle.std.specs.Io.KnownBytes.{Appends}
use Rattle.std.proofs.lemmas.List.{append_assoc, map-append}
use Rattle.std.proofs.lemmas.Result.{err_from_is_err_and}
use Rattle.benchlog.specs.Items.{shown_found}
use Rattle.benchlog.specs.Reading.{EndsAtFault}
use Rattle.benchlog.specs.Readers.{left}
use Rattle.benchlog.specs.Benches.{bench_bus, found_bytes, RanItems}
use Rattle.benchlog.proofs.Passing.{told_ends, no_end_before}
use Rattle.benchlog.proofs.Ran.{ran_more, appended, front}
use Rattle.benchlog.proofs.bench.Bench.run.Goals as goal

pub loop-found-preserved : goal.loop-found-preserved
loop-found-preserved g c =
    let ps = map shown_found c.loop-found.yielded in
    let f = shown_found c.in-Some.found in
    let rest = left c.next.new.self in
    let before = c.loop-found.invariant in
    let bus = bench_bus g.S.Station.seats in
    let x = bus c.args.self.now in
    let y = bus c.loop-found.self in
    let whole = before.read ∙ ap (λ t. ps ++ t) c.in-Some.ensures.steps in
    let mapped = map-append shown_found c.loop-found.yielded (c.in-Some.found ∷ []) in
    let none = no_end_before ps rest f (subst EndsAtFault whole (told_ends c.args.log.now)) in
    let bytes = before.ran.0 in
    let last = found_bytes y f in
    let ran = ran_more ps f x y bytes none before.ran.1 in
    let moved = subst (λ z. RanItems (ps ++ f ∷ []) x z (bytes ++ last)) (sym c.write_found-count.ensures.bus) ran in
    let written : Appends (g.K.Sink.contents c.loop-found.out) (g.K.Sink.contents c.accept.new.self) last = subst (Appends (g.K.Sink.contents c.loop-found.out) (g.K.Sink.contents c.accept.new.self)) (front last _ _ _ c.write_found-count.ensures.count c.write_found-count.ensures.bytes) c.in_ok-accept.ensures.taken in
    record {
      read = whole ∙ sym (append_assoc ps (f ∷ []) rest) ∙ ap (λ t. t ++ rest) (sym mapped);
      ran = (bytes ++ last, subst (λ fs. RanItems fs x (bus c.write_found-count.new.self) (bytes ++ last)) (sym mapped) moved, appended _ _ _ bytes last before.ran.2 written);
    }

pub returns-in_err-accept-clause-unfinished : goal.returns-in_err-accept-clause-unfinished
returns-in_err-accept-clause-unfinished g c =
    let p = err_from_is_err_and c.from_residual.result c.from_residual.ensures.1 in
    let y = bench_bus g.S.Station.seats c.loop-found.self in
    let f = shown_found c.in-Some.found in
    let before = c.loop-found.invariant in
    let just : take c.write_found-count.result c.write_found-count.new.buffer ≡ found_bytes y f = front (found_bytes y f) _ _ _ c.write_found-count.ensures.count c.write_found-count.ensures.bytes in
    rw p.1 (record {
      first = map shown_found c.loop-found.yielded;
      last = f;
      others = left c.next.new.self;
      bus = y;
      bytes = before.ran.0;
      sink = c.loop-found.out;
      read = before.read ∙ ap (λ t. map shown_found c.loop-found.yielded ++ t) c.in-Some.ensures.steps;
      ran = before.ran.1;
      taken = before.ran.2;
      left = c.write_found-count.ensures.bus;
      refused = subst (λ e. g.K.Sink.refuses c.loop-found.out (found_bytes y f) e c.accept.new.self) (sym p.2) (subst (λ bs. g.K.Sink.refuses c.loop-found.out bs c.in_err-accept.field-0.0 c.accept.new.self) just c.in_err-accept.ensures.refused);
    })
