use Rattle.std.proofs.Common.{◌≡◌, ◌-◌, ◌&&◌, length, take, drop, sym, ap, ◌∙◌, rules}
use Rattle.std.proofs.lemmas.List.{take_rest}
use Rattle.bus.specs.Frames.{zeros}
use Rattle.bus.proofs.frame.Frame.is_well_formed.Goals as goal

pub returns-then-has_sound_header : goal.returns-then-has_sound_header
returns-then-has_sound_header c =
    let f = c.args.self.now in
    let n = c.from.result in
    let eight : length f.bytes ≡ 8 = search rules in
    let rest : take (8 - n) (drop n f.bytes) ≡ drop n f.bytes =
    ap (λ k. take (k - n) (drop n f.bytes)) (sym eight) ∙ take_rest f.bytes n in
    let past : c.all_zero.result ≡ zeros (drop f.count f.bytes) =
    c.all_zero.ensures ∙ (ap zeros rest ∙ ap (λ k. zeros (drop k f.bytes)) c.from.ensures) in
    past ∙ ap (λ t. t && zeros (drop f.count f.bytes)) c.if-has_sound_header.ensures.value
