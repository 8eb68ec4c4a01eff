use Rattle.std.proofs.Common.{◌≡◌, ℕ, ◌+◌, Bool, true, false, cond, ltb, length, get_or, Some, None, refl, ap, ◌∙◌, arith, rules}
use Rattle.std.proofs.lemmas.Bool.{ltb-true}
use Rattle.timing.specs.TimeCodes.{by_stretch, stretches}
use Rattle.timing.proofs.Table.{ruled}
use Rattle.timing.proofs.codes.entry.Goals as goal

-- where there is an entry, it is enough that the entries are the same
same_entry : (b : Bool) (x y : ℕ) → (b ≡ true → x ≡ y) → cond b (Some x) None ≡ cond b (Some y) None
same_entry true x y h = ap Some (h refl)
same_entry false x y h = refl

pub returns : goal.returns
returns c =
    let table = c.args.table.now in
    let place = c.args.code in
    let read : c.copied.result ≡ cond (ltb place 252) (Some (get_or table place 0)) None = search rules in
    let same : 0 + place ≡ place = omega arith in
    let long : length table ≡ 252 = search rules in
    read ∙ same_entry (ltb place 252) (get_or table place 0) (by_stretch stretches place) (λ h. ruled table 0 place c.requires (omega (arith, long, ltb-true place 252 h)) ∙ ap (by_stretch stretches) same)
