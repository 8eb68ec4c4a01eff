use Rattle.std.proofs.Common.{◌≡◌, ℕ, ◌<◌, true}
use Rattle.groups.specs.Marks.{marked}
use Rattle.groups.proofs.search.next.Given as goal

-- what is marked so far was followed
abbrev pub invariant-loop-address : goal.invariant-loop-address
invariant-loop-address l = (b : ℕ) → b < l.address → marked l.marks b ≡ true → marked l.followed b ≡ true
