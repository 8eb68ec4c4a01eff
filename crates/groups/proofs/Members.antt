-- What follows from an address's place in a group. Assumes nothing.
use Rattle.std.proofs.Common.{◌≡◌, ℕ, Bool, true, List, take, sym, ◌∙◌}
use Rattle.std.proofs.lemmas.List.Elements.{All-weaker}
use Rattle.groups.specs.Links.{link, Belongs, itself, linked_by, links_to, Lists, OwnGroup, ClosedGroup, SmallestGroup}

-- links told in another way give the same group
pub told_otherwise : (r q : ℕ → ℕ → Bool) (e : (b c : ℕ) → q b c ≡ r b c) (a b : ℕ) → Belongs r a b → Belongs q a b
told_otherwise r q e a b itself = itself
told_otherwise r q e a b (linked_by c _ m l) = linked_by c b (told_otherwise r q e a c m) (e c b ∙ l)
told_otherwise r q e a b (links_to _ c m l) = links_to b c (told_otherwise r q e a c m) (e b c ∙ l)

-- what the start has, and a link hands on in both directions, each member has
pub every_member : (r : ℕ → ℕ → Bool) (P : ℕ → Type 0) (on : (b c : ℕ) → r b c ≡ true → P b → P c) (back : (b c : ℕ) → r b c ≡ true → P c → P b) (a : ℕ) → P a → (b : ℕ) → Belongs r a b → P b
every_member r P on back a h b itself = h
every_member r P on back a h b (linked_by c _ m l) = on c b l (every_member r P on back a h c m)
every_member r P on back a h b (links_to _ c m l) = back b c l (every_member r P on back a h c m)

pub own : OwnGroup
own ss a = itself

pub closed : ClosedGroup
closed ss a b c l = ((λ m. linked_by b c m l), (λ m. links_to b c m l))

pub smallest : SmallestGroup
smallest ss a g h u b m = every_member (link ss) (λ x. g x ≡ true) (λ x y l p. sym (u x y l) ∙ p) (λ x y l p. u x y l ∙ p) a h b m

-- what holds of the same addresses is listed as well
pub listed_otherwise : (P Q : ℕ → Type 0) (to : (b : ℕ) → P b → Q b) (from : (b : ℕ) → Q b → P b) (n : ℕ) (old new : List ℕ) → Lists P n old new → Lists Q n old new
listed_otherwise P Q to from n old new l =
    record { fits = l.fits; members = All-weaker P Q to (take n new) l.members; complete = λ b q. l.complete b (from b q); once = l.once; rest = l.rest; size = l.size }
