-- What is done to each of the four channels alike, and what holds of each. Assumes nothing.
use Rattle.std.specs.Prelude.{ℕ, Bool, ◌||◌}
use Rattle.relay.specs.declared.per_channel.PerChannel.{PerChannel}

-- the same of each channel's value
abbrev pub each : {A B : Type 0} → (A → B) → PerChannel A → PerChannel B
each f x = record { one = f x.one; two = f x.two; three = f x.three; four = f x.four }

-- the same of each channel's two values
abbrev pub paired : {A B C : Type 0} → (A → B → C) → PerChannel A → PerChannel B → PerChannel C
paired f x y =
    record { one = f x.one y.one; two = f x.two y.two; three = f x.three y.three; four = f x.four y.four }

-- the same of each channel's number, counted from 0
abbrev pub numbered : {A : Type 0} → (ℕ → A) → PerChannel A
numbered f = record { one = f 0; two = f 1; three = f 2; four = f 3 }

-- it is so of some channel
abbrev pub some : PerChannel Bool → Bool
some x = x.one || (x.two || (x.three || x.four))

-- P holds of each channel's value
pub record Each {A : Type 0} (P : A → Type 0) (x : PerChannel A) : Type 0 where
  pub one : P x.one
  pub two : P x.two
  pub three : P x.three
  pub four : P x.four

-- R holds of each channel's two values
pub record Paired {A B : Type 0} (R : A → B → Type 0) (x : PerChannel A) (y : PerChannel B) : Type 0 where
  pub one : R x.one y.one
  pub two : R x.two y.two
  pub three : R x.three y.three
  pub four : R x.four y.four
