-- The kinds of log items. Assumes nothing.
use Rattle.std.specs.Prelude.{ℕ, cond, ◌==◌, Ok, Err, Result}
use Rattle.bus.specs.declared.refusal.Refusal.{Refusal}
use Rattle.bus.specs.declared.refusal.Refusal.TheVariants.{UnknownItem}
use Rattle.benchlog.specs.declared.kind.ItemKind.{ItemKind}
use Rattle.benchlog.specs.declared.kind.ItemKind.TheVariants.{Put, Second, Push, Step, Clear}

-- the kind that a byte stands for; there are no others
abbrev pub kind_of : ℕ → Result ItemKind Refusal
kind_of n =
    cond (n == 1) (Ok Put)
    (cond (n == 2) (Ok Second) (cond (n == 3) (Ok Push) (cond (n == 4) (Ok Step) (cond (n == 5) (Ok Clear) (Err UnknownItem)))))

-- how many bytes the body of an item has
abbrev pub body_length : ItemKind → ℕ
body_length Put = 12
body_length Second = 0
body_length Push = 3
body_length Step = 0
body_length Clear = 0
