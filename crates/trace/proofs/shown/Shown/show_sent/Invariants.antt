use Rattle.std.proofs.Common.{◌≡◌, ◌++◌, take}
use Rattle.trace.proofs.shown.Shown.show_sent.Given as goal

-- the frames shown so far are noted, none passed, and the modules are the same
abbrev pub invariant-loop-frame : goal.invariant-loop-frame
invariant-loop-frame l = (l.self.frames.items ≡ l.initial.self.frames.items ++ take l.frame-index l.initial.sent) × (l.self.passed ≡ l.initial.self.passed) × (l.self.modules ≡ l.initial.self.modules)
