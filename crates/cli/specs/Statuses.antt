-- The statuses that programs end with. Assumes nothing.
use Rattle.std.specs.Prelude.{◌≡◌, ◌≤◌, ℕ}
use Rattle.std.specs.IoError.{error_kind}
use Rattle.std.specs.declared.io.ErrorKind.{ErrorKind}
use Rattle.std.specs.declared.io.ErrorKind.TheVariants.{BrokenPipe}
use Rattle.clap.specs.declared.error.kind.ErrorKind as clap
use Rattle.clap.specs.declared.error.kind.ErrorKind.TheVariants.{DisplayHelp, DisplayVersion, OutOfMemory}
use Rattle.cli.specs.declared.error.Error.{Error}
use Rattle.cli.specs.declared.error.Error.TheVariants.{Shown, CommandLine, Failed, NoMemory, Strict, Output}

-- a closed pipe, which nobody reads on, is no failure; every other failed write is one
abbrev pub status_of_write : ErrorKind → ℕ
status_of_write BrokenPipe = 0
status_of_write _ = 1

-- each way in which a program ends early has its status
abbrev pub status_of : Error → ℕ
status_of (Shown text) = 0
status_of (CommandLine text) = 2
status_of (Failed text) = 1
status_of NoMemory = 1
status_of Strict = 3
status_of (Output e) = status_of_write (error_kind e)

-- an end with the status of what went wrong; only where help or the version was to be shown can printing it fail, too
abbrev pub EndsWith : Error → ℕ → Type 0
EndsWith (Shown text) status = status ≤ 1
EndsWith e status = status ≡ status_of e

-- where a command line is not taken: help and the version are what was asked for, and all else but a lack of memory is wrong
abbrev pub status_of_kind : clap.ErrorKind → ℕ
status_of_kind DisplayHelp = 0
status_of_kind DisplayVersion = 0
status_of_kind OutOfMemory = 1
status_of_kind _ = 2
