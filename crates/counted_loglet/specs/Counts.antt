-- What is counted.
use Rattle.std.specs.Prelude.{ℕ}
use Rattle.loglet_api.specs.declared.call.Op.{Op}
use Rattle.loglet_api.specs.declared.call.Op.TheVariants.{Append}

-- how many appends an operation is
abbrev pub appends_in : Op → ℕ
appends_in (Append entry) = 1
appends_in op = 0
