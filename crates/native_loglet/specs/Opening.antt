-- What an operation waits for.
use Rattle.std.specs.Prelude.{ℕ}
use Rattle.loglet_api.specs.declared.call.Op.{Op}
use Rattle.loglet_api.specs.declared.call.Op.TheVariants.{Trim}
use Rattle.loglet_api.specs.Step.{task_of, wanted_by}

-- the length that an operation waits for where the log has this size, the cut that a Trim comes to
abbrev pub wanted_for : Op → ℕ → ℕ → ℕ
wanted_for (Trim n) size cut = cut
wanted_for op size cut = wanted_by (task_of op) size
