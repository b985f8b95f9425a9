use Rattle.std.proofs.Common.{◌≡◌, ◌-◌, ◌++◌, filter_map, map}
use Rattle.fabric_core.specs.Log.{numbers, virtual_log_at, virtual_log}
use Rattle.fitting_run.specs.Cells.{cell_of}
use Rattle.fitting_run.proofs.yard.virtual_log.Given as goal

abbrev pub invariant-loop-pos : goal.invariant-loop-pos
invariant-loop-pos l =
    l.log.items ++ filter_map (virtual_log_at l.chain (map cell_of l.cells)) (numbers l.pos (l.end - l.pos))
    ≡ virtual_log l.chain (map cell_of l.cells) l.from l.end
