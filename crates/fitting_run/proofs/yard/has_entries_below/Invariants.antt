use Rattle.std.proofs.Common.{◌≡◌, ◌-◌, is_some, map}
use Rattle.std.specs.List.{list_all}
use Rattle.fabric_core.specs.Log.{numbers, virtual_log_at}
use Rattle.fitting_run.specs.Cells.{cell_of}
use Rattle.fitting_run.proofs.yard.has_entries_below.Given as goal

abbrev pub invariant-loop-pos : goal.invariant-loop-pos
invariant-loop-pos l =
    list_all (λ pos. is_some (virtual_log_at l.chain (map cell_of l.cells) pos)) (numbers l.pos (l.end - l.pos))
    ≡ list_all (λ pos. is_some (virtual_log_at l.chain (map cell_of l.cells) pos)) (numbers l.chain.trim (l.end - l.chain.trim))
