use Rattle.std.proofs.Common.{◌≡◌, ◌<◌, true, is_some, map, arith, rules}
use Rattle.fabric_core.specs.Log.{virtual_log_at}
use Rattle.fitting_run.specs.Cells.{cell_of}
use Rattle.fitting_run.proofs.Positions.{all-pass}
use Rattle.fitting_run.proofs.yard.has_entries_below.Goals as goal

pub loop-pos-preserved : goal.loop-pos-preserved
loop-pos-preserved c =
    let passes : is_some (virtual_log_at c.args.chain.now (map cell_of c.args.cells.now) c.loop-pos.pos) ≡ true = search rules in
    let below : c.loop-pos.pos < c.args.end = omega arith in
    all-pass (λ pos. is_some (virtual_log_at c.args.chain.now (map cell_of c.args.cells.now) pos)) c.loop-pos.pos c.args.end _ below passes c.loop-pos.invariant
