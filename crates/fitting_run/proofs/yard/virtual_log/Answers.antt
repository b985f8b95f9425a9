use Rattle.std.proofs.Common.{◌≡◌, ◌+◌, ◌-◌, ◌++◌, ◌<◌, ap, ◌∙◌, map, filter_map, option_copied, option_to_list, arith, rules}
use Rattle.fabric_core.specs.Log.{numbers, virtual_log_at}
use Rattle.fitting_run.specs.Cells.{cell_of}
use Rattle.fitting_run.proofs.Positions.{one-more}
use Rattle.fitting_run.proofs.yard.virtual_log.Goals as goal

pub loop-pos-preserved : goal.loop-pos-preserved
loop-pos-preserved c =
    let f = virtual_log_at c.args.chain.now (map cell_of c.args.cells.now) in
    let found : option_copied c.entry_in.result ≡ f c.loop-pos.pos = search rules in
    let below : c.loop-pos.pos < c.args.end = omega arith in
    ap (λ log. log ++ filter_map f (numbers (c.loop-pos.pos + 1) (c.args.end - (c.loop-pos.pos + 1))))
    (c.in_ok-push_copy.ensures ∙ ap (λ entry. c.loop-pos.log.items ++ option_to_list entry) found)
    ∙ one-more f c.loop-pos.pos c.args.end c.loop-pos.log.items _ below c.loop-pos.invariant
