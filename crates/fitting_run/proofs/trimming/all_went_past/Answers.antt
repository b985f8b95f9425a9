use Rattle.std.proofs.Common.{◌≡◌, ℕ, ◌+◌, ◌<◌, Bool, true, ◌&&◌, ◌==◌, arith, rules, sym}
use Rattle.std.specs.List.{list_any}
use Rattle.fitting_run.specs.Trims.{went_past}
use Rattle.fitting_run.proofs.Walks.{all-passes}
use Rattle.fitting_run.proofs.trimming.all_went_past.Goals as goal

pub loop-number-preserved : goal.loop-number-preserved
loop-number-preserved c =
    let test : ℕ → Bool = λ node. list_any (λ a. (a.line.node == node) && went_past c.args.trim c.args.b.now a) c.args.above.now in
    let same : c.in-Some.node ≡ c.loop-number.number = search rules in
    let passes : test c.loop-number.number ≡ true = rw (sym same) (search rules) in
    let below : c.loop-number.number < c.args.nodes + 1 = omega arith in
    all-passes test c.loop-number.number (c.args.nodes + 1) _ below passes c.loop-number.invariant
