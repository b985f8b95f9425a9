use Rattle.std.proofs.Common.{◌≡◌, ℕ, ◌+◌, ◌<◌, Bool, true, false, ◌&&◌, ◌||◌, ◌==◌, arith, rules, sym}
use Rattle.std.specs.List.{list_any}
use Rattle.fitting_run.specs.Lines.{asks_to_leave}
use Rattle.fitting_run.specs.Trims.{is_reported}
use Rattle.fitting_run.proofs.Walks.{all-fails, all-passes}
use Rattle.fitting_run.proofs.trimming.all_let_go.Goals as goal

pub loop-number-preserved : goal.loop-number-preserved
loop-number-preserved c =
    let test : ℕ → Bool = λ node. list_any (λ a. (a.line.node == node) && (asks_to_leave a.line.asks || is_reported c.args.n c.args.items.now a)) c.args.told.now in
    let same : c.in-Some.node ≡ c.loop-number.number = search rules in
    let passes : test c.loop-number.number ≡ true = rw (sym same) (search rules) in
    let below : c.loop-number.number < c.args.nodes + 1 = omega arith in
    all-passes test c.loop-number.number (c.args.nodes + 1) _ below passes c.loop-number.invariant

pub returns-then-not-node_lets_go : goal.returns-then-not-node_lets_go
returns-then-not-node_lets_go c =
    let test : ℕ → Bool = λ node. list_any (λ a. (a.line.node == node) && (asks_to_leave a.line.asks || is_reported c.args.n c.args.items.now a)) c.args.told.now in
    let same : c.in-Some.node ≡ c.loop-number.number = search rules in
    let fails : test c.loop-number.number ≡ false = rw (sym same) (search rules) in
    let below : c.loop-number.number < c.args.nodes + 1 = omega arith in
    all-fails test c.loop-number.number (c.args.nodes + 1) _ below fails c.loop-number.invariant
