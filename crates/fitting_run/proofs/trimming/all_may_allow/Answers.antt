use Rattle.std.proofs.Common.{◌≡◌, ℕ, ◌+◌, ◌<◌, Bool, true, false, ◌&&◌, ◌==◌, ◌++◌, not, arith, rules, sym}
use Rattle.std.specs.Prelude.{filter}
use Rattle.std.specs.List.{list_any}
use Rattle.fitting_run.specs.Replacements.{is_behind}
use Rattle.fitting_run.specs.Trims.{may_allow}
use Rattle.fitting_run.proofs.Walks.{all-fails, all-passes}
use Rattle.fitting_run.proofs.trimming.all_may_allow.Goals as goal

pub loop-number-preserved : goal.loop-number-preserved
loop-number-preserved c =
    let test : ℕ → Bool = λ node. list_any (λ a. (a.line.node == node) && may_allow c.args.n a) (c.args.above.now ++ filter (λ a. not (is_behind c.args.b.now a)) c.args.below.now) in
    let same : c.in-Some.node ≡ c.loop-number.number = search rules in
    let passes : test c.loop-number.number ≡ true = rw (sym same) (search rules) in
    let below : c.loop-number.number < c.args.nodes + 1 = omega arith in
    all-passes test c.loop-number.number (c.args.nodes + 1) _ below passes c.loop-number.invariant

pub returns-then-not-node_may_have_allowed : goal.returns-then-not-node_may_have_allowed
returns-then-not-node_may_have_allowed c =
    let test : ℕ → Bool = λ node. list_any (λ a. (a.line.node == node) && may_allow c.args.n a) (c.args.above.now ++ filter (λ a. not (is_behind c.args.b.now a)) c.args.below.now) in
    let same : c.in-Some.node ≡ c.loop-number.number = search rules in
    let fails : test c.loop-number.number ≡ false = rw (sym same) (search rules) in
    let below : c.loop-number.number < c.args.nodes + 1 = omega arith in
    all-fails test c.loop-number.number (c.args.nodes + 1) _ below fails c.loop-number.invariant
