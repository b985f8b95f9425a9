use Rattle.std.proofs.Common.{◌≡◌, ◌+◌, ◌<◌, true, false, not, ap, ◌∙◌, arith, rules, sym}
use Rattle.engine_steps.specs.Layout.{has_left_in, reported_of}
use Rattle.engine_api.proofs.Greatest.{least-passes, least-drops}
use Rattle.base_engine.specs.Trimming.{is_member_in}
use Rattle.base_engine.proofs.trim.least.Goals as goal

pub loop-number-preserved-then-left : goal.loop-number-preserved-then-left
loop-number-preserved-then-left g c =
    let m = (g.R.Replica.shows c.args.replica.now).contents in
    let same : c.in-Some.node ≡ c.loop-number.number = search rules in
    let left : has_left_in m c.in-Some.node ≡ true = sym c.in_ok-left.ensures ∙ c.if-left.true in
    let drops : is_member_in m c.loop-number.number ≡ false = ap not (sym (ap (has_left_in m) same) ∙ left) in
    let below : c.loop-number.number < c.args.nodes + 1 = omega arith in
    least-drops (reported_of m) (is_member_in m) c.loop-number.least c.loop-number.number (c.args.nodes + 1) _ below drops c.loop-number.invariant

pub loop-number-preserved : goal.loop-number-preserved
loop-number-preserved g c =
    let m = (g.R.Replica.shows c.args.replica.now).contents in
    let same : c.in-Some.node ≡ c.loop-number.number = search rules in
    let left : has_left_in m c.in-Some.node ≡ false = sym c.in_ok-left.ensures ∙ c.if-left.false in
    let passes : is_member_in m c.loop-number.number ≡ true = ap not (sym (ap (has_left_in m) same) ∙ left) in
    let below : c.loop-number.number < c.args.nodes + 1 = omega arith in
    rw (c.lesser.ensures, c.in_ok-position.ensures, same)
    (least-passes (reported_of m) (is_member_in m) c.loop-number.least c.loop-number.number (c.args.nodes + 1) _ below passes c.loop-number.invariant)
