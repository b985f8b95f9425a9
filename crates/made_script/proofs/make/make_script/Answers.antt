use Rattle.std.proofs.Common.{◌+◌, arith, ◌∙◌, rules, ap}
use Rattle.made_script.proofs.Steps.{IsBelow, below-first, below-next, below-last}
use Rattle.made_script.proofs.make.make_script.Goals as goal
use Rattle.made_script.proofs.make.make_script.Goals.{else-loop-i-test, then-loop-i-test+in_ok-push_lines+else-i-i-end}

pub loop-i-init : goal.loop-i-init
loop-i-init c = record {
  first = omega arith;
  last = omega arith;
  small = omega arith;
  below = below-first c.args.seed c.args.nodes _ _ (search rules) (search rules);
}

pub loop-i-preserved : goal.loop-i-preserved
loop-i-preserved c = record {
  first = omega arith;
  last = omega arith;
  small = omega arith;
  below = below-next c.args.seed c.args.nodes c.loop-i.i c.loop-i.number c.next-number.result _ _ c.loop-i.invariant.first c.loop-i.invariant.below c.next-number.ensures (search rules);
}

pub returns : goal.returns
returns c =
    let i = c.loop-i.i in
    let at_start = c.loop-i.invariant in
    c.from_vec.ensures ∙ elim c.loop-i-test.branch [
      | else-loop-i-test w ↦
          ap (λ v. v.items) w.out-is ∙ below-last c.args.seed c.args.nodes c.args.count i _ _ at_start.last (omega arith) at_start.below
      | then-loop-i-test+in_ok-push_lines+else-i-i-end w ↦
          let below : IsBelow c.args.seed c.args.nodes (i + 1) w.next-number.result w.push_lines.new.out.items =
          below-next c.args.seed c.args.nodes i c.loop-i.number w.next-number.result _ _ at_start.first at_start.below w.next-number.ensures (search rules) in
          ap (λ v. v.items) w.out-is ∙ below-last c.args.seed c.args.nodes c.args.count (i + 1) _ _ (omega arith) (omega arith) below
    ]
