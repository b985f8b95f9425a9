use Rattle.std.proofs.Common.{sym, ap, ◌∙◌, ◌-◌, take, arith}
use Rattle.std.specs.Prelude.{unwrap_or}
use Rattle.last_chain.specs.Gifts.{given_last}
use Rattle.last_chain.proofs.Gifts.{steps_back}
use Rattle.last_chain.proofs.last.last_given.Goals as goal

pub returns-in-Some : goal.returns-in-Some
returns-in-Some c =
    let l = c.loop-left in
    let back = steps_back c.args.journal.now l.left c.index-journal-left.result c.loop-left-test.true l.invariant.within (sym c.index-journal-left.is) in
    sym (l.invariant.rest ∙ (back ∙ ap (λ o. unwrap_or o (given_last (take (l.left - 1) c.args.journal.now))) (sym c.in_ok-given.ensures ∙ c.in-Some.is)))

pub loop-left-preserved : goal.loop-left-preserved
loop-left-preserved c =
    let l = c.loop-left in
    let back = steps_back c.args.journal.now l.left c.index-journal-left.result c.loop-left-test.true l.invariant.within (sym c.index-journal-left.is) in
    record {
      within = omega (arith, l.invariant.within);
      rest = l.invariant.rest ∙ (back ∙ ap (λ o. unwrap_or o (given_last (take (l.left - 1) c.args.journal.now))) (sym c.in_ok-given.ensures ∙ c.in_default.is));
    }
