use Rattle.std.proofs.Common.{◌≡◌, sym, ◌∙◌, subst, Some, arith}
use Rattle.std.specs.Prelude.{slice_get, slice_index_or}
use Rattle.std.proofs.lemmas.List.{length-set}
use Rattle.std.proofs.lemmas.Option.{slice_get-get_or, slice_get_within}
use Rattle.run_closing.specs.Collecting.{CanTake}
use Rattle.run_closing.proofs.Collecting.{taken_more}
use Rattle.run_closing.proofs.answers.take_all.Goals as goal

pub take_it-requires-clause-desk : goal.take_it-requires-clause-desk
take_it-requires-clause-desk g c =
    let xs = c.loop-desk.desks in
    let i = c.loop-desk.desk-index in
    let d = slice_index_or xs i c.desk-item.result in
    let at : slice_get xs i ≡ Some d = slice_get-get_or xs i c.desk-item.result (omega (arith, c.loop-desk-test.true)) in
    let can = c.requires.desks i d (sym (c.loop-desk.invariant.left i (omega arith)) ∙ at) in
    subst (λ s. CanTake g.T.Law.Rules.law.may c.args.node.now s d) (sym can.session) can

pub loop-desk-preserved : goal.loop-desk-preserved
loop-desk-preserved g c =
    let xs = c.loop-desk.desks in
    let i = c.loop-desk.desk-index in
    let d = slice_index_or xs i c.desk-item.result in
    let at : slice_get xs i ≡ Some d = slice_get-get_or xs i c.desk-item.result (omega (arith, c.loop-desk-test.true)) in
    let more = taken_more c.args.node.now c.args.desks.now xs i d c.take_it.new.desk at c.loop-desk.invariant.done c.loop-desk.invariant.left c.in_ok-take_it.ensures.takes in
    record {
      len = length-set xs i c.take_it.new.desk ∙ c.loop-desk.invariant.len;
      done = more.0;
      left = more.1;
    }

pub returns : goal.returns
returns g c = record {
  takes = record {
    size = c.loop-desk.invariant.len;
    each = λ s d at.
        let low = slice_get_within c.args.desks.now s d at in
        c.loop-desk.invariant.done s d (omega (arith, low, c.loop-desk-test.false, c.loop-desk.invariant.len)) at;
  };
}
