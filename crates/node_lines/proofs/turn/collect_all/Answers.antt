use Rattle.std.proofs.Common.{◌≡◌, sym, ◌∙◌, subst, ◌<◌, length, Some, arith}
use Rattle.std.specs.Prelude.{slice_get, slice_index_or}
use Rattle.std.proofs.lemmas.List.{length-set}
use Rattle.std.proofs.lemmas.Option.{slice_get-get_or, slice_get_within}
use Rattle.node_lines.specs.Desks.{DeskOk, IsBound}
use Rattle.node_lines.specs.Turns.{TakesIt}
use Rattle.node_lines.proofs.Closing.{put_ok, put_done, put_left}
use Rattle.node_lines.proofs.turn.collect_all.Goals as goal

pub collect_it-requires-clause-desk : goal.collect_it-requires-clause-desk
collect_it-requires-clause-desk g c =
    let xs = c.loop-desk.desks in
    let i = c.loop-desk.desk-index in
    let d = slice_index_or xs i c.desk-item.result in
    let at : slice_get xs i ≡ Some d = slice_get-get_or xs i c.desk-item.result (omega (arith, c.loop-desk-test.true)) in
    let ok = c.loop-desk.invariant.ok i d at in
    subst (λ s. DeskOk c.args.node.now s d) (sym ok.session) ok

pub collect_it-requires-clause-bound : goal.collect_it-requires-clause-bound
collect_it-requires-clause-bound g c = λ some.
    let xs = c.loop-desk.desks in
    let i = c.loop-desk.desk-index in
    let d = slice_index_or xs i c.desk-item.result in
    let at : slice_get xs i ≡ Some d = slice_get-get_or xs i c.desk-item.result (omega (arith, c.loop-desk-test.true)) in
    let ok = c.loop-desk.invariant.ok i d at in
    subst (λ s. IsBound g.T.Law.Rules.law.may s d.sent) (sym ok.session) (c.requires.bound i d (sym (c.loop-desk.invariant.left i (omega arith)) ∙ at) some)

pub loop-desk-preserved : goal.loop-desk-preserved
loop-desk-preserved g c =
    let xs = c.loop-desk.desks in
    let i = c.loop-desk.desk-index in
    let n = c.args.node.now in
    let old = c.args.desks.now in
    let D = TakesIt n in
    let d = slice_index_or xs i c.desk-item.result in
    let low : i < length xs = omega (arith, c.loop-desk-test.true) in
    let at : slice_get xs i ≡ Some d = slice_get-get_or xs i c.desk-item.result low in
    let was = c.loop-desk.invariant in
    let fine = subst (λ s. DeskOk n s c.collect_it.new.desk) (was.ok i d at).session c.in_ok-collect_it.ensures.desk in
    record {
      len = length-set xs i c.collect_it.new.desk ∙ was.len;
      ok = put_ok n D old xs i d c.collect_it.new.desk at was.left was.ok fine;
      done = put_done n D old xs i d c.collect_it.new.desk at was.left was.done c.in_ok-collect_it.ensures.takes;
      left = put_left n D old xs i d c.collect_it.new.desk at was.left;
    }

pub returns-clause-takes : goal.returns-clause-takes
returns-clause-takes g c = record {
  size = c.loop-desk.invariant.len;
  each = λ s d at.
      let low = slice_get_within c.args.desks.now s d at in
      let one = c.loop-desk.invariant.done s d (omega (arith, low, c.loop-desk-test.false, c.loop-desk.invariant.len)) at in
      record { desk = one.0; is = one.1; takes = one.2 };
}
