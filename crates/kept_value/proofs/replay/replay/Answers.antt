use Rattle.std.proofs.Common.{◌≡◌, ℕ, length, take, sym, ap, subst, ◌∙◌, arith}
use Rattle.std.proofs.lemmas.Grind.{common_steps}
use Rattle.std.proofs.lemmas.List.{length-map}
use Rattle.std.specs.Vec.Iter.{into_iter_items}
use Rattle.journal_core.specs.Records.{payloads}
use Rattle.journal_core.proofs.Handed.{IsNext, next_is, all_taken}
use Rattle.kept_value.specs.View.{IsFirstBad}
use Rattle.kept_value.proofs.Replaying.{bad_at, good_at}
use Rattle.kept_value.proofs.replay.replay.Goals as goal

pub returns-then-not-branch-clause-bad : goal.returns-then-not-branch-clause-bad
returns-then-not-branch-clause-bad g c =
    λ index e.
    let K = g.V.KeptValue.kind in
    let records = payloads c.args.records.items in
    let l = c.loop-record in
    let steps = rw c.in-Some.is at c.next.ensures.steps in
    let next : IsNext records l.index c.in-Some.record.items (payloads (into_iter_items c.next.new.self)) = next_is records l.index c.in-Some.record.items (payloads (into_iter_items c.next.new.self)) (ap payloads (sym steps.0) ∙ l.invariant.left) in
    subst (λ (n : ℕ). IsFirstBad K records n) (cc)
    (bad_at K records l.index (g.V.KeptValue.state l.value) (g.V.KeptValue.state c.take.new.self) c.as_slice.result.now _ l.invariant.spelled next.within (c.as_slice.ensures.value ∙ next.value) c.in_ok-take.ensures.taken c.if-not-branch.true)

pub loop-record-preserved : goal.loop-record-preserved
loop-record-preserved g c =
    let K = g.V.KeptValue.kind in
    let records = payloads c.args.records.items in
    let l = c.loop-record in
    let steps = rw c.in-Some.is at c.next.ensures.steps in
    let next : IsNext records l.index c.in-Some.record.items (payloads (into_iter_items c.next.new.self)) = next_is records l.index c.in-Some.record.items (payloads (into_iter_items c.next.new.self)) (ap payloads (sym steps.0) ∙ l.invariant.left) in
    record {
      spelled = good_at K records l.index (g.V.KeptValue.state l.value) (g.V.KeptValue.state c.take.new.self) c.as_slice.result.now _ l.invariant.spelled next.within (c.as_slice.ensures.value ∙ next.value) c.in_ok-take.ensures.taken c.if-not-branch.false;
      sound = c.in_ok-take.ensures.sound c.if-not-branch.false;
      left = next.behind_is;
    }

pub returns-clause-spelled : goal.returns-clause-spelled
returns-clause-spelled g c =
    let records = payloads c.args.records.items in
    let l = c.loop-record in
    let steps = rw c.in-None.is at c.next.ensures.steps in
    let none : length (into_iter_items l.record-iterator) ≡ 0 = grind (arith, common_steps, steps.0) in
    let all : take l.index records ≡ records = all_taken records l.index (payloads (into_iter_items l.record-iterator)) l.invariant.left (length-map (into_iter_items l.record-iterator) _ ∙ none) in
    ap g.V.KeptValue.kind.spelled (sym all) ∙ l.invariant.spelled
