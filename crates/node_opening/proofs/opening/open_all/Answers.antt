use Rattle.std.proofs.Common.{◌≡◌, ◌+◌, ◌++◌, ◌<◌, ◌∷◌, [], length, map, drop, Some, sym, ap, ◌∙◌, subst, arith}
use Rattle.std.specs.Prelude.{slice_get}
use Rattle.std.specs.List.{AllByRecursion}
use Rattle.std.proofs.lemmas.List.{nil_from_length}
use Rattle.std.proofs.lemmas.Result.{err_from_is_err_and}
use Rattle.log_laws.proofs.Pairs.{all-append, all-imply}
use Rattle.local_replica.specs.Shown.{shown, local_meaning}
use Rattle.replica_api.specs.Fresh.{IsFreshReplica}
use Rattle.node_opening.proofs.Lists.{taken_first, drop_first, goes_over, all_over, each_push, pairs_push, as_long}
use Rattle.fitting_run.specs.Fresh.{five_kinds, IsFreshNode}
use Rattle.node_opening.specs.Opened.{IsCounted, IsArmedAs, IsLeftOf}
use Rattle.node_opening.proofs.Lists.{put_back, each_beside, beside_by}
use Rattle.node_opening.proofs.Begun.{left_alone, all_left_alone}
use Rattle.node_opening.proofs.opening.open_all.Goals as goal

pub open_node-requires : goal.open_node-requires
open_node-requires g c =
    let l = c.loop-k in
    let k = c.remove.result in
    let some : 0 < length l.parts.items = grind (arith, c.loop-k-test.true, l.invariant.left, l.invariant.count) in
    let is = taken_first l.parts.items k some c.remove.ensures.value in
    (subst (AllByRecursion (λ k. IsFreshNode (g.E.Layers.kinds k.engines) (g.E.Layers.waiting k.engines) (g.D.Disk.view k.disk))) is l.invariant.rest).0

pub loop-k-preserved : goal.loop-k-preserved
loop-k-preserved g c =
    let l = c.loop-k in
    let k = c.remove.result in
    let n = c.in-Ok.node in
    let o = c.in-Ok.ensures in
    let p = c.push_reserved in
    let waiting = g.E.Layers.waiting in
    let some : 0 < length l.parts.items = grind (arith, c.loop-k-test.true, l.invariant.left, l.invariant.count) in
    let is = taken_first l.parts.items k some c.remove.ensures.value ∙ ap (λ x. k ∷ x) (sym c.remove.ensures.items) in
    let first = drop_first l.k c.args.parts.now.items c.remove.new.self.items k (sym is ∙ l.invariant.behind) in
    let here : slice_get c.args.parts.now.items (length l.nodes.items) ≡ Some k = ap (slice_get c.args.parts.now.items) l.invariant.done ∙ first.0 in
    let who : c.in-Some.number ≡ length l.nodes.items + 1 = grind (arith, c.in-Some.ensures.value, l.invariant.done) in
    record {
      rest = (subst (AllByRecursion (λ k. IsFreshNode (g.E.Layers.kinds k.engines) (waiting k.engines) (g.D.Disk.view k.disk))) is l.invariant.rest).1;
      fresh = λ j x at. each_push (λ j n. IsFreshReplica local_meaning (j + 1) (shown n.replica.store n.replica.origin (waiting n.replica.engines) n.replica.stops n.replica.reopenings)) l.nodes.items n l.invariant.fresh
          (subst (λ i. IsFreshReplica local_meaning i (shown n.replica.store n.replica.origin (waiting n.replica.engines) n.replica.stops n.replica.reopenings)) who o.fresh) j x (ap (λ y. slice_get y j) (sym p.ensures.items) ∙ at);
      counted = subst (AllByRecursion (λ n. IsCounted (shown n.replica.store n.replica.origin (waiting n.replica.engines) n.replica.stops n.replica.reopenings))) (sym p.ensures.items)
          (all-append (λ n. IsCounted (shown n.replica.store n.replica.origin (waiting n.replica.engines) n.replica.stops n.replica.reopenings)) l.nodes.items (n ∷ []) l.invariant.counted (o.counted, tt));
      armed = λ j x at. pairs_push (λ n k. IsArmedAs (g.D.Disk.view k.disk) (shown n.replica.store n.replica.origin (waiting n.replica.engines) n.replica.stops n.replica.reopenings)) l.nodes.items n c.args.parts.now.items k l.invariant.armed here o.armed
          j x (ap (λ y. slice_get y j) (sym p.ensures.items) ∙ at);
      disks = λ j x at. pairs_push (λ n k. IsLeftOf (g.D.Disk.view k.disk) n.replica.store.disk) l.nodes.items n c.args.parts.now.items k l.invariant.disks here o.left
          j x (ap (λ y. slice_get y j) (sym p.ensures.items) ∙ at);
      behind = first.1;
      count = l.invariant.count;
      done = grind (arith, l.invariant.done, p.ensures.len);
      left = grind (arith, l.invariant.left, c.remove.ensures.len);
      room = grind (arith, l.invariant.room, c.remove.ensures.capacity);
      nodes_room = grind (arith, l.invariant.nodes_room, p.ensures.capacity);
      engines = ap (λ x. map (λ n. n.replica.engines) x ++ map (λ k. k.engines) c.remove.new.self.items) p.ensures.items
          ∙ goes_over (λ n. n.replica.engines) (λ k. k.engines) l.nodes.items l.parts.items c.remove.new.self.items n k (map (λ k. k.engines) c.args.parts.now.items) o.engines is l.invariant.engines;
      choosers = ap (λ x. map (λ n. n.chooser) x ++ map (λ k. k.chooser) c.remove.new.self.items) p.ensures.items
          ∙ goes_over (λ n. n.chooser) (λ k. k.chooser) l.nodes.items l.parts.items c.remove.new.self.items n k (map (λ k. k.chooser) c.args.parts.now.items) o.chooser is l.invariant.choosers;
    }

pub returns-in_err-nodes-clause-left_back : goal.returns-in_err-nodes-clause-left_back
returns-in_err-nodes-clause-left_back g c =
    let r = err_from_is_err_and c.from_residual.result c.from_residual.ensures.1 in
    rw r.1 (all_left_alone (λ k. g.D.Disk.view k.disk) c.args.parts.now.items)

pub close_before-requires-clause-kinds : goal.close_before-requires-clause-kinds
close_before-requires-clause-kinds g c =
    let l = c.loop-k in
    let k = c.remove.result in
    let kinds = g.E.Layers.kinds in
    let some : 0 < length l.parts.items = grind (arith, c.loop-k-test.true, l.invariant.left, l.invariant.count) in
    let is = taken_first l.parts.items k some c.remove.ensures.value ∙ ap (λ x. k ∷ x) (sym c.remove.ensures.items) in
    let rest = subst (AllByRecursion (λ k. IsFreshNode (kinds k.engines) (g.E.Layers.waiting k.engines) (g.D.Disk.view k.disk))) is l.invariant.rest in
    subst (AllByRecursion (λ k. kinds k.engines ≡ five_kinds)) (sym c.put_first.ensures.items) (
      ap kinds c.in-Err.ensures.back.0 ∙ rest.0.kinds_are,
      all-imply (λ k. IsFreshNode (kinds k.engines) (g.E.Layers.waiting k.engines) (g.D.Disk.view k.disk)) (λ k. kinds k.engines ≡ five_kinds) c.remove.new.self.items (λ k h. h.kinds_are) rest.1,
    )

pub returns-in-Err-clause-engines_back : goal.returns-in-Err-clause-engines_back
returns-in-Err-clause-engines_back g c =
    let l = c.loop-k in
    let k = c.remove.result in
    let some : 0 < length l.parts.items = grind (arith, c.loop-k-test.true, l.invariant.left, l.invariant.count) in
    let is = taken_first l.parts.items k some c.remove.ensures.value ∙ ap (λ x. k ∷ x) (sym c.remove.ensures.items) in
    put_back (λ n. n.replica.engines) (λ k. k.engines) l.nodes.items l.parts.items c.remove.new.self.items c.put_first.new.parts.items k c.in-Err.one _ _ c.close_before.ensures.engines c.put_first.ensures.items c.in-Err.ensures.back.0 is l.invariant.engines

pub returns-in-Err-clause-choosers_back : goal.returns-in-Err-clause-choosers_back
returns-in-Err-clause-choosers_back g c =
    let l = c.loop-k in
    let k = c.remove.result in
    let some : 0 < length l.parts.items = grind (arith, c.loop-k-test.true, l.invariant.left, l.invariant.count) in
    let is = taken_first l.parts.items k some c.remove.ensures.value ∙ ap (λ x. k ∷ x) (sym c.remove.ensures.items) in
    put_back (λ n. n.chooser) (λ k. k.chooser) l.nodes.items l.parts.items c.remove.new.self.items c.put_first.new.parts.items k c.in-Err.one _ _ c.close_before.ensures.choosers c.put_first.ensures.items c.in-Err.ensures.back.1 is l.invariant.choosers

pub returns-in-Err-clause-left_back : goal.returns-in-Err-clause-left_back
returns-in-Err-clause-left_back g c =
    let l = c.loop-k in
    let k = c.remove.result in
    let view = g.D.Disk.view in
    let some : 0 < length l.parts.items = grind (arith, c.loop-k-test.true, l.invariant.left, l.invariant.count) in
    let is = taken_first l.parts.items k some c.remove.ensures.value ∙ ap (λ x. k ∷ x) (sym c.remove.ensures.items) in
    let behind : k ∷ c.remove.new.self.items ≡ drop (length l.nodes.items) c.args.parts.now.items = sym is ∙ (l.invariant.behind ∙ ap (λ i. drop i c.args.parts.now.items) (sym l.invariant.done)) in
    let each = each_beside IsLeftOf (λ k. view k.disk) (λ n. n.replica.store.disk) c.args.parts.now.items l.nodes.items c.remove.new.self.items k (view c.in-Err.one.disk) left_alone l.invariant.disks behind c.in-Err.ensures.left_back in
    λ j x at y at'. beside_by IsLeftOf (λ k. view k.disk) c.args.parts.now.items c.close_before.new.parts.items _ each
    (c.close_before.ensures.disks ∙ ap (λ l2. map (λ n. n.replica.store.disk) l.nodes.items ++ map (λ k. view k.disk) l2) c.put_first.ensures.items)
    j y at' x at

pub returns-in-Err-clause-size_back : goal.returns-in-Err-clause-size_back
returns-in-Err-clause-size_back g c =
    let l = c.loop-k in
    let k = c.remove.result in
    let some : 0 < length l.parts.items = grind (arith, c.loop-k-test.true, l.invariant.left, l.invariant.count) in
    let is = taken_first l.parts.items k some c.remove.ensures.value ∙ ap (λ x. k ∷ x) (sym c.remove.ensures.items) in
    as_long (λ k. k.engines) (λ k. k.engines) c.close_before.new.parts.items c.args.parts.now.items
    (put_back (λ n. n.replica.engines) (λ k. k.engines) l.nodes.items l.parts.items c.remove.new.self.items c.put_first.new.parts.items k c.in-Err.one _ _ c.close_before.ensures.engines c.put_first.ensures.items c.in-Err.ensures.back.0 is l.invariant.engines)

pub returns-clause-engines : goal.returns-clause-engines
returns-clause-engines g c =
    let l = c.loop-k in
    let over : length l.parts.items ≡ 0 = grind (arith, c.loop-k-test.false, l.invariant.left, l.invariant.count) in
    all_over (λ n. n.replica.engines) (λ k. k.engines) l.nodes.items l.parts.items (map (λ k. k.engines) c.args.parts.now.items) (nil_from_length l.parts.items over) l.invariant.engines

pub returns-clause-choosers : goal.returns-clause-choosers
returns-clause-choosers g c =
    let l = c.loop-k in
    let over : length l.parts.items ≡ 0 = grind (arith, c.loop-k-test.false, l.invariant.left, l.invariant.count) in
    all_over (λ n. n.chooser) (λ k. k.chooser) l.nodes.items l.parts.items (map (λ k. k.chooser) c.args.parts.now.items) (nil_from_length l.parts.items over) l.invariant.choosers
