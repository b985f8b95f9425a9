use Rattle.std.proofs.Common.{◌≡◌, ◌+◌, ◌++◌, ◌<◌, [], ◌∷◌, length, map, sym, ap, ◌∙◌, subst, arith}
use Rattle.std.specs.List.{AllByRecursion}
use Rattle.std.specs.Prelude.{slice_get}
use Rattle.std.proofs.lemmas.List.{nil_from_length}
use Rattle.node_lines.specs.Workers.{Sends}
use Rattle.crew_making.specs.Fresh.{AreFreshFrom, AreFreshDesks, IsFreshLog, IsNewSeat, IsNewWorker, AreNewWorkers}
use Rattle.node_opening.proofs.Lists.{taken_first, goes_over, all_over, each_push}
use Rattle.crew_making.proofs.make.seat_all.Goals as goal

pub loop-k-preserved : goal.loop-k-preserved
loop-k-preserved g c =
    let p = g.K.Terms in
    let r = g.S.Replica in
    let l = c.loop-k in
    let b = c.remove-replica.result in
    let q = c.seat_within-seat in
    let some : 0 < length l.berths.items = grind (arith, c.loop-k-test.true, l.invariant.left) in
    let is = taken_first l.berths.items b some c.remove-replica.ensures.value ∙ ap (λ x. b ∷ x) (sym c.remove-replica.ensures.items) in
    let desks = subst (AllByRecursion (λ b. AreFreshDesks b.desks.items)) is l.invariant.desks in
    let who : c.from.result + 1 ≡ length l.workers.items + 1 = grind (arith, c.from.ensures, l.invariant.done) in
    record {
      logs = (subst (AllByRecursion (λ b. IsFreshLog (length p.law.shelf) b.log)) is l.invariant.logs).1;
      desks = desks.1;
      fresh = (subst (λ x. AreFreshFrom r.meaning (l.k + 1) (map (λ b. r.shows b.replica) x)) is l.invariant.fresh).1;
      left = grind (arith, l.invariant.left, c.remove-replica.ensures.len);
      done = grind (arith, l.invariant.done, c.push_reserved.ensures.len);
      room = grind (arith, l.invariant.room, c.push_reserved.ensures.capacity);
      workers = λ j w at. each_push (λ j w. IsNewWorker (record p.law { may = Sends (j + 1) p.law.may [] [] }) r.meaning c.len-nodes.result (j + 1) w.seat w.desks.items) l.workers.items (record { seat = q.result; desks = b.desks }) l.invariant.workers
          (record {
            waits = subst (λ k. IsNewSeat (record p.law { may = Sends k p.law.may [] [] }) r.meaning c.len-nodes.result k q.result) who q.ensures.seat;
            desks_are = desks.0;
          }) j w (ap (λ x. slice_get x j) (sym c.push_reserved.ensures.items) ∙ at);
      same = ap (λ x. map (λ w. w.seat.node.replica) x ++ map (λ b. r.shows b.replica) c.remove-replica.new.self.items) c.push_reserved.ensures.items
          ∙ goes_over (λ w. w.seat.node.replica) (λ b. r.shows b.replica) l.workers.items l.berths.items c.remove-replica.new.self.items (record { seat = q.result; desks = b.desks }) b (map (λ b. r.shows b.replica) c.args.berths.items) q.ensures.replica is l.invariant.same;
    }

pub returns-clause-workers : goal.returns-clause-workers
returns-clause-workers g c =
    let p = g.K.Terms in
    let r = g.S.Replica in
    let l = c.loop-k in
    let size : c.len-nodes.result ≡ length c.args.berths.items = grind (arith, c.len-nodes.ensures) in
    subst (λ n. AreNewWorkers (λ n. record p.law { may = Sends n p.law.may [] [] }) r.meaning n (λ w. w.seat) (λ w. w.desks.items) l.workers.items) size l.invariant.workers

pub returns-clause-replicas : goal.returns-clause-replicas
returns-clause-replicas g c =
    let r = g.S.Replica in
    let l = c.loop-k in
    let over : length l.berths.items ≡ 0 = grind (arith, c.loop-k-test.false, l.invariant.left) in
    all_over (λ w. w.seat.node.replica) (λ b. r.shows b.replica) l.workers.items l.berths.items (map (λ b. r.shows b.replica) c.args.berths.items) (nil_from_length l.berths.items over) l.invariant.same

pub seat_within-seat-requires-clause-log : goal.seat_within-seat-requires-clause-log
seat_within-seat-requires-clause-log g c =
    let p = g.K.Terms in
    let l = c.loop-k in
    let b = c.remove-replica.result in
    let some : 0 < length l.berths.items = grind (arith, c.loop-k-test.true, l.invariant.left) in
    let is = taken_first l.berths.items b some c.remove-replica.ensures.value ∙ ap (λ x. b ∷ x) (sym c.remove-replica.ensures.items) in
    (subst (AllByRecursion (λ b. IsFreshLog (length p.law.shelf) b.log)) is l.invariant.logs).0
