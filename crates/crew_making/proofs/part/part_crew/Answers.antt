use Rattle.std.proofs.Common.{◌≡◌, ◌+◌, ◌++◌, ◌<◌, ◌∷◌, length, map, refl, sym, ap, ◌∙◌, subst, arith}
use Rattle.std.proofs.lemmas.List.{nil_from_length}
use Rattle.std.specs.Prelude.{remove}
use Rattle.turn_scopes.specs.Seats.{SeatOk}
use Rattle.turn_scopes.proofs.Alone.{narrows_alone}
use Rattle.crew_making.specs.Apart.{AreAsTold}
use Rattle.node_opening.proofs.Lists.{taken_first, first_is, next_is, goes_over, all_over}
use Rattle.crew_making.proofs.part.part_crew.Goals as goal

pub part_within-node-requires-clause-seat : goal.part_within-node-requires-clause-seat
part_within-node-requires-clause-seat g c =
    let l = c.loop-workers in
    let w = c.remove-seat.result in
    let some : 0 < length l.workers.items = grind (arith, c.loop-workers-test.true, c.is_empty.ensures) in
    let is = taken_first l.workers.items w some c.remove-seat.ensures.value in
    l.invariant.stands 0 w (first_is l.workers.items (remove l.workers.items 0) w is)

pub loop-workers-preserved : goal.loop-workers-preserved
loop-workers-preserved g c =
    let p = g.K.Terms in
    let r = g.S.Replica in
    let l = c.loop-workers in
    let w = c.remove-seat.result in
    let q = c.part_within-node in
    let some : 0 < length l.workers.items = grind (arith, c.loop-workers-test.true, c.is_empty.ensures) in
    let is = taken_first l.workers.items w some c.remove-seat.ensures.value ∙ ap (λ x. w ∷ x) (sym c.remove-seat.ensures.items) in
    record {
      room = grind (arith, l.invariant.room, c.remove-seat.ensures.len, c.push_reserved.ensures.len, c.push_reserved.ensures.capacity);
      journal = q.ensures.seen ∙ l.invariant.journal;
      same = ap (λ x. map (λ n. r.shows n.replica) x ++ map (λ w. w.seat.node.replica) c.remove-seat.new.self.items) c.push_reserved.ensures.items
          ∙ goes_over (λ n. r.shows n.replica) (λ w. w.seat.node.replica) l.nodes.items l.workers.items c.remove-seat.new.self.items q.result.node w (map (λ w. w.seat.node.replica) c.args.crew.workers.items) q.ensures.replica is l.invariant.same;
      stands = λ j x at. subst (λ e. SeatOk p.law r.meaning e x.seat) (sym q.ensures.seen)
          (l.invariant.stands (j + 1) x (next_is l.workers.items c.remove-seat.new.self.items w x j is at));
    }

pub returns-clause-told : goal.returns-clause-told
returns-clause-told g c =
    let p = g.K.Terms in
    let l = c.loop-workers in
    let t = c.journal-told in
    subst (λ e. AreAsTold p.law e (map g.L.Loglet.view c.into_parts.result.cells.items) (g.R.Register.view c.into_parts.result.register)) l.invariant.journal
    (subst (λ x. AreAsTold p.law l.fabric.journal x (g.R.Register.view c.into_parts.result.register)) (sym c.into_parts.ensures.cells)
    (subst (λ x. AreAsTold p.law l.fabric.journal l.fabric.cells x) (sym c.into_parts.ensures.register)
    (record {
      legal = t.ensures.legal;
      shelf_is = t.ensures.shelf;
      runs = t.ensures.runs;
      register_runs = t.ensures.register_runs;
      register_is = t.ensures.register;
      shows = t.ensures.shows;
      tail = t.ensures.tail;
    })))

pub returns-clause-nodes : goal.returns-clause-nodes
returns-clause-nodes g c =
    let r = g.S.Replica in
    let l = c.loop-workers in
    let over : length l.workers.items ≡ 0 = grind (arith, c.loop-workers-test.false, c.is_empty.ensures) in
    all_over (λ n. r.shows n.replica) (λ w. w.seat.node.replica) l.nodes.items l.workers.items (map (λ w. w.seat.node.replica) c.args.crew.workers.items) (nil_from_length l.workers.items over) l.invariant.same

pub part_within-node-requires-clause-narrows : goal.part_within-node-requires-clause-narrows
part_within-node-requires-clause-narrows g c =
    let p = g.K.Terms in
    narrows_alone p.law p.law (λ _. ⊥) (record { nobody = λ user b. b }) (record { may = λ user e h. h; floor = λ log n h. h; shelf = refl })
