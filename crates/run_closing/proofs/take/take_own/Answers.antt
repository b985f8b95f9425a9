use Rattle.std.proofs.Common.{◌≡◌, refl, sym, ap, ◌∙◌, subst, ◌+◌, length}
use Rattle.std.specs.Prelude.{if◌then◌else◌, is_ok, insert}
use Rattle.std.proofs.lemmas.Option.{slice_get_read}
use Rattle.base_engine.specs.Node.{NodeView}
use Rattle.turn_scopes.specs.Seats.{SeatOk, node_of}
use Rattle.node_workers.specs.declared.worker.Worker.{Worker}
use Rattle.node_crew.specs.Crews.{CrewStands}
use Rattle.node_crew.proofs.Ok.{on_ok}
use Rattle.node_crew.proofs.Crews.{put_back}
use Rattle.run_closing.specs.Collecting.{WithinDesks}
use Rattle.run_closing.specs.Taking.{CrewTakes}
use Rattle.run_closing.proofs.Taking.{can_take, own_stands, own_taken, takes_ok}
use Rattle.base_engine.proofs.Arming.{arming_same}
use Rattle.node_crew.specs.Arming.{NoneArmed}
use Rattle.node_crew.proofs.Arming.{one_moved}
use Rattle.run_closing.proofs.take.take_own.Goals as goal

pub take_answers-seat-requires-clause-seat : goal.take_answers-seat-requires-clause-seat
take_answers-seat-requires-clause-seat g c =
    let p = g.K.Terms in
    let r = g.S.Replica in
    let a = c.args in
    let w = c.remove-seat.result in
    let h = c.requires.takes in
    let at = slice_get_read a.crew.workers.items (length a.crew.workers.items) a.most.node w refl h.there c.remove-seat.ensures.value in
    takes_ok p.law r.meaning a._lines.now a._faults.now (λ w. w.seat) (λ w. w.desks.items) a.crew.workers.items a.crew.fabric.journal a.crew.looks.items a.most.node a.most.cursor a.most.node h a.most.node w w at at

pub take_answers-seat-requires-clause-desks : goal.take_answers-seat-requires-clause-desks
take_answers-seat-requires-clause-desks g c =
    let p = g.K.Terms in
    let r = g.S.Replica in
    let a = c.args in
    let w = c.remove-seat.result in
    let h = c.requires.takes in
    let at = slice_get_read a.crew.workers.items (length a.crew.workers.items) a.most.node w refl h.there c.remove-seat.ensures.value in
    can_take p.law r.meaning a._lines.now a._faults.now (λ w. w.seat) (λ w. w.desks.items) a.crew.workers.items a.crew.fabric.journal a.crew.looks.items a.most.node a.most.cursor a.most.node h w w at at

pub returns-clause-takes : goal.returns-clause-takes
returns-clause-takes g c =
    let p = g.K.Terms in
    let r = g.S.Replica in
    let a = c.args in
    let xs = a.crew.workers.items in
    let journal = a.crew.fabric.journal in
    let k = a.most.node in
    let q = c.take_answers-seat in
    let w = c.remove-seat.result in
    let h = c.requires.takes in
    let y : Worker g.row.S.Denot g.row.C.Denot = record { seat = q.result.part; desks = q.new.desks } in
    let at = slice_get_read xs (length xs) k w refl h.there c.remove-seat.ensures.value in
    let items = (subst (λ x. c.insert.new.self.items ≡ (if is_ok x then insert c.remove-seat.new.self.items k y else c.remove-seat.new.self.items)) c.in-Ok.is c.insert.ensures.items)
    ∙ (ap (λ l. insert l k y) c.remove-seat.ensures.items ∙ put_back xs k y h.there) in
    let seen = ap (λ (n : NodeView). n.seen) q.ensures.node in
    let same = subst (λ i. node_of q.result.part i ≡ node_of w.seat journal) seen q.ensures.node in
    let ok = subst (λ i. SeatOk (record p.law { may = WithinDesks p.law.may w.desks.items }) r.meaning i q.result.part) seen q.ensures.seat in
    on_ok q.result.answer q.ensures.takes (λ t.
    subst (λ i. CrewTakes p.law r.meaning a._lines.now a._faults.now k a.most.cursor (k + 1) i a.crew.looks.items (λ w. w.seat) (λ w. w.desks.items) c.insert.new.self.items) (sym seen)
    (subst (λ l. CrewTakes p.law r.meaning a._lines.now a._faults.now k a.most.cursor (k + 1) journal a.crew.looks.items (λ w. w.seat) (λ w. w.desks.items) l) (sym items)
    (own_taken p.law r.meaning a._lines.now a._faults.now (λ w. w.seat) (λ w. w.desks.items) xs journal a.crew.looks.items k a.most.cursor k h w y at same ok refl t)))

pub returns-clause-stands : goal.returns-clause-stands
returns-clause-stands g c =
    let p = g.K.Terms in
    let r = g.S.Replica in
    let a = c.args in
    let xs = a.crew.workers.items in
    let journal = a.crew.fabric.journal in
    let k = a.most.node in
    let q = c.take_answers-seat in
    let w = c.remove-seat.result in
    let h = c.requires.takes in
    let y : Worker g.row.S.Denot g.row.C.Denot = record { seat = q.result.part; desks = q.new.desks } in
    let at = slice_get_read xs (length xs) k w refl h.there c.remove-seat.ensures.value in
    let items = (subst (λ x. c.insert.new.self.items ≡ (if is_ok x then insert c.remove-seat.new.self.items k y else c.remove-seat.new.self.items)) c.in-Ok.is c.insert.ensures.items)
    ∙ (ap (λ l. insert l k y) c.remove-seat.ensures.items ∙ put_back xs k y h.there) in
    let seen = ap (λ (n : NodeView). n.seen) q.ensures.node in
    let same = subst (λ i. node_of q.result.part i ≡ node_of w.seat journal) seen q.ensures.node in
    let ok = subst (λ i. SeatOk (record p.law { may = WithinDesks p.law.may w.desks.items }) r.meaning i q.result.part) seen q.ensures.seat in
    subst (λ i. CrewStands p.law r.meaning i (λ w. w.seat) c.insert.new.self.items) (sym seen)
    (subst (λ l. CrewStands p.law r.meaning journal (λ w. w.seat) l) (sym items)
    (own_stands p.law r.meaning a._lines.now a._faults.now (λ w. w.seat) (λ w. w.desks.items) xs journal a.crew.looks.items k a.most.cursor k h w y at same ok))

pub returns-clause-armed : goal.returns-clause-armed
returns-clause-armed g c =
    let xs = c.args.crew.workers.items in
    let k = c.args.most.node in
    let q = c.take_answers-seat in
    let w = c.remove-seat.result in
    let h = c.requires.takes in
    let y : Worker g.row.S.Denot g.row.C.Denot = record { seat = q.result.part; desks = q.new.desks } in
    let at = slice_get_read xs (length xs) k w refl h.there c.remove-seat.ensures.value in
    let items = (subst (λ x. c.insert.new.self.items ≡ (if is_ok x then insert c.remove-seat.new.self.items k y else c.remove-seat.new.self.items)) c.in-Ok.is c.insert.ensures.items)
    ∙ (ap (λ l. insert l k y) c.remove-seat.ensures.items ∙ put_back xs k y h.there) in
    subst (λ l. NoneArmed (λ w. w.seat.node.replica) xs l) (sym items)
    (one_moved (λ w. w.seat.node.replica) xs k w y at (arming_same 0 w.seat.node.replica q.result.part.node.replica (ap (λ (n : NodeView). n.replica) q.ensures.node)))
