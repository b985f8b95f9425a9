use Rattle.std.proofs.Common.{◌≡◌, refl, sym, ap, ◌∙◌, subst, ◌+◌, ◌<◌, length, arith}
use Rattle.std.specs.Prelude.{if◌then◌else◌, is_ok, insert, slice_set}
use Rattle.std.proofs.lemmas.Option.{slice_get_read}
use Rattle.base_engine.specs.Node.{NodeView}
use Rattle.turn_scopes.specs.Seats.{SeatOk, node_of}
use Rattle.node_workers.specs.declared.worker.Worker.{Worker}
use Rattle.node_crew.specs.Crews.{CrewStands}
use Rattle.node_crew.proofs.Ok.{on_ok}
use Rattle.run_closing.specs.Collecting.{WithinDesks}
use Rattle.run_closing.specs.Taking.{CrewTakes}
use Rattle.run_closing.proofs.Putting.{within_beside, other_at, put_both}
use Rattle.run_closing.proofs.Taking.{can_take, other_stands, other_taken, takes_ok}
use Rattle.base_engine.proofs.Arming.{arming_refl, arming_same}
use Rattle.fabric_core.proofs.Marks.{set_other}
use Rattle.node_crew.specs.Arming.{NoneArmed}
use Rattle.node_crew.proofs.Arming.{none_then, one_moved}
use Rattle.run_closing.proofs.take.take_other.Goals as goal

pub remove-other-requires : goal.remove-other-requires
remove-other-requires g c =
    let xs = c.args.crew.workers.items in
    let within = within_beside xs c.remove-seat.new.self.items c.args.most.node c.args.k c.beside-i.result c.remove-seat.ensures.items c.requires.other c.requires.takes.there c.requires.there (c.beside-i.ensures.low, c.beside-i.ensures.high) in
    omega (arith, within)

pub take_answers-seat-requires-clause-seat : goal.take_answers-seat-requires-clause-seat
take_answers-seat-requires-clause-seat g c =
    let p = g.K.Terms in
    let r = g.S.Replica in
    let a = c.args in
    let xs = a.crew.workers.items in
    let b = c.remove-seat.result in
    let h = c.requires.takes in
    let best = slice_get_read xs (length xs) a.most.node b refl h.there c.remove-seat.ensures.value in
    let mid = c.remove-seat.new.self.items in
    let w = c.remove-other.result in
    let at = other_at xs mid a.most.node a.k c.beside-i.result w c.remove-seat.ensures.items c.requires.other h.there c.requires.there (c.beside-i.ensures.low, c.beside-i.ensures.high) c.remove-other.ensures.value in
    takes_ok p.law r.meaning a._lines.now a._faults.now (λ w. w.seat) (λ w. w.desks.items) xs a.crew.fabric.journal a.crew.looks.items a.most.node a.most.cursor a.k h a.most.node b w best at

pub take_answers-seat-requires-clause-desks : goal.take_answers-seat-requires-clause-desks
take_answers-seat-requires-clause-desks g c =
    let p = g.K.Terms in
    let r = g.S.Replica in
    let a = c.args in
    let xs = a.crew.workers.items in
    let mid = c.remove-seat.new.self.items in
    let i = c.beside-i.result in
    let b = c.remove-seat.result in
    let w = c.remove-other.result in
    let h = c.requires.takes in
    let best = slice_get_read xs (length xs) a.most.node b refl h.there c.remove-seat.ensures.value in
    let at = other_at xs mid a.most.node a.k i w c.remove-seat.ensures.items c.requires.other h.there c.requires.there (c.beside-i.ensures.low, c.beside-i.ensures.high) c.remove-other.ensures.value in
    can_take p.law r.meaning a._lines.now a._faults.now (λ w. w.seat) (λ w. w.desks.items) xs a.crew.fabric.journal a.crew.looks.items a.most.node a.most.cursor a.k h b w best at

pub returns-clause-takes : goal.returns-clause-takes
returns-clause-takes g c =
    let p = g.K.Terms in
    let r = g.S.Replica in
    let a = c.args in
    let xs = a.crew.workers.items in
    let journal = a.crew.fabric.journal in
    let node = a.most.node in
    let mid = c.remove-seat.new.self.items in
    let i = c.beside-i.result in
    let q = c.take_answers-seat in
    let b = c.remove-seat.result in
    let w = c.remove-other.result in
    let h = c.requires.takes in
    let y : Worker g.row.S.Denot g.row.C.Denot = record { seat = w.seat; desks = q.new.desks } in
    let z : Worker g.row.S.Denot g.row.C.Denot = record { seat = q.result.part; desks = b.desks } in
    let best = slice_get_read xs (length xs) node b refl h.there c.remove-seat.ensures.value in
    let inside : i < length mid = within_beside xs mid node a.k i c.remove-seat.ensures.items c.requires.other h.there c.requires.there (c.beside-i.ensures.low, c.beside-i.ensures.high) in
    let at = other_at xs mid node a.k i w c.remove-seat.ensures.items c.requires.other h.there c.requires.there (c.beside-i.ensures.low, c.beside-i.ensures.high) c.remove-other.ensures.value in
    let first = subst (λ x. c.insert.new.self.items ≡ (if is_ok x then insert c.remove-other.new.self.items i y else c.remove-other.new.self.items)) c.in-Ok.is c.insert.ensures.items in
    let second = subst (λ x. c.insert-2.new.self.items ≡ (if is_ok x then insert c.insert.new.self.items node z else c.insert.new.self.items)) c.in-Ok-insert.is c.insert-2.ensures.items in
    let items = put_both xs mid c.remove-other.new.self.items c.insert.new.self.items c.insert-2.new.self.items node a.k i y z c.remove-seat.ensures.items c.remove-other.ensures.items first second c.requires.other h.there inside (c.beside-i.ensures.low, c.beside-i.ensures.high) in
    let seen = ap (λ (n : NodeView). n.seen) q.ensures.node in
    let same = subst (λ j. node_of q.result.part j ≡ node_of b.seat journal) seen q.ensures.node in
    let ok = subst (λ j. SeatOk (record p.law { may = WithinDesks p.law.may w.desks.items }) r.meaning j q.result.part) seen q.ensures.seat in
    on_ok q.result.answer q.ensures.takes (λ t.
    subst (λ j. CrewTakes p.law r.meaning a._lines.now a._faults.now node a.most.cursor (a.k + 1) j a.crew.looks.items (λ w. w.seat) (λ w. w.desks.items) c.insert-2.new.self.items) (sym seen)
    (subst (λ l. CrewTakes p.law r.meaning a._lines.now a._faults.now node a.most.cursor (a.k + 1) journal a.crew.looks.items (λ w. w.seat) (λ w. w.desks.items) l) (sym items)
    (other_taken p.law r.meaning a._lines.now a._faults.now (λ w. w.seat) (λ w. w.desks.items) xs journal a.crew.looks.items node a.most.cursor a.k h b w y z c.requires.other best at refl same ok refl t)))

pub returns-clause-stands : goal.returns-clause-stands
returns-clause-stands g c =
    let p = g.K.Terms in
    let r = g.S.Replica in
    let a = c.args in
    let xs = a.crew.workers.items in
    let journal = a.crew.fabric.journal in
    let node = a.most.node in
    let mid = c.remove-seat.new.self.items in
    let i = c.beside-i.result in
    let q = c.take_answers-seat in
    let b = c.remove-seat.result in
    let w = c.remove-other.result in
    let h = c.requires.takes in
    let y : Worker g.row.S.Denot g.row.C.Denot = record { seat = w.seat; desks = q.new.desks } in
    let z : Worker g.row.S.Denot g.row.C.Denot = record { seat = q.result.part; desks = b.desks } in
    let best = slice_get_read xs (length xs) node b refl h.there c.remove-seat.ensures.value in
    let inside : i < length mid = within_beside xs mid node a.k i c.remove-seat.ensures.items c.requires.other h.there c.requires.there (c.beside-i.ensures.low, c.beside-i.ensures.high) in
    let at = other_at xs mid node a.k i w c.remove-seat.ensures.items c.requires.other h.there c.requires.there (c.beside-i.ensures.low, c.beside-i.ensures.high) c.remove-other.ensures.value in
    let first = subst (λ x. c.insert.new.self.items ≡ (if is_ok x then insert c.remove-other.new.self.items i y else c.remove-other.new.self.items)) c.in-Ok.is c.insert.ensures.items in
    let second = subst (λ x. c.insert-2.new.self.items ≡ (if is_ok x then insert c.insert.new.self.items node z else c.insert.new.self.items)) c.in-Ok-insert.is c.insert-2.ensures.items in
    let items = put_both xs mid c.remove-other.new.self.items c.insert.new.self.items c.insert-2.new.self.items node a.k i y z c.remove-seat.ensures.items c.remove-other.ensures.items first second c.requires.other h.there inside (c.beside-i.ensures.low, c.beside-i.ensures.high) in
    let seen = ap (λ (n : NodeView). n.seen) q.ensures.node in
    let same = subst (λ j. node_of q.result.part j ≡ node_of b.seat journal) seen q.ensures.node in
    let ok = subst (λ j. SeatOk (record p.law { may = WithinDesks p.law.may w.desks.items }) r.meaning j q.result.part) seen q.ensures.seat in
    subst (λ j. CrewStands p.law r.meaning j (λ w. w.seat) c.insert-2.new.self.items) (sym seen)
    (subst (λ l. CrewStands p.law r.meaning journal (λ w. w.seat) l) (sym items)
    (other_stands p.law r.meaning a._lines.now a._faults.now (λ w. w.seat) (λ w. w.desks.items) xs journal a.crew.looks.items node a.most.cursor a.k h b w y z c.requires.other best at refl same ok refl))

pub returns-clause-armed : goal.returns-clause-armed
returns-clause-armed g c =
    let a = c.args in
    let xs = a.crew.workers.items in
    let node = a.most.node in
    let mid = c.remove-seat.new.self.items in
    let i = c.beside-i.result in
    let q = c.take_answers-seat in
    let b = c.remove-seat.result in
    let w = c.remove-other.result in
    let h = c.requires.takes in
    let y : Worker g.row.S.Denot g.row.C.Denot = record { seat = w.seat; desks = q.new.desks } in
    let z : Worker g.row.S.Denot g.row.C.Denot = record { seat = q.result.part; desks = b.desks } in
    let best = slice_get_read xs (length xs) node b refl h.there c.remove-seat.ensures.value in
    let inside : i < length mid = within_beside xs mid node a.k i c.remove-seat.ensures.items c.requires.other h.there c.requires.there (c.beside-i.ensures.low, c.beside-i.ensures.high) in
    let at = other_at xs mid node a.k i w c.remove-seat.ensures.items c.requires.other h.there c.requires.there (c.beside-i.ensures.low, c.beside-i.ensures.high) c.remove-other.ensures.value in
    let first = subst (λ x. c.insert.new.self.items ≡ (if is_ok x then insert c.remove-other.new.self.items i y else c.remove-other.new.self.items)) c.in-Ok.is c.insert.ensures.items in
    let second = subst (λ x. c.insert-2.new.self.items ≡ (if is_ok x then insert c.insert.new.self.items node z else c.insert.new.self.items)) c.in-Ok-insert.is c.insert-2.ensures.items in
    let items = put_both xs mid c.remove-other.new.self.items c.insert.new.self.items c.insert-2.new.self.items node a.k i y z c.remove-seat.ensures.items c.remove-other.ensures.items first second c.requires.other h.there inside (c.beside-i.ensures.low, c.beside-i.ensures.high) in
    let one = slice_set xs a.k y in
    subst (λ l. NoneArmed (λ w. w.seat.node.replica) xs l) (sym items)
    (none_then (λ w. w.seat.node.replica) xs one (slice_set one node z)
    (one_moved (λ w. w.seat.node.replica) xs a.k w y at (arming_refl 0 w.seat.node.replica))
    (one_moved (λ w. w.seat.node.replica) one node b z (set_other xs a.k node y c.requires.other ∙ best) (arming_same 0 b.seat.node.replica q.result.part.node.replica (ap (λ (n : NodeView). n.replica) q.ensures.node))))
