use Rattle.std.proofs.Common.{◌≡◌, sym, ap, ◌∙◌, subst, ◌+◌, ◌≤◌, ℕ, List, arith}
use Rattle.std.specs.Prelude.{OnOk}
use Rattle.turn_scopes.specs.Beside.{Since}
use Rattle.turn_scopes.specs.Floors.{FloorIs}
use Rattle.turn_scopes.specs.Seats.{SeatView}
use Rattle.node_lines.specs.Workers.{WorkerOk}
use Rattle.node_course.specs.FaultLines.{ArmedBy}
use Rattle.node_course.specs.Workers.{CanPlay, CanSend, LineWent}
use Rattle.node_crew.specs.Notes.{noted}
use Rattle.node_crew.specs.Stops.{armed_all, stops_between}
use Rattle.node_crew.specs.Turns.{IsUnderWay}
use Rattle.node_crew.proofs.Ok.{on_ok}
use Rattle.node_crew.proofs.Stopping.{all_who, all_nodes, armed_only, armed_then, play_all, under_all, worker_all}
use Rattle.node_crew.proofs.turn.play_own.Goals as goal

is_who : (s t : SeatView) (xs : List ℕ) → t ≡ armed_all s xs → t.who ≡ s.who
is_who s t xs e = ap (λ (x : SeatView). x.who) e ∙ all_who s xs

pub play_line-requires-clause-who : goal.play_line-requires-clause-who
play_line-requires-clause-who g c =
    let a = c.args in
    is_who a.worker.seat c.arm_between.new.seat (stops_between a.line.now.node a.next.now c.first_behind-to.result a.faults.now.lines.now) c.arm_between.ensures ∙ c.requires.who

pub play_line-requires-clause-worker : goal.play_line-requires-clause-worker
play_line-requires-clause-worker g c =
    let p = g.A.Law.Rules in
    let r = g.S.Replica in
    let a = c.args in
    let s = a.worker.seat in
    let seen = g.A.Access.seen a.access in
    let ds = a.worker.desks.items in
    let xs = stops_between a.line.now.node a.next.now c.first_behind-to.result a.faults.now.lines.now in
    subst (λ (x : SeatView). WorkerOk p.law r.meaning x.who seen x ds) (sym c.arm_between.ensures)
    (subst (λ k. WorkerOk p.law r.meaning k seen (armed_all s xs) ds) (sym (all_who s xs)) (worker_all p.law r.meaning s.who seen s ds xs c.requires.worker))

pub play_line-requires-clause-node : goal.play_line-requires-clause-node
play_line-requires-clause-node g c =
    let a = c.args in
    c.requires.node ∙ sym (is_who a.worker.seat c.arm_between.new.seat (stops_between a.line.now.node a.next.now c.first_behind-to.result a.faults.now.lines.now) c.arm_between.ensures)

pub play_line-requires-clause-sends : goal.play_line-requires-clause-sends
play_line-requires-clause-sends g c =
    let a = c.args in
    subst (λ k. CanSend g.A.Law.Rules.law.may k a.line.now.asks)
    (sym (is_who a.worker.seat c.arm_between.new.seat (stops_between a.line.now.node a.next.now c.first_behind-to.result a.faults.now.lines.now) c.arm_between.ensures)) c.requires.sends

pub play_line-requires-clause-can : goal.play_line-requires-clause-can
play_line-requires-clause-can g c =
    let a = c.args in
    let s = a.worker.seat in
    let seen = g.A.Access.seen a.access in
    let xs = stops_between a.line.now.node a.next.now c.first_behind-to.result a.faults.now.lines.now in
    subst (λ (x : SeatView). CanPlay x.who seen x) (sym c.arm_between.ensures)
    (subst (λ k. CanPlay k seen (armed_all s xs)) (sym (all_who s xs)) (play_all s.who seen s xs c.requires.can))

pub play_line-requires-clause-number : goal.play_line-requires-clause-number
play_line-requires-clause-number g c =
    let a = c.args in
    let s = a.worker.seat in
    let xs = stops_between a.line.now.node a.next.now c.first_behind-to.result a.faults.now.lines.now in
    subst (λ (x : SeatView). (1 ≤ x.who) × (x.who ≤ x.node.nodes)) (sym c.arm_between.ensures)
    (omega (arith, c.requires.number.0, all_who s xs), omega (arith, c.requires.number.1, all_who s xs, all_nodes s xs))

pub play_line-requires-clause-floor : goal.play_line-requires-clause-floor
play_line-requires-clause-floor g c =
    let a = c.args in
    let s = a.worker.seat in
    let xs = stops_between a.line.now.node a.next.now c.first_behind-to.result a.faults.now.lines.now in
    subst (λ (x : SeatView). FloorIs g.A.Law.Rules.law.floor x.node.nodes) (sym c.arm_between.ensures) (subst (FloorIs g.A.Law.Rules.law.floor) (sym (all_nodes s xs)) c.requires.floor)

pub returns-clause-goes : goal.returns-clause-goes
returns-clause-goes g c = λ lines home nodes course from base at phase u.
    let p = g.A.Law.Rules in
    let r = g.S.Replica in
    let a = c.args in
    let q = c.play_line in
    let s = a.worker.seat in
    let seen = g.A.Access.seen a.access in
    let ds = a.worker.desks.items in
    let looks = noted base a.notes.now.items in
    let xs = stops_between a.line.now.node a.next.now c.first_behind-to.result a.faults.now.lines.now in
    let there = subst (λ (x : SeatView). IsUnderWay p.law r.meaning lines home nodes course looks x.who from a.i seen x ds) (sym c.arm_between.ensures)
    (subst (λ k. IsUnderWay p.law r.meaning lines home nodes course looks k from a.i seen (armed_all s xs) ds) (sym (all_who s xs)) (under_all p.law r.meaning lines home nodes course looks s.who from a.i seen s ds xs u)) in
    subst (λ k. OnOk q.result.answer (LineWent p.law r.meaning lines home nodes course (noted base q.new.notes.items) k from (a.i + 1) (g.A.Access.seen q.result.access) q.result.part.seat q.result.part.desks.items))
    (is_who s c.arm_between.new.seat xs c.arm_between.ensures)
    (q.ensures.goes lines home nodes course from base at phase there)

pub returns-clause-armed : goal.returns-clause-armed
returns-clause-armed g c =
    let a = c.args in
    let q = c.play_line in
    let s = a.worker.seat in
    let t = c.arm_between.new.seat in
    let xs = stops_between a.line.now.node a.next.now c.first_behind-to.result a.faults.now.lines.now in
    let only = subst (λ (x : SeatView). ArmedBy xs s.node.replica x.node.replica) (sym c.arm_between.ensures) (armed_only s xs) in
    on_ok q.result.answer q.ensures.arming (λ arming.
    subst (λ k. ArmedBy (stops_between k a.next.now c.first_behind-to.result a.faults.now.lines.now) s.node.replica q.result.part.seat.node.replica) c.requires.node
    (armed_then xs s.node.replica t.node.replica q.result.part.seat.node.replica only arming))

pub returns-clause-since : goal.returns-clause-since
returns-clause-since g c =
    let a = c.args in
    let q = c.play_line in
    subst (λ k. Since k (g.A.Access.beside k) (g.A.Access.seen a.access) (g.A.Access.seen q.result.access))
    (is_who a.worker.seat c.arm_between.new.seat (stops_between a.line.now.node a.next.now c.first_behind-to.result a.faults.now.lines.now) c.arm_between.ensures) q.ensures.since

pub returns-clause-who : goal.returns-clause-who
returns-clause-who g c =
    let a = c.args in
    c.play_line.ensures.who ∙ is_who a.worker.seat c.arm_between.new.seat (stops_between a.line.now.node a.next.now c.first_behind-to.result a.faults.now.lines.now) c.arm_between.ensures
