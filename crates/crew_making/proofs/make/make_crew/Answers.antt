use Rattle.std.proofs.Common.{[], length, sym, ap, ◌∙◌, subst, arith}
use Rattle.node_lines.specs.Workers.{Sends}
use Rattle.node_course.specs.Script.{AreLines}
use Rattle.node_crew.specs.Crews.{CrewRests, CrewStands}
use Rattle.crew_making.specs.Apart.{AreAsTold}
use Rattle.crew_making.specs.Fresh.{AreFreshFrom, AreNewWorkers}
use Rattle.fabric_core.specs.Fabric.{FabricView}
use Rattle.crew_making.proofs.Fresh.{fresh_from}
use Rattle.node_opening.proofs.Lists.{as_long, shown_same}
use Rattle.crew_making.proofs.Resting.{crew_rests, new_stands}
use Rattle.crew_making.proofs.make.make_crew.Goals as goal

pub seat_all-workers-requires-clause-eight : goal.seat_all-workers-requires-clause-eight
seat_all-workers-requires-clause-eight g c =
    let size = as_long (λ b. b.replica) (λ n. n.replica) c.in-Ok-prepare_all.berths.items c.args.nodes.now.items c.in-Ok-prepare_all.ensures.replicas in
    omega (arith, size, c.requires.eight)

pub seat_all-workers-requires-clause-fresh : goal.seat_all-workers-requires-clause-fresh
seat_all-workers-requires-clause-fresh g c =
    let r = g.S.Replica in
    let same = shown_same (λ b. b.replica) (λ n. n.replica) r.shows c.in-Ok-prepare_all.berths.items c.args.nodes.now.items c.in-Ok-prepare_all.ensures.replicas in
    subst (AreFreshFrom r.meaning 1) (sym same) (fresh_from r.meaning (λ n. r.shows n.replica) 1 c.args.nodes.now.items c.requires.nodes)

pub seat_all-workers-requires-clause-room : goal.seat_all-workers-requires-clause-room
seat_all-workers-requires-clause-room g c =
    let size = as_long (λ b. b.replica) (λ n. n.replica) c.in-Ok-prepare_all.berths.items c.args.nodes.now.items c.in-Ok-prepare_all.ensures.replicas in
    (c.in-Ok-with_capacity.ensures.items, grind (arith, size, c.in-Ok-with_capacity.ensures.exact, c.len.ensures))

pub returns-in-Ok-new-clause-rests : goal.returns-in-Ok-new-clause-rests
returns-in-Ok-new-clause-rests g c =
    let p = g.K.Terms in
    let r = g.S.Replica in
    let a = c.args in
    let q = c.seat_all-workers in
    let size = as_long (λ b. b.replica) (λ n. n.replica) c.in-Ok-prepare_all.berths.items a.nodes.now.items c.in-Ok-prepare_all.ensures.replicas in
    let size' = as_long (λ w. w.seat.node.replica) (λ b. r.shows b.replica) q.result.items c.in-Ok-prepare_all.berths.items q.ensures.replicas in
    subst (λ j. CrewRests p.law r.meaning a.lines.now a._faults.now 0 0 j c.in-Ok.looks.items (λ w. w.seat) (λ w. w.desks.items) q.result.items) (sym (ap (λ (f : FabricView). f.journal) c.in-Ok-new.ensures.ok))
    (crew_rests p.law a.lines.now a._faults.now c.in-Ok.looks.items c.in-Ok.ensures.size c.in-Ok.ensures.none r.meaning c.requires.lines.0 (λ w. w.seat) (λ w. w.desks.items) q.result.items
    (subst (AreLines a.lines.now c.requires.lines.0) (sym (size' ∙ size)) c.requires.lines.1)
    (subst (λ k. AreNewWorkers (λ who. record p.law { may = Sends who p.law.may [] [] }) r.meaning k (λ w. w.seat) (λ w. w.desks.items) q.result.items) (sym size') q.ensures.workers))

pub returns-in-Ok-new-clause-stands : goal.returns-in-Ok-new-clause-stands
returns-in-Ok-new-clause-stands g c =
    let p = g.K.Terms in
    let r = g.S.Replica in
    let q = c.seat_all-workers in
    subst (λ j. CrewStands p.law r.meaning j (λ w. w.seat) q.result.items) (sym (ap (λ (f : FabricView). f.journal) c.in-Ok-new.ensures.ok))
    (new_stands p.law r.meaning (length c.in-Ok-prepare_all.berths.items) (λ w. w.seat) (λ w. w.desks.items) q.result.items q.ensures.workers)

pub returns-in-Ok-new-clause-replicas : goal.returns-in-Ok-new-clause-replicas
returns-in-Ok-new-clause-replicas g c =
    c.seat_all-workers.ensures.replicas ∙ shown_same (λ b. b.replica) (λ n. n.replica) g.S.Replica.shows c.in-Ok-prepare_all.berths.items c.args.nodes.now.items c.in-Ok-prepare_all.ensures.replicas

pub leave_all-requires-clause-room : goal.leave_all-requires-clause-room
leave_all-requires-clause-room g c =
    let size = as_long (λ b. b.replica) (λ n. n.replica) c.in-Ok-prepare_all.berths.items c.args.nodes.now.items c.in-Ok-prepare_all.ensures.replicas in
    let none = ap length c.in-Ok-prepare_all.ensures.taken in
    omega (arith, size, none, c.in-Ok-prepare_all.ensures.room)

pub returns-in-Ok-new-clause-told : goal.returns-in-Ok-new-clause-told
returns-in-Ok-new-clause-told g c =
    let p = g.K.Terms in
    let t = c.journal-told in
    subst (λ j. AreAsTold p.law j c.in-Ok-new.fabric.cells c.in-Ok-new.fabric.register) (ap (λ (f : FabricView). f.journal) c.in-Ok-new.ensures.ok)
    (record {
      legal = t.ensures.legal;
      shelf_is = t.ensures.shelf;
      runs = t.ensures.runs;
      register_runs = t.ensures.register_runs;
      register_is = t.ensures.register;
      shows = t.ensures.shows;
      tail = t.ensures.tail;
    })
