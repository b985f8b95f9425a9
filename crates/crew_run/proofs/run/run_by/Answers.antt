use Rattle.std.proofs.Common.{◌∙◌, sym, ap, subst, length, map, arith}
use Rattle.turn_scopes.specs.Floors.{FloorIs}
use Rattle.node_course.specs.FaultLines.{AreFaultLines}
use Rattle.node_crew.specs.Arming.{ArmedByStops}
use Rattle.crew_run.proofs.Arming.{stops_seen}
use Rattle.crew_run.specs.Acting.{HasActed, WasActedOn}
use Rattle.crew_run.specs.Telling.{FitsGivenBack}
use Rattle.crew_run.specs.Running.{RunTold}
use Rattle.crew_run.proofs.Running.{as_many, if_ok, run_told, same_shelf, was_acted_on}
use Rattle.crew_run.proofs.run.run_by.Goals as goal

pub tell-crew-requires-clause-eight : goal.tell-crew-requires-clause-eight
tell-crew-requires-clause-eight g c =
    let size = as_many (λ w. w.seat.node.replica) (λ n. g.S.Replica.shows n.replica) c.in-Ok.crew.workers.items c.args.nodes.items c.in-Ok.ensures.replicas in
    omega (arith, size, c.requires.eight)

pub tell-crew-requires-clause-floor : goal.tell-crew-requires-clause-floor
tell-crew-requires-clause-floor g c κs within =
    let size = as_many (λ w. w.seat.node.replica) (λ n. g.S.Replica.shows n.replica) c.in-Ok.crew.workers.items c.args.nodes.items c.in-Ok.ensures.replicas in
    subst (FloorIs g.K.Terms.law.floor) (sym size) c.requires.floor

pub tell-crew-requires-clause-faults : goal.tell-crew-requires-clause-faults
tell-crew-requires-clause-faults g c κs within =
    let size = as_many (λ w. w.seat.node.replica) (λ n. g.S.Replica.shows n.replica) c.in-Ok.crew.workers.items c.args.nodes.items c.in-Ok.ensures.replicas in
    subst (AreFaultLines c.args.lines.now c.args.faults.now g.K.Terms.law.shelf) (sym size) c.requires.faults

pub part_crew-cells-requires-clause-room : goal.part_crew-cells-requires-clause-room
part_crew-cells-requires-clause-room g c =
    let size = as_many (λ w. w.seat.node.replica) (λ n. g.S.Replica.shows n.replica) c.in-Ok.crew.workers.items c.args.nodes.items c.in-Ok.ensures.replicas in
    omega (arith, size, c.tell-crew.ensures.size, c.in-Ok.ensures.room)

pub returns-in-Ok-clause-told : goal.returns-in-Ok-clause-told
returns-in-Ok-clause-told g c =
    let p = g.K.Terms in
    let r = g.S.Replica in
    let t = c.tell-crew.result.crew in
    let q = c.part_crew-cells in
    if_ok (FitsGivenBack p.law c.args.lines.now c.args.faults.now t.fabric.journal (map (λ w. record { seat = w.seat; desks = w.desks.items }) t.workers.items))
    (RunTold c.args.lines.now c.args.faults.now (record { cells = map g.L.Loglet.view q.result.cells.items; register = g.R.Register.view q.result.register; disks = map (λ n. (r.shows n.replica).faults) q.new.nodes.items }))
    (λ o h. run_told p.law c.args.lines.now c.args.faults.now t.fabric.journal (λ w. w.seat) (λ w. w.desks.items) (λ n. r.shows n.replica) q.new.nodes.items t.workers.items
    (map g.L.Loglet.view q.result.cells.items) (g.R.Register.view q.result.register) o q.ensures.told q.ensures.nodes h)
    c.tell-crew.result.answer c.tell-crew.ensures.told

pub returns-in-Ok-clause-acted : goal.returns-in-Ok-clause-acted
returns-in-Ok-clause-acted g c =
    let p = g.K.Terms in
    let t = c.tell-crew.result.crew in
    let q = c.part_crew-cells in
    let cells = map g.L.Loglet.view q.result.cells.items in
    let register = g.R.Register.view q.result.register in
    if_ok (λ o. HasActed (length p.law.shelf) c.args.faults.now t.fabric.journal) (λ o. WasActedOn p.law c.args.faults.now cells register)
    (λ o h. was_acted_on p.law c.args.faults.now t.fabric.journal cells register q.ensures.told h)
    c.tell-crew.result.answer c.tell-crew.ensures.acted

pub returns-in-Ok-clause-size : goal.returns-in-Ok-clause-size
returns-in-Ok-clause-size g c =
    let q = c.part_crew-cells in
    as_many (λ n. g.S.Replica.shows n.replica) (λ w. w.seat.node.replica) q.new.nodes.items c.tell-crew.result.crew.workers.items q.ensures.nodes
    ∙ (c.tell-crew.ensures.size ∙ as_many (λ w. w.seat.node.replica) (λ n. g.S.Replica.shows n.replica) c.in-Ok.crew.workers.items c.args.nodes.items c.in-Ok.ensures.replicas)

pub returns-in-Ok-clause-cells : goal.returns-in-Ok-clause-cells
returns-in-Ok-clause-cells g c =
    same_shelf g.L.Loglet.view c.part_crew-cells.result.cells.items c.args.cells.items g.K.Terms.law.shelf c.part_crew-cells.ensures.told.shelf_is c.requires.shelf

pub returns-in-Err-clause-cells : goal.returns-in-Err-clause-cells
returns-in-Err-clause-cells g c = ap (λ x. length x.items) c.in-Err.ensures.parts.0

pub returns-in-Ok-clause-kinds : goal.returns-in-Ok-clause-kinds
returns-in-Ok-clause-kinds g c = c.part_crew-cells.ensures.kinds ∙ sym c.requires.kinds

pub returns-in-Err-clause-kinds : goal.returns-in-Err-clause-kinds
returns-in-Err-clause-kinds g c = ap (λ x. map (λ v. v.kind) (map g.L.Loglet.view x.items)) c.in-Err.ensures.parts.0

pub returns-in-Ok-clause-armed : goal.returns-in-Ok-clause-armed
returns-in-Ok-clause-armed g c =
    let r = g.S.Replica in
    let ws = c.in-Ok.crew.workers.items in
    let t = c.tell-crew.result.crew in
    let q = c.part_crew-cells in
    let nodes = c.args.nodes.items in
    if_ok (λ o. ArmedByStops c.args.faults.now (λ w. w.seat.node.replica) ws t.workers.items) (λ o. ArmedByStops c.args.faults.now (λ n. r.shows n.replica) nodes q.new.nodes.items)
    (λ o h. stops_seen c.args.faults.now (λ w. w.seat.node.replica) (λ n. r.shows n.replica) ws t.workers.items nodes q.new.nodes.items
    (sym (as_many (λ w. w.seat.node.replica) (λ n. r.shows n.replica) ws nodes c.in-Ok.ensures.replicas))
    (as_many (λ n. r.shows n.replica) (λ w. w.seat.node.replica) q.new.nodes.items t.workers.items q.ensures.nodes)
    (sym c.in-Ok.ensures.replicas) q.ensures.nodes h)
    c.tell-crew.result.answer c.tell-crew.ensures.armed
