use Rattle.std.proofs.Common.{sym, ◌∙◌, subst}
use Rattle.turn_scopes.specs.Floors.{FloorIs}
use Rattle.node_lines.proofs.Widening.{grows-both}
use Rattle.node_workers.proofs.Ok.{in_ok, ok_then, on_ok}
use Rattle.node_crew.proofs.Ok.{on_ok as on_then}
use Rattle.run_closing.specs.Finishing.{IsMost, PassesBut, PlaysLast}
use Rattle.run_closing.proofs.Finishing.{last_all, most_before, passes_all, passes_both, plays_all}
use Rattle.run_closing.proofs.Ok.{if_ok2, if_ok2_then}
use Rattle.node_crew.proofs.Arming.{none_then}
use Rattle.run_closing.proofs.finish.finish_all.Goals as goal

pub finish_most-requires-clause-floor : goal.finish_most-requires-clause-floor
finish_most-requires-clause-floor g c = subst (FloorIs g.K.Terms.law.floor) (sym c.finish_each-crew.ensures.size) c.requires.floor

pub finish_most-requires-clause-rests : goal.finish_most-requires-clause-rests
finish_most-requires-clause-rests g c = on_ok _ c.in-Ok.is c.finish_each-crew.ensures.rests

pub finish_most-requires-clause-most : goal.finish_most-requires-clause-most
finish_most-requires-clause-most g c = in_ok _ c.in-Ok.is c.finish_each-crew.ensures.most

pub finish_most-requires-clause-sees : goal.finish_most-requires-clause-sees
finish_most-requires-clause-sees g c = in_ok _ c.in-Ok.is c.finish_each-crew.ensures.sees

pub returns-in-Ok-clause-most : goal.returns-in-Ok-clause-most
returns-in-Ok-clause-most g c = ok_then c.finish_most.result.answer c.finish_most.ensures.most (λ most h. h.1)

pub returns-in-Ok-clause-passes : goal.returns-in-Ok-clause-passes
returns-in-Ok-clause-passes g c =
    let a = c.args.crew in
    let m = c.finish_each-crew.result.crew in
    let q = c.finish_most in
    let n = q.result.crew in
    let ends = c.in-Ok.ends in
    on_then q.result.answer q.ensures.still (λ still.
    passes_all c.args.lines.now a.looks.items (λ w. w.seat) a.workers.items ends.passed m.workers.items n.workers.items a.fabric.journal m.fabric.journal n.fabric.journal
    (in_ok _ c.in-Ok.is c.finish_each-crew.ensures.all) still (on_ok _ c.in-Ok.is c.finish_each-crew.ensures.passes))

pub returns-in-Ok-clause-plays : goal.returns-in-Ok-clause-plays
returns-in-Ok-clause-plays g c =
    let a = c.args.crew in
    let m = c.finish_each-crew.result.crew in
    let q = c.finish_most in
    let n = q.result.crew in
    let ends = c.in-Ok.ends in
    on_then q.result.answer q.ensures.still (λ still.
    plays_all c.args.lines.now a.looks.items (λ w. w.seat) a.workers.items ends.passed m.workers.items n.workers.items a.fabric.journal m.fabric.journal n.fabric.journal
    (in_ok _ c.in-Ok.is c.finish_each-crew.ensures.all) still (on_ok _ c.in-Ok.is c.finish_each-crew.ensures.plays))

pub returns-in-Ok-clause-others : goal.returns-in-Ok-clause-others
returns-in-Ok-clause-others g c =
    let lines = c.args.lines.now in
    let a = c.args.crew in
    let mid = c.finish_each-crew.result.crew.workers.items in
    let q = c.finish_most in
    let node = c.in-Ok.ends.most.node in
    let passes = on_ok _ c.in-Ok.is c.finish_each-crew.ensures.passes in
    if_ok2 q.result.answer q.ensures.passes q.ensures.most (λ last most h.
    subst (λ n. PassesBut n lines a.looks.items (λ w. w.seat) a.workers.items q.result.crew.workers.items) (sym h.0)
    (passes_both lines a.looks.items (λ w. w.seat) a.workers.items mid q.result.crew.workers.items node passes
    (subst (λ i. PassesBut node lines i (λ w. w.seat) mid q.result.crew.workers.items) c.finish_each-crew.ensures.looks last)))

pub returns-in-Ok-clause-greatest : goal.returns-in-Ok-clause-greatest
returns-in-Ok-clause-greatest g c =
    let lines = c.args.lines.now in
    let a = c.args.crew in
    let mid = c.finish_each-crew.result.crew.workers.items in
    let q = c.finish_most in
    let ends = c.in-Ok.ends in
    ok_then q.result.answer q.ensures.most (λ most h. λ all.
    subst (λ n. IsMost (λ w. w.seat) a.workers.items n) (sym h.0)
    (most_before lines a.looks.items (λ w. w.seat) a.workers.items mid ends.most.node ends.most.cursor (in_ok _ c.in-Ok.is c.finish_each-crew.ensures.most) (on_ok _ c.in-Ok.is c.finish_each-crew.ensures.passes) all))

pub returns-in-Ok-clause-last : goal.returns-in-Ok-clause-last
returns-in-Ok-clause-last g c =
    let lines = c.args.lines.now in
    let a = c.args.crew in
    let m = c.finish_each-crew.result.crew in
    let q = c.finish_most in
    let n = q.result.crew in
    let ends = c.in-Ok.ends in
    if_ok2_then q.result.answer q.ensures.still q.ensures.plays q.ensures.most (λ still plays most h. λ all.
    subst (λ k. PlaysLast k a.fabric.journal n.fabric.journal (λ w. w.seat) a.workers.items n.workers.items) (sym h.0)
    (last_all lines a.looks.items (λ w. w.seat) a.workers.items ends.passed m.workers.items n.workers.items a.fabric.journal m.fabric.journal n.fabric.journal
    (in_ok _ c.in-Ok.is c.finish_each-crew.ensures.all) still ends.most.node (in_ok _ c.in-Ok.is c.finish_each-crew.ensures.some) plays c.finish_each-crew.ensures.grows (on_ok _ c.in-Ok.is c.finish_each-crew.ensures.passes) all))

pub returns-in-Ok-clause-grows : goal.returns-in-Ok-clause-grows
returns-in-Ok-clause-grows g c =
    grows-both c.args.crew.fabric.journal c.finish_each-crew.result.crew.fabric.journal c.finish_most.result.crew.fabric.journal c.finish_each-crew.ensures.grows c.finish_most.ensures.grows

pub returns-in-Ok-clause-quiet : goal.returns-in-Ok-clause-quiet
returns-in-Ok-clause-quiet g c = c.finish_most.ensures.quiet ∙ c.finish_each-crew.ensures.quiet

pub returns-in-Ok-clause-armed : goal.returns-in-Ok-clause-armed
returns-in-Ok-clause-armed g c =
    let m = c.finish_each-crew.result.crew in
    let q = c.finish_most in
    on_then q.result.answer q.ensures.armed (λ last.
    none_then (λ w. w.seat.node.replica) c.args.crew.workers.items m.workers.items q.result.crew.workers.items (on_ok _ c.in-Ok.is c.finish_each-crew.ensures.armed) last)
