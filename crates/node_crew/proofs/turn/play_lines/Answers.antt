use Rattle.std.proofs.Common.{◌≡◌, refl, sym, ap, ◌∙◌, subst, inl, ◌+◌, ◌≤◌, false, length, arith, eqb-true}
use Rattle.std.specs.Prelude.{◌==◌}
use Rattle.std.proofs.lemmas.Option.{slice_get_read}
use Rattle.script_text.specs.declared.asks.NamedLine.{NamedLine}
use Rattle.turn_scopes.specs.Beside.{Since}
use Rattle.turn_scopes.specs.Floors.{FloorIs}
use Rattle.turn_scopes.specs.Seats.{SeatView, SeatOk}
use Rattle.turn_scopes.proofs.Beside.{since_none, since_both}
use Rattle.node_lines.specs.Workers.{WorkerOk}
use Rattle.node_workers.proofs.Ok.{on_ok}
use Rattle.base_engine.proofs.Arming.{arming_refl}
use Rattle.node_course.specs.FaultLines.{ArmedBy, AreFaultLines}
use Rattle.node_course.specs.Workers.{LineWent, CanPlay, CanSend}
use Rattle.node_course.proofs.Asking.{line_next}
use Rattle.node_course.proofs.Lines.{at_get}
use Rattle.node_course.proofs.Turning.{can_play}
use Rattle.node_crew.specs.Notes.{AreNotesOf, noted}
use Rattle.node_crew.specs.Turns.{CanEnd, IsUnderWay}
use Rattle.node_crew.proofs.Notes.{notes_more}
use Rattle.node_crew.specs.Stops.{stops_between}
use Rattle.node_crew.proofs.Playing.{worker_stands, none_went, under_way, then_went, passed_by, phase_is, part_number, can_begin, kept_by}
use Rattle.node_crew.proofs.Stopping.{all_who, armed_join, armed_only, end_all, seat_all, stops_none, stops_of_phase, stops_split, went_all}
use Rattle.node_crew.proofs.turn.play_lines.Goals.{then-eq+in-Ok, else-eq}
use Rattle.node_crew.proofs.turn.play_lines.Goals as goal

pub loop-i-init : goal.loop-i-init
loop-i-init g c =
    let p = g.A.Law.Rules in
    let r = g.S.Replica in
    let a = c.args in
    let b = c.requires.playing.0 in
    let t = c.requires.playing.1 in
    let faults = a.faults.now.lines.now in
    let are : AreFaultLines a.lines.now faults p.law.shelf t.nodes = subst (AreFaultLines a.lines.now faults p.law.shelf) t.now.node.nodes_is c.requires.faults in
    let number = part_number p.law r.meaning a.lines.now t.home t.nodes t.course a.node a.from faults p.law.shelf are t.now.lines_are t.one in
    let can = can_begin p.law r.meaning a.lines.now t.home t.nodes t.course a.node a.from faults p.law.shelf are c.requires.run (subst (FloorIs p.law.floor) t.now.node.nodes_is c.requires.floor) (noted b a.notes.now.items) (g.A.Access.seen a.access) a.worker.seat a.worker.desks.items t.one t.now in
    record {
      low = omega arith;
      high = c.requires.range.0;
      begun = omega arith;
      within = c.requires.of_phase.range.0;
      who = c.requires.node;
      whose = c.requires.who;
      since = since_none a.worker.seat.who (g.A.Access.beside a.worker.seat.who) (g.A.Access.seen a.access) (g.A.Access.seen a.access) refl;
      armed = subst (λ xs. ArmedBy xs a.worker.seat.node.replica a.worker.seat.node.replica) (sym (stops_none a.node a.faults.now.from faults)) (arming_refl 0 a.worker.seat.node.replica);
      own = c.requires.own;
      ends = inl (kept_by c.requires.floor (omega (arith, number.0, c.requires.node), omega (arith, number.1, c.requires.node, t.now.node.nodes_is))
          (subst (λ k. CanPlay k (g.A.Access.seen a.access) a.worker.seat) (sym c.requires.node) can));
      goes = λ home nodes course base u ends. none_went p.law r.meaning a.lines.now home nodes course a.node a.from (noted base a.notes.now.items) (g.A.Access.seen a.access) a.worker.seat a.worker.desks.items u;
    }

pub play_own-played-requires-clause-worker : goal.play_own-played-requires-clause-worker
play_own-played-requires-clause-worker g c =
    let p = g.A.Law.Rules in
    let r = g.S.Replica in
    let a = c.args in
    let l = c.loop-i in
    let b = c.requires.playing.0 in
    let t = c.requires.playing.1 in
    let w = l.invariant.goes t.home t.nodes t.course b t.now t.ends in
    subst (λ k. WorkerOk p.law r.meaning k (g.A.Access.seen l.access) l.worker.seat l.worker.desks.items) (sym l.invariant.who)
    (subst (λ j. WorkerOk p.law r.meaning a.node j l.worker.seat l.worker.desks.items) w.seen_is w.node.ok)

pub play_own-played-requires-clause-who : goal.play_own-played-requires-clause-who
play_own-played-requires-clause-who g c = c.loop-i.invariant.who ∙ sym c.loop-i.invariant.whose

pub play_own-played-requires-clause-next : goal.play_own-played-requires-clause-next
play_own-played-requires-clause-next g c =
    let p = g.A.Law.Rules in
    let r = g.S.Replica in
    let a = c.args in
    let l = c.loop-i in
    let b = c.requires.playing.0 in
    let t = c.requires.playing.1 in
    let w = l.invariant.goes t.home t.nodes t.course b t.now t.ends in
    let line = c.index-lines-i.result in
    let at = slice_get_read a.lines.now (length a.lines.now) l.i line refl (omega (arith, c.loop-i-test.true, c.requires.range.1)) c.index-lines-i.is in
    let own = eqb-true line.node a.node (sym c.eq.ensures ∙ c.if-eq.true) in
    line_next p.law r.meaning a.lines.now t.home t.nodes w.course (noted b l.notes.items) a.node a.from l.i w.course.phase line l.worker.seat l.worker.desks.items t.now.lines_are at own w.node

pub play_own-played-requires-clause-can : goal.play_own-played-requires-clause-can
play_own-played-requires-clause-can g c =
    let p = g.A.Law.Rules in
    let r = g.S.Replica in
    let a = c.args in
    let l = c.loop-i in
    let b = c.requires.playing.0 in
    let t = c.requires.playing.1 in
    let w = l.invariant.goes t.home t.nodes t.course b t.now t.ends in
    let line = c.index-lines-i.result in
    let at = slice_get_read a.lines.now (length a.lines.now) l.i line refl (omega (arith, c.loop-i-test.true, c.requires.range.1)) c.index-lines-i.is in
    let own = eqb-true line.node a.node (sym c.eq.ensures ∙ c.if-eq.true) in
    let floor = subst (FloorIs p.law.floor) (t.now.node.nodes_is) c.requires.floor in
    subst (λ k. CanPlay k (g.A.Access.seen l.access) l.worker.seat) (sym l.invariant.who)
    (subst (λ j. CanPlay a.node j l.worker.seat) w.seen_is
    (can_play p.law r.meaning c.requires.run a.lines.now t.home t.nodes w.course (noted b l.notes.items) a.node a.from l.i w.course.phase l.worker.seat l.worker.desks.items floor w.node t.now.lines_are line at own))

pub play_own-played-requires-clause-number : goal.play_own-played-requires-clause-number
play_own-played-requires-clause-number g c =
    let p = g.A.Law.Rules in
    let r = g.S.Replica in
    let a = c.args in
    let l = c.loop-i in
    let b = c.requires.playing.0 in
    let t = c.requires.playing.1 in
    let w = l.invariant.goes t.home t.nodes t.course b t.now t.ends in
    let line = c.index-lines-i.result in
    let at = slice_get_read a.lines.now (length a.lines.now) l.i line refl (omega (arith, c.loop-i-test.true, c.requires.range.1)) c.index-lines-i.is in
    let own = eqb-true line.node a.node (sym c.eq.ensures ∙ c.if-eq.true) in
    let there = at_get (λ (x : NamedLine). (1 ≤ x.node) × (x.node ≤ t.nodes)) a.lines.now l.i line t.now.lines_are.nodes_are at in
    let own' = own ∙ sym l.invariant.who in
    (omega (arith, there.0, own'), omega (arith, there.1, own', w.node.nodes_is))

pub play_own-played-requires-clause-floor : goal.play_own-played-requires-clause-floor
play_own-played-requires-clause-floor g c =
    let p = g.A.Law.Rules in
    let r = g.S.Replica in
    let a = c.args in
    let l = c.loop-i in
    let b = c.requires.playing.0 in
    let t = c.requires.playing.1 in
    let w = l.invariant.goes t.home t.nodes t.course b t.now t.ends in
    subst (FloorIs p.law.floor) (t.now.node.nodes_is ∙ sym w.node.nodes_is) c.requires.floor

pub play_own-played-requires-clause-node : goal.play_own-played-requires-clause-node
play_own-played-requires-clause-node g c =
    let l = c.loop-i in
    eqb-true c.index-lines-i.result.node c.args.node (sym c.eq.ensures ∙ c.if-eq.true) ∙ sym l.invariant.who

pub play_own-played-requires-clause-sends : goal.play_own-played-requires-clause-sends
play_own-played-requires-clause-sends g c =
    let a = c.args in
    let l = c.loop-i in
    let line = c.index-lines-i.result in
    let at = slice_get_read a.lines.now (length a.lines.now) l.i line refl (omega (arith, c.loop-i-test.true, c.requires.range.1)) c.index-lines-i.is in
    let own = eqb-true line.node a.node (sym c.eq.ensures ∙ c.if-eq.true) in
    subst (λ k. CanSend g.A.Law.Rules.law.may k line.asks) (own ∙ sym l.invariant.who) (c.requires.sends l.i line at)

pub loop-i-preserved : goal.loop-i-preserved
loop-i-preserved g c =
    let p = g.A.Law.Rules in
    let r = g.S.Replica in
    let a = c.args in
    let l = c.loop-i in
    let line = c.index-lines-i.result in
    let at = slice_get_read a.lines.now (length a.lines.now) l.i line refl (omega (arith, c.loop-i-test.true, c.requires.range.1)) c.index-lines-i.is in
    let me = a.worker.seat.who in
    let first = g.A.Access.seen a.access in
    let mid = g.A.Access.seen l.access in
    elim c.if-eq.branch [
      | then-eq+in-Ok b ↦
          let q = b.play_own-played in
          let own = eqb-true line.node a.node (sym c.eq.ensures ∙ b.if-eq.true) in
          let new = g.A.Access.seen q.result.access in
          let same = l.invariant.who ∙ sym c.requires.node in
          record {
            low = omega (arith, l.invariant.low);
            high = omega (arith, c.loop-i-test.true);
            begun = omega (arith, b.next-is, q.ensures.range.0, l.invariant.begun);
            within = omega (arith, b.next-is, q.ensures.range.1);
            armed = subst (λ k. ArmedBy (stops_between a.node a.faults.now.from k a.faults.now.lines.now) a.worker.seat.node.replica c.if-eq.worker.seat.node.replica) (sym b.next-is)
                (subst (λ x. ArmedBy (stops_between a.node a.faults.now.from q.new.next a.faults.now.lines.now) a.worker.seat.node.replica x.seat.node.replica) (sym b.worker-is)
                (subst (λ xs. ArmedBy xs a.worker.seat.node.replica q.result.part.seat.node.replica)
                (sym (stops_split a.node a.faults.now.from l.next q.new.next a.faults.now.lines.now l.invariant.begun q.ensures.range.0))
                (armed_join (stops_between a.node a.faults.now.from l.next a.faults.now.lines.now) (stops_between a.node l.next q.new.next a.faults.now.lines.now) a.worker.seat.node.replica l.worker.seat.node.replica q.result.part.seat.node.replica l.invariant.armed
                (subst (λ k. ArmedBy (stops_between k l.next q.new.next a.faults.now.lines.now) l.worker.seat.node.replica q.result.part.seat.node.replica) l.invariant.who (on_ok _ b.in-Ok.is q.ensures.armed)))));
            who = ap (λ w. w.seat.who) b.worker-is ∙ (q.ensures.who ∙ l.invariant.who);
            whose = ap (λ x. g.A.Access.who x) b.access-is ∙ (q.ensures.whose ∙ l.invariant.whose);
            since = subst (λ x. Since me (g.A.Access.beside me) first (g.A.Access.seen x)) (sym b.access-is)
                (since_both me (g.A.Access.beside me) first mid new l.invariant.since (subst (λ k. Since k (g.A.Access.beside k) mid new) same q.ensures.since));
            own = subst (λ x. AreNotesOf a.lines.now a.node x.items) (sym b.notes-is)
                (notes_more a.lines.now a.node l.i line l.notes.items q.new.notes.items at own q.ensures.notes l.invariant.own);
            ends = subst (λ x. CanEnd g.A.Access.beside p.law.floor (g.A.Access.seen c.if-eq.access) x.seat x.desks.items) (sym b.worker-is)
                (subst (λ x. CanEnd g.A.Access.beside p.law.floor (g.A.Access.seen x) q.result.part.seat q.result.part.desks.items) (sym b.access-is) (on_ok _ b.in-Ok.is q.ensures.ends));
            goes = λ home nodes course base u ends.
                let w = l.invariant.goes home nodes course base u ends in
                let now = under_way p.law r.meaning a.lines.now home nodes course a.node a.from (noted base a.notes.now.items) (noted base l.notes.items) l.i first mid a.worker.seat l.worker.seat a.worker.desks.items l.worker.desks.items u w in
                let phase = phase_is a.lines.now a.from a.to l.i course.phase line u.begins ends l.invariant.low c.loop-i-test.true at ∙ sym w.goes.phase in
                let there = subst (λ k. IsUnderWay p.law r.meaning a.lines.now home nodes w.course (noted base l.notes.items) k a.from l.i mid l.worker.seat l.worker.desks.items) (sym l.invariant.who) now in
                let went = on_ok _ b.in-Ok.is (q.ensures.goes a.lines.now home nodes w.course a.from base at phase there) in
                let here = subst (λ k. LineWent p.law r.meaning a.lines.now home nodes w.course (noted base q.new.notes.items) k a.from (l.i + 1) new q.result.part.seat q.result.part.desks.items) l.invariant.who went in
                let both = then_went p.law r.meaning a.lines.now home nodes course a.node a.from (noted base l.notes.items) (noted base q.new.notes.items) l.i mid new l.worker.seat q.result.part.seat l.worker.desks.items q.result.part.desks.items w here in
                subst (λ x. LineWent p.law r.meaning a.lines.now home nodes course (noted base x.items) a.node a.from (l.i + 1) (g.A.Access.seen c.if-eq.access) c.if-eq.worker.seat c.if-eq.worker.desks.items) (sym b.notes-is)
                (subst (λ x. LineWent p.law r.meaning a.lines.now home nodes course (noted base q.new.notes.items) a.node a.from (l.i + 1) (g.A.Access.seen x) c.if-eq.worker.seat c.if-eq.worker.desks.items) (sym b.access-is)
                (subst (λ x. LineWent p.law r.meaning a.lines.now home nodes course (noted base q.new.notes.items) a.node a.from (l.i + 1) new x.seat x.desks.items) (sym b.worker-is) both));
          }
      | else-eq b ↦
          let other : (line.node == a.node) ≡ false = sym c.eq.ensures ∙ b.if-eq.false in
          record {
            low = omega (arith, l.invariant.low);
            high = omega (arith, c.loop-i-test.true);
            begun = omega (arith, b.next-is, l.invariant.begun);
            within = omega (arith, b.next-is, l.invariant.within);
            armed = subst (λ k. ArmedBy (stops_between a.node a.faults.now.from k a.faults.now.lines.now) a.worker.seat.node.replica c.if-eq.worker.seat.node.replica) (sym b.next-is)
                (subst (λ x. ArmedBy (stops_between a.node a.faults.now.from l.next a.faults.now.lines.now) a.worker.seat.node.replica x.seat.node.replica) (sym b.worker-is) l.invariant.armed);
            who = ap (λ w. w.seat.who) b.worker-is ∙ l.invariant.who;
            whose = ap (λ x. g.A.Access.who x) b.access-is ∙ l.invariant.whose;
            since = subst (λ x. Since me (g.A.Access.beside me) first (g.A.Access.seen x)) (sym b.access-is) l.invariant.since;
            own = subst (λ x. AreNotesOf a.lines.now a.node x.items) (sym b.notes-is) l.invariant.own;
            ends = subst (λ x. CanEnd g.A.Access.beside p.law.floor (g.A.Access.seen c.if-eq.access) x.seat x.desks.items) (sym b.worker-is)
                (subst (λ x. CanEnd g.A.Access.beside p.law.floor (g.A.Access.seen x) l.worker.seat l.worker.desks.items) (sym b.access-is) l.invariant.ends);
            goes = λ home nodes course base u ends.
                let w = l.invariant.goes home nodes course base u ends in
                let by = passed_by p.law r.meaning a.lines.now home nodes course a.node a.from (noted base l.notes.items) l.i line mid l.worker.seat l.worker.desks.items at other w in
                subst (λ x. LineWent p.law r.meaning a.lines.now home nodes course (noted base x.items) a.node a.from (l.i + 1) (g.A.Access.seen c.if-eq.access) c.if-eq.worker.seat c.if-eq.worker.desks.items) (sym b.notes-is)
                (subst (λ x. LineWent p.law r.meaning a.lines.now home nodes course (noted base l.notes.items) a.node a.from (l.i + 1) (g.A.Access.seen x) c.if-eq.worker.seat c.if-eq.worker.desks.items) (sym b.access-is)
                (subst (λ x. LineWent p.law r.meaning a.lines.now home nodes course (noted base l.notes.items) a.node a.from (l.i + 1) mid x.seat x.desks.items) (sym b.worker-is) by));
          }
    ]

pub returns-clause-goes : goal.returns-clause-goes
returns-clause-goes g c = λ home nodes course base u ends.
    let p = g.A.Law.Rules in
    let r = g.S.Replica in
    let a = c.args in
    let l = c.loop-i in
    let over : l.i ≡ a.to = omega (arith, l.invariant.high, c.loop-i-test.false) in
    let seen = g.A.Access.seen l.access in
    let looks = noted base l.notes.items in
    let xs = stops_between a.node l.next a.faults.now.to a.faults.now.lines.now in
    subst (λ (x : SeatView). LineWent p.law r.meaning a.lines.now home nodes course looks a.node a.from a.to seen x l.worker.desks.items) (sym c.arm_between.ensures)
    (went_all p.law r.meaning a.lines.now home nodes course looks a.node a.from a.to seen l.worker.seat l.worker.desks.items xs
    (subst (λ k. LineWent p.law r.meaning a.lines.now home nodes course looks a.node a.from k seen l.worker.seat l.worker.desks.items) over
    (l.invariant.goes home nodes course base u ends)))

pub returns-clause-armed : goal.returns-clause-armed
returns-clause-armed g c =
    let a = c.args in
    let l = c.loop-i in
    let fs = a.faults.now.lines.now in
    let t = c.arm_between.new.seat in
    let xs = stops_between a.node l.next a.faults.now.to fs in
    let first = a.worker.seat.node.replica in
    subst (λ ys. ArmedBy ys first t.node.replica) (sym (stops_of_phase a.node a.faults.now.phase a.faults.now.from a.faults.now.to fs c.requires.of_phase))
    (subst (λ ys. ArmedBy ys first t.node.replica) (sym (stops_split a.node a.faults.now.from l.next a.faults.now.to fs l.invariant.begun l.invariant.within))
    (armed_join (stops_between a.node a.faults.now.from l.next fs) xs first l.worker.seat.node.replica t.node.replica l.invariant.armed
    (subst (λ (x : SeatView). ArmedBy xs l.worker.seat.node.replica x.node.replica) (sym c.arm_between.ensures) (armed_only l.worker.seat xs))))

pub returns-clause-ends : goal.returns-clause-ends
returns-clause-ends g c =
    let p = g.A.Law.Rules in
    let a = c.args in
    let l = c.loop-i in
    let xs = stops_between a.node l.next a.faults.now.to a.faults.now.lines.now in
    subst (λ (x : SeatView). CanEnd g.A.Access.beside p.law.floor (g.A.Access.seen l.access) x l.worker.desks.items) (sym c.arm_between.ensures)
    (end_all g.A.Access.beside p.law.floor (g.A.Access.seen l.access) l.worker.seat l.worker.desks.items xs l.invariant.ends)

pub returns-clause-stands : goal.returns-clause-stands
returns-clause-stands g c =
    let p = g.A.Law.Rules in
    let r = g.S.Replica in
    let a = c.args in
    let l = c.loop-i in
    let b = c.requires.playing.0 in
    let t = c.requires.playing.1 in
    let w = l.invariant.goes t.home t.nodes t.course b t.now t.ends in
    let seen = g.A.Access.seen l.access in
    let xs = stops_between a.node l.next a.faults.now.to a.faults.now.lines.now in
    subst (λ (x : SeatView). SeatOk p.law r.meaning seen x) (sym c.arm_between.ensures)
    (seat_all p.law r.meaning seen l.worker.seat xs
    (subst (λ j. SeatOk p.law r.meaning j l.worker.seat) w.seen_is
    (worker_stands p.law r.meaning c.args.node w.course.seen l.worker.seat l.worker.desks.items w.node.ok)))

pub returns-clause-who : goal.returns-clause-who
returns-clause-who g c =
    let a = c.args in
    let l = c.loop-i in
    ap (λ (x : SeatView). x.who) c.arm_between.ensures ∙ (all_who l.worker.seat (stops_between a.node l.next a.faults.now.to a.faults.now.lines.now) ∙ (l.invariant.who ∙ sym c.requires.node))

pub returns-in-Err-clause-since : goal.returns-in-Err-clause-since
returns-in-Err-clause-since g c =
    let l = c.loop-i in
    let q = c.play_own-played in
    let me = c.args.worker.seat.who in
    let same = l.invariant.who ∙ sym c.requires.node in
    since_both me (g.A.Access.beside me) (g.A.Access.seen c.args.access) (g.A.Access.seen l.access) (g.A.Access.seen q.result.access) l.invariant.since
    (subst (λ k. Since k (g.A.Access.beside k) (g.A.Access.seen l.access) (g.A.Access.seen q.result.access)) same q.ensures.since)

pub returns-in-Err-clause-own : goal.returns-in-Err-clause-own
returns-in-Err-clause-own g c =
    let a = c.args in
    let l = c.loop-i in
    let line = c.index-lines-i.result in
    let at = slice_get_read a.lines.now (length a.lines.now) l.i line refl (omega (arith, c.loop-i-test.true, c.requires.range.1)) c.index-lines-i.is in
    let own = eqb-true line.node a.node (sym c.eq.ensures ∙ c.if-eq.true) in
    notes_more a.lines.now a.node l.i line l.notes.items c.play_own-played.new.notes.items at own c.play_own-played.ensures.notes l.invariant.own
