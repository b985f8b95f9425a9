use Rattle.std.proofs.Common.{sym, subst, length}
use Rattle.legal_journal.specs.Journal.{IsLegal}
use Rattle.turn_scopes.specs.Seats.{SeatOk}
use Rattle.node_lines.proofs.Staying.{seat_later}
use Rattle.node_crew.specs.Crews.{CrewRests}
use Rattle.node_crew.proofs.Ok.{on_ok}
use Rattle.node_crew.proofs.Outside.{crew_outside}
use Rattle.run_closing.proofs.Finishing.{rests_stand}
use Rattle.run_closing.proofs.Opening.{opened_only, outside_opened, own_more}
use Rattle.run_closing.proofs.open.open_register.Goals as goal

pub returns-clause-rests : goal.returns-clause-rests
returns-clause-rests g c =
    let p = g.K.Terms in
    let r = g.S.Replica in
    let w = c.args.crew in
    let h = c.requires.rests in
    let q = c.open_if_down-answer in
    let lines = c.args._lines.now in
    let faults = c.args._faults.now in
    let early = w.fabric.journal in
    let new = q.new.fabric.journal in
    on_ok q.result q.ensures.opens (λ o. (
      h.0,
      subst (λ l. CrewRests p.law r.meaning lines faults (length lines) h.0 l w.looks.items (λ w. w.seat) (λ w. w.desks.items) w.workers.items) (sym o.seen)
          (crew_outside p.law r.meaning lines faults (λ w. w.seat) (λ w. w.desks.items) w.workers.items (length lines) h.0 early o.more w.looks.items h.1
          (outside_opened w.fabric q.new.fabric o.more (own_more 0 early new o.more q.ensures.watches.since o.seen) o.calls) (subst (IsLegal p.law) o.seen q.ensures.legal)),
    ))

pub returns-clause-mends : goal.returns-clause-mends
returns-clause-mends g c =
    let q = c.open_if_down-answer in
    on_ok q.result q.ensures.opens (λ o. opened_only c.args.crew.fabric q.new.fabric q.ensures.watches.since o)

pub returns-clause-stands : goal.returns-clause-stands
returns-clause-stands g c = λ j x at.
    let p = g.K.Terms in
    let r = g.S.Replica in
    let w = c.args.crew in
    let h = c.requires.rests in
    let q = c.open_if_down-answer in
    let lines = c.args._lines.now in
    let early = w.fabric.journal in
    let since = q.ensures.watches.since in
    let before = rests_stand p.law r.meaning lines c.args._faults.now (λ w. w.seat) (λ w. w.desks.items) w.workers.items (length lines) h.0 early w.looks.items h.1 in
    subst (λ l. SeatOk p.law r.meaning l x.seat) (sym since.seen)
    (seat_later p.law early since.more (subst (IsLegal p.law) since.seen q.ensures.legal) r.meaning x.seat (before j x at))
