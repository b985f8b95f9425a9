use Rattle.std.proofs.Common.{◌≡◌, refl, inl, sym, ap, ◌∙◌, subst, ◌+◌, ◌<◌, ℕ, zero, suc, List, [], ◌∷◌, length, Some, arith}
use Rattle.std.specs.Prelude.{slice_get, slice_set}
use Rattle.virtual_log.specs.Sealing.{SealsNone}
use Rattle.node_lines.specs.declared.desk.Desk.{Desk}
use Rattle.turn_scopes.specs.Beside.{Since}
use Rattle.turn_scopes.specs.Seats.{node_of}
use Rattle.node_lines.specs.Lines.{Looks}
use Rattle.node_lines.specs.Workers.{WorkerOk, OwnWithin, OwnAdds, Logs, IsOfSessions, sent_by}
use Rattle.base_engine.specs.Arming.{LeavesArming}
use Rattle.node_lines.proofs.Arming.{logs_arms, looks_arms}
use Rattle.node_course.specs.Workers.{LineWent}
use Rattle.node_course.proofs.Logging.{line_logged}
use Rattle.node_course.proofs.Looking.{line_looked}
use Rattle.node_crew.specs.Turns.{CanEnd}
use Rattle.node_crew.specs.Notes.{noted}
use Rattle.node_crew.proofs.Notes.{noted_push}
use Rattle.node_crew.proofs.Playing.{kept_by, left_still}
use Rattle.node_crew.proofs.Ok.{on_ok, on_ok3}
use Rattle.node_workers.proofs.Ok.{in_ok}
use Rattle.node_crew.proofs.line.play_line.Goals as goal

some_at : (ds : List Desk) (i : ℕ) → i < length ds → (d : Desk) × (slice_get ds i ≡ Some d)
some_at [] i h = absurd (omega arith)
some_at (d ∷ ds) zero h = (d, refl)
some_at (d ∷ ds) (suc i) h = some_at ds i (omega arith)

pub log_line-requires-clause-kept : goal.log_line-requires-clause-kept
log_line-requires-clause-kept g c = kept_by c.requires.floor c.requires.number c.requires.can

pub returns-in-Logged-clause-goes : goal.returns-in-Logged-clause-goes
returns-in-Logged-clause-goes g c = λ lines home nodes course from base at phase u.
    let p = g.A.Law.Rules in
    let r = g.S.Replica in
    let w = c.args.worker in
    let new = g.A.Access.seen c.log_line.result.access in
    let s = c.in-Logged.session in
    on_ok3 c.log_line.result.answer c.log_line.ensures.adds c.log_line.ensures.logs c.log_line.ensures.worker (λ adds logs now.
    line_logged p.law r.meaning c.requires.run lines home nodes course (noted base c.args.notes.now.items) w.seat.who from c.args.i c.args.line.now s c.in-Logged.rank c.in-Logged.command
    w.seat c.log_line.result.part.seat w.desks.items c.log_line.result.part.desks.items new u.lines_are at c.requires.node phase c.in-Logged.is u.node
    (subst (λ j. SealsNone w.seat.who j new) (sym u.seen_is) (left_still c.log_line.ensures.left))
    (subst (λ j. OwnAdds w.seat.who IsOfSessions j new) (sym u.seen_is) adds)
    (subst (λ j. Logs p.law (node_of w.seat j) (node_of c.log_line.result.part.seat new) s.id w.desks.items c.log_line.result.part.desks.items) (sym u.seen_is) logs)
    now)

pub returns-in-Logged-clause-ends : goal.returns-in-Logged-clause-ends
returns-in-Logged-clause-ends g c = on_ok c.log_line.result.answer c.log_line.ensures.kept (λ kept. inl kept)

pub returns-in-Logged-clause-since : goal.returns-in-Logged-clause-since
returns-in-Logged-clause-since g c = c.log_line.ensures.left.since

pub returns-in-Logged-clause-who : goal.returns-in-Logged-clause-who
returns-in-Logged-clause-who g c = c.log_line.ensures.left.who

pub look_line-looked-requires-clause-kept : goal.look_line-looked-requires-clause-kept
look_line-looked-requires-clause-kept g c = kept_by c.requires.floor c.requires.number c.requires.can

pub returns-in-Look-clause-goes : goal.returns-in-Look-clause-goes
returns-in-Look-clause-goes g c = λ lines home nodes course from base at phase u.
    let p = g.A.Law.Rules in
    let r = g.S.Replica in
    let w = c.args.worker in
    let looks = noted base c.args.notes.now.items in
    let q = c.look_line-looked in
    let k = c.keep_look in
    let new = g.A.Access.seen q.result.access in
    let seat = q.result.part.seat in
    let s = c.in-Look.session in
    let same = q.ensures.desks in
    let d = some_at w.desks.items s.id (omega (arith, c.number-number.ensures.range, c.number-number.ensures.value, c.requires.worker.size)) in
    on_ok k.result.answer k.ensures.notes (λ kept.
    let look = kept.0 in
    let now : WorkerOk p.law r.meaning w.seat.who new seat w.desks.items = subst (λ ds. WorkerOk p.law r.meaning w.seat.who new seat ds.items) same (in_ok _ kept.1 q.ensures.worker) in
    let looks_it = in_ok _ kept.1 q.ensures.looks in
    let went = line_looked p.law r.meaning c.requires.run lines home nodes course looks w.seat.who from c.args.i c.args.line.now s c.in-Look.query d.0 look w.seat seat w.desks.items new
    u.lines_are u.begins at c.requires.node phase c.in-Look.is u.node
    (subst (λ j. SealsNone w.seat.who j new) (sym u.seen_is) (left_still q.ensures.left))
    (subst (λ j. OwnAdds w.seat.who IsOfSessions j new) (sym u.seen_is) (in_ok _ kept.1 q.ensures.adds)) d.1
    (subst (λ j. Looks (record p.law { may = OwnWithin w.seat.who p.law.may (sent_by w.desks.items) }) (node_of w.seat j) (node_of seat new) d.0 c.in-Look.query look) (sym u.seen_is) (looks_it d.0 d.1)) now in
    subst (λ l. LineWent p.law r.meaning lines home nodes course l w.seat.who from (c.args.i + 1) (g.A.Access.seen k.result.access) k.result.part.seat k.result.part.desks.items) (sym (ap (noted base) kept.2 ∙ noted_push base c.args.notes.now.items (record { line = c.args.i; look = look })))
    (subst (λ x. LineWent p.law r.meaning lines home nodes course (slice_set looks c.args.i (Some look)) w.seat.who from (c.args.i + 1) (g.A.Access.seen k.result.access) x.seat x.desks.items) (sym k.ensures.part)
    (subst (λ f. LineWent p.law r.meaning lines home nodes course (slice_set looks c.args.i (Some look)) w.seat.who from (c.args.i + 1) (g.A.Access.seen f) seat q.result.part.desks.items) (sym k.ensures.access)
    (subst (λ ds. LineWent p.law r.meaning lines home nodes course (slice_set looks c.args.i (Some look)) w.seat.who from (c.args.i + 1) new seat ds.items) (sym same) went))))

pub returns-in-Look-clause-ends : goal.returns-in-Look-clause-ends
returns-in-Look-clause-ends g c =
    let p = g.A.Law.Rules in
    let q = c.look_line-looked in
    let k = c.keep_look in
    on_ok k.result.answer k.ensures.notes (λ kept.
    subst (λ x. CanEnd g.A.Access.beside p.law.floor (g.A.Access.seen k.result.access) x.seat x.desks.items) (sym k.ensures.part)
    (subst (λ f. CanEnd g.A.Access.beside p.law.floor (g.A.Access.seen f) q.result.part.seat q.result.part.desks.items) (sym k.ensures.access)
    (inl (in_ok _ kept.1 q.ensures.kept))))

pub returns-in-Look-clause-since : goal.returns-in-Look-clause-since
returns-in-Look-clause-since g c = subst (λ x. Since c.args.worker.seat.who (g.A.Access.beside c.args.worker.seat.who) (g.A.Access.seen c.args.access) (g.A.Access.seen x)) (sym c.keep_look.ensures.access) c.look_line-looked.ensures.left.since

pub returns-in-Look-clause-who : goal.returns-in-Look-clause-who
returns-in-Look-clause-who g c = ap (λ x. x.seat.who) c.keep_look.ensures.part ∙ c.look_line-looked.ensures.left.who

pub returns-in-Look-clause-whose : goal.returns-in-Look-clause-whose
returns-in-Look-clause-whose g c = ap (λ x. g.A.Access.who x) c.keep_look.ensures.access ∙ c.look_line-looked.ensures.who

pub returns-in-Logged-clause-arming : goal.returns-in-Logged-clause-arming
returns-in-Logged-clause-arming g c =
    let w = c.args.worker in
    let q = c.log_line in
    on_ok q.result.answer q.ensures.logs (λ logs.
    logs_arms g.A.Law.Rules.law (node_of w.seat (g.A.Access.seen c.args.access)) (node_of q.result.part.seat (g.A.Access.seen q.result.access)) c.in-Logged.session.id w.desks.items q.result.part.desks.items logs)

pub returns-in-Look-clause-arming : goal.returns-in-Look-clause-arming
returns-in-Look-clause-arming g c =
    let w = c.args.worker in
    let q = c.look_line-looked in
    let k = c.keep_look in
    let s = c.in-Look.session in
    let d = some_at w.desks.items s.id (omega (arith, c.number-number.ensures.range, c.number-number.ensures.value, c.requires.worker.size)) in
    on_ok k.result.answer k.ensures.notes (λ kept.
    subst (λ x. LeavesArming 0 w.seat.node.replica x.seat.node.replica) (sym k.ensures.part)
    (looks_arms _ (node_of w.seat (g.A.Access.seen c.args.access)) (node_of q.result.part.seat (g.A.Access.seen q.result.access)) d.0 c.in-Look.query kept.0 (in_ok _ kept.1 q.ensures.looks d.0 d.1)))
