use Rattle.std.proofs.Common.{inl, sym, ap, ◌∙◌, subst, ◌+◌, Some}
use Rattle.std.specs.Prelude.{slice_set}
use Rattle.script_text.specs.declared.asks.Asks.TheVariants as asks
use Rattle.virtual_log.specs.Sealing.{SealsNone}
use Rattle.turn_scopes.specs.Beside.{Since}
use Rattle.turn_scopes.specs.Seats.{node_of}
use Rattle.node_lines.specs.Extending.{Extends}
use Rattle.node_lines.specs.Reporting.{Reports}
use Rattle.node_lines.specs.Leaving.{Leaves}
use Rattle.node_lines.specs.Trimming.{TrimsLog}
use Rattle.node_lines.specs.Workers.{WorkerOk, OwnWithin, OwnAdds, IsOfSessions, ReportAdds, LeaveAdds, TrimAdds, sent_by}
use Rattle.base_engine.specs.Arming.{LeavesArming}
use Rattle.node_lines.proofs.Arming.{extends_arms, reports_arms, leaves_arms, trims_arms}
use Rattle.node_course.specs.Workers.{CanSend, LineWent}
use Rattle.node_course.proofs.Extending.{line_extended}
use Rattle.node_course.proofs.Reporting.{line_reported}
use Rattle.node_course.proofs.Leaving.{line_left}
use Rattle.node_course.proofs.Trimming.{line_trimmed}
use Rattle.node_crew.specs.Turns.{CanEnd}
use Rattle.node_crew.specs.Notes.{noted}
use Rattle.node_crew.proofs.Notes.{noted_push}
use Rattle.node_crew.proofs.Playing.{kept_by, left_still}
use Rattle.node_crew.proofs.Ok.{on_ok}
use Rattle.node_workers.proofs.Ok.{in_ok}
use Rattle.node_crew.proofs.line.play_admin.Goals as goal

pub extend_line-looked-requires-clause-kept : goal.extend_line-looked-requires-clause-kept
extend_line-looked-requires-clause-kept g c = kept_by c.requires.floor c.requires.number c.requires.can

pub returns-in-Extend-clause-goes : goal.returns-in-Extend-clause-goes
returns-in-Extend-clause-goes g c = λ lines home nodes course from base at phase u.
    let p = g.A.Law.Rules in
    let r = g.S.Replica in
    let w = c.args.worker in
    let looks = noted base c.args.notes.now.items in
    let q = c.extend_line-looked in
    let k = c.keep_look in
    let new = g.A.Access.seen q.result.access in
    let seat = q.result.part.seat in
    let same = q.ensures.desks in
    on_ok k.result.answer k.ensures.notes (λ kept.
    let look = kept.0 in
    let now : WorkerOk p.law r.meaning w.seat.who new seat w.desks.items = subst (λ ds. WorkerOk p.law r.meaning w.seat.who new seat ds.items) same (in_ok _ kept.1 q.ensures.worker) in
    let went = line_extended p.law r.meaning c.requires.run lines home nodes course looks w.seat.who from c.args.i c.args.line.now look w.seat seat w.desks.items new
    u.lines_are at c.requires.node phase (c.requires.asked ∙ ap (λ a. asks.Admin a) c.in-Extend.is) u.node
    (subst (λ j. OwnAdds w.seat.who IsOfSessions j new) (sym u.seen_is) (in_ok _ kept.1 q.ensures.adds))
    (subst (λ j. Extends (record p.law { may = OwnWithin w.seat.who p.law.may (sent_by w.desks.items) }) (node_of w.seat j) (node_of seat new) look) (sym u.seen_is) (in_ok _ kept.1 q.ensures.extends)) now in
    subst (λ l. LineWent p.law r.meaning lines home nodes course l w.seat.who from (c.args.i + 1) (g.A.Access.seen k.result.access) k.result.part.seat k.result.part.desks.items) (sym (ap (noted base) kept.2 ∙ noted_push base c.args.notes.now.items (record { line = c.args.i; look = look })))
    (subst (λ x. LineWent p.law r.meaning lines home nodes course (slice_set looks c.args.i (Some look)) w.seat.who from (c.args.i + 1) (g.A.Access.seen k.result.access) x.seat x.desks.items) (sym k.ensures.part)
    (subst (λ f. LineWent p.law r.meaning lines home nodes course (slice_set looks c.args.i (Some look)) w.seat.who from (c.args.i + 1) (g.A.Access.seen f) seat q.result.part.desks.items) (sym k.ensures.access)
    (subst (λ ds. LineWent p.law r.meaning lines home nodes course (slice_set looks c.args.i (Some look)) w.seat.who from (c.args.i + 1) new seat ds.items) (sym same) went))))

pub returns-in-Extend-clause-ends : goal.returns-in-Extend-clause-ends
returns-in-Extend-clause-ends g c =
    let p = g.A.Law.Rules in
    let q = c.extend_line-looked in
    let k = c.keep_look in
    on_ok k.result.answer k.ensures.notes (λ kept.
    subst (λ x. CanEnd g.A.Access.beside p.law.floor (g.A.Access.seen k.result.access) x.seat x.desks.items) (sym k.ensures.part)
    (subst (λ f. CanEnd g.A.Access.beside p.law.floor (g.A.Access.seen f) q.result.part.seat q.result.part.desks.items) (sym k.ensures.access)
    (inl (in_ok _ kept.1 q.ensures.kept))))

pub returns-in-Extend-clause-since : goal.returns-in-Extend-clause-since
returns-in-Extend-clause-since g c = subst (λ x. Since c.args.worker.seat.who (g.A.Access.beside c.args.worker.seat.who) (g.A.Access.seen c.args.access) (g.A.Access.seen x)) (sym c.keep_look.ensures.access) c.extend_line-looked.ensures.left.since

pub returns-in-Extend-clause-who : goal.returns-in-Extend-clause-who
returns-in-Extend-clause-who g c = ap (λ x. x.seat.who) c.keep_look.ensures.part ∙ c.extend_line-looked.ensures.left.who

pub returns-in-Extend-clause-whose : goal.returns-in-Extend-clause-whose
returns-in-Extend-clause-whose g c = ap (λ x. g.A.Access.who x) c.keep_look.ensures.access ∙ c.extend_line-looked.ensures.who

pub report_line-looked-requires-clause-own : goal.report_line-looked-requires-clause-own
report_line-looked-requires-clause-own g c = subst (λ a. CanSend g.A.Law.Rules.law.may c.args.worker.seat.who (asks.Admin a)) c.in-Alive.is c.requires.sends

pub report_line-looked-requires-clause-kept : goal.report_line-looked-requires-clause-kept
report_line-looked-requires-clause-kept g c = kept_by c.requires.floor c.requires.number c.requires.can

pub returns-in-Alive-clause-goes : goal.returns-in-Alive-clause-goes
returns-in-Alive-clause-goes g c = λ lines home nodes course from base at phase u.
    let p = g.A.Law.Rules in
    let r = g.S.Replica in
    let w = c.args.worker in
    let looks = noted base c.args.notes.now.items in
    let q = c.report_line-looked in
    let k = c.keep_look-in-Alive in
    let new = g.A.Access.seen q.result.access in
    let seat = q.result.part.seat in
    let same = q.ensures.desks in
    on_ok k.result.answer k.ensures.notes (λ kept.
    let look = kept.0 in
    let now : WorkerOk p.law r.meaning w.seat.who new seat w.desks.items = subst (λ ds. WorkerOk p.law r.meaning w.seat.who new seat ds.items) same (in_ok _ kept.1 q.ensures.worker) in
    let went = line_reported p.law r.meaning c.requires.run lines home nodes course looks w.seat.who from c.args.i c.args.line.now look w.seat seat w.desks.items new
    u.lines_are at c.requires.node phase (c.requires.asked ∙ ap (λ a. asks.Admin a) c.in-Alive.is) u.node
    (subst (λ j. SealsNone w.seat.who j new) (sym u.seen_is) (left_still q.ensures.left))
    (subst (λ j. ReportAdds w.seat.who seat.node.replica.cursor j new look) (sym u.seen_is) (in_ok _ kept.1 q.ensures.adds))
    (subst (λ j. Reports (record p.law { may = OwnWithin w.seat.who p.law.may (sent_by w.desks.items) }) (node_of w.seat j) (node_of seat new) look) (sym u.seen_is) (in_ok _ kept.1 q.ensures.reports)) now in
    subst (λ l. LineWent p.law r.meaning lines home nodes course l w.seat.who from (c.args.i + 1) (g.A.Access.seen k.result.access) k.result.part.seat k.result.part.desks.items) (sym (ap (noted base) kept.2 ∙ noted_push base c.args.notes.now.items (record { line = c.args.i; look = look })))
    (subst (λ x. LineWent p.law r.meaning lines home nodes course (slice_set looks c.args.i (Some look)) w.seat.who from (c.args.i + 1) (g.A.Access.seen k.result.access) x.seat x.desks.items) (sym k.ensures.part)
    (subst (λ f. LineWent p.law r.meaning lines home nodes course (slice_set looks c.args.i (Some look)) w.seat.who from (c.args.i + 1) (g.A.Access.seen f) seat q.result.part.desks.items) (sym k.ensures.access)
    (subst (λ ds. LineWent p.law r.meaning lines home nodes course (slice_set looks c.args.i (Some look)) w.seat.who from (c.args.i + 1) new seat ds.items) (sym same) went))))

pub returns-in-Alive-clause-ends : goal.returns-in-Alive-clause-ends
returns-in-Alive-clause-ends g c =
    let p = g.A.Law.Rules in
    let q = c.report_line-looked in
    let k = c.keep_look-in-Alive in
    on_ok k.result.answer k.ensures.notes (λ kept.
    subst (λ x. CanEnd g.A.Access.beside p.law.floor (g.A.Access.seen k.result.access) x.seat x.desks.items) (sym k.ensures.part)
    (subst (λ f. CanEnd g.A.Access.beside p.law.floor (g.A.Access.seen f) q.result.part.seat q.result.part.desks.items) (sym k.ensures.access)
    (inl (in_ok _ kept.1 q.ensures.kept))))

pub returns-in-Alive-clause-since : goal.returns-in-Alive-clause-since
returns-in-Alive-clause-since g c = subst (λ x. Since c.args.worker.seat.who (g.A.Access.beside c.args.worker.seat.who) (g.A.Access.seen c.args.access) (g.A.Access.seen x)) (sym c.keep_look-in-Alive.ensures.access) c.report_line-looked.ensures.left.since

pub returns-in-Alive-clause-who : goal.returns-in-Alive-clause-who
returns-in-Alive-clause-who g c = ap (λ x. x.seat.who) c.keep_look-in-Alive.ensures.part ∙ c.report_line-looked.ensures.left.who

pub returns-in-Alive-clause-whose : goal.returns-in-Alive-clause-whose
returns-in-Alive-clause-whose g c = ap (λ x. g.A.Access.who x) c.keep_look-in-Alive.ensures.access ∙ c.report_line-looked.ensures.who

pub leave_line-looked-requires-clause-own : goal.leave_line-looked-requires-clause-own
leave_line-looked-requires-clause-own g c = subst (λ a. CanSend g.A.Law.Rules.law.may c.args.worker.seat.who (asks.Admin a)) c.in-Retire.is c.requires.sends

pub leave_line-looked-requires-clause-kept : goal.leave_line-looked-requires-clause-kept
leave_line-looked-requires-clause-kept g c = kept_by c.requires.floor c.requires.number c.requires.can

pub returns-in-Retire-clause-goes : goal.returns-in-Retire-clause-goes
returns-in-Retire-clause-goes g c = λ lines home nodes course from base at phase u.
    let p = g.A.Law.Rules in
    let r = g.S.Replica in
    let w = c.args.worker in
    let looks = noted base c.args.notes.now.items in
    let q = c.leave_line-looked in
    let k = c.keep_look-in-Retire in
    let new = g.A.Access.seen q.result.access in
    let seat = q.result.part.seat in
    let desks = q.result.part.desks.items in
    on_ok k.result.answer k.ensures.notes (λ kept.
    let look = kept.0 in
    let went = line_left p.law r.meaning c.requires.run lines home nodes course looks w.seat.who from c.args.i c.args.line.now look w.seat seat w.desks.items desks (in_ok _ kept.1 q.ensures.desks) new
    u.lines_are at c.requires.node phase (c.requires.asked ∙ ap (λ a. asks.Admin a) c.in-Retire.is) u.node
    (subst (λ j. SealsNone w.seat.who j new) (sym u.seen_is) (left_still q.ensures.left))
    (subst (λ j. LeaveAdds w.seat.who j new) (sym u.seen_is) (in_ok _ kept.1 q.ensures.adds))
    (subst (λ j. Leaves (record p.law { may = OwnWithin w.seat.who p.law.may (sent_by w.desks.items) }) (node_of w.seat j) (node_of seat new) look) (sym u.seen_is) (in_ok _ kept.1 q.ensures.leaves)) (in_ok _ kept.1 q.ensures.worker) in
    subst (λ l. LineWent p.law r.meaning lines home nodes course l w.seat.who from (c.args.i + 1) (g.A.Access.seen k.result.access) k.result.part.seat k.result.part.desks.items) (sym (ap (noted base) kept.2 ∙ noted_push base c.args.notes.now.items (record { line = c.args.i; look = look })))
    (subst (λ x. LineWent p.law r.meaning lines home nodes course (slice_set looks c.args.i (Some look)) w.seat.who from (c.args.i + 1) (g.A.Access.seen k.result.access) x.seat x.desks.items) (sym k.ensures.part)
    (subst (λ f. LineWent p.law r.meaning lines home nodes course (slice_set looks c.args.i (Some look)) w.seat.who from (c.args.i + 1) (g.A.Access.seen f) seat desks) (sym k.ensures.access) went)))

pub returns-in-Retire-clause-ends : goal.returns-in-Retire-clause-ends
returns-in-Retire-clause-ends g c =
    let p = g.A.Law.Rules in
    let q = c.leave_line-looked in
    let k = c.keep_look-in-Retire in
    on_ok k.result.answer k.ensures.notes (λ kept.
    subst (λ x. CanEnd g.A.Access.beside p.law.floor (g.A.Access.seen k.result.access) x.seat x.desks.items) (sym k.ensures.part)
    (subst (λ f. CanEnd g.A.Access.beside p.law.floor (g.A.Access.seen f) q.result.part.seat q.result.part.desks.items) (sym k.ensures.access)
    (in_ok _ kept.1 q.ensures.stays)))

pub returns-in-Retire-clause-since : goal.returns-in-Retire-clause-since
returns-in-Retire-clause-since g c = subst (λ x. Since c.args.worker.seat.who (g.A.Access.beside c.args.worker.seat.who) (g.A.Access.seen c.args.access) (g.A.Access.seen x)) (sym c.keep_look-in-Retire.ensures.access) c.leave_line-looked.ensures.left.since

pub returns-in-Retire-clause-who : goal.returns-in-Retire-clause-who
returns-in-Retire-clause-who g c = ap (λ x. x.seat.who) c.keep_look-in-Retire.ensures.part ∙ c.leave_line-looked.ensures.left.who

pub returns-in-Retire-clause-whose : goal.returns-in-Retire-clause-whose
returns-in-Retire-clause-whose g c = ap (λ x. g.A.Access.who x) c.keep_look-in-Retire.ensures.access ∙ c.leave_line-looked.ensures.who

pub trim_line-looked-requires-clause-own : goal.trim_line-looked-requires-clause-own
trim_line-looked-requires-clause-own g c = subst (λ a. CanSend g.A.Law.Rules.law.may c.args.worker.seat.who (asks.Admin a)) c.in-Trim.is c.requires.sends

pub trim_line-looked-requires-clause-kept : goal.trim_line-looked-requires-clause-kept
trim_line-looked-requires-clause-kept g c = kept_by c.requires.floor c.requires.number c.requires.can

pub returns-in-Trim-clause-goes : goal.returns-in-Trim-clause-goes
returns-in-Trim-clause-goes g c = λ lines home nodes course from base at phase u.
    let p = g.A.Law.Rules in
    let r = g.S.Replica in
    let w = c.args.worker in
    let looks = noted base c.args.notes.now.items in
    let q = c.trim_line-looked in
    let k = c.keep_look-in-Trim in
    let new = g.A.Access.seen q.result.access in
    let seat = q.result.part.seat in
    let same = q.ensures.desks in
    on_ok k.result.answer k.ensures.notes (λ kept.
    let look = kept.0 in
    let now : WorkerOk p.law r.meaning w.seat.who new seat w.desks.items = subst (λ ds. WorkerOk p.law r.meaning w.seat.who new seat ds.items) same (in_ok _ kept.1 q.ensures.worker) in
    let went = line_trimmed p.law r.meaning c.requires.run lines home nodes course looks w.seat.who from c.args.i c.args.line.now look w.seat seat w.desks.items new
    u.lines_are at c.requires.node phase (c.requires.asked ∙ ap (λ a. asks.Admin a) c.in-Trim.is) u.node
    (subst (λ j. SealsNone w.seat.who j new) (sym u.seen_is) (left_still q.ensures.left))
    (subst (λ j. TrimAdds w.seat.who j new) (sym u.seen_is) (in_ok _ kept.1 q.ensures.adds))
    (subst (λ j. TrimsLog (record p.law { may = OwnWithin w.seat.who p.law.may (sent_by w.desks.items) }) (node_of w.seat j) (node_of seat new) look) (sym u.seen_is) (in_ok _ kept.1 q.ensures.trims)) now in
    subst (λ l. LineWent p.law r.meaning lines home nodes course l w.seat.who from (c.args.i + 1) (g.A.Access.seen k.result.access) k.result.part.seat k.result.part.desks.items) (sym (ap (noted base) kept.2 ∙ noted_push base c.args.notes.now.items (record { line = c.args.i; look = look })))
    (subst (λ x. LineWent p.law r.meaning lines home nodes course (slice_set looks c.args.i (Some look)) w.seat.who from (c.args.i + 1) (g.A.Access.seen k.result.access) x.seat x.desks.items) (sym k.ensures.part)
    (subst (λ f. LineWent p.law r.meaning lines home nodes course (slice_set looks c.args.i (Some look)) w.seat.who from (c.args.i + 1) (g.A.Access.seen f) seat q.result.part.desks.items) (sym k.ensures.access)
    (subst (λ ds. LineWent p.law r.meaning lines home nodes course (slice_set looks c.args.i (Some look)) w.seat.who from (c.args.i + 1) new seat ds.items) (sym same) went))))

pub returns-in-Trim-clause-ends : goal.returns-in-Trim-clause-ends
returns-in-Trim-clause-ends g c =
    let p = g.A.Law.Rules in
    let q = c.trim_line-looked in
    let k = c.keep_look-in-Trim in
    on_ok k.result.answer k.ensures.notes (λ kept.
    subst (λ x. CanEnd g.A.Access.beside p.law.floor (g.A.Access.seen k.result.access) x.seat x.desks.items) (sym k.ensures.part)
    (subst (λ f. CanEnd g.A.Access.beside p.law.floor (g.A.Access.seen f) q.result.part.seat q.result.part.desks.items) (sym k.ensures.access)
    (inl (in_ok _ kept.1 q.ensures.kept))))

pub returns-in-Trim-clause-since : goal.returns-in-Trim-clause-since
returns-in-Trim-clause-since g c = subst (λ x. Since c.args.worker.seat.who (g.A.Access.beside c.args.worker.seat.who) (g.A.Access.seen c.args.access) (g.A.Access.seen x)) (sym c.keep_look-in-Trim.ensures.access) c.trim_line-looked.ensures.left.since

pub returns-in-Trim-clause-who : goal.returns-in-Trim-clause-who
returns-in-Trim-clause-who g c = ap (λ x. x.seat.who) c.keep_look-in-Trim.ensures.part ∙ c.trim_line-looked.ensures.left.who

pub returns-in-Trim-clause-whose : goal.returns-in-Trim-clause-whose
returns-in-Trim-clause-whose g c = ap (λ x. g.A.Access.who x) c.keep_look-in-Trim.ensures.access ∙ c.trim_line-looked.ensures.who

pub returns-in-Extend-clause-arming : goal.returns-in-Extend-clause-arming
returns-in-Extend-clause-arming g c =
    let w = c.args.worker in
    let q = c.extend_line-looked in
    let k = c.keep_look in
    on_ok k.result.answer k.ensures.notes (λ kept.
    subst (λ x. LeavesArming 0 w.seat.node.replica x.seat.node.replica) (sym k.ensures.part)
    (extends_arms _ (node_of w.seat (g.A.Access.seen c.args.access)) (node_of q.result.part.seat (g.A.Access.seen q.result.access)) kept.0 (in_ok _ kept.1 q.ensures.extends)))

pub returns-in-Alive-clause-arming : goal.returns-in-Alive-clause-arming
returns-in-Alive-clause-arming g c =
    let w = c.args.worker in
    let q = c.report_line-looked in
    let k = c.keep_look-in-Alive in
    on_ok k.result.answer k.ensures.notes (λ kept.
    subst (λ x. LeavesArming 0 w.seat.node.replica x.seat.node.replica) (sym k.ensures.part)
    (reports_arms _ (node_of w.seat (g.A.Access.seen c.args.access)) (node_of q.result.part.seat (g.A.Access.seen q.result.access)) kept.0 (in_ok _ kept.1 q.ensures.reports)))

pub returns-in-Retire-clause-arming : goal.returns-in-Retire-clause-arming
returns-in-Retire-clause-arming g c =
    let w = c.args.worker in
    let q = c.leave_line-looked in
    let k = c.keep_look-in-Retire in
    on_ok k.result.answer k.ensures.notes (λ kept.
    subst (λ x. LeavesArming 0 w.seat.node.replica x.seat.node.replica) (sym k.ensures.part)
    (leaves_arms _ (node_of w.seat (g.A.Access.seen c.args.access)) (node_of q.result.part.seat (g.A.Access.seen q.result.access)) kept.0 (in_ok _ kept.1 q.ensures.leaves)))

pub returns-in-Trim-clause-arming : goal.returns-in-Trim-clause-arming
returns-in-Trim-clause-arming g c =
    let w = c.args.worker in
    let q = c.trim_line-looked in
    let k = c.keep_look-in-Trim in
    on_ok k.result.answer k.ensures.notes (λ kept.
    subst (λ x. LeavesArming 0 w.seat.node.replica x.seat.node.replica) (sym k.ensures.part)
    (trims_arms _ (node_of w.seat (g.A.Access.seen c.args.access)) (node_of q.result.part.seat (g.A.Access.seen q.result.access)) kept.0 (in_ok _ kept.1 q.ensures.trims)))
