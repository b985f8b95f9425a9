use Rattle.std.proofs.Common.{◌∙◌, false, ap, refl, Err}
use Rattle.journal_pair.specs.Journal as pair
use Rattle.kept_value.proofs.Laws.{inside, kept_inside, left_inside, found_inside, kept_as, taken_calm, left_still, reopening, found_again, spelled_again, kept_again, kept_refused, kept_closed}
use Rattle.kept_value.proofs.kept.Kept.reopen.Goals as goal

pub make_room-requires-clause-can : goal.make_room-requires-clause-can
make_room-requires-clause-can g c =
    let K = g.V.KeptValue.kind in
    let s = g.V.KeptValue.state c.args.value.now in
    let i = c.self.inside in
    let here = inside i.journal i.asked i.stands in
    let k = kept_inside K s here c.args.self.now c.self.view_is c.requires.kept in
    k.can

pub returns-in_err-make_room-clause-kept : goal.returns-in_err-make_room-clause-kept
returns-in_err-make_room-clause-kept g c =
    let K = g.V.KeptValue.kind in
    let s = g.V.KeptValue.state c.args.value.now in
    let i = c.self.inside in
    let here = inside i.journal i.asked i.stands in
    let k = kept_inside K s here c.args.self.now c.self.view_is c.requires.kept in
    kept_as K s (g.V.KeptValue.state c.make_room.new.value) c.args.self.now c.make_room.ensures.same c.requires.kept

pub returns-in_err-make_room-clause-any_crash : goal.returns-in_err-make_room-clause-any_crash
returns-in_err-make_room-clause-any_crash g c =
    let K = g.V.KeptValue.kind in
    let s = g.V.KeptValue.state c.args.value.now in
    let i = c.self.inside in
    let here = inside i.journal i.asked i.stands in
    let k = kept_inside K s here c.args.self.now c.self.view_is c.requires.kept in
    left_still K s c.args.self.now c.requires.kept c.args.self.now.journal.disk refl

pub returns-in-Ok-clause-any_crash : goal.returns-in-Ok-clause-any_crash
returns-in-Ok-clause-any_crash g c =
    let K = g.V.KeptValue.kind in
    let s = g.V.KeptValue.state c.args.value.now in
    let i = c.self.inside in
    let here = inside i.journal i.asked i.stands in
    let k = kept_inside K s here c.args.self.now c.self.view_is c.requires.kept in
    left_inside K s here c.args.self.now c.reopen.new.self.disk c.self.view_is (reopening K s here k c.reopen.new.self.disk c.reopen.ensures.any_crash)

pub returns-in-Err-Memory-clause-any_crash : goal.returns-in-Err-Memory-clause-any_crash
returns-in-Err-Memory-clause-any_crash g c =
    let K = g.V.KeptValue.kind in
    let s = g.V.KeptValue.state c.args.value.now in
    let i = c.self.inside in
    let here = inside i.journal i.asked i.stands in
    let k = kept_inside K s here c.args.self.now c.self.view_is c.requires.kept in
    left_inside K s here c.args.self.now c.reopen.new.self.disk c.self.view_is (reopening K s here k c.reopen.new.self.disk c.reopen.ensures.any_crash)

pub returns-in-Err-Disk-clause-any_crash : goal.returns-in-Err-Disk-clause-any_crash
returns-in-Err-Disk-clause-any_crash g c =
    let K = g.V.KeptValue.kind in
    let s = g.V.KeptValue.state c.args.value.now in
    let i = c.self.inside in
    let here = inside i.journal i.asked i.stands in
    let k = kept_inside K s here c.args.self.now c.self.view_is c.requires.kept in
    left_inside K s here c.args.self.now c.reopen.new.self.disk c.self.view_is (reopening K s here k c.reopen.new.self.disk c.reopen.ensures.any_crash)

pub returns-in-Ok-clause-found : goal.returns-in-Ok-clause-found
returns-in-Ok-clause-found g c =
    let K = g.V.KeptValue.kind in
    let s = g.V.KeptValue.state c.args.value.now in
    let i = c.self.inside in
    let here = inside i.journal i.asked i.stands in
    let k = kept_inside K s here c.args.self.now c.self.view_is c.requires.kept in
    found_inside K s (g.V.KeptValue.state c.settle.new.value) here c.args.self.now c.self.view_is (found_again K s here k c.reopen.new.self.records c.in-Ok.ensures.ok.1 c.count-before.result c.count.result c.count-before.ensures.count c.count.ensures.count (g.V.KeptValue.state c.make_room.new.value) (g.V.KeptValue.state c.settle.new.value) c.take-asked.result c.is_done-done.result c.make_room.ensures.same c.take-asked.ensures.value c.is_done-done.ensures c.settle.ensures.settled)

pub returns-in-Ok-clause-ok : goal.returns-in-Ok-clause-ok
returns-in-Ok-clause-ok g c =
    let K = g.V.KeptValue.kind in
    let s = g.V.KeptValue.state c.args.value.now in
    let i = c.self.inside in
    let here = inside i.journal i.asked i.stands in
    let k = kept_inside K s here c.args.self.now c.self.view_is c.requires.kept in
    (taken_calm c.reopen.new.self c.take-asked.new.self c.take-asked.ensures.after, ap (λ (w : pair.View). w.shut) c.in-Ok.ensures.ok.0)

pub returns-in-Ok-clause-kept : goal.returns-in-Ok-clause-kept
returns-in-Ok-clause-kept g c =
    let K = g.V.KeptValue.kind in
    let s = g.V.KeptValue.state c.args.value.now in
    let i = c.self.inside in
    let here = inside i.journal i.asked i.stands in
    let k = kept_inside K s here c.args.self.now c.self.view_is c.requires.kept in
    kept_again K (g.V.KeptValue.state c.settle.new.value) c.reopen.new.self.records c.reopen.new.self (inside c.reopen.new.self c.take-asked.new.self false) (taken_calm c.reopen.new.self c.take-asked.new.self c.take-asked.ensures.after) refl (spelled_again K s here k c.reopen.new.self.records c.in-Ok.ensures.ok.1 c.count-before.result c.count.result c.count-before.ensures.count c.count.ensures.count (g.V.KeptValue.state c.make_room.new.value) (g.V.KeptValue.state c.settle.new.value) c.take-asked.result c.is_done-done.result c.make_room.ensures.same c.take-asked.ensures.value c.is_done-done.ensures c.settle.ensures.settled) (ap (λ (w : pair.View). w.other) c.in-Ok.ensures.ok.0) c.reopen.ensures.survives

pub returns-in-Err-Memory-clause-kept : goal.returns-in-Err-Memory-clause-kept
returns-in-Err-Memory-clause-kept g c =
    let K = g.V.KeptValue.kind in
    let s = g.V.KeptValue.state c.args.value.now in
    let i = c.self.inside in
    let here = inside i.journal i.asked i.stands in
    let k = kept_inside K s here c.args.self.now c.self.view_is c.requires.kept in
    let e = c.in-Err-Memory.is ∙ ap Err c.in-Err-Memory.field-0-is in
    kept_refused K s here k (g.V.KeptValue.state c.make_room.new.value) c.reopen.new.self c.make_room.ensures.same (c.reopen.ensures.memory e).0 c.reopen.ensures.survives

pub returns-in-Err-Disk-clause-kept : goal.returns-in-Err-Disk-clause-kept
returns-in-Err-Disk-clause-kept g c =
    let K = g.V.KeptValue.kind in
    let s = g.V.KeptValue.state c.args.value.now in
    let i = c.self.inside in
    let here = inside i.journal i.asked i.stands in
    let k = kept_inside K s here c.args.self.now c.self.view_is c.requires.kept in
    let e = c.in-Err-Disk.is ∙ ap Err c.in-Err-Disk.field-0-is in
    kept_closed K s here k (g.V.KeptValue.state c.make_room.new.value) c.reopen.new.self c.make_room.ensures.same (c.reopen.ensures.disk e).0 c.reopen.ensures.survives
