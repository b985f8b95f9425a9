use Rattle.std.proofs.Common.{◌≡◌, ◌∙◌, ap, refl, Err, Some, arith}
use Rattle.journal_core.specs.Records.{payloads}
use Rattle.kept_value.proofs.Counts.{spends_more}
use Rattle.kept_value.proofs.Laws.{nothing_other, still_left, compacting}
use Rattle.kept_value.proofs.compact.compact.Goals as goal

pub returns-then-not-compacts-clause-other : goal.returns-then-not-compacts-clause-other
returns-then-not-compacts-clause-other g c =
    let K = g.V.KeptValue.kind in
    let x = K.changed (g.V.KeptValue.state c.args.value.now) c.args.change.now in
    let j = c.args.journal.now in
    nothing_other K x j c.requires.up c.requires.survives c.requires.spelled

pub returns-then-not-compacts-clause-any_crash : goal.returns-then-not-compacts-clause-any_crash
returns-then-not-compacts-clause-any_crash g c =
    let K = g.V.KeptValue.kind in
    let x = K.changed (g.V.KeptValue.state c.args.value.now) c.args.change.now in
    let j = c.args.journal.now in
    still_left K x j c.requires.up c.requires.survives c.requires.spelled j.disk refl

pub returns-in_default-clause-other : goal.returns-in_default-clause-other
returns-in_default-clause-other g c =
    let K = g.V.KeptValue.kind in
    let x = K.changed (g.V.KeptValue.state c.args.value.now) c.args.change.now in
    let j = c.args.journal.now in
    nothing_other K x j c.requires.up c.requires.survives c.requires.spelled

pub returns-in_default-clause-any_crash : goal.returns-in_default-clause-any_crash
returns-in_default-clause-any_crash g c =
    let K = g.V.KeptValue.kind in
    let x = K.changed (g.V.KeptValue.state c.args.value.now) c.args.change.now in
    let j = c.args.journal.now in
    still_left K x j c.requires.up c.requires.survives c.requires.spelled j.disk refl

pub returns-in-Ok-compact-clause-any_crash : goal.returns-in-Ok-compact-clause-any_crash
returns-in-Ok-compact-clause-any_crash g c =
    let K = g.V.KeptValue.kind in
    let x = K.changed (g.V.KeptValue.state c.args.value.now) c.args.change.now in
    let j = c.args.journal.now in
    let given = payloads c.in-Ok.records.items in
    let next : K.spelled given ≡ Some x = c.in-Ok.ensures in
    compacting K x j c.requires.up c.requires.survives c.requires.spelled given next c.compact.new.self.disk c.compact.ensures.any_crash

pub returns-in-Err-Memory-clause-any_crash : goal.returns-in-Err-Memory-clause-any_crash
returns-in-Err-Memory-clause-any_crash g c =
    let K = g.V.KeptValue.kind in
    let x = K.changed (g.V.KeptValue.state c.args.value.now) c.args.change.now in
    let j = c.args.journal.now in
    let given = payloads c.in-Ok.records.items in
    let next : K.spelled given ≡ Some x = c.in-Ok.ensures in
    compacting K x j c.requires.up c.requires.survives c.requires.spelled given next c.compact.new.self.disk c.compact.ensures.any_crash

pub returns-in-Err-Disk-clause-any_crash : goal.returns-in-Err-Disk-clause-any_crash
returns-in-Err-Disk-clause-any_crash g c =
    let K = g.V.KeptValue.kind in
    let x = K.changed (g.V.KeptValue.state c.args.value.now) c.args.change.now in
    let j = c.args.journal.now in
    let given = payloads c.in-Ok.records.items in
    let next : K.spelled given ≡ Some x = c.in-Ok.ensures in
    compacting K x j c.requires.up c.requires.survives c.requires.spelled given next c.compact.new.self.disk c.compact.ensures.any_crash

pub returns-in-Err-Memory-clause-spares : goal.returns-in-Err-Memory-clause-spares
returns-in-Err-Memory-clause-spares g c =
    let e = c.in-Err-Memory.is ∙ ap Err c.in-Err-Memory.field-0-is in
    record { faults = (c.compact.ensures.memory e).1; word = c.compact.ensures.word; spends = spends_more 2 4 _ _ (omega arith) (c.compact.ensures.spends_memory e) }
