use Rattle.std.proofs.Common.{◌≡◌, ℕ, List, Err, None, false, true, refl, ◌∙◌, sym, ap, rules, arith, subst}
use Rattle.std.proofs.lemmas.Grind.{common_steps}
use Rattle.disk_model.specs.Disk.{Timeline, content, reads}
use Rattle.disk_model.specs.CrashLaws.{stays}
use Rattle.journal_core.proofs.Reading.{ok_holds, err_holds}
use Rattle.journal_pair.specs.Records.{records_of}
use Rattle.journal_pair.specs.Journal.{MayFind}
use Rattle.journal_pair.specs.Kept.{left_of, records_in}
use Rattle.journal_pair.proofs.Whole.{seen, kept_survives, kept_same, reopen_crash, reopen_ok, kept_missed, shows_missed, kept_refused, kept_opened, shows_opened}
use Rattle.journal_pair.proofs.pair.JournalPair.reopen.Goals as goal

pub invariant_of-self : goal.invariant_of-self
invariant_of-self g c =
    let i = c.self.inside in
    let disk = g.D.Disk.view i.disk in
    let mid = g.D.Disk.view c.reopen.new.self in
    let failed = err_holds c.reopen.result _ (sym c.is_err.ensures.value ∙ c.if-is_err.true) c.reopen.ensures.failed in
    kept_same i.count i.torn i.area i.shut disk c.self.invariant mid.stopped mid.timeline failed.0

pub returns-then-is_err-clause-survives : goal.returns-then-is_err-clause-survives
returns-then-is_err-clause-survives g c =
    let i = c.self.inside in
    let disk = g.D.Disk.view i.disk in
    let mid = g.D.Disk.view c.reopen.new.self in
    let failed = err_holds c.reopen.result _ (sym c.is_err.ensures.value ∙ c.if-is_err.true) c.reopen.ensures.failed in
    kept_survives i.count i.torn i.area true mid (kept_same i.count i.torn i.area i.shut disk c.self.invariant mid.stopped mid.timeline failed.0)

pub returns-then-is_err-clause-any_crash : goal.returns-then-is_err-clause-any_crash
returns-then-is_err-clause-any_crash g c =
    let i = c.self.inside in
    let disk = g.D.Disk.view i.disk in
    let mid = g.D.Disk.view c.reopen.new.self in
    let failed = err_holds c.reopen.result _ (sym c.is_err.ensures.value ∙ c.if-is_err.true) c.reopen.ensures.failed in
    seen (records_in i.count i.torn (reads disk)) i.torn i.area i.shut disk c.args.self.now mid.timeline c.self.view_is (stays disk.timeline mid.timeline _ failed.0 c.self.invariant.keeps.left)

pub returns-then-is_err-clause-disk : goal.returns-then-is_err-clause-disk
returns-then-is_err-clause-disk g c =
    let i = c.self.inside in
    let disk = g.D.Disk.view i.disk in
    let mid = g.D.Disk.view c.reopen.new.self in
    let failed = err_holds c.reopen.result _ (sym c.is_err.ensures.value ∙ c.if-is_err.true) c.reopen.ensures.failed in
    let same : records_in i.count i.torn (reads mid) ≡ records_in i.count i.torn (reads disk) = ap (λ (l : Timeline). records_in i.count i.torn (content l.now)) failed.0 in
    grind (arith, common_steps, same)

pub returns-in-Ok-clause-any_crash : goal.returns-in-Ok-clause-any_crash
returns-in-Ok-clause-any_crash g c =
    let i = c.self.inside in
    let disk = g.D.Disk.view i.disk in
    let k = ok_holds c.reopen.result _ (sym c.is_err.ensures.value ∙ c.if-is_err.false) c.reopen.ensures.ok in
    let mid = (g.D.Disk.view c.reopen.new.self).timeline in
    let new = g.D.Disk.view c.find_count.new.disk in
    reopen_crash i.count i.torn i.area i.shut disk c.self.invariant mid k.0 k.1 new c.find_count.ensures.any_crash c.args.self.now c.self.view_is c.reopen.ensures.time

pub returns-in-Err-Memory-clause-any_crash : goal.returns-in-Err-Memory-clause-any_crash
returns-in-Err-Memory-clause-any_crash g c =
    let i = c.self.inside in
    let disk = g.D.Disk.view i.disk in
    let k = ok_holds c.reopen.result _ (sym c.is_err.ensures.value ∙ c.if-is_err.false) c.reopen.ensures.ok in
    let mid = (g.D.Disk.view c.reopen.new.self).timeline in
    let new = g.D.Disk.view c.find_count.new.disk in
    reopen_crash i.count i.torn i.area i.shut disk c.self.invariant mid k.0 k.1 new c.find_count.ensures.any_crash c.args.self.now c.self.view_is c.reopen.ensures.time

pub returns-in-Err-Disk-clause-any_crash : goal.returns-in-Err-Disk-clause-any_crash
returns-in-Err-Disk-clause-any_crash g c =
    let i = c.self.inside in
    let disk = g.D.Disk.view i.disk in
    let k = ok_holds c.reopen.result _ (sym c.is_err.ensures.value ∙ c.if-is_err.false) c.reopen.ensures.ok in
    let mid = (g.D.Disk.view c.reopen.new.self).timeline in
    let new = g.D.Disk.view c.find_count.new.disk in
    reopen_crash i.count i.torn i.area i.shut disk c.self.invariant mid k.0 k.1 new c.find_count.ensures.any_crash c.args.self.now c.self.view_is c.reopen.ensures.time

pub invariant_of-self-in-Ok : goal.invariant_of-self-in-Ok
invariant_of-self-in-Ok g c =
    let i = c.self.inside in
    let disk = g.D.Disk.view i.disk in
    let k = ok_holds c.reopen.result _ (sym c.is_err.ensures.value ∙ c.if-is_err.false) c.reopen.ensures.ok in
    let mid = (g.D.Disk.view c.reopen.new.self).timeline in
    let new = g.D.Disk.view c.find_count.new.disk in
    kept_opened c.in-Ok.count c.in-Ok.area (records_of (content mid.now)) new c.in-Ok.ensures.fits c.in-Ok.ensures.stands c.in-Ok.ensures.synced c.in-Ok.ensures.running c.in-Ok.ensures.counted

pub returns-in-Ok-clause-survives : goal.returns-in-Ok-clause-survives
returns-in-Ok-clause-survives g c =
    let i = c.self.inside in
    let disk = g.D.Disk.view i.disk in
    let k = ok_holds c.reopen.result _ (sym c.is_err.ensures.value ∙ c.if-is_err.false) c.reopen.ensures.ok in
    let mid = (g.D.Disk.view c.reopen.new.self).timeline in
    let new = g.D.Disk.view c.find_count.new.disk in
    kept_survives c.in-Ok.count None c.in-Ok.area false new (kept_opened c.in-Ok.count c.in-Ok.area (records_of (content mid.now)) new c.in-Ok.ensures.fits c.in-Ok.ensures.stands c.in-Ok.ensures.synced c.in-Ok.ensures.running c.in-Ok.ensures.counted)

pub returns-in-Ok-clause-durable : goal.returns-in-Ok-clause-durable
returns-in-Ok-clause-durable g c =
    let i = c.self.inside in
    let disk = g.D.Disk.view i.disk in
    let k = ok_holds c.reopen.result _ (sym c.is_err.ensures.value ∙ c.if-is_err.false) c.reopen.ensures.ok in
    let mid = (g.D.Disk.view c.reopen.new.self).timeline in
    let new = g.D.Disk.view c.find_count.new.disk in
    (kept_survives c.in-Ok.count None c.in-Ok.area false new (kept_opened c.in-Ok.count c.in-Ok.area (records_of (content mid.now)) new c.in-Ok.ensures.fits c.in-Ok.ensures.stands c.in-Ok.ensures.synced c.in-Ok.ensures.running c.in-Ok.ensures.counted)).exact refl

pub returns-in-Ok-clause-ok : goal.returns-in-Ok-clause-ok
returns-in-Ok-clause-ok g c =
    let i = c.self.inside in
    let disk = g.D.Disk.view i.disk in
    let k = ok_holds c.reopen.result _ (sym c.is_err.ensures.value ∙ c.if-is_err.false) c.reopen.ensures.ok in
    let mid = (g.D.Disk.view c.reopen.new.self).timeline in
    let new = g.D.Disk.view c.find_count.new.disk in
    (refl, reopen_ok i.count i.torn i.area i.shut disk c.self.invariant mid k.0 k.1 c.args.self.now (records_in c.in-Ok.count None (reads new)) c.self.view_is (shows_opened c.in-Ok.count c.in-Ok.area (records_of (content mid.now)) new c.in-Ok.ensures.fits c.in-Ok.ensures.stands c.in-Ok.ensures.synced c.in-Ok.ensures.running c.in-Ok.ensures.counted))

pub invariant_of-self-in-Err-Memory : goal.invariant_of-self-in-Err-Memory
invariant_of-self-in-Err-Memory g c =
    let i = c.self.inside in
    let disk = g.D.Disk.view i.disk in
    let k = ok_holds c.reopen.result _ (sym c.is_err.ensures.value ∙ c.if-is_err.false) c.reopen.ensures.ok in
    let mid = (g.D.Disk.view c.reopen.new.self).timeline in
    let new = g.D.Disk.view c.find_count.new.disk in
    let e = ap Err c.in-Err-Memory.field-0-is in
    kept_refused i.count i.torn i.area i.shut disk c.self.invariant mid k.0 k.1 new c.find_count.ensures.any_crash (c.in-Err-Memory.ensures.memory e) (c.in-Err-Memory.ensures.memory_running k.2 e)

pub returns-in-Err-Memory-clause-survives : goal.returns-in-Err-Memory-clause-survives
returns-in-Err-Memory-clause-survives g c =
    let i = c.self.inside in
    let disk = g.D.Disk.view i.disk in
    let k = ok_holds c.reopen.result _ (sym c.is_err.ensures.value ∙ c.if-is_err.false) c.reopen.ensures.ok in
    let mid = (g.D.Disk.view c.reopen.new.self).timeline in
    let new = g.D.Disk.view c.find_count.new.disk in
    let e = ap Err c.in-Err-Memory.field-0-is in
    kept_survives i.count i.torn i.area i.shut new (kept_refused i.count i.torn i.area i.shut disk c.self.invariant mid k.0 k.1 new c.find_count.ensures.any_crash (c.in-Err-Memory.ensures.memory e) (c.in-Err-Memory.ensures.memory_running k.2 e))

pub returns-in-Err-Memory-clause-memory : goal.returns-in-Err-Memory-clause-memory
returns-in-Err-Memory-clause-memory g c =
    let i = c.self.inside in
    let disk = g.D.Disk.view i.disk in
    let k = ok_holds c.reopen.result _ (sym c.is_err.ensures.value ∙ c.if-is_err.false) c.reopen.ensures.ok in
    let mid = (g.D.Disk.view c.reopen.new.self).timeline in
    let new = g.D.Disk.view c.find_count.new.disk in
    let same : records_in i.count i.torn (reads new) ≡ records_in i.count i.torn (reads disk) = shows_missed i.count i.torn i.area i.shut disk c.self.invariant mid k.0 k.1 new c.find_count.ensures.any_crash in
    grind (arith, common_steps, same)

pub invariant_of-self-in-Err-Disk : goal.invariant_of-self-in-Err-Disk
invariant_of-self-in-Err-Disk g c =
    let i = c.self.inside in
    let disk = g.D.Disk.view i.disk in
    let k = ok_holds c.reopen.result _ (sym c.is_err.ensures.value ∙ c.if-is_err.false) c.reopen.ensures.ok in
    let mid = (g.D.Disk.view c.reopen.new.self).timeline in
    let new = g.D.Disk.view c.find_count.new.disk in
    kept_missed i.count i.torn i.area i.shut disk c.self.invariant mid k.0 k.1 new c.find_count.ensures.any_crash

pub returns-in-Err-Disk-clause-survives : goal.returns-in-Err-Disk-clause-survives
returns-in-Err-Disk-clause-survives g c =
    let i = c.self.inside in
    let disk = g.D.Disk.view i.disk in
    let k = ok_holds c.reopen.result _ (sym c.is_err.ensures.value ∙ c.if-is_err.false) c.reopen.ensures.ok in
    let mid = (g.D.Disk.view c.reopen.new.self).timeline in
    let new = g.D.Disk.view c.find_count.new.disk in
    kept_survives i.count i.torn i.area true new (kept_missed i.count i.torn i.area i.shut disk c.self.invariant mid k.0 k.1 new c.find_count.ensures.any_crash)

pub returns-in-Err-Disk-clause-disk : goal.returns-in-Err-Disk-clause-disk
returns-in-Err-Disk-clause-disk g c =
    let i = c.self.inside in
    let disk = g.D.Disk.view i.disk in
    let k = ok_holds c.reopen.result _ (sym c.is_err.ensures.value ∙ c.if-is_err.false) c.reopen.ensures.ok in
    let mid = (g.D.Disk.view c.reopen.new.self).timeline in
    let new = g.D.Disk.view c.find_count.new.disk in
    let same : records_in i.count i.torn (reads new) ≡ records_in i.count i.torn (reads disk) = shows_missed i.count i.torn i.area i.shut disk c.self.invariant mid k.0 k.1 new c.find_count.ensures.any_crash in
    grind (arith, common_steps, same)
