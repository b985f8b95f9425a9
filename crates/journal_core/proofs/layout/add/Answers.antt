use Rattle.std.proofs.Common.{◌≡◌, inl, ◌∙◌, refl, sym, ap, subst, arith}
use Rattle.std.proofs.lemmas.Grind.{common_steps}
use Rattle.disk_model.specs.Disk.{DiskView, content}
use Rattle.disk_model.specs.CrashLaws.{stays}
use Rattle.disk_model.proofs.Tear.{synced_is}
use Rattle.journal_core.specs.Records.{records_of}
use Rattle.journal_core.specs.Layout.{EndsAt, BeforeOrWith}
use Rattle.journal_core.proofs.Reading.{now_has}
use Rattle.journal_core.proofs.Adding.{first_crash, mid_done, both_crash, both_done}
use Rattle.journal_core.proofs.layout.add.Goals as goal

pub returns-in_err-behind-clause-any_crash : goal.returns-in_err-behind-clause-any_crash
returns-in_err-behind-clause-any_crash g c =
    let m = (g.D.Disk.view c.args.disk.now).timeline.now in
    stays _ _ (BeforeOrWith (records_of (content m)) c.args.payload.now) refl (λ f image. inl (ap records_of (synced_is m c.requires.synced f image)))

pub returns-in_err-write_synced-clause-any_crash : goal.returns-in_err-write_synced-clause-any_crash
returns-in_err-write_synced-clause-any_crash g c =
    let old = (g.D.Disk.view c.args.disk.now).timeline in
    let mid = (g.D.Disk.view c.write_synced.new.disk).timeline in
    let body_is = c.deref.ensures.value ∙ c.in_ok-behind.ensures.framed in
    first_crash old mid c.args.payload.now c.in_ok-behind.ensures.short (records_of (content old.now)) c.args.end c.deref.result.now c.requires.ends body_is c.write_synced.ensures.any_crash

pub returns-in_err-write_synced-2-clause-any_crash : goal.returns-in_err-write_synced-2-clause-any_crash
returns-in_err-write_synced-2-clause-any_crash g c =
    let old = (g.D.Disk.view c.args.disk.now).timeline in
    let mid = (g.D.Disk.view c.write_synced.new.disk).timeline in
    let body_is = c.deref.ensures.value ∙ c.in_ok-behind.ensures.framed in
    both_crash old mid c.args.payload.now c.in_ok-behind.ensures.short (records_of (content old.now)) c.args.end c.deref.result.now c.requires.ends body_is c.in_ok-write_synced.ensures.ok (g.D.Disk.view c.write_synced-2.new.disk).timeline c.write_synced.ensures.any_crash c.write_synced-2.ensures.any_crash

pub returns-in_err-write_synced-2-clause-memory : goal.returns-in_err-write_synced-2-clause-memory
returns-in_err-write_synced-2-clause-memory g c = λ refused.
    let old = (g.D.Disk.view c.args.disk.now).timeline in
    let mid = (g.D.Disk.view c.write_synced.new.disk).timeline in
    let body_is = c.deref.ensures.value ∙ c.in_ok-behind.ensures.framed in
    let same : g.D.Disk.view c.write_synced-2.new.disk ≡ g.D.Disk.view c.write_synced.new.disk = grind (arith, common_steps) in
    subst (λ (v : DiskView). EndsAt (records_of (content old.now)) c.args.end (content v.timeline.now)) (sym same)
    (mid_done old mid c.args.payload.now c.in_ok-behind.ensures.short (records_of (content old.now)) c.args.end c.deref.result.now c.requires.ends body_is c.in_ok-write_synced.ensures.ok).ends

pub returns-clause-any_crash : goal.returns-clause-any_crash
returns-clause-any_crash g c =
    let old = (g.D.Disk.view c.args.disk.now).timeline in
    let mid = (g.D.Disk.view c.write_synced.new.disk).timeline in
    let body_is = c.deref.ensures.value ∙ c.in_ok-behind.ensures.framed in
    both_crash old mid c.args.payload.now c.in_ok-behind.ensures.short (records_of (content old.now)) c.args.end c.deref.result.now c.requires.ends body_is c.in_ok-write_synced.ensures.ok (g.D.Disk.view c.write_synced-2.new.disk).timeline c.write_synced.ensures.any_crash c.write_synced-2.ensures.any_crash

pub returns-clause-ok : goal.returns-clause-ok
returns-clause-ok g c =
    let old = (g.D.Disk.view c.args.disk.now).timeline in
    let mid = (g.D.Disk.view c.write_synced.new.disk).timeline in
    let body_is = c.deref.ensures.value ∙ c.in_ok-behind.ensures.framed in
    both_done old mid c.args.payload.now c.in_ok-behind.ensures.short (records_of (content old.now)) c.args.end c.deref.result.now c.requires.ends body_is c.in_ok-write_synced.ensures.ok (g.D.Disk.view c.write_synced-2.new.disk).timeline c.in_ok-write_synced-2.ensures.ok

pub returns-in_err-write_synced-clause-held : goal.returns-in_err-write_synced-clause-held
returns-in_err-write_synced-clause-held g c =
    now_has _ (BeforeOrWith (records_of (content (g.D.Disk.view c.args.disk.now).timeline.now)) c.args.payload.now) (returns-in_err-write_synced-clause-any_crash g c).last

pub returns-in_err-write_synced-2-clause-held : goal.returns-in_err-write_synced-2-clause-held
returns-in_err-write_synced-2-clause-held g c =
    now_has _ (BeforeOrWith (records_of (content (g.D.Disk.view c.args.disk.now).timeline.now)) c.args.payload.now) (returns-in_err-write_synced-2-clause-any_crash g c).last

pub returns-clause-held : goal.returns-clause-held
returns-clause-held g c = now_has _ (BeforeOrWith (records_of (content (g.D.Disk.view c.args.disk.now).timeline.now)) c.args.payload.now) (returns-clause-any_crash g c).last
