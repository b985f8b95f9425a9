use Rattle.std.proofs.Common.{◌≡◌, inl, ◌∙◌, refl, sym, ap, subst, arith, length-drop}
use Rattle.std.proofs.lemmas.Grind.{common_steps}
use Rattle.disk_model.specs.Disk.{DiskView, content}
use Rattle.disk_model.specs.CrashLaws.{stays}
use Rattle.disk_model.proofs.Tear.{synced_is}
use Rattle.journal_pair.specs.Records.{records_of}
use Rattle.journal_pair.specs.Layout.{Stands, BeforeOrWith}
use Rattle.journal_pair.proofs.Growing.{first_crash, mid_stands, both_crash, both_done}
use Rattle.journal_pair.proofs.layout.add.Goals as goal

pub write_synced-requires-clause-inside : goal.write_synced-requires-clause-inside
write_synced-requires-clause-inside g c = omega (arith, c.requires.stands.lies.ends.inside, length-drop c.args.area.base (content (g.D.Disk.view c.args.disk.now).timeline.now))

pub write_synced-requires-2-clause-inside : goal.write_synced-requires-2-clause-inside
write_synced-requires-2-clause-inside g c =
    let old = (g.D.Disk.view c.args.disk.now).timeline in
    let mid = (g.D.Disk.view c.write_synced.new.disk).timeline in
    let body_is = c.deref.ensures.value ∙ c.in_ok-behind.ensures.framed in
    let stands = mid_stands old mid c.args.payload.now c.in_ok-behind.ensures.short (records_of (content old.now)) c.args.area c.deref.result.now c.requires.stands body_is c.in_ok-write_synced.ensures.ok in
    omega (arith, stands.lies.ends.inside, length-drop c.args.area.base (content mid.now))

pub returns-in_err-behind-clause-any_crash : goal.returns-in_err-behind-clause-any_crash
returns-in_err-behind-clause-any_crash g c =
    let m = (g.D.Disk.view c.args.disk.now).timeline.now in
    stays _ _ (BeforeOrWith (records_of (content m)) c.args.payload.now) refl (λ f image. inl (ap records_of (synced_is m c.requires.synced f image)))

pub returns-in_err-write_synced-clause-any_crash : goal.returns-in_err-write_synced-clause-any_crash
returns-in_err-write_synced-clause-any_crash g c =
    let old = (g.D.Disk.view c.args.disk.now).timeline in
    let mid = (g.D.Disk.view c.write_synced.new.disk).timeline in
    let body_is = c.deref.ensures.value ∙ c.in_ok-behind.ensures.framed in
    first_crash old mid c.args.payload.now c.in_ok-behind.ensures.short (records_of (content old.now)) c.args.area c.deref.result.now c.requires.stands body_is c.write_synced.ensures.any_crash

pub returns-in_err-write_synced-2-clause-any_crash : goal.returns-in_err-write_synced-2-clause-any_crash
returns-in_err-write_synced-2-clause-any_crash g c =
    let old = (g.D.Disk.view c.args.disk.now).timeline in
    let mid = (g.D.Disk.view c.write_synced.new.disk).timeline in
    let body_is = c.deref.ensures.value ∙ c.in_ok-behind.ensures.framed in
    both_crash old mid c.args.payload.now c.in_ok-behind.ensures.short (records_of (content old.now)) c.args.area c.deref.result.now c.requires.stands body_is c.in_ok-write_synced.ensures.ok (g.D.Disk.view c.write_synced-2.new.disk).timeline c.write_synced.ensures.any_crash c.write_synced-2.ensures.any_crash

pub returns-in_err-write_synced-2-clause-memory : goal.returns-in_err-write_synced-2-clause-memory
returns-in_err-write_synced-2-clause-memory g c = λ refused.
    let old = (g.D.Disk.view c.args.disk.now).timeline in
    let mid = (g.D.Disk.view c.write_synced.new.disk).timeline in
    let body_is = c.deref.ensures.value ∙ c.in_ok-behind.ensures.framed in
    let same : g.D.Disk.view c.write_synced-2.new.disk ≡ g.D.Disk.view c.write_synced.new.disk = grind (arith, common_steps) in
    subst (λ (v : DiskView). Stands (records_of (content old.now)) c.args.area (content v.timeline.now)) (sym same)
    (mid_stands old mid c.args.payload.now c.in_ok-behind.ensures.short (records_of (content old.now)) c.args.area c.deref.result.now c.requires.stands body_is c.in_ok-write_synced.ensures.ok)

pub returns-clause-any_crash : goal.returns-clause-any_crash
returns-clause-any_crash g c =
    let old = (g.D.Disk.view c.args.disk.now).timeline in
    let mid = (g.D.Disk.view c.write_synced.new.disk).timeline in
    let body_is = c.deref.ensures.value ∙ c.in_ok-behind.ensures.framed in
    both_crash old mid c.args.payload.now c.in_ok-behind.ensures.short (records_of (content old.now)) c.args.area c.deref.result.now c.requires.stands body_is c.in_ok-write_synced.ensures.ok (g.D.Disk.view c.write_synced-2.new.disk).timeline c.write_synced.ensures.any_crash c.write_synced-2.ensures.any_crash

pub returns-clause-ok : goal.returns-clause-ok
returns-clause-ok g c =
    let old = (g.D.Disk.view c.args.disk.now).timeline in
    let mid = (g.D.Disk.view c.write_synced.new.disk).timeline in
    let body_is = c.deref.ensures.value ∙ c.in_ok-behind.ensures.framed in
    both_done old mid c.args.payload.now c.in_ok-behind.ensures.short (records_of (content old.now)) c.args.area c.deref.result.now c.requires.stands body_is c.in_ok-write_synced.ensures.ok (g.D.Disk.view c.write_synced-2.new.disk).timeline _ (omega arith) c.in_ok-write_synced-2.ensures.ok
