use Rattle.std.proofs.Common.{◌≡◌, ℕ, ◌+◌, ◌^◌, ◌<◌, List, length, refl, ◌∙◌, sym, ap, subst, arith}
use Rattle.std.proofs.lemmas.Grind.{common_steps}
use Rattle.disk_model.specs.Disk.{DiskView, content}
use Rattle.disk_model.specs.CrashLaws.{stays}
use Rattle.disk_model.proofs.Tear.{synced_is}
use Rattle.journal_core.specs.Records.{payloads}
use Rattle.journal_pair.specs.Records.{records_of}
use Rattle.journal_pair.specs.Layout.{Stands, IsFree, spelled}
use Rattle.journal_pair.proofs.Moving.{spelled_some, free_inside, area_crash, mid_stands, header_long, slot_crash, still_stands, both_lie}
use Rattle.journal_pair.proofs.compact.lay.Goals as goal

pub beside-next-requires-clause-gate : goal.beside-next-requires-clause-gate
beside-next-requires-clause-gate g c =
    omega (arith, spelled_some (payloads c.args.records.now), ap length c.in_ok-bytes.ensures, c.len.ensures, c.in_ok-bytes.bytes.ok)

pub write_synced-requires-clause-inside : goal.write_synced-requires-clause-inside
write_synced-requires-clause-inside g c =
    let old = (g.D.Disk.view c.args.disk.now).timeline in
    let ps = records_of (content old.now) in
    let a = c.args.area in
    let rs = payloads c.args.records.now in
    let b = c.beside-next.result in
    let body = c.deref.result.now in
    let is : body ≡ spelled rs = c.deref.ensures.value ∙ c.in_ok-bytes.ensures in
    let n_is : c.len.result ≡ length body = c.len.ensures ∙ sym c.deref.ensures.len in
    let free : IsFree a b.base (length body) = subst (IsFree a b.base) n_is c.beside-next.ensures.free in
    let long : b.len + 1 ≡ length body = c.beside-next.ensures.length ∙ n_is in
    free_inside ps a b.base (length body) (content old.now) c.requires.stands free

pub write_slot-requires-clause-inside : goal.write_slot-requires-clause-inside
write_slot-requires-clause-inside g c =
    let old = (g.D.Disk.view c.args.disk.now).timeline in
    let mid = (g.D.Disk.view c.write_synced.new.disk).timeline in
    let ps = records_of (content old.now) in
    let a = c.args.area in
    let rs = payloads c.args.records.now in
    let b = c.beside-next.result in
    let body = c.deref.result.now in
    let is : body ≡ spelled rs = c.deref.ensures.value ∙ c.in_ok-bytes.ensures in
    let n_is : c.len.result ≡ length body = c.len.ensures ∙ sym c.deref.ensures.len in
    let free : IsFree a b.base (length body) = subst (IsFree a b.base) n_is c.beside-next.ensures.free in
    let long : b.len + 1 ≡ length body = c.beside-next.ensures.length ∙ n_is in
    header_long old mid ps a rs b body c.requires.stands is free c.beside-next.ensures.slots long c.in_ok-write_synced.ensures.ok

pub returns-in_err-bytes-clause-any_crash : goal.returns-in_err-bytes-clause-any_crash
returns-in_err-bytes-clause-any_crash g c =
    let old = (g.D.Disk.view c.args.disk.now).timeline in
    stays old old (λ (l : List ℕ). records_of l ≡ records_of (content old.now)) refl (λ f image. ap records_of (synced_is old.now c.requires.synced f image))

pub returns-in_err-write_synced-clause-any_crash : goal.returns-in_err-write_synced-clause-any_crash
returns-in_err-write_synced-clause-any_crash g c =
    let old = (g.D.Disk.view c.args.disk.now).timeline in
    let mid = (g.D.Disk.view c.write_synced.new.disk).timeline in
    let ps = records_of (content old.now) in
    let a = c.args.area in
    let rs = payloads c.args.records.now in
    let b = c.beside-next.result in
    let body = c.deref.result.now in
    let is : body ≡ spelled rs = c.deref.ensures.value ∙ c.in_ok-bytes.ensures in
    let n_is : c.len.result ≡ length body = c.len.ensures ∙ sym c.deref.ensures.len in
    let free : IsFree a b.base (length body) = subst (IsFree a b.base) n_is c.beside-next.ensures.free in
    let long : b.len + 1 ≡ length body = c.beside-next.ensures.length ∙ n_is in
    area_crash old mid ps a rs b body c.requires.stands is free c.beside-next.ensures.slots long c.write_synced.ensures.any_crash

pub returns-in_err-write_slot-clause-any_crash : goal.returns-in_err-write_slot-clause-any_crash
returns-in_err-write_slot-clause-any_crash g c =
    let old = (g.D.Disk.view c.args.disk.now).timeline in
    let mid = (g.D.Disk.view c.write_synced.new.disk).timeline in
    let ps = records_of (content old.now) in
    let a = c.args.area in
    let rs = payloads c.args.records.now in
    let b = c.beside-next.result in
    let body = c.deref.result.now in
    let is : body ≡ spelled rs = c.deref.ensures.value ∙ c.in_ok-bytes.ensures in
    let n_is : c.len.result ≡ length body = c.len.ensures ∙ sym c.deref.ensures.len in
    let free : IsFree a b.base (length body) = subst (IsFree a b.base) n_is c.beside-next.ensures.free in
    let long : b.len + 1 ≡ length body = c.beside-next.ensures.length ∙ n_is in
    let new = (g.D.Disk.view c.write_slot.new.disk).timeline in
    let torn = c.write_slot.ensures.any_crash in
    slot_crash old mid ps a rs b body c.requires.stands is free c.beside-next.ensures.slots long c.in_ok-write_synced.ensures.ok new c.write_synced.ensures.any_crash torn

pub returns-in_err-write_slot-clause-memory : goal.returns-in_err-write_slot-clause-memory
returns-in_err-write_slot-clause-memory g c =
    λ refused.
    let same : g.D.Disk.view c.write_slot.new.disk ≡ g.D.Disk.view c.write_synced.new.disk = grind (arith, common_steps) in
    let old = (g.D.Disk.view c.args.disk.now).timeline in
    let mid = (g.D.Disk.view c.write_synced.new.disk).timeline in
    let ps = records_of (content old.now) in
    let a = c.args.area in
    let rs = payloads c.args.records.now in
    let b = c.beside-next.result in
    let body = c.deref.result.now in
    let is : body ≡ spelled rs = c.deref.ensures.value ∙ c.in_ok-bytes.ensures in
    let n_is : c.len.result ≡ length body = c.len.ensures ∙ sym c.deref.ensures.len in
    let free : IsFree a b.base (length body) = subst (IsFree a b.base) n_is c.beside-next.ensures.free in
    let long : b.len + 1 ≡ length body = c.beside-next.ensures.length ∙ n_is in
    subst (λ (v : DiskView). Stands ps a (content v.timeline.now)) (sym same) (mid_stands old mid ps a rs b body c.requires.stands is free c.beside-next.ensures.slots long c.in_ok-write_synced.ensures.ok)

pub returns-clause-any_crash : goal.returns-clause-any_crash
returns-clause-any_crash g c =
    let old = (g.D.Disk.view c.args.disk.now).timeline in
    let mid = (g.D.Disk.view c.write_synced.new.disk).timeline in
    let ps = records_of (content old.now) in
    let a = c.args.area in
    let rs = payloads c.args.records.now in
    let b = c.beside-next.result in
    let body = c.deref.result.now in
    let is : body ≡ spelled rs = c.deref.ensures.value ∙ c.in_ok-bytes.ensures in
    let n_is : c.len.result ≡ length body = c.len.ensures ∙ sym c.deref.ensures.len in
    let free : IsFree a b.base (length body) = subst (IsFree a b.base) n_is c.beside-next.ensures.free in
    let long : b.len + 1 ≡ length body = c.beside-next.ensures.length ∙ n_is in
    let new = (g.D.Disk.view c.write_slot.new.disk).timeline in
    let torn = c.write_slot.ensures.any_crash in
    slot_crash old mid ps a rs b body c.requires.stands is free c.beside-next.ensures.slots long c.in_ok-write_synced.ensures.ok new c.write_synced.ensures.any_crash torn

pub returns-clause-still : goal.returns-clause-still
returns-clause-still g c =
    let old = (g.D.Disk.view c.args.disk.now).timeline in
    let mid = (g.D.Disk.view c.write_synced.new.disk).timeline in
    let ps = records_of (content old.now) in
    let a = c.args.area in
    let rs = payloads c.args.records.now in
    let b = c.beside-next.result in
    let body = c.deref.result.now in
    let is : body ≡ spelled rs = c.deref.ensures.value ∙ c.in_ok-bytes.ensures in
    let n_is : c.len.result ≡ length body = c.len.ensures ∙ sym c.deref.ensures.len in
    let free : IsFree a b.base (length body) = subst (IsFree a b.base) n_is c.beside-next.ensures.free in
    let long : b.len + 1 ≡ length body = c.beside-next.ensures.length ∙ n_is in
    let new = (g.D.Disk.view c.write_slot.new.disk).timeline in
    let done = c.in_ok-write_slot.ensures.ok in
    still_stands old mid ps a rs b body c.requires.stands is free c.beside-next.ensures.slots long c.in_ok-write_synced.ensures.ok new done

pub returns-clause-ok : goal.returns-clause-ok
returns-clause-ok g c =
    let old = (g.D.Disk.view c.args.disk.now).timeline in
    let mid = (g.D.Disk.view c.write_synced.new.disk).timeline in
    let ps = records_of (content old.now) in
    let a = c.args.area in
    let rs = payloads c.args.records.now in
    let b = c.beside-next.result in
    let body = c.deref.result.now in
    let is : body ≡ spelled rs = c.deref.ensures.value ∙ c.in_ok-bytes.ensures in
    let n_is : c.len.result ≡ length body = c.len.ensures ∙ sym c.deref.ensures.len in
    let free : IsFree a b.base (length body) = subst (IsFree a b.base) n_is c.beside-next.ensures.free in
    let long : b.len + 1 ≡ length body = c.beside-next.ensures.length ∙ n_is in
    let new = (g.D.Disk.view c.write_slot.new.disk).timeline in
    let done = c.in_ok-write_slot.ensures.ok in
    let short : length body < 2 ^ 64 = omega (arith, c.in_ok-write_synced.ensures.fits) in
    let low : b.base < 2 ^ 64 = omega (arith, c.in_ok-write_synced.ensures.fits) in
    both_lie old mid ps a rs b body c.requires.stands is free c.beside-next.ensures.slots long c.in_ok-write_synced.ensures.ok new short low done
