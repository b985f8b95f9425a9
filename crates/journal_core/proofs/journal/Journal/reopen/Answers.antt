use Rattle.std.proofs.Common.{ℕ, List, Vec, Err, None, option_map, true, false, length, refl, ◌∙◌, sym, ap, subst}
use Rattle.std.specs.declared.alloc.Global.{Global}
use Rattle.disk_model.specs.CrashLaws.{stays}
use Rattle.disk_model.specs.Disk.{reads}
use Rattle.journal_core.specs.Records.{records_of}
use Rattle.journal_core.specs.Layout.{EndsAt}
use Rattle.journal_core.specs.Journal.{WithOrWithout}
use Rattle.journal_core.specs.Kept.{first_records}
use Rattle.journal_core.proofs.Reading.{ok_holds, err_holds}
use Rattle.journal_core.proofs.Whole.{seen, kept_survives, kept_all, still_kept, reopen_crash, reopen_memory, reopen_failed, reopen_ok}
use Rattle.journal_core.proofs.journal.Journal.reopen.Goals as goal

pub invariant_of-self : goal.invariant_of-self
invariant_of-self g c =
    let i = c.self.inside in
    let disk = g.D.Disk.view i.disk in
    let torn = option_map (λ (v : Vec ℕ Global). v.items) i.torn in
    let new = g.D.Disk.view c.reopen.new.self in
    let failed = err_holds c.reopen.result _ (sym c.is_err.ensures.value ∙ c.if-is_err.true) c.reopen.ensures.failed in
    still_kept i.count torn i.end i.shut disk c.self.invariant new.stopped new.timeline failed.0

pub returns-then-is_err-clause-survives : goal.returns-then-is_err-clause-survives
returns-then-is_err-clause-survives g c =
    let i = c.self.inside in
    let disk = g.D.Disk.view i.disk in
    let torn = option_map (λ (v : Vec ℕ Global). v.items) i.torn in
    let new = g.D.Disk.view c.reopen.new.self in
    let failed = err_holds c.reopen.result _ (sym c.is_err.ensures.value ∙ c.if-is_err.true) c.reopen.ensures.failed in
    kept_survives i.count torn i.end true new (still_kept i.count torn i.end i.shut disk c.self.invariant new.stopped new.timeline failed.0)

pub returns-then-is_err-clause-any_crash : goal.returns-then-is_err-clause-any_crash
returns-then-is_err-clause-any_crash g c =
    let i = c.self.inside in
    let disk = g.D.Disk.view i.disk in
    let torn = option_map (λ (v : Vec ℕ Global). v.items) i.torn in
    let new = g.D.Disk.view c.reopen.new.self in
    let failed = err_holds c.reopen.result _ (sym c.is_err.ensures.value ∙ c.if-is_err.true) c.reopen.ensures.failed in
    let rs = first_records i.count (reads disk) in
    seen rs torn i.end i.shut disk c.args.self.now new.timeline c.self.view_is (stays disk.timeline new.timeline (λ b. WithOrWithout rs torn (records_of b)) failed.0 c.self.invariant.keeps.left)

pub returns-in-Ok-clause-any_crash : goal.returns-in-Ok-clause-any_crash
returns-in-Ok-clause-any_crash g c =
    let i = c.self.inside in
    let disk = g.D.Disk.view i.disk in
    let torn = option_map (λ (v : Vec ℕ Global). v.items) i.torn in
    let k = ok_holds c.reopen.result _ (sym c.is_err.ensures.value ∙ c.if-is_err.false) c.reopen.ensures.ok in
    let mid = (g.D.Disk.view c.reopen.new.self).timeline in
    let new = g.D.Disk.view c.scan.new.disk in
    reopen_crash i.count torn i.end i.shut disk c.self.invariant mid k.0 k.1 c.args.self.now new.timeline c.self.view_is c.reopen.ensures.time c.scan.ensures.any_crash

pub returns-in-Err-Memory-clause-any_crash : goal.returns-in-Err-Memory-clause-any_crash
returns-in-Err-Memory-clause-any_crash g c =
    let i = c.self.inside in
    let disk = g.D.Disk.view i.disk in
    let torn = option_map (λ (v : Vec ℕ Global). v.items) i.torn in
    let k = ok_holds c.reopen.result _ (sym c.is_err.ensures.value ∙ c.if-is_err.false) c.reopen.ensures.ok in
    let mid = (g.D.Disk.view c.reopen.new.self).timeline in
    let new = g.D.Disk.view c.scan.new.disk in
    reopen_crash i.count torn i.end i.shut disk c.self.invariant mid k.0 k.1 c.args.self.now new.timeline c.self.view_is c.reopen.ensures.time c.scan.ensures.any_crash

pub returns-in-Err-Disk-clause-any_crash : goal.returns-in-Err-Disk-clause-any_crash
returns-in-Err-Disk-clause-any_crash g c =
    let i = c.self.inside in
    let disk = g.D.Disk.view i.disk in
    let torn = option_map (λ (v : Vec ℕ Global). v.items) i.torn in
    let k = ok_holds c.reopen.result _ (sym c.is_err.ensures.value ∙ c.if-is_err.false) c.reopen.ensures.ok in
    let mid = (g.D.Disk.view c.reopen.new.self).timeline in
    let new = g.D.Disk.view c.scan.new.disk in
    reopen_crash i.count torn i.end i.shut disk c.self.invariant mid k.0 k.1 c.args.self.now new.timeline c.self.view_is c.reopen.ensures.time c.scan.ensures.any_crash

pub invariant_of-self-in-Err-Memory : goal.invariant_of-self-in-Err-Memory
invariant_of-self-in-Err-Memory g c =
    let i = c.self.inside in
    let disk = g.D.Disk.view i.disk in
    let torn = option_map (λ (v : Vec ℕ Global). v.items) i.torn in
    let k = ok_holds c.reopen.result _ (sym c.is_err.ensures.value ∙ c.if-is_err.false) c.reopen.ensures.ok in
    let mid = (g.D.Disk.view c.reopen.new.self).timeline in
    let new = g.D.Disk.view c.scan.new.disk in
    let e = ap Err c.in-Err-Memory.field-0-is in
    reopen_memory i.count torn i.end i.shut disk c.self.invariant mid k.0 k.1 new.stopped new.timeline (c.in-Err-Memory.ensures.memory e) ((c.in-Err-Memory.ensures.memory_state e).0 ∙ k.2)

pub returns-in-Err-Memory-clause-survives : goal.returns-in-Err-Memory-clause-survives
returns-in-Err-Memory-clause-survives g c =
    let i = c.self.inside in
    let disk = g.D.Disk.view i.disk in
    let torn = option_map (λ (v : Vec ℕ Global). v.items) i.torn in
    let k = ok_holds c.reopen.result _ (sym c.is_err.ensures.value ∙ c.if-is_err.false) c.reopen.ensures.ok in
    let mid = (g.D.Disk.view c.reopen.new.self).timeline in
    let new = g.D.Disk.view c.scan.new.disk in
    let e = ap Err c.in-Err-Memory.field-0-is in
    kept_survives i.count torn i.end i.shut new (reopen_memory i.count torn i.end i.shut disk c.self.invariant mid k.0 k.1 new.stopped new.timeline (c.in-Err-Memory.ensures.memory e) ((c.in-Err-Memory.ensures.memory_state e).0 ∙ k.2))

pub invariant_of-self-in-Err-Disk : goal.invariant_of-self-in-Err-Disk
invariant_of-self-in-Err-Disk g c =
    let i = c.self.inside in
    let disk = g.D.Disk.view i.disk in
    let torn = option_map (λ (v : Vec ℕ Global). v.items) i.torn in
    let k = ok_holds c.reopen.result _ (sym c.is_err.ensures.value ∙ c.if-is_err.false) c.reopen.ensures.ok in
    let mid = (g.D.Disk.view c.reopen.new.self).timeline in
    let new = g.D.Disk.view c.scan.new.disk in
    reopen_failed i.count torn i.end i.shut disk c.self.invariant mid k.0 k.1 new.stopped new.timeline c.scan.ensures.any_crash

pub returns-in-Err-Disk-clause-survives : goal.returns-in-Err-Disk-clause-survives
returns-in-Err-Disk-clause-survives g c =
    let i = c.self.inside in
    let disk = g.D.Disk.view i.disk in
    let torn = option_map (λ (v : Vec ℕ Global). v.items) i.torn in
    let k = ok_holds c.reopen.result _ (sym c.is_err.ensures.value ∙ c.if-is_err.false) c.reopen.ensures.ok in
    let mid = (g.D.Disk.view c.reopen.new.self).timeline in
    let new = g.D.Disk.view c.scan.new.disk in
    kept_survives i.count torn i.end true new (reopen_failed i.count torn i.end i.shut disk c.self.invariant mid k.0 k.1 new.stopped new.timeline c.scan.ensures.any_crash)

pub returns-in-Ok-clause-ok : goal.returns-in-Ok-clause-ok
returns-in-Ok-clause-ok g c =
    let i = c.self.inside in
    let disk = g.D.Disk.view i.disk in
    let torn = option_map (λ (v : Vec ℕ Global). v.items) i.torn in
    let k = ok_holds c.reopen.result _ (sym c.is_err.ensures.value ∙ c.if-is_err.false) c.reopen.ensures.ok in
    let mid = (g.D.Disk.view c.reopen.new.self).timeline in
    let new = g.D.Disk.view c.scan.new.disk in
    (refl, reopen_ok i.count torn i.end i.shut disk c.self.invariant mid k.0 k.1 c.args.self.now c.in-Ok.count (reads new) c.self.view_is c.in-Ok.ensures.counted c.scan.ensures.kept)

pub returns-in-Ok-clause-durable : goal.returns-in-Ok-clause-durable
returns-in-Ok-clause-durable g c =
    let i = c.self.inside in
    let disk = g.D.Disk.view i.disk in
    let torn = option_map (λ (v : Vec ℕ Global). v.items) i.torn in
    let k = ok_holds c.reopen.result _ (sym c.is_err.ensures.value ∙ c.if-is_err.false) c.reopen.ensures.ok in
    let mid = (g.D.Disk.view c.reopen.new.self).timeline in
    let new = g.D.Disk.view c.scan.new.disk in
    (kept_survives c.in-Ok.count None c.in-Ok.end false new
    (kept_all c.in-Ok.count c.in-Ok.end new c.in-Ok.ensures.fits (c.in-Ok.ensures.counted ∙ ap (λ (l : List (List ℕ)). length l) (sym c.scan.ensures.kept))
    (subst (λ (qs : List (List ℕ)). EndsAt qs c.in-Ok.end (reads new)) (sym c.scan.ensures.kept) c.in-Ok.ensures.ends) c.in-Ok.ensures.synced c.in-Ok.ensures.running)).exact refl
