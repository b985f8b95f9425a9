use Rattle.std.proofs.Common.{◌≡◌, ℕ, ◌+◌, ◌≤◌, List, [], ◌∷◌, ◌++◌, length, drop, Err, Some, true, refl, sym, ap, ◌∙◌, rules, arith}
use Rattle.std.proofs.lemmas.Grind.{common_steps}
use Rattle.disk_model.specs.Disk.{reads}
use Rattle.journal_core.proofs.Walk.{whole_count}
use Rattle.journal_pair.specs.Records.{records_of}
use Rattle.journal_pair.specs.Journal.{View}
use Rattle.journal_pair.specs.Kept.{records_in}
use Rattle.journal_pair.specs.declared.torn.Torn.TheVariants as torn
use Rattle.journal_pair.proofs.Whole.{kept_survives, now_stands, stayed_here, long_more, more_is, append_crash, kept_new, shows_new, kept_still, shows_still, kept_added, shows_added}
use Rattle.journal_pair.proofs.pair.JournalPair.append.Goals as goal

pub add-requires-clause-stands : goal.add-requires-clause-stands
add-requires-clause-stands g c =
    let i = c.self.inside in
    let disk = g.D.Disk.view i.disk in
    now_stands i.count i.torn i.area i.shut disk c.self.invariant c.if-self.false

pub returns-then-self-clause-any_crash : goal.returns-then-self-clause-any_crash
returns-then-self-clause-any_crash g c =
    let i = c.self.inside in
    let disk = g.D.Disk.view i.disk in
    stayed_here i.count i.torn i.area i.shut disk c.self.invariant c.args.self.now (c.args.self.now.records ++ c.args.payload.now ∷ []) c.args.self.now.disk.timeline c.self.view_is (sym (ap (λ (w : View). w.disk.timeline) c.self.view_is))

pub returns-in_err-kept-clause-any_crash : goal.returns-in_err-kept-clause-any_crash
returns-in_err-kept-clause-any_crash g c =
    let i = c.self.inside in
    let disk = g.D.Disk.view i.disk in
    stayed_here i.count i.torn i.area i.shut disk c.self.invariant c.args.self.now (c.args.self.now.records ++ c.args.payload.now ∷ []) c.args.self.now.disk.timeline c.self.view_is (sym (ap (λ (w : View). w.disk.timeline) c.self.view_is))

pub returns-in-Ok-clause-any_crash : goal.returns-in-Ok-clause-any_crash
returns-in-Ok-clause-any_crash g c =
    let i = c.self.inside in
    let disk = g.D.Disk.view i.disk in
    let new = g.D.Disk.view c.add.new.disk in
    let payload = c.args.payload.now in
    append_crash i.count i.torn i.area i.shut disk c.self.invariant c.if-self.false new payload c.add.ensures.any_crash c.args.self.now c.self.view_is

pub returns-in-Err-Memory-clause-any_crash : goal.returns-in-Err-Memory-clause-any_crash
returns-in-Err-Memory-clause-any_crash g c =
    let i = c.self.inside in
    let disk = g.D.Disk.view i.disk in
    let new = g.D.Disk.view c.add.new.disk in
    let payload = c.args.payload.now in
    append_crash i.count i.torn i.area i.shut disk c.self.invariant c.if-self.false new payload c.add.ensures.any_crash c.args.self.now c.self.view_is

pub returns-in-Err-Disk-clause-any_crash : goal.returns-in-Err-Disk-clause-any_crash
returns-in-Err-Disk-clause-any_crash g c =
    let i = c.self.inside in
    let disk = g.D.Disk.view i.disk in
    let new = g.D.Disk.view c.add.new.disk in
    let payload = c.args.payload.now in
    append_crash i.count i.torn i.area i.shut disk c.self.invariant c.if-self.false new payload c.add.ensures.any_crash c.args.self.now c.self.view_is

pub invariant_of-self : goal.invariant_of-self
invariant_of-self g c =
    let i = c.self.inside in
    let disk = g.D.Disk.view i.disk in
    let new = g.D.Disk.view c.add.new.disk in
    let payload = c.args.payload.now in
    kept_new i.count i.torn i.area i.shut disk c.self.invariant c.if-self.false new c.in-Ok.ensures.ok_synced c.in-Ok.ensures.running (records_of (reads disk) ++ payload ∷ []) c.in-Ok.area (i.count + 1) c.in-Ok.ensures.fits c.in-Ok.ensures.ok (long_more i.count i.torn i.area i.shut disk c.self.invariant c.if-self.false new payload)

pub returns-in-Ok-clause-survives : goal.returns-in-Ok-clause-survives
returns-in-Ok-clause-survives g c =
    let i = c.self.inside in
    let disk = g.D.Disk.view i.disk in
    let new = g.D.Disk.view c.add.new.disk in
    let payload = c.args.payload.now in
    kept_survives (i.count + 1) i.torn c.in-Ok.area i.shut new (kept_new i.count i.torn i.area i.shut disk c.self.invariant c.if-self.false new c.in-Ok.ensures.ok_synced c.in-Ok.ensures.running (records_of (reads disk) ++ payload ∷ []) c.in-Ok.area (i.count + 1) c.in-Ok.ensures.fits c.in-Ok.ensures.ok (long_more i.count i.torn i.area i.shut disk c.self.invariant c.if-self.false new payload))

pub returns-in-Ok-clause-durable : goal.returns-in-Ok-clause-durable
returns-in-Ok-clause-durable g c =
    let i = c.self.inside in
    let disk = g.D.Disk.view i.disk in
    let new = g.D.Disk.view c.add.new.disk in
    let payload = c.args.payload.now in
    (kept_survives (i.count + 1) i.torn c.in-Ok.area i.shut new (kept_new i.count i.torn i.area i.shut disk c.self.invariant c.if-self.false new c.in-Ok.ensures.ok_synced c.in-Ok.ensures.running (records_of (reads disk) ++ payload ∷ []) c.in-Ok.area (i.count + 1) c.in-Ok.ensures.fits c.in-Ok.ensures.ok (long_more i.count i.torn i.area i.shut disk c.self.invariant c.if-self.false new payload))).exact c.if-self.false

pub returns-in-Ok-clause-ok : goal.returns-in-Ok-clause-ok
returns-in-Ok-clause-ok g c =
    let i = c.self.inside in
    let disk = g.D.Disk.view i.disk in
    let new = g.D.Disk.view c.add.new.disk in
    let payload = c.args.payload.now in
    let more : records_in (i.count + 1) i.torn (reads new) ≡ records_in i.count i.torn (reads disk) ++ payload ∷ [] = shows_new i.count i.torn i.area i.shut disk c.self.invariant c.if-self.false new c.in-Ok.ensures.ok_synced c.in-Ok.ensures.running (records_of (reads disk) ++ payload ∷ []) c.in-Ok.area (i.count + 1) c.in-Ok.ensures.fits c.in-Ok.ensures.ok (long_more i.count i.torn i.area i.shut disk c.self.invariant c.if-self.false new payload) ∙ more_is i.count i.torn i.area i.shut disk c.self.invariant c.if-self.false new payload in
    grind (arith, common_steps, more)

pub invariant_of-self-in-Memory-1 : goal.invariant_of-self-in-Memory-1
invariant_of-self-in-Memory-1 g c =
    let i = c.self.inside in
    let disk = g.D.Disk.view i.disk in
    let new = g.D.Disk.view c.add.new.disk in
    let payload = c.args.payload.now in
    let e = ap Err c.in-Err-Memory.field-0-is in
    kept_still i.count i.torn i.area i.shut disk c.self.invariant c.if-self.false new (c.in-Err-Memory.ensures.memory_synced e) (c.in-Err-Memory.ensures.memory_running (c.self.invariant.keeps.running c.if-self.false) e) (c.in-Err-Memory.ensures.memory e)

pub returns-in-Err-Memory-clause-survives : goal.returns-in-Err-Memory-clause-survives
returns-in-Err-Memory-clause-survives g c =
    let i = c.self.inside in
    let disk = g.D.Disk.view i.disk in
    let new = g.D.Disk.view c.add.new.disk in
    let payload = c.args.payload.now in
    let e = ap Err c.in-Err-Memory.field-0-is in
    kept_survives i.count i.torn i.area i.shut new (kept_still i.count i.torn i.area i.shut disk c.self.invariant c.if-self.false new (c.in-Err-Memory.ensures.memory_synced e) (c.in-Err-Memory.ensures.memory_running (c.self.invariant.keeps.running c.if-self.false) e) (c.in-Err-Memory.ensures.memory e))

pub returns-in-Err-Memory-clause-memory : goal.returns-in-Err-Memory-clause-memory
returns-in-Err-Memory-clause-memory g c =
    let i = c.self.inside in
    let disk = g.D.Disk.view i.disk in
    let new = g.D.Disk.view c.add.new.disk in
    let payload = c.args.payload.now in
    let e = ap Err c.in-Err-Memory.field-0-is in
    let same : records_in i.count i.torn (reads new) ≡ records_in i.count i.torn (reads disk) = shows_still i.count i.torn i.area i.shut disk c.self.invariant c.if-self.false new (c.in-Err-Memory.ensures.memory_synced e) (c.in-Err-Memory.ensures.memory_running (c.self.invariant.keeps.running c.if-self.false) e) (c.in-Err-Memory.ensures.memory e) in
    grind (arith, common_steps, same)

pub invariant_of-self-in-Err-Disk : goal.invariant_of-self-in-Err-Disk
invariant_of-self-in-Err-Disk g c =
    let i = c.self.inside in
    let disk = g.D.Disk.view i.disk in
    let new = g.D.Disk.view c.add.new.disk in
    let payload = c.args.payload.now in
    let copied : c.in_ok-kept.kept.items ≡ payload = search rules in
    kept_added i.count i.torn i.area i.shut disk c.self.invariant c.if-self.false new payload c.add.ensures.any_crash c.in_ok-kept.kept copied

pub returns-in-Err-Disk-clause-survives : goal.returns-in-Err-Disk-clause-survives
returns-in-Err-Disk-clause-survives g c =
    let i = c.self.inside in
    let disk = g.D.Disk.view i.disk in
    let new = g.D.Disk.view c.add.new.disk in
    let payload = c.args.payload.now in
    let copied : c.in_ok-kept.kept.items ≡ payload = search rules in
    kept_survives i.count (Some (torn.Added c.in_ok-kept.kept)) i.area true new (kept_added i.count i.torn i.area i.shut disk c.self.invariant c.if-self.false new payload c.add.ensures.any_crash c.in_ok-kept.kept copied)

pub returns-in-Err-Disk-clause-disk : goal.returns-in-Err-Disk-clause-disk
returns-in-Err-Disk-clause-disk g c =
    let i = c.self.inside in
    let disk = g.D.Disk.view i.disk in
    let new = g.D.Disk.view c.add.new.disk in
    let payload = c.args.payload.now in
    let copied : c.in_ok-kept.kept.items ≡ payload = search rules in
    let same : records_in i.count (Some (torn.Added c.in_ok-kept.kept)) (reads new) ≡ records_in i.count i.torn (reads disk) = shows_added i.count i.torn i.area i.shut disk c.self.invariant c.if-self.false new payload c.add.ensures.any_crash c.in_ok-kept.kept copied in
    grind (arith, common_steps, same, copied)

pub overflow_add-self : goal.overflow_add-self
overflow_add-self g c =
    let i = c.self.inside in
    let disk = g.D.Disk.view i.disk in
    let new = g.D.Disk.view c.add.new.disk in
    let payload = c.args.payload.now in
    let next = c.in-Ok.area in
    omega (arith, whole_count (records_of (reads disk) ++ payload ∷ []) next.len (drop next.base (reads new)) c.in-Ok.ensures.ok.lies.ends.whole, long_more i.count i.torn i.area i.shut disk c.self.invariant c.if-self.false new payload, c.in-Ok.ensures.fits)
