use Rattle.std.proofs.Common.{◌≡◌, ℕ, ◌+◌, List, [], ◌∷◌, ◌++◌, length, Vec, Err, Some, option_map, true, sym, ap, subst, rules, arith}
use Rattle.std.proofs.lemmas.Grind.{common_steps}
use Rattle.std.specs.declared.alloc.Global.{Global}
use Rattle.disk_model.specs.Disk.{reads}
use Rattle.journal_core.specs.Journal.{View}
use Rattle.journal_core.specs.Kept.{first_records, IsKept}
use Rattle.journal_core.proofs.Whole.{unadded, kept_survives, append_crash, append_torn, append_kept, append_shows, append_memory}
use Rattle.journal_core.proofs.journal.Journal.append.Goals as goal

pub returns-then-self-clause-any_crash : goal.returns-then-self-clause-any_crash
returns-then-self-clause-any_crash g c =
    let i = c.self.inside in
    let disk = g.D.Disk.view i.disk in
    let torn = option_map (λ (v : Vec ℕ Global). v.items) i.torn in
    unadded (first_records i.count (reads disk)) torn i.end i.shut disk c.args.self.now c.args.payload.now c.args.self.now.disk.timeline c.self.invariant.keeps c.self.view_is (sym (ap (λ (w : View). w.disk.timeline) c.self.view_is))

pub returns-in_err-kept-clause-any_crash : goal.returns-in_err-kept-clause-any_crash
returns-in_err-kept-clause-any_crash g c =
    let i = c.self.inside in
    let disk = g.D.Disk.view i.disk in
    let torn = option_map (λ (v : Vec ℕ Global). v.items) i.torn in
    unadded (first_records i.count (reads disk)) torn i.end i.shut disk c.args.self.now c.args.payload.now c.args.self.now.disk.timeline c.self.invariant.keeps c.self.view_is (sym (ap (λ (w : View). w.disk.timeline) c.self.view_is))

pub returns-in-Ok-clause-any_crash : goal.returns-in-Ok-clause-any_crash
returns-in-Ok-clause-any_crash g c =
    let i = c.self.inside in
    let disk = g.D.Disk.view i.disk in
    let torn = option_map (λ (v : Vec ℕ Global). v.items) i.torn in
    append_crash i.count torn i.end i.shut disk c.self.invariant c.if-self.false c.args.payload.now (g.D.Disk.view c.add.new.disk) c.add.ensures.any_crash c.args.self.now c.self.view_is

pub returns-in-Err-Memory-clause-any_crash : goal.returns-in-Err-Memory-clause-any_crash
returns-in-Err-Memory-clause-any_crash g c =
    let i = c.self.inside in
    let disk = g.D.Disk.view i.disk in
    let torn = option_map (λ (v : Vec ℕ Global). v.items) i.torn in
    append_crash i.count torn i.end i.shut disk c.self.invariant c.if-self.false c.args.payload.now (g.D.Disk.view c.add.new.disk) c.add.ensures.any_crash c.args.self.now c.self.view_is

pub returns-in-Err-Disk-clause-any_crash : goal.returns-in-Err-Disk-clause-any_crash
returns-in-Err-Disk-clause-any_crash g c =
    let i = c.self.inside in
    let disk = g.D.Disk.view i.disk in
    let torn = option_map (λ (v : Vec ℕ Global). v.items) i.torn in
    append_crash i.count torn i.end i.shut disk c.self.invariant c.if-self.false c.args.payload.now (g.D.Disk.view c.add.new.disk) c.add.ensures.any_crash c.args.self.now c.self.view_is

pub invariant_of-self : goal.invariant_of-self
invariant_of-self g c =
    let i = c.self.inside in
    let disk = g.D.Disk.view i.disk in
    let torn = option_map (λ (v : Vec ℕ Global). v.items) i.torn in
    append_kept i.count torn i.end i.shut disk c.self.invariant c.if-self.false c.args.payload.now (g.D.Disk.view c.add.new.disk) c.in-Ok.ensures.ok_synced c.in-Ok.ensures.running c.in-Ok.ensures.fits c.in-Ok.ensures.ok

pub returns-in-Ok-clause-survives : goal.returns-in-Ok-clause-survives
returns-in-Ok-clause-survives g c =
    let i = c.self.inside in
    let disk = g.D.Disk.view i.disk in
    let torn = option_map (λ (v : Vec ℕ Global). v.items) i.torn in
    kept_survives (i.count + 1) torn (i.end + (9 + length c.args.payload.now)) i.shut (g.D.Disk.view c.add.new.disk) (append_kept i.count torn i.end i.shut disk c.self.invariant c.if-self.false c.args.payload.now (g.D.Disk.view c.add.new.disk) c.in-Ok.ensures.ok_synced c.in-Ok.ensures.running c.in-Ok.ensures.fits c.in-Ok.ensures.ok)

pub returns-in-Ok-clause-durable : goal.returns-in-Ok-clause-durable
returns-in-Ok-clause-durable g c =
    let i = c.self.inside in
    let disk = g.D.Disk.view i.disk in
    let torn = option_map (λ (v : Vec ℕ Global). v.items) i.torn in
    (kept_survives (i.count + 1) torn (i.end + (9 + length c.args.payload.now)) i.shut (g.D.Disk.view c.add.new.disk) (append_kept i.count torn i.end i.shut disk c.self.invariant c.if-self.false c.args.payload.now (g.D.Disk.view c.add.new.disk) c.in-Ok.ensures.ok_synced c.in-Ok.ensures.running c.in-Ok.ensures.fits c.in-Ok.ensures.ok)).exact c.if-self.false

pub returns-in-Ok-clause-ok : goal.returns-in-Ok-clause-ok
returns-in-Ok-clause-ok g c =
    let i = c.self.inside in
    let disk = g.D.Disk.view i.disk in
    let torn = option_map (λ (v : Vec ℕ Global). v.items) i.torn in
    let more : first_records (i.count + 1) (reads (g.D.Disk.view c.add.new.disk)) ≡ first_records i.count (reads disk) ++ c.args.payload.now ∷ [] = append_shows i.count torn i.end i.shut disk c.self.invariant c.if-self.false c.args.payload.now (g.D.Disk.view c.add.new.disk) c.in-Ok.ensures.ok_synced c.in-Ok.ensures.running c.in-Ok.ensures.fits c.in-Ok.ensures.ok in
    grind (arith, common_steps, more)

pub invariant_of-self-in-Memory-1 : goal.invariant_of-self-in-Memory-1
invariant_of-self-in-Memory-1 g c =
    let i = c.self.inside in
    let disk = g.D.Disk.view i.disk in
    let torn = option_map (λ (v : Vec ℕ Global). v.items) i.torn in
    let e = ap Err c.in-Err-Memory.field-0-is in
    append_memory i.count torn i.end i.shut disk c.self.invariant c.if-self.false c.args.payload.now (g.D.Disk.view c.add.new.disk) (c.in-Err-Memory.ensures.memory_synced e) (c.in-Err-Memory.ensures.memory_running (c.self.invariant.keeps.running c.if-self.false) e) (c.in-Err-Memory.ensures.memory e)

pub returns-in-Err-Memory-clause-survives : goal.returns-in-Err-Memory-clause-survives
returns-in-Err-Memory-clause-survives g c =
    let i = c.self.inside in
    let disk = g.D.Disk.view i.disk in
    let torn = option_map (λ (v : Vec ℕ Global). v.items) i.torn in
    let e = ap Err c.in-Err-Memory.field-0-is in
    kept_survives i.count torn i.end i.shut (g.D.Disk.view c.add.new.disk) (append_memory i.count torn i.end i.shut disk c.self.invariant c.if-self.false c.args.payload.now (g.D.Disk.view c.add.new.disk) (c.in-Err-Memory.ensures.memory_synced e) (c.in-Err-Memory.ensures.memory_running (c.self.invariant.keeps.running c.if-self.false) e) (c.in-Err-Memory.ensures.memory e))

pub invariant_of-self-in-Err-Disk : goal.invariant_of-self-in-Err-Disk
invariant_of-self-in-Err-Disk g c =
    let i = c.self.inside in
    let disk = g.D.Disk.view i.disk in
    let torn = option_map (λ (v : Vec ℕ Global). v.items) i.torn in
    let copied : c.in_ok-kept.kept.items ≡ c.args.payload.now = search rules in
    let kept : IsKept i.count (Some c.in_ok-kept.kept.items) i.end true (g.D.Disk.view c.add.new.disk).stopped (g.D.Disk.view c.add.new.disk).timeline =
    subst (λ (p : List ℕ). IsKept i.count (Some p) i.end true (g.D.Disk.view c.add.new.disk).stopped (g.D.Disk.view c.add.new.disk).timeline) (sym copied)
    (append_torn i.count torn i.end i.shut disk c.self.invariant c.if-self.false c.args.payload.now (g.D.Disk.view c.add.new.disk) c.add.ensures.any_crash) in
    kept

pub returns-in-Err-Disk-clause-survives : goal.returns-in-Err-Disk-clause-survives
returns-in-Err-Disk-clause-survives g c =
    let i = c.self.inside in
    let disk = g.D.Disk.view i.disk in
    let torn = option_map (λ (v : Vec ℕ Global). v.items) i.torn in
    let copied : c.in_ok-kept.kept.items ≡ c.args.payload.now = search rules in
    let kept : IsKept i.count (Some c.in_ok-kept.kept.items) i.end true (g.D.Disk.view c.add.new.disk).stopped (g.D.Disk.view c.add.new.disk).timeline =
    subst (λ (p : List ℕ). IsKept i.count (Some p) i.end true (g.D.Disk.view c.add.new.disk).stopped (g.D.Disk.view c.add.new.disk).timeline) (sym copied)
    (append_torn i.count torn i.end i.shut disk c.self.invariant c.if-self.false c.args.payload.now (g.D.Disk.view c.add.new.disk) c.add.ensures.any_crash) in
    kept_survives i.count (Some c.in_ok-kept.kept.items) i.end true (g.D.Disk.view c.add.new.disk) kept
