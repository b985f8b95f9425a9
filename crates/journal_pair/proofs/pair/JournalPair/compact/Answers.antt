use Rattle.std.proofs.Common.{◌≡◌, ◌⊎◌, ℕ, List, [], length, Vec, Err, Some, true, refl, sym, ap, subst, ◌∙◌, rules, arith}
use Rattle.std.proofs.lemmas.Grind.{common_steps}
use Rattle.std.proofs.lemmas.List.{length-map}
use Rattle.std.specs.declared.alloc.Global.{Global}
use Rattle.disk_model.specs.Disk.{reads}
use Rattle.disk_model.specs.Crash.{AnyCrash}
use Rattle.journal_core.specs.Records.{payloads}
use Rattle.journal_pair.specs.Records.{records_of}
use Rattle.journal_pair.specs.Layout.{Stands}
use Rattle.journal_pair.specs.Journal.{View}
use Rattle.journal_pair.specs.Kept.{records_in}
use Rattle.journal_pair.specs.declared.torn.Torn.TheVariants as torn
use Rattle.journal_pair.proofs.Whole.{Either, kept_survives, now_stands, all_is, stayed_here, crash_here, kept_new, shows_new, kept_still, shows_still, kept_failed, shows_failed, kept_unwritten, shows_unwritten}
use Rattle.journal_pair.proofs.pair.JournalPair.compact.Goals as goal

pub replace-requires-clause-stands : goal.replace-requires-clause-stands
replace-requires-clause-stands g c =
    let i = c.self.inside in
    let disk = g.D.Disk.view i.disk in
    now_stands i.count i.torn i.area i.shut disk c.self.invariant c.if-self.false

pub returns-then-self-clause-any_crash : goal.returns-then-self-clause-any_crash
returns-then-self-clause-any_crash g c =
    let i = c.self.inside in
    let disk = g.D.Disk.view i.disk in
    stayed_here i.count i.torn i.area i.shut disk c.self.invariant c.args.self.now (payloads c.args.records.items) c.args.self.now.disk.timeline c.self.view_is (sym (ap (λ (w : View). w.disk.timeline) c.self.view_is))

pub returns-in-Ok-clause-any_crash : goal.returns-in-Ok-clause-any_crash
returns-in-Ok-clause-any_crash g c =
    let i = c.self.inside in
    let disk = g.D.Disk.view i.disk in
    let new = g.D.Disk.view c.replace.new.disk in
    let rs = payloads c.args.records.items in
    let given : payloads c.deref.result.now ≡ rs = ap payloads c.deref.ensures.value in
    let run : AnyCrash disk.timeline new.timeline (Either (records_of (reads disk)) rs) = subst (λ (qs : List (List ℕ)). AnyCrash disk.timeline new.timeline (Either (records_of (reads disk)) qs)) given c.replace.ensures.any_crash in
    crash_here i.count i.torn i.area i.shut disk c.self.invariant c.if-self.false new rs run c.args.self.now c.self.view_is

pub returns-in-Err-Memory-clause-any_crash : goal.returns-in-Err-Memory-clause-any_crash
returns-in-Err-Memory-clause-any_crash g c =
    let i = c.self.inside in
    let disk = g.D.Disk.view i.disk in
    let new = g.D.Disk.view c.replace.new.disk in
    let rs = payloads c.args.records.items in
    let given : payloads c.deref.result.now ≡ rs = ap payloads c.deref.ensures.value in
    let run : AnyCrash disk.timeline new.timeline (Either (records_of (reads disk)) rs) = subst (λ (qs : List (List ℕ)). AnyCrash disk.timeline new.timeline (Either (records_of (reads disk)) qs)) given c.replace.ensures.any_crash in
    crash_here i.count i.torn i.area i.shut disk c.self.invariant c.if-self.false new rs run c.args.self.now c.self.view_is

pub returns-in-Err-Unwritten-clause-any_crash : goal.returns-in-Err-Unwritten-clause-any_crash
returns-in-Err-Unwritten-clause-any_crash g c =
    let i = c.self.inside in
    let disk = g.D.Disk.view i.disk in
    let new = g.D.Disk.view c.replace.new.disk in
    let rs = payloads c.args.records.items in
    let given : payloads c.deref.result.now ≡ rs = ap payloads c.deref.ensures.value in
    let run : AnyCrash disk.timeline new.timeline (Either (records_of (reads disk)) rs) = subst (λ (qs : List (List ℕ)). AnyCrash disk.timeline new.timeline (Either (records_of (reads disk)) qs)) given c.replace.ensures.any_crash in
    crash_here i.count i.torn i.area i.shut disk c.self.invariant c.if-self.false new rs run c.args.self.now c.self.view_is

pub returns-in-Err-Torn-clause-any_crash : goal.returns-in-Err-Torn-clause-any_crash
returns-in-Err-Torn-clause-any_crash g c =
    let i = c.self.inside in
    let disk = g.D.Disk.view i.disk in
    let new = g.D.Disk.view c.replace.new.disk in
    let rs = payloads c.args.records.items in
    let given : payloads c.deref.result.now ≡ rs = ap payloads c.deref.ensures.value in
    let run : AnyCrash disk.timeline new.timeline (Either (records_of (reads disk)) rs) = subst (λ (qs : List (List ℕ)). AnyCrash disk.timeline new.timeline (Either (records_of (reads disk)) qs)) given c.replace.ensures.any_crash in
    crash_here i.count i.torn i.area i.shut disk c.self.invariant c.if-self.false new rs run c.args.self.now c.self.view_is

pub invariant_of-self : goal.invariant_of-self
invariant_of-self g c =
    let i = c.self.inside in
    let disk = g.D.Disk.view i.disk in
    let new = g.D.Disk.view c.replace.new.disk in
    let rs = payloads c.args.records.items in
    let given : payloads c.deref.result.now ≡ rs = ap payloads c.deref.ensures.value in
    let stands : Stands rs c.in-Ok.area (reads new) = subst (λ (qs : List (List ℕ)). Stands qs c.in-Ok.area (reads new)) given c.in-Ok.ensures.ok in
    let long : length rs ≡ c.len-self-inside.result = length-map c.args.records.items (λ (v : Vec ℕ Global). v.items) ∙ omega (arith, c.args.records.ok, c.len-self-inside.ensures) in
    kept_new i.count i.torn i.area i.shut disk c.self.invariant c.if-self.false new c.in-Ok.ensures.synced c.in-Ok.ensures.running rs c.in-Ok.area c.len-self-inside.result c.in-Ok.ensures.fits stands long

pub returns-in-Ok-clause-survives : goal.returns-in-Ok-clause-survives
returns-in-Ok-clause-survives g c =
    let i = c.self.inside in
    let disk = g.D.Disk.view i.disk in
    let new = g.D.Disk.view c.replace.new.disk in
    let rs = payloads c.args.records.items in
    let given : payloads c.deref.result.now ≡ rs = ap payloads c.deref.ensures.value in
    let stands : Stands rs c.in-Ok.area (reads new) = subst (λ (qs : List (List ℕ)). Stands qs c.in-Ok.area (reads new)) given c.in-Ok.ensures.ok in
    let long : length rs ≡ c.len-self-inside.result = length-map c.args.records.items (λ (v : Vec ℕ Global). v.items) ∙ omega (arith, c.args.records.ok, c.len-self-inside.ensures) in
    kept_survives c.len-self-inside.result i.torn c.in-Ok.area i.shut new (kept_new i.count i.torn i.area i.shut disk c.self.invariant c.if-self.false new c.in-Ok.ensures.synced c.in-Ok.ensures.running rs c.in-Ok.area c.len-self-inside.result c.in-Ok.ensures.fits stands long)

pub returns-in-Ok-clause-durable : goal.returns-in-Ok-clause-durable
returns-in-Ok-clause-durable g c =
    let i = c.self.inside in
    let disk = g.D.Disk.view i.disk in
    let new = g.D.Disk.view c.replace.new.disk in
    let rs = payloads c.args.records.items in
    let given : payloads c.deref.result.now ≡ rs = ap payloads c.deref.ensures.value in
    let stands : Stands rs c.in-Ok.area (reads new) = subst (λ (qs : List (List ℕ)). Stands qs c.in-Ok.area (reads new)) given c.in-Ok.ensures.ok in
    let long : length rs ≡ c.len-self-inside.result = length-map c.args.records.items (λ (v : Vec ℕ Global). v.items) ∙ omega (arith, c.args.records.ok, c.len-self-inside.ensures) in
    (kept_survives c.len-self-inside.result i.torn c.in-Ok.area i.shut new (kept_new i.count i.torn i.area i.shut disk c.self.invariant c.if-self.false new c.in-Ok.ensures.synced c.in-Ok.ensures.running rs c.in-Ok.area c.len-self-inside.result c.in-Ok.ensures.fits stands long)).exact c.if-self.false

pub returns-in-Ok-clause-ok : goal.returns-in-Ok-clause-ok
returns-in-Ok-clause-ok g c =
    let i = c.self.inside in
    let disk = g.D.Disk.view i.disk in
    let new = g.D.Disk.view c.replace.new.disk in
    let rs = payloads c.args.records.items in
    let given : payloads c.deref.result.now ≡ rs = ap payloads c.deref.ensures.value in
    let stands : Stands rs c.in-Ok.area (reads new) = subst (λ (qs : List (List ℕ)). Stands qs c.in-Ok.area (reads new)) given c.in-Ok.ensures.ok in
    let long : length rs ≡ c.len-self-inside.result = length-map c.args.records.items (λ (v : Vec ℕ Global). v.items) ∙ omega (arith, c.args.records.ok, c.len-self-inside.ensures) in
    let shows : records_in c.len-self-inside.result i.torn (reads new) ≡ rs = shows_new i.count i.torn i.area i.shut disk c.self.invariant c.if-self.false new c.in-Ok.ensures.synced c.in-Ok.ensures.running rs c.in-Ok.area c.len-self-inside.result c.in-Ok.ensures.fits stands long in
    grind (arith, common_steps, shows)

pub invariant_of-self-in-Memory-1 : goal.invariant_of-self-in-Memory-1
invariant_of-self-in-Memory-1 g c =
    let i = c.self.inside in
    let disk = g.D.Disk.view i.disk in
    let new = g.D.Disk.view c.replace.new.disk in
    let rs = payloads c.args.records.items in
    let given : payloads c.deref.result.now ≡ rs = ap payloads c.deref.ensures.value in
    let e = ap Err c.in-Err-Memory.field-0-is in
    kept_still i.count i.torn i.area i.shut disk c.self.invariant c.if-self.false new (c.in-Err-Memory.ensures.memory_synced e) (c.in-Err-Memory.ensures.memory_running (c.self.invariant.keeps.running c.if-self.false) e) (c.in-Err-Memory.ensures.memory e)

pub returns-in-Err-Memory-clause-survives : goal.returns-in-Err-Memory-clause-survives
returns-in-Err-Memory-clause-survives g c =
    let i = c.self.inside in
    let disk = g.D.Disk.view i.disk in
    let new = g.D.Disk.view c.replace.new.disk in
    let rs = payloads c.args.records.items in
    let given : payloads c.deref.result.now ≡ rs = ap payloads c.deref.ensures.value in
    let e = ap Err c.in-Err-Memory.field-0-is in
    kept_survives i.count i.torn i.area i.shut new (kept_still i.count i.torn i.area i.shut disk c.self.invariant c.if-self.false new (c.in-Err-Memory.ensures.memory_synced e) (c.in-Err-Memory.ensures.memory_running (c.self.invariant.keeps.running c.if-self.false) e) (c.in-Err-Memory.ensures.memory e))

pub returns-in-Err-Memory-clause-memory : goal.returns-in-Err-Memory-clause-memory
returns-in-Err-Memory-clause-memory g c =
    let i = c.self.inside in
    let disk = g.D.Disk.view i.disk in
    let new = g.D.Disk.view c.replace.new.disk in
    let rs = payloads c.args.records.items in
    let given : payloads c.deref.result.now ≡ rs = ap payloads c.deref.ensures.value in
    let e = ap Err c.in-Err-Memory.field-0-is in
    let same : records_in i.count i.torn (reads new) ≡ records_in i.count i.torn (reads disk) = shows_still i.count i.torn i.area i.shut disk c.self.invariant c.if-self.false new (c.in-Err-Memory.ensures.memory_synced e) (c.in-Err-Memory.ensures.memory_running (c.self.invariant.keeps.running c.if-self.false) e) (c.in-Err-Memory.ensures.memory e) in
    grind (arith, common_steps, same)

pub invariant_of-self-in-Err-Unwritten : goal.invariant_of-self-in-Err-Unwritten
invariant_of-self-in-Err-Unwritten g c =
    let i = c.self.inside in
    let disk = g.D.Disk.view i.disk in
    let new = g.D.Disk.view c.replace.new.disk in
    let rs = payloads c.args.records.items in
    let given : payloads c.deref.result.now ≡ rs = ap payloads c.deref.ensures.value in
    let same : new.timeline ≡ disk.timeline = c.in-Err-Unwritten.ensures.unwritten (ap Err c.in-Err-Unwritten.field-0-is) in
    kept_unwritten i.count i.torn i.area i.shut disk c.self.invariant c.if-self.false new same c.args.records

pub returns-in-Err-Unwritten-clause-survives : goal.returns-in-Err-Unwritten-clause-survives
returns-in-Err-Unwritten-clause-survives g c =
    let i = c.self.inside in
    let disk = g.D.Disk.view i.disk in
    let new = g.D.Disk.view c.replace.new.disk in
    let rs = payloads c.args.records.items in
    let given : payloads c.deref.result.now ≡ rs = ap payloads c.deref.ensures.value in
    let same : new.timeline ≡ disk.timeline = c.in-Err-Unwritten.ensures.unwritten (ap Err c.in-Err-Unwritten.field-0-is) in
    kept_survives i.count (Some (torn.Unwritten c.args.records)) i.area true new (kept_unwritten i.count i.torn i.area i.shut disk c.self.invariant c.if-self.false new same c.args.records)

pub returns-in-Err-Unwritten-clause-disk : goal.returns-in-Err-Unwritten-clause-disk
returns-in-Err-Unwritten-clause-disk g c =
    let i = c.self.inside in
    let disk = g.D.Disk.view i.disk in
    let new = g.D.Disk.view c.replace.new.disk in
    let rs = payloads c.args.records.items in
    let given : payloads c.deref.result.now ≡ rs = ap payloads c.deref.ensures.value in
    let same : new.timeline ≡ disk.timeline = c.in-Err-Unwritten.ensures.unwritten (ap Err c.in-Err-Unwritten.field-0-is) in
    let shows : records_in i.count (Some (torn.Unwritten c.args.records)) (reads new) ≡ records_in i.count i.torn (reads disk) = shows_unwritten i.count i.torn i.area i.shut disk c.self.invariant c.if-self.false new same c.args.records in
    grind (arith, common_steps, shows)

pub invariant_of-self-in-Err-Torn : goal.invariant_of-self-in-Err-Torn
invariant_of-self-in-Err-Torn g c =
    let i = c.self.inside in
    let disk = g.D.Disk.view i.disk in
    let new = g.D.Disk.view c.replace.new.disk in
    let rs = payloads c.args.records.items in
    let given : payloads c.deref.result.now ≡ rs = ap payloads c.deref.ensures.value in
    let run : AnyCrash disk.timeline new.timeline (Either (records_of (reads disk)) rs) = subst (λ (qs : List (List ℕ)). AnyCrash disk.timeline new.timeline (Either (records_of (reads disk)) qs)) given c.replace.ensures.any_crash in
    let before = c.in-Err-Torn.before in
    let were : payloads before.items ≡ records_in i.count i.torn (reads disk) = c.in-Err-Torn.ensures.before before (ap Err c.in-Err-Torn.field-0-is) ∙ all_is i.count i.torn i.area i.shut disk c.self.invariant c.if-self.false in
    kept_failed i.count i.torn i.area i.shut disk c.self.invariant c.if-self.false new rs run (Some (torn.Given before c.args.records)) refl were

pub returns-in-Err-Torn-clause-survives : goal.returns-in-Err-Torn-clause-survives
returns-in-Err-Torn-clause-survives g c =
    let i = c.self.inside in
    let disk = g.D.Disk.view i.disk in
    let new = g.D.Disk.view c.replace.new.disk in
    let rs = payloads c.args.records.items in
    let given : payloads c.deref.result.now ≡ rs = ap payloads c.deref.ensures.value in
    let run : AnyCrash disk.timeline new.timeline (Either (records_of (reads disk)) rs) = subst (λ (qs : List (List ℕ)). AnyCrash disk.timeline new.timeline (Either (records_of (reads disk)) qs)) given c.replace.ensures.any_crash in
    let before = c.in-Err-Torn.before in
    let were : payloads before.items ≡ records_in i.count i.torn (reads disk) = c.in-Err-Torn.ensures.before before (ap Err c.in-Err-Torn.field-0-is) ∙ all_is i.count i.torn i.area i.shut disk c.self.invariant c.if-self.false in
    kept_survives i.count (Some (torn.Given before c.args.records)) i.area true new (kept_failed i.count i.torn i.area i.shut disk c.self.invariant c.if-self.false new rs run (Some (torn.Given before c.args.records)) refl were)

pub returns-in-Err-Torn-clause-disk : goal.returns-in-Err-Torn-clause-disk
returns-in-Err-Torn-clause-disk g c =
    let i = c.self.inside in
    let disk = g.D.Disk.view i.disk in
    let new = g.D.Disk.view c.replace.new.disk in
    let rs = payloads c.args.records.items in
    let given : payloads c.deref.result.now ≡ rs = ap payloads c.deref.ensures.value in
    let run : AnyCrash disk.timeline new.timeline (Either (records_of (reads disk)) rs) = subst (λ (qs : List (List ℕ)). AnyCrash disk.timeline new.timeline (Either (records_of (reads disk)) qs)) given c.replace.ensures.any_crash in
    let before = c.in-Err-Torn.before in
    let were : payloads before.items ≡ records_in i.count i.torn (reads disk) = c.in-Err-Torn.ensures.before before (ap Err c.in-Err-Torn.field-0-is) ∙ all_is i.count i.torn i.area i.shut disk c.self.invariant c.if-self.false in
    grind (arith, common_steps, were)
