use Rattle.std.proofs.Common.{◌≡◌, ℕ, ◌+◌, List, take, refl, sym, ap, subst}
use Rattle.disk_model.specs.Disk.{Timeline, content}
use Rattle.disk_model.specs.Crash.{AnyCrash}
use Rattle.disk_model.specs.CrashLaws.{stays, weaker}
use Rattle.disk_model.proofs.Tear.{synced_is}
use Rattle.journal_pair.specs.declared.area.Area.{Area}
use Rattle.journal_pair.specs.Cut.{IsCut}
use Rattle.journal_pair.specs.Records.{records_of}
use Rattle.journal_pair.specs.Layout.{Stands}
use Rattle.journal_pair.proofs.Areas.{stands_records}
use Rattle.journal_pair.proofs.Moving.{cut_stands, cut_done}
use Rattle.journal_pair.proofs.compact.cut_behind.Goals as goal

abbrev Same : Timeline → Timeline → Type 0
Same old new = AnyCrash old new (λ (c : List ℕ). records_of c ≡ records_of (content old.now))

cutting : (old new : Timeline) (a : Area) → Stands (records_of (content old.now)) a (content old.now) → AnyCrash old new (IsCut (content old.now) (a.base + a.len + 1)) → Same old new
cutting old new a stands run = weaker old new _ (λ (c : List ℕ). records_of c ≡ records_of (content old.now)) (λ c cut.
    stands_records (records_of (content old.now)) a c (cut_stands (records_of (content old.now)) a (content old.now) c stands cut)) run

pub returns-then-len-end-clause-any_crash : goal.returns-then-len-end-clause-any_crash
returns-then-len-end-clause-any_crash g c =
    let old = (g.D.Disk.view c.args.disk.now).timeline in
    stays old old (λ (b : List ℕ). records_of b ≡ records_of (content old.now)) refl (λ f image. ap records_of (synced_is old.now c.requires.synced f image))

pub returns-in-Err-Failed-clause-any_crash : goal.returns-in-Err-Failed-clause-any_crash
returns-in-Err-Failed-clause-any_crash g c = cutting _ _ c.args.area c.requires.stands c.cut_synced.ensures.any_crash

pub returns-in-Ok-clause-any_crash : goal.returns-in-Ok-clause-any_crash
returns-in-Ok-clause-any_crash g c = cutting _ _ c.args.area c.requires.stands c.cut_synced.ensures.any_crash

pub returns-in-Err-Memory-clause-any_crash : goal.returns-in-Err-Memory-clause-any_crash
returns-in-Err-Memory-clause-any_crash g c = cutting _ _ c.args.area c.requires.stands c.cut_synced.ensures.any_crash

pub returns-in-Ok-clause-ok : goal.returns-in-Ok-clause-ok
returns-in-Ok-clause-ok g c =
    let old = content (g.D.Disk.view c.args.disk.now).timeline.now in
    let a = c.args.area in
    let n = a.base + a.len + 1 in
    subst (Stands (records_of old) a) (sym (ap content c.in-Ok.ensures.ok)) (cut_stands (records_of old) a old (take n old) c.requires.stands (cut_done old n))
