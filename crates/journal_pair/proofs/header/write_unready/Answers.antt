use Rattle.std.proofs.Common.{◌≡◌, ◌≤◌, false, ℕ, List, length, get_or, ◌∙◌, ap, subst}
use Rattle.disk_model.specs.Disk.{Timeline, content}
use Rattle.disk_model.specs.Crash.{AnyCrash}
use Rattle.disk_model.specs.Torn.{IsTorn}
use Rattle.disk_model.specs.CrashLaws.{stays, weaker}
use Rattle.disk_model.proofs.Tear.{synced_is}
use Rattle.journal_pair.specs.Records.{is_ready}
use Rattle.journal_pair.proofs.Front.{first_torn}
use Rattle.journal_pair.proofs.header.write_unready.Goals as goal

-- the first byte is written where it doesn't say so yet
written : (old mid new : Timeline) → mid ≡ old → is_ready (content old.now) ≡ false → (1 ≤ length (content old.now) → get_or (content old.now) 0 0 ≡ 1) → AnyCrash mid new (IsTorn (content mid.now) 0 1) → AnyCrash old new (λ (b : List ℕ). is_ready b ≡ false)
written old mid new same unready said run =
    let here : AnyCrash old new (IsTorn (content old.now) 0 1) = subst (λ (l : Timeline). AnyCrash l new (IsTorn (content l.now) 0 1)) same run in
    weaker old new _ (λ (b : List ℕ). is_ready b ≡ false) (λ f torn. first_torn (content old.now) f unready said torn) here

pub returns-in_err-says_unready-clause-any_crash : goal.returns-in_err-says_unready-clause-any_crash
returns-in_err-says_unready-clause-any_crash g c =
    let old = (g.D.Disk.view c.args.disk.now).timeline in
    stays old _ (λ (b : List ℕ). is_ready b ≡ false) c.says_unready.ensures.same (λ f image. ap is_ready (synced_is old.now c.requires.synced f image) ∙ c.requires.unready)

pub returns-then-branch-clause-any_crash : goal.returns-then-branch-clause-any_crash
returns-then-branch-clause-any_crash g c =
    let old = (g.D.Disk.view c.args.disk.now).timeline in
    stays old _ (λ (b : List ℕ). is_ready b ≡ false) c.says_unready.ensures.same (λ f image. ap is_ready (synced_is old.now c.requires.synced f image) ∙ c.requires.unready)

pub returns-in_err-write_synced-clause-any_crash : goal.returns-in_err-write_synced-clause-any_crash
returns-in_err-write_synced-clause-any_crash g c =
    let old = (g.D.Disk.view c.args.disk.now).timeline in
    written old (g.D.Disk.view c.says_unready.new.disk).timeline (g.D.Disk.view c.write_synced.new.disk).timeline c.says_unready.ensures.same c.requires.unready (c.in_ok-says_unready.ensures.unsaid c.if-branch.false) c.write_synced.ensures.any_crash

pub returns-clause-any_crash : goal.returns-clause-any_crash
returns-clause-any_crash g c =
    let old = (g.D.Disk.view c.args.disk.now).timeline in
    written old (g.D.Disk.view c.says_unready.new.disk).timeline (g.D.Disk.view c.write_synced.new.disk).timeline c.says_unready.ensures.same c.requires.unready (c.in_ok-says_unready.ensures.unsaid c.if-branch.false) c.write_synced.ensures.any_crash
