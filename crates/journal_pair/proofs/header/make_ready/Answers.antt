use Rattle.std.proofs.Common.{◌≡◌, ℕ, List, []}
use Rattle.disk_model.specs.CrashLaws.{joined}
use Rattle.journal_pair.specs.Records.{records_of}
use Rattle.journal_pair.proofs.Front.{unready_leaves, rest_crash, ready_crash, ready_stands}
use Rattle.journal_pair.proofs.header.make_ready.Goals as goal

abbrev None : List ℕ → Type 0
None b = records_of b ≡ []

pub returns-in_err-write_unready-clause-any_crash : goal.returns-in_err-write_unready-clause-any_crash
returns-in_err-write_unready-clause-any_crash g c = unready_leaves _ _ c.write_unready.ensures.any_crash

pub returns-in_err-cut_behind_first-clause-any_crash : goal.returns-in_err-cut_behind_first-clause-any_crash
returns-in_err-cut_behind_first-clause-any_crash g c =
    joined _ _ _ None (unready_leaves _ _ c.write_unready.ensures.any_crash) (unready_leaves _ _ c.cut_behind_first.ensures.any_crash)

pub returns-in_err-write_synced-clause-any_crash : goal.returns-in_err-write_synced-clause-any_crash
returns-in_err-write_synced-clause-any_crash g c =
    let cut = (g.D.Disk.view c.cut_behind_first.new.disk).timeline in
    let begun = joined _ _ _ None (unready_leaves _ _ c.write_unready.ensures.any_crash) (unready_leaves _ _ c.cut_behind_first.ensures.any_crash) in
    joined _ _ _ None begun (rest_crash cut _ c.in_ok-cut_behind_first.ensures.alone c.in_ok-cut_behind_first.ensures.still_closed c.write_synced.ensures.any_crash)

pub returns-in_err-write_synced-2-clause-any_crash : goal.returns-in_err-write_synced-2-clause-any_crash
returns-in_err-write_synced-2-clause-any_crash g c =
    let cut = (g.D.Disk.view c.cut_behind_first.new.disk).timeline in
    let begun = joined _ _ _ None (unready_leaves _ _ c.write_unready.ensures.any_crash) (unready_leaves _ _ c.cut_behind_first.ensures.any_crash) in
    joined _ _ _ None begun (ready_crash cut _ c.in_ok-cut_behind_first.ensures.alone c.in_ok-cut_behind_first.ensures.still_closed c.in_ok-write_synced.ensures.ok _ c.write_synced.ensures.any_crash c.write_synced-2.ensures.any_crash)

pub returns-clause-any_crash : goal.returns-clause-any_crash
returns-clause-any_crash g c =
    let cut = (g.D.Disk.view c.cut_behind_first.new.disk).timeline in
    let begun = joined _ _ _ None (unready_leaves _ _ c.write_unready.ensures.any_crash) (unready_leaves _ _ c.cut_behind_first.ensures.any_crash) in
    joined _ _ _ None begun (ready_crash cut _ c.in_ok-cut_behind_first.ensures.alone c.in_ok-cut_behind_first.ensures.still_closed c.in_ok-write_synced.ensures.ok _ c.write_synced.ensures.any_crash c.write_synced-2.ensures.any_crash)

pub returns-clause-stands : goal.returns-clause-stands
returns-clause-stands g c =
    let cut = (g.D.Disk.view c.cut_behind_first.new.disk).timeline in
    ready_stands cut (g.D.Disk.view c.write_synced.new.disk).timeline c.in_ok-cut_behind_first.ensures.alone c.in_ok-cut_behind_first.ensures.still_closed c.in_ok-write_synced.ensures.ok (g.D.Disk.view c.write_synced-2.new.disk).timeline c.in_ok-write_synced-2.ensures.ok
