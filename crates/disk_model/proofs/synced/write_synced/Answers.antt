use Rattle.std.proofs.Common.{length, refl, ap}
use Rattle.disk_model.specs.Disk.{Written, content, with_change, at_rest}
use Rattle.disk_model.specs.CrashLaws.{one_step, joined}
use Rattle.disk_model.specs.Torn.{IsTorn}
use Rattle.disk_model.proofs.Tear.{before_leaves, pending_leaves, done_leaves, written_content}
use Rattle.disk_model.proofs.synced.write_synced.Goals as goal

pub returns-in_err-write_at-clause-any_crash : goal.returns-in_err-write_at-clause-any_crash
returns-in_err-write_at-clause-any_crash g c =
    let m = (g.D.Disk.view c.args.disk.now).timeline.now in
    let bytes = c.args.bytes.now in
    let P = IsTorn (content m) c.args.at (length bytes) in
    let here = before_leaves m c.args.at bytes c.requires.synced c.requires.inside in
    let there = pending_leaves m c.args.at bytes c.requires.synced c.requires.inside (with_change m (Written c.args.at bytes)) refl in
    one_step _ _ _ P c.write_at.ensures.time here there

pub returns-then-is_err-clause-any_crash : goal.returns-then-is_err-clause-any_crash
returns-then-is_err-clause-any_crash g c =
    let m = (g.D.Disk.view c.args.disk.now).timeline.now in
    let bytes = c.args.bytes.now in
    let P = IsTorn (content m) c.args.at (length bytes) in
    let here = before_leaves m c.args.at bytes c.requires.synced c.requires.inside in
    let there = pending_leaves m c.args.at bytes c.requires.synced c.requires.inside (with_change m (Written c.args.at bytes)) refl in
    let written = one_step _ _ _ P c.write_at.ensures.time here there in
    let done = done_leaves m c.args.at bytes c.requires.synced c.requires.inside _ (ap at_rest (written_content m c.args.at bytes c.requires.synced c.requires.inside _ c.in_ok-write_at.ensures.ok.0)) in
    joined _ _ _ P written (one_step _ _ _ P c.sync.ensures.time written.last done)

pub returns-clause-any_crash : goal.returns-clause-any_crash
returns-clause-any_crash g c =
    let m = (g.D.Disk.view c.args.disk.now).timeline.now in
    let bytes = c.args.bytes.now in
    let P = IsTorn (content m) c.args.at (length bytes) in
    let here = before_leaves m c.args.at bytes c.requires.synced c.requires.inside in
    let there = pending_leaves m c.args.at bytes c.requires.synced c.requires.inside (with_change m (Written c.args.at bytes)) refl in
    let written = one_step _ _ _ P c.write_at.ensures.time here there in
    let done = done_leaves m c.args.at bytes c.requires.synced c.requires.inside _ (ap at_rest (written_content m c.args.at bytes c.requires.synced c.requires.inside _ c.in_ok-write_at.ensures.ok.0)) in
    joined _ _ _ P written (one_step _ _ _ P c.sync.ensures.time written.last done)
