use Rattle.std.proofs.Common.{ap}
use Rattle.disk_model.specs.Disk.{content, at_rest}
use Rattle.disk_model.specs.CrashLaws.{one_step, joined}
use Rattle.journal_pair.specs.Cut.{IsCut}
use Rattle.journal_pair.proofs.Cutting.{before_leaves, pending_leaves, done_leaves, cut_content}
use Rattle.journal_pair.proofs.cut.cut_synced.Goals as goal

pub returns-in_err-cut-clause-any_crash : goal.returns-in_err-cut-clause-any_crash
returns-in_err-cut-clause-any_crash g c =
    let m = (g.D.Disk.view c.args.disk.now).timeline.now in
    let P = IsCut (content m) c.args.len in
    one_step _ _ _ P c.cut.ensures.time (before_leaves m c.args.len c.requires) (pending_leaves m c.args.len c.requires)

pub returns-then-is_err-clause-any_crash : goal.returns-then-is_err-clause-any_crash
returns-then-is_err-clause-any_crash g c =
    let m = (g.D.Disk.view c.args.disk.now).timeline.now in
    let P = IsCut (content m) c.args.len in
    let cut = one_step _ _ _ P c.cut.ensures.time (before_leaves m c.args.len c.requires) (pending_leaves m c.args.len c.requires) in
    let done = done_leaves m c.args.len c.requires _ (ap at_rest (cut_content m c.args.len c.requires _ c.in_ok-cut.ensures.ok.0)) in
    joined _ _ _ P cut (one_step _ _ _ P c.sync.ensures.time cut.last done)

pub returns-clause-any_crash : goal.returns-clause-any_crash
returns-clause-any_crash g c =
    let m = (g.D.Disk.view c.args.disk.now).timeline.now in
    let P = IsCut (content m) c.args.len in
    let cut = one_step _ _ _ P c.cut.ensures.time (before_leaves m c.args.len c.requires) (pending_leaves m c.args.len c.requires) in
    let done = done_leaves m c.args.len c.requires _ (ap at_rest (cut_content m c.args.len c.requires _ c.in_ok-cut.ensures.ok.0)) in
    joined _ _ _ P cut (one_step _ _ _ P c.sync.ensures.time cut.last done)
