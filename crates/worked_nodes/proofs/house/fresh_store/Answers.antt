use Rattle.disk_model.specs.Disk.{reads}
use Rattle.worked_nodes.proofs.Resting.{new_store}
use Rattle.worked_nodes.proofs.house.fresh_store.Goals as goal

pub returns : goal.returns
returns g c =
    let s = c.in-Ok.store in
    let e = c.in-Ok.ensures in
    new_store s (reads (g.D.Disk.view c.args.disk)) c.requires.empty e.spelled (e.survives.whole e.up) e.survives
