use Rattle.std.proofs.Common.{◌≡◌, rules}
use Rattle.fitting_run.specs.Acts.{placed_acts}
use Rattle.fitting_run.proofs.Turning.{all-show}
use Rattle.fitting_run.proofs.acting.reads_show.Goals as goal

pub returns : goal.returns
returns c =
    let acts : c.as_slice.result.now ≡ placed_acts c.args.told.now = search rules in
    all-show c.args.told.now c.as_slice.result.now c.all_show.result acts c.all_show.ensures
