use Rattle.world_steps.proofs.NoGap.{no_gap}
use Rattle.world_steps.proofs.laws.the_log_has_no_gap.Goals as goal

pub returns : goal.returns
returns g c = λ within shapes nodes steps shelf keeps. no_gap g.P.Rules.law.may g.P.Rules.law.floor within shapes nodes steps shelf keeps
