use Rattle.log_laws.proofs.Acting.{appeared}
use Rattle.log_laws.proofs.acts.an_act_has_appeared.Goals as goal

pub returns : goal.returns
returns c = appeared
