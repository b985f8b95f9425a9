use Rattle.log_laws.proofs.Acting.{in_order}
use Rattle.log_laws.proofs.acts.acts_are_in_order.Goals as goal

pub returns : goal.returns
returns c = in_order
