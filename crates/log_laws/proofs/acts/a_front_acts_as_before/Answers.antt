use Rattle.log_laws.proofs.Acting.{front}
use Rattle.log_laws.proofs.acts.a_front_acts_as_before.Goals as goal

pub returns : goal.returns
returns c = front
