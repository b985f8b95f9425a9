use Rattle.log_laws.proofs.Telling.{all_told}
use Rattle.log_laws.proofs.texts.what_acts_is_told.Goals as goal

pub returns : goal.returns
returns c = all_told
