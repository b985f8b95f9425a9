use Rattle.made_script.proofs.Spelled.{made-script}
use Rattle.made_script.proofs.laws.a_made_script_is_one.Goals as goal

pub returns : goal.returns
returns c = made-script
