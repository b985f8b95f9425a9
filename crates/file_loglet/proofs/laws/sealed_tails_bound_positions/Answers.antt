use Rattle.file_loglet.proofs.Runs.{placed_below}
use Rattle.file_loglet.proofs.laws.sealed_tails_bound_positions.Goals as goal

pub returns : goal.returns
returns c = λ before after calls cell append find position tail h r placed sealed. placed_below before after calls cell append find position tail h r placed sealed
