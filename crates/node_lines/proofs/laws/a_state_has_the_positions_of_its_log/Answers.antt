use Rattle.node_lines.proofs.Floors.{least-in_state, point-in_state}
use Rattle.node_lines.proofs.laws.a_state_has_the_positions_of_its_log.Goals as goal

pub returns-clause-least : goal.returns-clause-least
returns-clause-least c = λ nodes log m s. least-in_state nodes log m s

pub returns-clause-point : goal.returns-clause-point
returns-clause-point c = λ log m s. point-in_state log m s
