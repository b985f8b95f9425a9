use Rattle.node_course.proofs.Logging.{line_logged}
use Rattle.node_course.proofs.own_lines.a_command_is_logged.Goals as goal

pub returns : goal.returns
returns g c = λ run lines home nodes course looks n from i line session rank command seat seat' desks desks' journal are at node phase asks_is was still adds logs now.
    line_logged _ _ run lines home nodes course looks n from i line session rank command seat seat' desks desks' journal are at node phase asks_is was still adds logs now
