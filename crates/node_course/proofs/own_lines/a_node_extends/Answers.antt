use Rattle.node_course.proofs.Extending.{line_extended}
use Rattle.node_course.proofs.own_lines.a_node_extends.Goals as goal

pub returns : goal.returns
returns g c = λ run lines home nodes course looks n from i line look seat seat' desks journal are at node phase asks_is was adds does now.
    line_extended _ _ run lines home nodes course looks n from i line look seat seat' desks journal are at node phase asks_is was adds does now
