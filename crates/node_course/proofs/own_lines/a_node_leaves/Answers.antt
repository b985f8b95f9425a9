use Rattle.node_course.proofs.Leaving.{line_left}
use Rattle.node_course.proofs.own_lines.a_node_leaves.Goals as goal

pub returns : goal.returns
returns g c = λ run lines home nodes course looks n from i line look seat seat' desks desks' journal are at node phase asks_is was taken still adds does now.
    line_left _ _ run lines home nodes course looks n from i line look seat seat' desks desks' taken journal are at node phase asks_is was still adds does now
