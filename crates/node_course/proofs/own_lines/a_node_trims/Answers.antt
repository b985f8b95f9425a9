use Rattle.node_course.proofs.Trimming.{line_trimmed}
use Rattle.node_course.proofs.own_lines.a_node_trims.Goals as goal

pub returns : goal.returns
returns g c = λ run lines home nodes course looks n from i line look seat seat' desks journal are at node phase asks_is was still adds does now.
    line_trimmed _ _ run lines home nodes course looks n from i line look seat seat' desks journal are at node phase asks_is was still adds does now
