use Rattle.node_course.proofs.Looking.{line_looked}
use Rattle.node_course.proofs.own_lines.a_read_has_looked.Goals as goal

pub returns : goal.returns
returns g c = λ run lines home nodes course looks n from i line session query desk look seat seat' desks journal are begins at node phase asks_is was still adds desk_at does now.
    line_looked _ _ run lines home nodes course looks n from i line session query desk look seat seat' desks journal are begins at node phase asks_is was still adds desk_at does now
