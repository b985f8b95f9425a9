use Rattle.node_course.proofs.Finishing.{node_finished}
use Rattle.node_course.proofs.own_lines.a_node_finishes.Goals as goal

pub returns : goal.returns
returns g c = λ run lines home nodes course looks n from done seat seat' desks journal begins low r still adds moves same now.
    node_finished _ _ run lines home nodes course looks n from done seat seat' desks journal begins low r still adds moves same now
