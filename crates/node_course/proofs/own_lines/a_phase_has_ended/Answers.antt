use Rattle.node_course.proofs.Ending.{phase_ended}
use Rattle.node_course.proofs.own_lines.a_phase_has_ended.Goals as goal

pub returns : goal.returns
returns g c = λ run lines home nodes course looks n from to failed seat seat' desks desks' journal are over was still adds does now.
    phase_ended _ _ run lines home nodes course looks n from to failed seat seat' desks desks' journal are over was still adds does now
