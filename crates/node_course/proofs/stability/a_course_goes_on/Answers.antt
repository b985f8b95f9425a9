use Rattle.node_course.proofs.Joining.{goes_none, goes_both}
use Rattle.node_course.proofs.stability.a_course_goes_on.Goals as goal

pub returns-clause-none : goal.returns-clause-none
returns-clause-none c = λ course.
    goes_none course

pub returns-clause-more : goal.returns-clause-more
returns-clause-more c = λ first second third h k.
    goes_both first second third h k
