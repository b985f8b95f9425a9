use Rattle.std.proofs.Common.{arith, ℕ, ◌+◌, ◌≡◌, subst, Some}
use Rattle.world_steps.specs.Laws.{any_append, any_trim}
use Rattle.world_steps.specs.Parts.{fresh}
use Rattle.world_steps.specs.Logs.{tail_of, shown_in}
use Rattle.world_steps.specs.Steps.{run_world}
use Rattle.world_steps.proofs.Fresh.{later, reached}
use Rattle.world_steps.proofs.WholeLog.{front_has, was, whole_stands, whole_full, whole_grows, whole_shows}
use Rattle.world_steps.proofs.laws.the_log_is_one.Goals as goal

pub returns-clause-grows : goal.returns-clause-grows
returns-clause-grows c = λ shapes nodes early late shelf a b.
    let w = run_world early (fresh shapes nodes) in
    let law = reached shapes nodes early shelf a in
    whole_grows w law (run_world late w) (later late w law b)

pub returns-clause-shows : goal.returns-clause-shows
returns-clause-shows c = λ shapes nodes early late shelf a b.
    let w = run_world early (fresh shapes nodes) in
    let law = reached shapes nodes early shelf a in
    whole_shows w law (run_world late w) (later late w law b)

pub returns-clause-was : goal.returns-clause-was
returns-clause-was c = λ shapes nodes steps shelf a pos e h.
    let w = run_world steps (fresh shapes nodes) in
    let at : 0 + pos ≡ pos = omega arith in
    let x = was shapes nodes steps shelf a pos e (subst (λ p. shown_in w p ≡ Some e) at (front_has (shown_in w) 0 (tail_of w) pos e h)) in
    (x.early, x.late, x.parts, x.log)

pub returns-clause-stands : goal.returns-clause-stands
returns-clause-stands c = λ shapes nodes steps shelf a. whole_stands (run_world steps (fresh shapes nodes)) (reached shapes nodes steps shelf a)

pub returns-clause-whole : goal.returns-clause-whole
returns-clause-whole c = λ shapes nodes steps shelf a. whole_full (run_world steps (fresh shapes nodes)) (reached shapes nodes steps shelf a)
