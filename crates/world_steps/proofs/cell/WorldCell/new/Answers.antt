use Rattle.std.proofs.Common.{sym, ap, ◌∙◌, subst}
use Rattle.striped_cells.specs.Quorums.{quorum_ways}
use Rattle.striped_cells.specs.Striped.{MayStripe, stripes_like}
use Rattle.world_steps.specs.Cells.{once}
use Rattle.world_steps.specs.Laws.{IsShaped}
use Rattle.world_steps.proofs.Fresh.{may_once, may_twice}
use Rattle.world_steps.proofs.cell.WorldCell.new.Goals as goal

pub new-requires : goal.new-requires
new-requires c =
    let shaped = subst IsShaped c.in-Striped.is c.requires in
    subst (MayStripe quorum_ways c.in-Striped.stripes) (sym c.in_ok-one-in-Striped.ensures) (may_once c.in-Striped.stripes c.in-Striped.each shaped.0 shaped.1)

pub new-requires-in-Nested : goal.new-requires-in-Nested
new-requires-in-Nested c =
    let shaped = subst IsShaped c.in-Nested.is c.requires in
    subst (MayStripe quorum_ways c.in-Nested.inner) (sym c.in_ok-one-in-Nested.ensures) (may_once c.in-Nested.inner c.in-Nested.each shaped.0 shaped.1)

pub new-requires-in-Nested-2 : goal.new-requires-in-Nested-2
new-requires-in-Nested-2 c =
    let shaped = subst IsShaped c.in-Nested.is c.requires in
    let made = c.in_ok-striped-in-Nested.ensures ∙ ap (stripes_like quorum_ways c.in-Nested.inner) c.in_ok-one-in-Nested.ensures in
    subst (MayStripe once c.in-Nested.stripes) (sym made) (may_twice c.in-Nested.stripes c.in-Nested.inner c.in-Nested.each shaped.0 shaped.1 shaped.2)
