use Rattle.std.proofs.Common.{All, sym, subst}
use Rattle.std.proofs.lemmas.List.Elements.{All-push}
use Rattle.engine_api.specs.Packing.{IsProposable}
use Rattle.worked_runs.proofs.logs.items_at.Goals as goal

pub loop-item-preserved : goal.loop-item-preserved
loop-item-preserved c =
    subst (All IsProposable) (sym c.in_ok-push.ensures.items)
    (All-push IsProposable c.loop-item.here.items c.in_ok-item_of.field-0 c.loop-item.invariant c.in_ok-item_of.ensures)
