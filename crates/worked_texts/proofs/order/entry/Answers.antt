use Rattle.std.proofs.Common.{ap, arith, length, length-append, [], ◌∷◌}
use Rattle.std.proofs.lemmas.List.Elements.{All-push}
use Rattle.engine_api.specs.Packing.{IsProposable}
use Rattle.worked_texts.proofs.order.entry.Goals as goal

pub loop-rank-preserved : goal.loop-rank-preserved
loop-rank-preserved c = record {
  each = rw c.in_ok-push.ensures.items (All-push IsProposable c.loop-rank.items.items c.in_ok-item.item c.loop-rank.invariant.each c.in_ok-item.ensures);
  count = omega (arith, ap length c.in_ok-push.ensures.items, length-append c.loop-rank.items.items (c.in_ok-item.item ∷ []));
}
