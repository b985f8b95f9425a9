use Rattle.std.proofs.Common.{[], sym, ap, subst, ◌∙◌}
use Rattle.log_laws.specs.State.{IsStateOf}
use Rattle.local_store.specs.View as store
use Rattle.worked_nodes.proofs.Resting.{none_asked_so, survives_so}
use Rattle.worked_nodes.proofs.house.fresh_node.Goals as goal

pub new-requires-clause-empty : goal.new-requires-clause-empty
new-requires-clause-empty g c = subst (IsStateOf []) (sym (ap (λ (v : store.View). v.contents) c.new-replica.ensures.store ∙ c.requires.store.empty)) c.starts_empty.ensures

pub new-requires-clause-start : goal.new-requires-clause-start
new-requires-clause-start g c = ap (λ (v : store.View). v.cursor) c.new-replica.ensures.store ∙ c.requires.store.start

pub new-requires-clause-none_asked : goal.new-requires-clause-none_asked
new-requires-clause-none_asked g c = none_asked_so _ _ c.new-replica.result.origin (g.E.Layers.waiting c.new-replica.result.engines) c.new-replica.result.stops c.new-replica.result.reopenings c.new-replica.ensures.store c.requires.store.none_asked

pub new-requires-clause-nothing_waits : goal.new-requires-clause-nothing_waits
new-requires-clause-nothing_waits g c = ap g.E.Layers.waiting c.new-replica.ensures.engines ∙ c.requires.waiting

pub new-requires-clause-survives : goal.new-requires-clause-survives
new-requires-clause-survives g c = survives_so _ _ c.new-replica.result.origin (g.E.Layers.waiting c.new-replica.result.engines) c.new-replica.result.stops c.new-replica.result.reopenings c.new-replica.ensures.store c.requires.store.survives
