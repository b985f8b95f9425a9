use Rattle.std.proofs.Common.{◌≡◌, ℕ, ap, subst}
use Rattle.local_store.specs.View as store
use Rattle.replica_api.specs.Replica.{armed_by}
use Rattle.local_replica.specs.Shown.{shown}
use Rattle.local_replica.proofs.Showing.{counts_one, armed_so}
use Rattle.local_replica.proofs.applying.stop.Goals as goal

pub returns-clause-shows : goal.returns-clause-shows
returns-clause-shows g c = λ o w r.
    subst (λ (n : ℕ). shown c.stop.new.self o w n r ≡ armed_by (shown c.args.store.now o w c.args.stops.now r) c.args.after) (counts_one c.args.stops.now c.saturating_add.result c.saturating_add.ensures)
    (armed_so c.args.store.now c.stop.new.self c.args.after o w c.args.stops.now r c.stop.ensures.stops c.stop.ensures.arms)

pub returns-clause-contents : goal.returns-clause-contents
returns-clause-contents g c = ap (λ (v : store.View). v.contents) c.stop.ensures.stops
