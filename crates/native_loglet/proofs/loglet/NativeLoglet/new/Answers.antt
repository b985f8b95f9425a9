use Rattle.native_loglet.proofs.Starting.{new_owned, new_shows, new_cell}
use Rattle.native_loglet.proofs.loglet.NativeLoglet.new.Goals as goal

pub invariant_of-result : goal.invariant_of-result
invariant_of-result g c = new_owned c.args.room c.new.result.items c.args.replicas.items c.new-2.result c.new-3.result.entries c.new-4.result c.requires.count c.requires.fresh c.requires.room c.new.ensures.items c.new-2.ensures c.new-3.ensures.empty c.new-4.ensures

pub returns-clause-fresh : goal.returns-clause-fresh
returns-clause-fresh g c = new_shows c.args.room c.new.result.items c.args.replicas.items c.new-2.result c.new-3.result.entries c.new-4.result c.requires.count c.requires.fresh c.requires.room c.new.ensures.items c.new-2.ensures c.new-3.ensures.empty c.new-4.ensures

pub returns-clause-cell : goal.returns-clause-cell
returns-clause-cell g c = new_cell c.args.room c.new.result.items c.args.replicas.items c.new-2.result c.new-3.result.entries c.new-4.result c.requires.count c.requires.fresh c.requires.room c.new.ensures.items c.new-2.ensures c.new-3.ensures.empty c.new-4.ensures
