use Rattle.std.proofs.Common.{subst, slice_index_or}
use Rattle.pass_lock_rows.specs.Turns.{Maker, Worked}
use Rattle.pass_lock_rows.proofs.office.work_all.Goals as goal

pub returns : goal.returns
returns g c = record { each = λ i d h. let k = (c.for_each_mut.ensures i d h).1 in subst (λ (x : Maker). Worked c.args.turns x (slice_index_or c.for_each_mut.new.s i d)) k.argument_is (subst (λ (y : Maker). Worked c.args.turns k.argument.now y) k.left k.call) }
