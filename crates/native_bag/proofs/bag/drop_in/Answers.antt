use Rattle.native_bag.proofs.Keeping.{drops_in}
use Rattle.native_bag.proofs.bag.drop_in.Goals as goal

pub returns : goal.returns
returns g c = λ h. drops_in c.in-Some.key c.args.copies.now c.drop_at.new.copies c.pop.new.self.items c.args.keys.now.items c.in-Some.ensures.items c.drop_at.ensures h
