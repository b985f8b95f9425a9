use Rattle.base_engine.proofs.Arming.{arming_recovered, arming_down, arming_unopened, shut_down, shut_unopened, twice_down, down_rose}
use Rattle.base_engine.proofs.play.recover.Goals as goal

pub returns-in-Done-clause-arming : goal.returns-in-Done-clause-arming
returns-in-Done-clause-arming g c = let r = g.R.Replica in arming_recovered c.args.word (r.shows c.args.replica.now) (r.shows c.reopen.new.self) c.in-Done.ensures.reopens

pub returns-in-DiskFault-clause-arming : goal.returns-in-DiskFault-clause-arming
returns-in-DiskFault-clause-arming g c = let r = g.R.Replica in arming_down c.args.word (r.shows c.args.replica.now) (r.shows c.reopen.new.self) c.in-DiskFault.ensures.reopens

pub returns-in-Memory-clause-arming : goal.returns-in-Memory-clause-arming
returns-in-Memory-clause-arming g c = let r = g.R.Replica in arming_unopened c.args.word (r.shows c.args.replica.now) (r.shows c.reopen.new.self) c.in-Memory.ensures.reopens

pub returns-in-DiskFault-clause-down : goal.returns-in-DiskFault-clause-down
returns-in-DiskFault-clause-down g c = let r = g.R.Replica in shut_down c.args.word (r.shows c.args.replica.now) (r.shows c.reopen.new.self) c.in-DiskFault.ensures.reopens

pub returns-in-Memory-clause-down : goal.returns-in-Memory-clause-down
returns-in-Memory-clause-down g c = let r = g.R.Replica in shut_unopened c.args.word (r.shows c.args.replica.now) (r.shows c.reopen.new.self) c.in-Memory.ensures.reopens

pub returns-in-DiskFault-clause-twice : goal.returns-in-DiskFault-clause-twice
returns-in-DiskFault-clause-twice g c = λ is. let r = g.R.Replica in twice_down c.args.word (r.shows c.args.replica.now) (r.shows c.reopen.new.self) c.in-DiskFault.ensures.reopens

pub returns-in-DiskFault-clause-rose : goal.returns-in-DiskFault-clause-rose
returns-in-DiskFault-clause-rose g c = λ is. let r = g.R.Replica in down_rose c.args.word (r.shows c.args.replica.now) (r.shows c.reopen.new.self) c.in-DiskFault.ensures.reopens
