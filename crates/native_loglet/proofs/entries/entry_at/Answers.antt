use Rattle.std.proofs.Common.{arith}
use Rattle.native_loglet.proofs.Rules.{kept_within, found_at}
use Rattle.native_loglet.proofs.entries.entry_at.Goals as goal

pub overflow_sub-place : goal.overflow_sub-place
overflow_sub-place c = (kept_within c.args.entries.now.items c.args.cut c.args.place c.requires).0

pub index-requires : goal.index-requires
index-requires c = (let here = kept_within c.args.entries.now.items c.args.cut c.args.place c.requires in omega (arith, here.1, c.args.entries.now.ok.0))

pub returns : goal.returns
returns c = found_at c.args.entries.now.items c.args.cut c.args.place c.index.result.now (kept_within c.args.entries.now.items c.args.cut c.args.place c.requires) c.index.ensures
