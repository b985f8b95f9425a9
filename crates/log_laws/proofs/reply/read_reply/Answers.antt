use Rattle.std.proofs.Common.{ap}
use Rattle.std.proofs.Math.Facts.{Fits-lt-pow}
use Rattle.log_laws.proofs.Readings.{reply_of, told_by, only_by}
use Rattle.log_laws.proofs.reply.read_reply.Goals as goal

pub returns-clause-told : goal.returns-clause-told
returns-clause-told c = told_by c.args.text.now _ c.reply_with.result (ap reply_of c.in-Some.ensures.cases.0) c.reply_with.ensures

pub returns-clause-only : goal.returns-clause-only
returns-clause-only c = only_by c.args.text.now _ c.reply_with.result (λ i. Fits-lt-pow (c.type_inv.text i)) (ap reply_of c.in-Some.ensures.cases.0) c.reply_with.ensures
