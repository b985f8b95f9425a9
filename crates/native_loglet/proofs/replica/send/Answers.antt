use Rattle.std.proofs.Common.{ap}
use Rattle.quorum_cell.specs.declared.message.Ask.TheVariants as asks
use Rattle.native_ties.specs.Parts.{asked_by}
use Rattle.native_loglet.proofs.Rules.{kept_spelled, plain_answers, read_told}
use Rattle.native_loglet.proofs.replica.send.Goals as goal

pub returns-in-Seal-clause-answers : goal.returns-in-Seal-clause-answers
returns-in-Seal-clause-answers g c = plain_answers c.args.entries.now.items c.args.cut c.args.errand asks.Seal c.seal.result _ _ (ap (asked_by c.args.entries.now.items c.args.cut) c.in-Seal.is) c.seal.ensures.answers

pub returns-in-Trim-clause-answers : goal.returns-in-Trim-clause-answers
returns-in-Trim-clause-answers g c = plain_answers c.args.entries.now.items c.args.cut c.args.errand (asks.Trim c.args.cut) c.trim.result _ _ (ap (asked_by c.args.entries.now.items c.args.cut) c.in-Trim.is) c.trim.ensures.answers

pub returns-in-Read-clause-answers : goal.returns-in-Read-clause-answers
returns-in-Read-clause-answers g c = plain_answers c.args.entries.now.items c.args.cut c.args.errand (asks.Read c.in-Read.place) c.read.result _ _ (ap (asked_by c.args.entries.now.items c.args.cut) c.in-Read.is) (read_told _ c.in-Read.place c.read.result c.read.ensures.answer)

pub store-requires-clause-entry : goal.store-requires-clause-entry
store-requires-clause-entry g c = kept_spelled c.args.entries.now.items c.args.cut c.in-Store.place _ c.requires.spelled c.entry_at.ensures

pub repair-requires-clause-entry : goal.repair-requires-clause-entry
repair-requires-clause-entry g c = kept_spelled c.args.entries.now.items c.args.cut c.in-Repair.place _ c.requires.spelled c.entry_at-in-Repair.ensures
