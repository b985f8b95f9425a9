use Rattle.std.proofs.Common.{Some, ap, sym, ◌∙◌}
use Rattle.file_loglet.proofs.Laters.{got_at}
use Rattle.file_loglet.proofs.decide.entry_at.Goals as goal

pub returns : goal.returns
returns c = got_at c.args.entries.now c.args.position c.index-entries-position.result c.requires.within c.index-entries-position.is ∙ ap Some (sym c.in_ok-entry.ensures.cases)
