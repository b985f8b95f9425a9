use Rattle.std.proofs.Common.{ap, ◌∙◌}
use Rattle.std.specs.Prelude.{not}
use Rattle.native_loglet.proofs.Copied.{hears_undecided}
use Rattle.native_loglet.proofs.straying.hear_open.Goals as goal

pub returns-then-is_none : goal.returns-then-is_none
returns-then-is_none c = hears_undecided c.args.p.now.outcome c.args.cut c.args.server c.args.errand c.args.told c.args.p.now c.hear_again.new.self (c.is_none.ensures ∙ ap not c.if-is_none.true) c.hear_again.ensures
