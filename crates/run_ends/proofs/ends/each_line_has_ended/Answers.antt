use Rattle.run_ends.proofs.Lines.{lines_ended}
use Rattle.run_ends.proofs.Rules.{session_home}
use Rattle.std.proofs.Common.{length}
use Rattle.run_ends.proofs.ends.each_line_has_ended.Goals as goal

pub returns : goal.returns
returns g c = let p = g.P.Rules in let replica = g.S.Replica in λ run lines fault_lines rows journal looks log workers mine h are.
    lines_ended p.law replica.meaning run lines fault_lines journal looks log workers h (λ s user r e allowed has. session_home lines h.home (length workers) h.lines_are s user r e (mine user e allowed) has) c.what_acts_is_told.ensures rows are
