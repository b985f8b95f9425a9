use Rattle.run_ends.proofs.Standing.{no_gap, front_shown}
use Rattle.run_ends.proofs.shown.the_log_stands.Goals as goal
use Rattle.std.proofs.Common.{arith}

pub returns : goal.returns
returns g c = λ seen log cells legal front within reaches shows tail clean.
    let p = g.P.Rules in record {
      whole = no_gap p.law seen legal cells shows tail;
      within = omega (arith, within, tail);
      below = reaches;
      entries = front_shown p.law seen legal cells shows log front reaches;
      clean = clean;
    }
