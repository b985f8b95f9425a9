use Rattle.std.proofs.Common.{◌≡◌, ◌-◌, ◌+◌, length, subst, sym, ap, arith}
use Rattle.run_ends.specs.Ends.{cursor_at, cursor_of}
use Rattle.run_ends.proofs.Ending.{played_lines, run_ended}
use Rattle.run_ends.proofs.Sessions.{legal}
use Rattle.run_ends.proofs.Turns.{some_at}
use Rattle.node_lines.specs.Workers.{ReportsUpTo}
use Rattle.run_ends.proofs.ends.what_closed_has_ended.Goals as goal

pub returns : goal.returns
returns g c = let p = g.P.Rules in let replica = g.S.Replica in λ run lines fault_lines journal looks log workers o yard mine floor_is h are end back told registered. (
  played_lines p.law replica.meaning run lines fault_lines journal looks log workers o yard mine floor_is h are end back told registered,
  run_ended p.law replica.meaning run lines fault_lines journal looks log workers o yard mine floor_is h are end back told registered
      (λ below reached clean. c.the_log_stands.ensures journal log yard.cells back.legal h.front below reached back.shows back.tail clean)
      (c.each_line_has_ended.ensures run lines fault_lines o.rows journal looks log workers mine h are)
      (λ s. c.each_session_has_ended.ensures run lines fault_lines o.rows journal looks log workers s h are)
      (c.the_faults_were_counted.ensures run lines fault_lines o.rows journal looks log workers o yard h are back)
      (λ k low high. c.what_is_trimmed_was_told.ensures.each run lines h.home (length workers) h.run looks h.courses k floor_is h.joined low high)
      (c.what_is_trimmed_was_told.ensures.some (length workers) h.run.seen (cursor_of workers) floor_is (legal p.law replica.meaning lines fault_lines journal looks log workers h) (λ k low high.
      let w = some_at workers (k - 1) (omega (arith, low, high)) in
      let same : k ≡ k - 1 + 1 = omega (arith, low) in
      let seen = (h.joined.part (k - 1 + 1) (omega (arith, low)) (omega (arith, low, high))).seen in
      let reports = (h.each (k - 1) w.0 w.1).rests.node.reports in
      subst (λ n. ReportsUpTo k n h.run.seen) (sym (ap cursor_at w.1)) (subst (λ n. ReportsUpTo n w.0.seat.node.replica.cursor h.run.seen) (sym same) (subst (ReportsUpTo (k - 1 + 1) w.0.seat.node.replica.cursor) seen reports)))),
)
