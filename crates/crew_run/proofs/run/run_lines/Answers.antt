use Rattle.std.proofs.Common.{length, map}
use Rattle.crew_run.proofs.Running.{sends_all}
use Rattle.crew_run.proofs.run.run_lines.Goals as goal

pub run_by-requires-clause-run : goal.run_by-requires-clause-run
run_by-requires-clause-run g c κs within = c.lines_may_run.ensures c.args.lines.now (length c.args.nodes.items) (map (λ v. v.servers) (map g.L.Loglet.view c.args.cells.items))

pub run_by-requires-clause-floor : goal.run_by-requires-clause-floor
run_by-requires-clause-floor g c κs within = c.the_floor_is.ensures (length c.args.nodes.items)

pub run_by-requires-clause-sends : goal.run_by-requires-clause-sends
run_by-requires-clause-sends g c κs within = sends_all c.args.lines.now c.requires.lines.0 (length c.args.nodes.items) c.requires.lines.1 c.requires.spelled (c.lines_are_sent.ensures c.args.lines.now) (c.reports_are_sent.ensures c.args.lines.now) (c.leaves_are_sent.ensures c.args.lines.now) (c.trims_are_sent.ensures c.args.lines.now)
    (c.a_session_is_of_one_node.ensures c.args.lines.now c.requires.lines.0 (length c.args.nodes.items) c.requires.lines.1)
