use Rattle.std.proofs.Common.{length, map}
use Rattle.run_ends.specs.Rules.{law_of}
use Rattle.crew_run.proofs.run.run_lines.Given as goal

abbrev pub ghosts-run_by : goal.ghosts-run_by
ghosts-run_by g a = record { law = law_of a.lines.now (length a.nodes.items) (map (λ v. v.servers) (map g.L.Loglet.view a.cells.items)); kinds = map (λ v. v.kind) (map g.L.Loglet.view a.cells.items) }
