use Rattle.std.proofs.Common.{◌∙◌, length, map}
use Rattle.node_course.proofs.Lines.{at_get}
use Rattle.script_runner.proofs.Faultless.{no_fault_lines}
use Rattle.script_runner.proofs.Shelves.{each_fresh, kinds_of_engines, same_kinds}
use Rattle.script_runner.proofs.over.play.Goals as goal

pub run_lines-shelf-requires-clause-fresh : goal.run_lines-shelf-requires-clause-fresh
run_lines-shelf-requires-clause-fresh g c κs within = each_fresh g.L.Loglet.view c.args.yard.shelf.items c.requires.cells

pub run_lines-shelf-requires-clause-faults : goal.run_lines-shelf-requires-clause-faults
run_lines-shelf-requires-clause-faults g c κs within = no_fault_lines c.args.lines.now (map (λ v. v.servers) (map g.L.Loglet.view c.args.yard.shelf.items)) (length c.in-Ok.nodes.items)

pub run_lines-shelf-requires-clause-nodes : goal.run_lines-shelf-requires-clause-nodes
run_lines-shelf-requires-clause-nodes g c κs within = λ j n at. record { fresh = c.in-Ok.ensures.fresh j n at; counted = at_get _ c.in-Ok.nodes.items j n c.in-Ok.ensures.counted at }

pub returns-in-Ok-clause-engines : goal.returns-in-Ok-clause-engines
returns-in-Ok-clause-engines g c =
    same_kinds (λ k. g.E.Layers.kinds k.engines) (λ k. g.E.Layers.waiting k.engines) (λ k. g.D.Disk.view k.disk) c.close_all.new.parts.items c.args.yard.nodes.items
    (c.close_all.ensures.size ∙ (c.run_lines-shelf.ensures.size ∙ c.in-Ok.ensures.size)) c.close_all.ensures.kinds c.requires.parts

pub returns-in-Err-clause-engines : goal.returns-in-Err-clause-engines
returns-in-Err-clause-engines g c = kinds_of_engines (λ k. k.engines) g.E.Layers.kinds c.open_all.new.parts.items c.args.yard.nodes.items c.in-Err.ensures.engines_back
