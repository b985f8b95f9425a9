use Rattle.std.proofs.Common.{sym}
use Rattle.file_loglet.specs.Steps.{start_at}
use Rattle.file_loglet.proofs.Starting.{new_cell}
use Rattle.file_loglet.proofs.file.FileLoglet.new.Goals as goal

pub invariant_of-result : goal.invariant_of-result
invariant_of-result g c = record {
  cell = start_at c.args.room _;
  is = new_cell c.args.room _ c.new-2.result.items c.in_ok-server.server c.new-3.result c.new-4.result c.requires.room c.new-2.ensures.items c.in_ok-server.ensures.empty c.in_ok-server.ensures.no_fault c.new-3.ensures c.new-4.ensures.empty;
  keeps = sym c.new-2.ensures.items;
}

pub returns-clause-cell : goal.returns-clause-cell
returns-clause-cell g c =
    new_cell c.args.room _ c.new-2.result.items c.in_ok-server.server c.new-3.result c.new-4.result c.requires.room c.new-2.ensures.items c.in_ok-server.ensures.empty c.in_ok-server.ensures.no_fault c.new-3.ensures c.new-4.ensures.empty
