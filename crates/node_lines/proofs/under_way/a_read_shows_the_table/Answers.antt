use Rattle.std.proofs.Common.{ap}
use Rattle.table_core.specs.Table.{TableMap}
use Rattle.table_core.specs.Find.{find_in}
use Rattle.node_lines.proofs.Reading.{state_table}
use Rattle.node_lines.proofs.under_way.a_read_shows_the_table.Goals as goal

pub returns : goal.returns
returns c = λ log m query state. ap (λ (t : TableMap). find_in t query) (state_table log m state)
