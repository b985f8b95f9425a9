-- A node's table is that of the log's front that it has applied.
use Rattle.std.proofs.Common.{◌≡◌, ◌∙◌, List}
use Rattle.std.specs.FinMap as finmap
use Rattle.std.proofs.lemmas.Cmp.{nat_list_cmp_total}
use Rattle.std.proofs.lemmas.Map.Lookups.{exact_bytes}
use Rattle.delos_types.specs.Spaces.{SpaceMap}
use Rattle.delos_types.specs.declared.entry.Entry.{Entry}
use Rattle.engine_api.specs.Acted.{table_after}
use Rattle.log_laws.specs.State.{acts_in, IsStateOf}
use Rattle.base_engine.specs.Querying.{table_in}
use Rattle.base_engine.proofs.Scanning.{table_value}

pub state_table : (log : List Entry) (m : SpaceMap) → IsStateOf log m → table_in m ≡ table_after finmap.empty (acts_in log)
state_table log m state = finmap.same_map nat_list_cmp_total exact_bytes (table_in m) (table_after finmap.empty (acts_in log)) (λ q. table_value m q ∙ state.table q)
