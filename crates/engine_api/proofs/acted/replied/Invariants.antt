use Rattle.std.proofs.Common.{◌≡◌, ◌++◌, drop}
use Rattle.engine_api.specs.Acted as acted
use Rattle.engine_api.proofs.acted.replied.Given as goal

abbrev pub invariant-loop-x : goal.invariant-loop-x
invariant-loop-x l = record {
  acts : l.acts.items ++ acted.replied l.table (drop l.x-index l.asked) ≡ acted.replied l.initial.table l.asked;
  table : l.table ≡ acted.table_after l.initial.table l.acts.items;
}
