-- What a decided change leaves at the key.
use Rattle.std.specs.Prelude.{◌≡◌, Option, Some, None}
use Rattle.delos_types.specs.Spaces.{Text}
use Rattle.table_core.specs.declared.command.Reply.{Reply}
use Rattle.table_core.specs.declared.decide.Change.{Change}
use Rattle.table_core.specs.declared.decide.Change.TheVariants.{Keep, Set, Remove}
use Rattle.table_core.specs.declared.decide.Decision.{Decision}

abbrev pub value_after : Change → Option Text → Option Text
value_after Keep before = before
value_after (Set value) before = Some value
value_after Remove before = None

-- d decides what the outcome says, where the value before was this
pub record Decides (before : Option Text) (o : Option Text × Reply) (d : Decision) : Type 0 where
  pub value : value_after d.change before ≡ o.0
  pub reply : d.reply ≡ o.1
