use Rattle.std.proofs.Common.{ℕ, ap, ◌∙◌}
use Rattle.delos_types.specs.Spaces.{SpaceMap}
use Rattle.local_store.specs.Slots.{held}
use Rattle.local_store.proofs.asked.BaseKeptValue.change.Goals as goal

pub returns-clause-changed : goal.returns-clause-changed
returns-clause-changed c =
    ap (λ (n : ℕ). record { cursor = n; contents = held c.assign_all.new.self.slots.entries }) c.assign_all.ensures.cursor
    ∙ ap (λ (m : SpaceMap). record { cursor = c.args.change.cursor; contents = m }) c.assign_all.ensures.changed
