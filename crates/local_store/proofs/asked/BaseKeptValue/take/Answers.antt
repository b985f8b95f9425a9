use Rattle.std.proofs.Common.{◌≡◌, ℕ, ap, ◌∙◌, arith}
use Rattle.std.proofs.lemmas.Grind.{common_steps}
use Rattle.delos_types.specs.Spaces.{SpaceMap}
use Rattle.store_records.specs.Changing.{applied}
use Rattle.local_store.specs.Slots.{held}
use Rattle.local_store.specs.Keeping.{saved_by}
use Rattle.local_store.proofs.Keeping.{took_none, took_falling, took_next}
use Rattle.local_store.proofs.asked.BaseKeptValue.take.Goals as goal

pub returns-in_default-clause-taken : goal.returns-in_default-clause-taken
returns-in_default-clause-taken c = λ records long spelled. took_none (saved_by c.args.self.now) c.args.bytes.now records c.in_ok-commit.field-0 spelled c.in_ok-commit.ensures.value c.in_default.is

pub returns-then-commit-self-clause-taken : goal.returns-then-commit-self-clause-taken
returns-then-commit-self-clause-taken c =
    λ records long spelled. took_falling (saved_by c.args.self.now) c.args.bytes.now records c.in_ok-commit.field-0 c.in-Some.commit spelled c.in_ok-commit.ensures.value c.in-Some.is c.if-commit-self.true

pub returns-clause-taken : goal.returns-clause-taken
returns-clause-taken c =
    λ records long spelled.
    let new = c.change_all.new.self in
    let now = c.in-Some.commit.cursor in
    let made : held new.slots.entries ≡ applied (held c.args.self.now.slots.entries) c.in-Some.commit.changes = grind (arith, common_steps) in
    took_next (saved_by c.args.self.now) (saved_by new) c.args.bytes.now records c.in_ok-commit.field-0 c.in-Some.commit spelled c.in_ok-commit.ensures.value c.in-Some.is c.if-commit-self.false
    (ap (λ (n : ℕ). record { cursor = n; contents = held new.slots.entries }) c.change_all.ensures.cursor ∙ ap (λ (m : SpaceMap). record { cursor = now; contents = m }) made)
