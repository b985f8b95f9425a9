use Rattle.std.proofs.Common.{◌<◌, ◌^◌, length, Some, ap, ◌∙◌, sym, subst, Option}
use Rattle.std.specs.Prelude.{IfSome}
use Rattle.delos_types.specs.Spaces.{Text}
use Rattle.store_records.specs.Changing.{set_at}
use Rattle.local_store.specs.Slots.{held, key_pair}
use Rattle.local_store.proofs.SlotLaws.{held-set, held-gone, fit-set, fit-gone, short_of_fit}
use Rattle.local_store.proofs.base.Base.assign.Goals as goal

pub returns-clause-assigned : goal.returns-clause-assigned
returns-clause-assigned c =
    held-set c.args.self.now.slots.entries c.fill.new.slots.entries c.args.key.now (Some c.in-Some.value) c.fill.ensures
    ∙ ap (λ (o : Option Text). set_at (held c.args.self.now.slots.entries) (key_pair c.args.key.now) o) (sym c.in-Some.is)

pub returns-clause-fit : goal.returns-clause-fit
returns-clause-fit c =
    fit-set c.args.self.now.slots.entries c.fill.new.slots.entries c.args.key.now (Some c.in-Some.value) c.requires.old (short_of_fit c.args.self.now.slots.entries c.requires.old c.args.key.now c.requires.room)
    (subst (λ (o : Option Text). IfSome o (λ v. length v < 2 ^ 32)) c.in-Some.is c.requires.small) c.fill.ensures

pub returns-in_default-clause-assigned : goal.returns-in_default-clause-assigned
returns-in_default-clause-assigned c =
    held-gone c.args.self.now.slots.entries c.remove.new.self.entries c.args.key.now c.remove.ensures.updates.0
    ∙ ap (λ (o : Option Text). set_at (held c.args.self.now.slots.entries) (key_pair c.args.key.now) o) (sym c.in_default.is)

pub returns-in_default-clause-fit : goal.returns-in_default-clause-fit
returns-in_default-clause-fit c = fit-gone c.args.self.now.slots.entries c.remove.new.self.entries c.args.key.now c.requires.old c.remove.ensures.updates.0
