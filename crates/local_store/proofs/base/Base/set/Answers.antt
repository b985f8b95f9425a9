use Rattle.std.proofs.Common.{◌<◌, ◌^◌, length, ap, ◌∙◌, Some, sym, subst, Option}
use Rattle.std.specs.Prelude.{IfSome}
use Rattle.delos_types.specs.Spaces.{Text}
use Rattle.store_records.specs.Changing.{set_at}
use Rattle.local_store.specs.Slots.{held, key_pair}
use Rattle.local_store.proofs.SlotLaws.{held-set, held-gone, fit-set, fit-gone}
use Rattle.local_store.proofs.base.Base.set.Goals as goal

pub returns-in_ok-insert-in-Some-clause-ok : goal.returns-in_ok-insert-in-Some-clause-ok
returns-in_ok-insert-in-Some-clause-ok c =
    held-set c.args.self.now.slots.entries c.insert.new.self.entries c.args.key (Some c.in-Some.value) c.in_ok-insert-in-Some.ensures.updates.0
    ∙ ap (λ (o : Option Text). set_at (held c.args.self.now.slots.entries) (key_pair c.args.key) o) (sym c.in-Some.is)

pub returns-in_ok-insert-in-Some-clause-fit : goal.returns-in_ok-insert-in-Some-clause-fit
returns-in_ok-insert-in-Some-clause-fit c =
    fit-set c.args.self.now.slots.entries c.insert.new.self.entries c.args.key (Some c.in-Some.value) c.requires.old c.requires.short
    (subst (λ (o : Option Text). IfSome o (λ v. length v < 2 ^ 32)) c.in-Some.is c.requires.small) c.in_ok-insert-in-Some.ensures.updates.0

pub returns-in-None-clause-ok : goal.returns-in-None-clause-ok
returns-in-None-clause-ok c =
    held-gone c.args.self.now.slots.entries c.remove.new.self.entries c.args.key c.remove.ensures.updates.0
    ∙ ap (λ (o : Option Text). set_at (held c.args.self.now.slots.entries) (key_pair c.args.key) o) (sym c.in-None.is)

pub returns-in-None-clause-fit : goal.returns-in-None-clause-fit
returns-in-None-clause-fit c = fit-gone c.args.self.now.slots.entries c.remove.new.self.entries c.args.key c.requires.old c.remove.ensures.updates.0
