use Rattle.std.proofs.Common.{◌≡◌, None, sym, subst, length, ◌^◌, ◌<◌}
use Rattle.local_store.specs.Keys.{KeyView}
use Rattle.local_store.specs.Slots.{slot_of}
use Rattle.local_store.proofs.SlotLaws.{no_slot, held-same, grows-set, fit-set}
use Rattle.local_store.proofs.base.Base.make_slot.Goals as goal

pub returns-clause-same : goal.returns-clause-same
returns-clause-same c =
    let es = c.args.self.now.slots.entries in
    let none = no_slot c.get.result (slot_of es c.args.key.now) c.is_some.result c.get.ensures.value c.is_some.ensures c.if-is_some.false in
    held-same es c.insert.new.self.entries c.in_ok-key.key (subst (λ (k : KeyView). slot_of es k ≡ None) (sym c.in_ok-key.ensures.cases) none) c.in_ok-insert.ensures.updates.0

pub returns-clause-grows : goal.returns-clause-grows
returns-clause-grows c = grows-set c.args.self.now.slots.entries c.insert.new.self.entries c.in_ok-key.key None c.in_ok-insert.ensures.updates.0

pub returns-clause-fit : goal.returns-clause-fit
returns-clause-fit c =
    fit-set c.args.self.now.slots.entries c.insert.new.self.entries c.in_ok-key.key None c.requires.old
    (subst (λ (k : KeyView). length k.key < 2 ^ 16) (sym c.in_ok-key.ensures.cases) c.requires.short) tt c.in_ok-insert.ensures.updates.0
