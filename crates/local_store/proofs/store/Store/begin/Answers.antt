use Rattle.std.proofs.Common.{sym, subst}
use Rattle.std.specs.Arc.{arc_value}
use Rattle.local_store.specs.declared.base.Base.{Base}
use Rattle.local_store.specs.Slots.{AreShort}
use Rattle.local_store.proofs.SlotLaws.{short_of_fit}
use Rattle.local_store.proofs.Keeping.{seen_survives}
use Rattle.local_store.proofs.store.Store.begin.Goals as goal

pub new-requires : goal.new-requires
new-requires g c =
    subst (λ (b : Base). AreShort b.slots.entries) (sym c.in_ok-base.ensures) (short_of_fit (arc_value c.self.inside.base).slots.entries c.self.invariant.fit)

pub returns-clause-survives : goal.returns-clause-survives
returns-clause-survives g c = let i = c.self.inside in seen_survives (arc_value i.base) i.kept c.args.self.now c.self.invariant c.self.view_is
