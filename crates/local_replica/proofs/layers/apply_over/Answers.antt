use Rattle.std.proofs.Common.{◌≡◌, true, refl, sym, ap, subst, ◌∙◌}
use Rattle.std.specs.List.{list_all}
use borrow.Pointer.Hide.{carried_sameᵐ}
use mir.Syntax.{Dict}
use Rattle.delos_types.specs.Spaces.{SpaceMap}
use Rattle.local_store.specs.View.{TxnView, contents_of}
use Rattle.engine_steps.specs.Hearing.{own}
use Rattle.local_replica.proofs.Layering.{grows_so, known_so}
use Rattle.local_replica.proofs.layers.apply_over.Object-2.{Members}
use Rattle.local_replica.proofs.layers.apply_over.OwnLists.{own-2, at-2-1, entry-2-1, same-2-1}
use Rattle.local_replica.proofs.layers.apply_over.Goals as goal

-- what the lent transaction has is what it has as a space
pub returns-clause-base : goal.returns-clause-base
returns-clause-base g c =
    ap (λ (v : TxnView). v.base) (c.txn-2-1.given.1 refl) ∙ sym (carried_sameᵐ Members Dict entry-2-1 (own-2.entry at-2-1) same-2-1 SpaceMap (λ j y. j.1.beginning y.now) c.txn-1.given.0)
    ∙ ap (λ m. (own-2.entry m.now.0).1.beginning m.now.1) c.txn-1.given.1 ∙ c.apply_entry.ensures.beginning
    ∙ carried_sameᵐ Members Dict entry-2-1 (own-2.entry at-2-1) same-2-1 SpaceMap (λ j y. j.1.beginning y.now) _

pub returns-clause-grows : goal.returns-clause-grows
returns-clause-grows g c =
    grows_so c.apply_entry.result (λ a. a.items) c.args.pos c.args.entry.now _ (contents_of c.args.txn.now) _ _
    (carried_sameᵐ Members Dict entry-2-1 (own-2.entry at-2-1) same-2-1 SpaceMap (λ j y. j.1.contents y.now) _)
    (ap contents_of (c.txn-2-1.given.1 refl) ∙ sym (carried_sameᵐ Members Dict entry-2-1 (own-2.entry at-2-1) same-2-1 SpaceMap (λ j y. j.1.contents y.now) c.txn-1.given.0)
    ∙ ap (λ m. (own-2.entry m.now.0).1.contents m.now.1) c.txn-1.given.1)
    c.apply_entry.ensures.grows

pub apply_entry-requires-clause-known : goal.apply_entry-requires-clause-known
apply_entry-requires-clause-known g c =
    subst (λ (m : SpaceMap). list_all (λ e. (goal.Engine-dyn g (e.vtable, e.value)).knows e.value (own ((goal.Engine-dyn g (e.vtable, e.value)).kind_of e.value) m)) c.args.engines.now.items ≡ true) (sym (carried_sameᵐ Members Dict entry-2-1 (own-2.entry at-2-1) same-2-1 SpaceMap (λ j y. j.1.contents y.now) _)) c.requires.known

pub returns-clause-known : goal.returns-clause-known
returns-clause-known g c =
    known_so c.apply_entry.result (λ (m : SpaceMap). list_all (λ e. (goal.Engine-dyn g (e.vtable, e.value)).knows e.value (own ((goal.Engine-dyn g (e.vtable, e.value)).kind_of e.value) m)) c.apply_entry.new.engines.items ≡ true) _ _
    (ap contents_of (c.txn-2-1.given.1 refl) ∙ sym (carried_sameᵐ Members Dict entry-2-1 (own-2.entry at-2-1) same-2-1 SpaceMap (λ j y. j.1.contents y.now) c.txn-1.given.0)
    ∙ ap (λ m. (own-2.entry m.now.0).1.contents m.now.1) c.txn-1.given.1)
    c.apply_entry.ensures.known
