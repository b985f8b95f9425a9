use Rattle.std.proofs.Common.{◌^◌, ◌<◌, length, Some, subst, sym, ap, ◌∙◌}
use Rattle.std.specs.Arc.{arc_value}
use Rattle.std.specs.FinMap as map
use Rattle.delos_types.specs.Spaces.{Text}
use Rattle.store_records.specs.Changing.{applied}
use Rattle.local_store.specs.Keys.{KeyView}
use Rattle.local_store.specs.Slots.{held, changes_of, key_pair}
use Rattle.local_store.specs.View.{TxnView, contents_of}
use Rattle.local_store.proofs.SlotLaws.{applied-set, fit-set}
use Rattle.local_store.proofs.txn.TxnSpace.put.Goals as goal

pub invariant_of-self-2 : goal.invariant_of-self-2
invariant_of-self-2 c =
    let short = subst (λ (k : KeyView). length k.key < 2 ^ 16) (sym c.in_ok-key.ensures) c.requires.key_fits in
    let small = subst (λ (v : Text). length v < 2 ^ 32) (sym c.in_ok-value.ensures) c.requires.value_fits in
    record {
      short = c.self.invariant.short;
      fit = fit-set c.self.inside.changes.entries c.insert.new.self.entries c.in_ok-key.key (Some c.in_ok-value.value) c.self.invariant.fit short small c.in_ok-insert.ensures.updates.0;
      ordered = c.in_ok-insert.ensures.ordered;
    }

pub returns-clause-ok : goal.returns-clause-ok
returns-clause-ok c =
    let base = held (arc_value c.self.inside.base).slots.entries in
    let before = applied base (changes_of c.self.inside.changes.entries) in
    applied-set base c.self.inside.changes.entries c.insert.new.self.entries c.in_ok-key.key (Some c.in_ok-value.value) c.self.invariant.ordered c.in_ok-insert.ensures.ordered c.in_ok-insert.ensures.updates.0
    ∙ ap (λ (k : KeyView). map.insert before (key_pair k) c.in_ok-value.value) c.in_ok-key.ensures
    ∙ ap (λ (v : Text). map.insert before (c.args.kind, c.args.key.now) v) c.in_ok-value.ensures
    ∙ ap (λ (t : TxnView). map.insert (contents_of t) (c.args.kind, c.args.key.now) c.args.value.now) c.self.view_is
