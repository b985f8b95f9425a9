use Rattle.std.proofs.Common.{◌≡◌, IfOk, Option, subst, sym, ap, ◌∙◌}
use Rattle.std.specs.Prelude.{unwrap_or}
use Rattle.std.specs.Option.{option_copied}
use Rattle.std.specs.Arc.{arc_value}
use Rattle.std.specs.FinMap as map
use Rattle.delos_types.specs.Spaces.{Text}
use Rattle.store_records.specs.Changing.{applied}
use Rattle.local_store.specs.Keys.{KeyView}
use Rattle.local_store.specs.declared.base.Base.{Base}
use Rattle.local_store.specs.Slots.{slot_of, value_in, held, changes_of, key_pair}
use Rattle.local_store.specs.View.{TxnView, contents_of}
use Rattle.local_store.proofs.SlotLaws.{get-held, get-applied}
use Rattle.local_store.proofs.txn.TxnSpace.get.Goals as goal

pub returns : goal.returns
returns c =
    let base = (arc_value c.self.inside.base).slots.entries in
    let changes = c.self.inside.changes.entries in
    let key = c.in_ok-key.key in
    let kept : value_in (slot_of c.deref-base.result.now.slots.entries key) ≡ map.get (held base) (key_pair key) =
    ap (λ (b : Base). value_in (slot_of b.slots.entries key)) c.deref-base.ensures ∙ sym (get-held base key) in
    let value : option_copied c.value_in.result ≡ map.get (contents_of c.args.self.now) (c.args.kind, c.args.key.now) =
    c.value_in.ensures
    ∙ ap (λ (r : Option Text). unwrap_or (slot_of changes key) r) kept
    ∙ sym (get-applied changes c.self.invariant.ordered (held base) key)
    ∙ ap (λ (k : KeyView). map.get (applied (held base) (changes_of changes)) (key_pair k)) c.in_ok-key.ensures
    ∙ ap (λ (t : TxnView). map.get (contents_of t) (c.args.kind, c.args.key.now)) c.self.view_is in
    subst (λ (v : Option Text). IfOk c.copied.result (λ made. made ≡ v)) value c.copied.ensures
