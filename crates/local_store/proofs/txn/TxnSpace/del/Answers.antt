use Rattle.std.proofs.Common.{◌≡◌, ◌^◌, ◌<◌, length, None, subst, sym, ap, ◌∙◌, arith}
use Rattle.std.specs.Arc.{arc_value}
use Rattle.std.specs.FinMap as map
use Rattle.store_records.specs.Changing.{applied}
use Rattle.local_store.specs.Keys.{KeyView}
use Rattle.local_store.specs.Slots.{held, changes_of, key_pair}
use Rattle.local_store.specs.View.{TxnView, contents_of}
use Rattle.local_store.proofs.SlotLaws.{applied-set, fit-set, remove-absent, no_long_key}
use Rattle.local_store.proofs.txn.TxnSpace.del.Goals as goal

pub returns-then-key-gt-MAX_KEY-clause-ok : goal.returns-then-key-gt-MAX_KEY-clause-ok
returns-then-key-gt-MAX_KEY-clause-ok c =
    let base = (arc_value c.self.inside.base).slots.entries in
    let changes = c.self.inside.changes.entries in
    let key : KeyView = record { kind = c.args.kind; key = c.args.key.now } in
    let none = no_long_key base changes key c.self.invariant.short c.self.invariant.fit c.self.invariant.ordered (λ (lt : length c.args.key.now < 2 ^ 16). omega (arith, lt, c.if-key-gt-MAX_KEY.true)) in
    subst (λ (t : TxnView). contents_of t ≡ map.remove (contents_of t) (c.args.kind, c.args.key.now)) c.self.view_is
    (sym (remove-absent (applied (held base) (changes_of changes)) (key_pair key) none))

pub invariant_of-self-2 : goal.invariant_of-self-2
invariant_of-self-2 c =
    let small : length c.args.key.now < 2 ^ 16 = omega (arith, c.if-key-gt-MAX_KEY.false) in
    let short = subst (λ (k : KeyView). length k.key < 2 ^ 16) (sym c.in_ok-key.ensures) small in
    record {
      short = c.self.invariant.short;
      fit = fit-set c.self.inside.changes.entries c.insert.new.self.entries c.in_ok-key.key None c.self.invariant.fit short tt c.in_ok-insert.ensures.updates.0;
      ordered = c.in_ok-insert.ensures.ordered;
    }

pub returns-clause-ok : goal.returns-clause-ok
returns-clause-ok c =
    let base = held (arc_value c.self.inside.base).slots.entries in
    let before = applied base (changes_of c.self.inside.changes.entries) in
    applied-set base c.self.inside.changes.entries c.insert.new.self.entries c.in_ok-key.key None c.self.invariant.ordered c.in_ok-insert.ensures.ordered c.in_ok-insert.ensures.updates.0
    ∙ ap (λ (k : KeyView). map.remove before (key_pair k)) c.in_ok-key.ensures
    ∙ ap (λ (t : TxnView). map.remove (contents_of t) (c.args.kind, c.args.key.now)) c.self.view_is
