use Rattle.std.proofs.Common.{sym, ◌∙◌}
use Rattle.native_loglet.specs.Natives.{Native, native_of}
use Rattle.native_loglet.proofs.Alike.{shows, open_owned, has_left, none_left, not_decided, left_small}
use Rattle.native_loglet.proofs.loglet.NativeLogletLoglet.left.Goals as goal

pub index-p-requires : goal.index-p-requires
index-p-requires g c =
    let i = c.self.inside in
    let a : Native = native_of i.room i.entries.items i.replicas.items i.marks i.pending.entries i.strays in
    rw c.number.ensures (open_owned a _ c.args.ticket (shows a _ c.self.view_is) c.self.invariant c.requires)

pub returns-then-is_some : goal.returns-then-is_some
returns-then-is_some g c =
    let i = c.self.inside in
    let a : Native = native_of i.room i.entries.items i.replicas.items i.marks i.pending.entries i.strays in
    has_left a _ c.args.ticket c.index-p.result.now _ _ (shows a _ c.self.view_is) c.self.invariant (rw c.number.ensures at c.index-p.ensures) (none_left c.index-p.result.now (sym c.is_some.ensures ∙ c.if-is_some.true))

pub left-requires-clause-goal : goal.left-requires-clause-goal
left-requires-clause-goal g c =
    let i = c.self.inside in
    let a : Native = native_of i.room i.entries.items i.replicas.items i.marks i.pending.entries i.strays in
    (left_small a c.args.ticket c.index-p.result.now c.self.invariant (rw c.number.ensures at c.index-p.ensures) (not_decided _ (sym c.is_some.ensures ∙ c.if-is_some.false))).0

pub left-requires-clause-small : goal.left-requires-clause-small
left-requires-clause-small g c =
    let i = c.self.inside in
    let a : Native = native_of i.room i.entries.items i.replicas.items i.marks i.pending.entries i.strays in
    (left_small a c.args.ticket c.index-p.result.now c.self.invariant (rw c.number.ensures at c.index-p.ensures) (not_decided _ (sym c.is_some.ensures ∙ c.if-is_some.false))).1

pub returns : goal.returns
returns g c =
    let i = c.self.inside in
    let a : Native = native_of i.room i.entries.items i.replicas.items i.marks i.pending.entries i.strays in
    has_left a _ c.args.ticket c.index-p.result.now _ _ (shows a _ c.self.view_is) c.self.invariant (rw c.number.ensures at c.index-p.ensures) c.left.ensures
