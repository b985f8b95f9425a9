use Rattle.std.proofs.Common.{◌≡◌, ◌∷◌, sym, ap, subst, ◌∙◌}
use Rattle.delos_types.specs.Numbers.{u64_of}
use Rattle.local_store.specs.Keys.{KeyView, key_cmp}
use Rattle.local_store.proofs.Heads.{less_by_front, greater_by_front, same_front}
use Rattle.local_store.proofs.key.SpaceKeyOrd.cmp.Goals as goal

-- the number in front decides
pub returns-then-self-other : goal.returns-then-self-other
returns-then-self-other c =
    let one : KeyView = record { kind = c.self.inside.kind; key = c.self.inside.text } in
    let two : KeyView = record { kind = c.other.inside.kind; key = c.other.inside.text } in
    sym (less_by_front one two c.self.inside.front c.other.inside.front c.self.invariant c.other.invariant c.if-self-other.true)
    ∙ ap (λ (x : KeyView). key_cmp x two) c.self.view_is
    ∙ ap (λ (x : KeyView). key_cmp c.args.self.now x) c.other.view_is

pub returns-then-self-other-2 : goal.returns-then-self-other-2
returns-then-self-other-2 c =
    let one : KeyView = record { kind = c.self.inside.kind; key = c.self.inside.text } in
    let two : KeyView = record { kind = c.other.inside.kind; key = c.other.inside.text } in
    sym (greater_by_front one two c.self.inside.front c.other.inside.front c.self.invariant c.other.invariant c.if-self-other-2.true)
    ∙ ap (λ (x : KeyView). key_cmp x two) c.self.view_is
    ∙ ap (λ (x : KeyView). key_cmp c.args.self.now x) c.other.view_is

pub cmp_behind-requires : goal.cmp_behind-requires
cmp_behind-requires c =
    let one : KeyView = record { kind = c.self.inside.kind; key = c.self.inside.text } in
    let two : KeyView = record { kind = c.other.inside.kind; key = c.other.inside.text } in
    let same = same_front one two c.self.inside.front c.other.inside.front c.self.invariant c.other.invariant c.if-self-other.false c.if-self-other-2.false in
    subst (λ (x : KeyView). u64_of (x.kind ∷ x.key) ≡ u64_of (c.args.other.now.kind ∷ c.args.other.now.key)) c.self.view_is
    (subst (λ (y : KeyView). u64_of (one.kind ∷ one.key) ≡ u64_of (y.kind ∷ y.key)) c.other.view_is same)
