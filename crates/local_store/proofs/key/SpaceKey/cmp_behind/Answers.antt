use Rattle.std.proofs.Common.{◌≡◌, ◌<◌, ◌∷◌, length, sym, ap, subst, ◌∙◌}
use Rattle.std.specs.Ordering.{nat_cmp}
use Rattle.delos_types.specs.Numbers.{u64_of}
use Rattle.delos_types.specs.Spaces.{Text}
use Rattle.local_store.specs.Keys.{KeyView, key_cmp}
use Rattle.local_store.proofs.Heads.{short_by_front}
use Rattle.local_store.proofs.key.SpaceKey.cmp_behind.Goals as goal

pub returns-then-two-lt-FRONT : goal.returns-then-two-lt-FRONT
returns-then-two-lt-FRONT c =
    let one : KeyView = record { kind = c.self.inside.kind; key = c.self.inside.text } in
    let two : KeyView = record { kind = c.other.inside.kind; key = c.other.inside.text } in
    let same : u64_of (one.kind ∷ one.key) ≡ u64_of (two.kind ∷ two.key) =
    subst (λ (x : KeyView). u64_of (x.kind ∷ x.key) ≡ u64_of (two.kind ∷ two.key)) (sym c.self.view_is)
    (subst (λ (y : KeyView). u64_of (c.args.self.now.kind ∷ c.args.self.now.key) ≡ u64_of (y.kind ∷ y.key)) (sym c.other.view_is) c.requires) in
    let first : length one.key < 8 = subst (λ (t : Text). length t < 8) c.as_slice-one.ensures c.if-one-lt-FRONT.true in
    let second : length two.key < 8 = subst (λ (t : Text). length t < 8) c.as_slice-two.ensures c.if-two-lt-FRONT.true in
    c.cmp.ensures
    ∙ ap (λ (t : Text). nat_cmp (length t) (length c.as_slice-two.result.now)) c.as_slice-one.ensures
    ∙ ap (λ (t : Text). nat_cmp (length one.key) (length t)) c.as_slice-two.ensures
    ∙ sym (short_by_front one two c.self.inside.front c.other.inside.front c.self.invariant c.other.invariant same first second)
    ∙ ap (λ (x : KeyView). key_cmp x two) c.self.view_is
    ∙ ap (λ (x : KeyView). key_cmp c.args.self.now x) c.other.view_is
