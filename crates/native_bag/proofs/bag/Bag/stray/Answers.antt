use Rattle.std.proofs.Common.{◌≡◌, ◌<◌, ◌%◌, ℕ, List, ap, sym, ◌∙◌, subst, arith, length}
use Rattle.std.specs.Prelude.{slice_get, option_copied}
use Rattle.slab.specs.Slab.{get}
use Rattle.native_bag.specs.Keys.{kept_of}
use Rattle.native_bag.proofs.Keeping.{kept_length, kept_at}
use Rattle.native_bag.proofs.bag.Bag.stray.Goals as goal

pub returns : goal.returns
returns g c =
    let long : length c.self.inside.keys.items ≡ c.len-kept.result = omega (arith, c.len-kept.ensures, c.self.inside.keys.ok) in
    let within : c.chosen.result < length c.self.inside.keys.items = omega (arith, c.chosen.ensures.here, long) in
    let kept : c.len-kept.result ≡ length (kept_of c.self.inside.copies c.self.inside.keys.items) = sym long ∙ sym (kept_length c.self.inside.copies c.self.inside.keys.items c.self.invariant.there) in
    subst (λ (b : List g.row.M.Denot). option_copied c.get.result ≡ slice_get b (c.args.word % length b)) c.self.view_is
    (c.get.ensures ∙ ap (λ (k : ℕ). get c.self.inside.copies k) c.index.ensures
    ∙ sym (kept_at c.self.inside.copies c.self.inside.keys.items c.chosen.result c.index.result.now c.self.invariant.there within)
    ∙ ap (λ (k : ℕ). slice_get (kept_of c.self.inside.copies c.self.inside.keys.items) k) c.chosen.ensures.value
    ∙ ap (λ (n : ℕ). slice_get (kept_of c.self.inside.copies c.self.inside.keys.items) (c.args.word % n)) kept)
