use Rattle.std.proofs.Common.{◌≡◌, List, subst, arith, length}
use Rattle.native_bag.specs.Keys.{kept_of}
use Rattle.native_bag.proofs.Keeping.{kept_length}
use Rattle.native_bag.proofs.bag.Bag.copies.Goals as goal

pub returns-clause-count : goal.returns-clause-count
returns-clause-count g c =
    let long : c.len.result ≡ length (kept_of c.self.inside.copies c.self.inside.keys.items) = omega (arith, c.len.ensures, c.self.inside.keys.ok, kept_length c.self.inside.copies c.self.inside.keys.items c.self.invariant.there) in
    subst (λ (b : List g.row.M.Denot). c.len.result ≡ length b) c.self.view_is long
