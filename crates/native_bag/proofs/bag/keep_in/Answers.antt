use Rattle.std.proofs.Common.{◌≡◌, ap, ◌∙◌, List, [], ◌∷◌, ◌++◌, ℕ}
use Rattle.slab.specs.Slab.{Slab}
use Rattle.native_bag.proofs.Keeping.{keeps_in, pushed}
use Rattle.native_bag.proofs.bag.keep_in.Goals as goal

pub returns-clause-ok : goal.returns-clause-ok
returns-clause-ok g c = λ h.
    let all : c.push.new.self.items ≡ c.args.keys.now.items ++ c.insert_reserved-key.result ∷ [] = pushed c.push.result c.in-Ok.field-0 c.in-Ok.is _ _ _ c.push.ensures.items ∙ ap (λ (ks : List ℕ). ks ++ c.insert_reserved-key.result ∷ []) c.reserve.ensures.items in
    keeps_in c.insert_reserved-key.result c.args.copy c.args.copies.now c.reserve-2.new.self c.insert_reserved-key.new.self c.args.keys.now.items c.push.new.self.items c.requires
    (ap (λ (s : Slab g.row.M.Denot). s.slots) c.reserve-2.ensures.rest_kept) c.insert_reserved-key.ensures.was_vacant c.insert_reserved-key.ensures.updates all h
