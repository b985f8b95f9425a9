use Rattle.std.proofs.Common.{rules, arith, length, ◌<◌, sym, refl, ap, ◌∙◌, subst}
use Rattle.pass_lock.proofs.Steps.{tries}
use Rattle.pass_lock.proofs.turns.draw.Goals as goal

pub compare_exchange-drawn-requires : goal.compare_exchange-drawn-requires
compare_exchange-drawn-requires g c = let words = c.requires.table.words in let i = c.loop.invariant in
    (search rules, omega arith, tries g.S.Chronicled.journal g.S.Chronicled.signer _ _ _ _ _ _ (ap (λ m. m.0.stage) i.1 ∙ c.requires.idle.0) (subst (λ m. 0 < length m.0.parts) (sym i.1) c.requires.part) refl)
