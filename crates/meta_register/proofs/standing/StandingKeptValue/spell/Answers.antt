use Rattle.std.proofs.Common.{ℕ, List, [], ◌∷◌, ◌++◌, ◌≡◌, Some}
use Rattle.meta_register.specs.Records.{SpellsStanding, standing_of}
use Rattle.meta_register.specs.Keeping.{advanced}
use Rattle.meta_register.proofs.Keeping.{spells_next, ok_weaker}
use Rattle.meta_register.proofs.standing.StandingKeptValue.spell.Goals as goal

pub returns : goal.returns
returns c =
    let next = advanced c.args.self.now c.args.chain.now in
    record {
      follows = λ records spelled.
          ok_weaker c.spell.result (λ (bytes : List ℕ). SpellsStanding bytes next) (λ (bytes : List ℕ). standing_of (records ++ bytes ∷ []) ≡ Some next) (λ bytes text. spells_next c.args.self.now c.args.chain.now bytes text records spelled) c.spell.ensures;
    }
