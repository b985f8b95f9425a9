use Rattle.std.proofs.Common.{List, ℕ, [], ◌∷◌, ◌≡◌, ap, ◌∙◌}
use Rattle.journal_core.specs.Records.{payloads}
use Rattle.meta_register.specs.Records.{standing_of}
use Rattle.meta_register.proofs.Keeping.{spells_alone, one_payload}
use Rattle.meta_register.proofs.standing.StandingKeptValue.compacted.Goals as goal

pub returns : goal.returns
returns c =
    let alone : payloads c.push.new.self.items ≡ c.in_ok-last.last ∷ [] =
    one_payload c.new-records.result.items c.push.new.self.items c.in_ok-from_slice.field-0 c.new-records.ensures.items c.in_ok-push.ensures.items ∙ ap (λ (b : List ℕ). b ∷ []) (c.in_ok-from_slice.ensures.items ∙ c.as_slice.ensures) in
    ap standing_of alone ∙ spells_alone c.args.self.now c.args.chain.now c.in_ok-last.last c.in_ok-last.ensures c.requires.sound.least
