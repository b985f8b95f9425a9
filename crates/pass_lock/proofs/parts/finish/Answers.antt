use Rattle.std.proofs.Common.{◌≡◌, refl, sym, ◌∙◌, subst, length, Some}
use mathlib.Core.Option.{some-injective}
use Rattle.std.specs.Option.{IsSome}
use Rattle.pass_lock.specs.Journal.{IsKnown, Signed, InTurns}
use Rattle.pass_lock.proofs.Kept.{some_is}
use Rattle.pass_lock.proofs.Ends.{closes}
use Rattle.pass_lock.proofs.parts.finish.Goals as goal
use Rattle.pass_lock.proofs.parts.finish.Goals.{After-take, After-unwrap-value}

-- the value, and what the rule tells of it where a seat has all parts
told : (g : _) (c : After-take g) → let v = c.args.place.me.0 in (x : g.row.S.Denot) × (c.take.result ≡ Some x)
    × IsKnown g.S.Chronicled.signer (g.S.Chronicled.journal x) v.parts × Signed g.S.Chronicled.signer v.parts (g.S.Chronicled.journal x) × InTurns (length v.made) (g.S.Chronicled.journal x) v.made
told g c = let t = closes g.S.Chronicled.journal g.S.Chronicled.signer _ _ _ _ _ c.requires.idle.0 (c.requires.all ∙ sym c.requires.table.key_is) c.close_with-closed.ensures.values.2 in
    (t.0, some-injective _ _ (sym c.take.ensures.value ∙ t.1), t.2, t.3, t.4)

pub unwrap-value-requires : goal.unwrap-value-requires
unwrap-value-requires g c = let t = told g (goal.at.unwrap-value-requires g c).After-take in subst IsSome (sym t.1) refl

pub returns-clause-seen : goal.returns-clause-seen
returns-clause-seen g c = let t = told g (goal.at.returns-clause-seen g c).After-take in let v = c.args.place.me.0 in
    subst (λ (x : g.row.S.Denot). IsKnown g.S.Chronicled.signer (g.S.Chronicled.journal x) v.parts) (some_is t.0 c.unwrap-value.result (sym t.1 ∙ c.unwrap-value.ensures)) t.2

pub returns-clause-signed : goal.returns-clause-signed
returns-clause-signed g c = let t = told g (goal.at.returns-clause-signed g c).After-take in let v = c.args.place.me.0 in
    subst (λ (x : g.row.S.Denot). Signed g.S.Chronicled.signer v.parts (g.S.Chronicled.journal x)) (some_is t.0 c.unwrap-value.result (sym t.1 ∙ c.unwrap-value.ensures)) t.3

pub returns-clause-turns : goal.returns-clause-turns
returns-clause-turns g c = let t = told g (goal.at.returns-clause-turns g c).After-take in let v = c.args.place.me.0 in
    subst (λ (x : g.row.S.Denot). InTurns (length v.made) (g.S.Chronicled.journal x) v.made) (some_is t.0 c.unwrap-value.result (sym t.1 ∙ c.unwrap-value.ensures)) t.4
