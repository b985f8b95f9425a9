use Rattle.std.proofs.Common.{rules, arith, length, ◌≡◌, ◌%◌, ◌^◌, ◌∷◌, sym, ap, ◌∙◌, subst, Some, None, Option, List, ℕ, get_or}
use Rattle.atomic_table.specs.Table.{rest}
use Rattle.pass_lock.specs.Journal.{IsKnown, Signed}
use Rattle.pass_lock.specs.Pass.{all_parts}
use Rattle.pass_lock.proofs.Kept.{some_is}
use Rattle.pass_lock.proofs.Steps.{looks}
use Rattle.pass_lock.proofs.turns.take.Goals as goal

pub load-serving-requires : goal.load-serving-requires
load-serving-requires g c = let words = c.requires.table.words in let key = c.requires.table.key_is in let d = c.draw-ticket.ensures.drew in let i = c.loop.invariant in
    (search rules, omega arith, looks g.S.Chronicled.journal g.S.Chronicled.signer _ _ _ _ key (ap (λ m. m.0.stage) i.1 ∙ ap (λ v. v.stage) d.0) (ap (λ m. m.1) i.1 ∙ (d.2 ∙ c.requires.idle.1)))

pub exchange-requires : goal.exchange-requires
exchange-requires g c = let d = c.draw-ticket.ensures.drew in let i = c.loop.invariant in
    let hit = c.load-serving.ensures.2.0 (c.if-serving-ticket.true ∙ (d.1 ∙ ap (λ m. m.0.ticket % 2 ^ 64) (sym i.1))) in
    (search rules, (Some hit.0, hit.1 ∙ ap (λ l. (0, Some hit.0) ∷ rest l) (sym hit.1)))

pub returns-then-serving-ticket-clause-seen : goal.returns-then-serving-ticket-clause-seen
returns-then-serving-ticket-clause-seen g c = let d = c.draw-ticket.ensures.drew in let i = c.loop.invariant in
    let hit = c.load-serving.ensures.2.0 (c.if-serving-ticket.true ∙ (d.1 ∙ ap (λ m. m.0.ticket % 2 ^ 64) (sym i.1))) in
    let is : hit.0 ≡ c.unwrap-value.result = some_is hit.0 c.unwrap-value.result (ap (λ (l : List (ℕ × Option g.row.S.Denot)). (get_or l 0 (0, None)).1) (sym hit.1 ∙ c.exchange.ensures.2) ∙ c.unwrap-value.ensures) in
    let parts : c.loop.place.me.0.parts ≡ c.args.place.now.me.0.parts = ap (λ m. m.0.parts) i.1 ∙ ap (λ v. v.parts) d.0 in
    subst (λ (p : List (ℕ × List g.row.S-Entry.Denot)). IsKnown g.S.Chronicled.signer (g.S.Chronicled.journal c.unwrap-value.result) p) parts
    (subst (λ (x : g.row.S.Denot). IsKnown g.S.Chronicled.signer (g.S.Chronicled.journal x) c.loop.place.me.0.parts) is hit.3)

pub returns-then-serving-ticket-clause-signed : goal.returns-then-serving-ticket-clause-signed
returns-then-serving-ticket-clause-signed g c = let d = c.draw-ticket.ensures.drew in let i = c.loop.invariant in
    let hit = c.load-serving.ensures.2.0 (c.if-serving-ticket.true ∙ (d.1 ∙ ap (λ m. m.0.ticket % 2 ^ 64) (sym i.1))) in
    let is : hit.0 ≡ c.unwrap-value.result = some_is hit.0 c.unwrap-value.result (ap (λ (l : List (ℕ × Option g.row.S.Denot)). (get_or l 0 (0, None)).1) (sym hit.1 ∙ c.exchange.ensures.2) ∙ c.unwrap-value.ensures) in
    let parts : c.loop.place.me.0.parts ≡ c.args.place.now.me.0.parts = ap (λ m. m.0.parts) i.1 ∙ ap (λ v. v.parts) d.0 in
    subst (λ (p : List (ℕ × List g.row.S-Entry.Denot)). length p ≡ all_parts → Signed g.S.Chronicled.signer p (g.S.Chronicled.journal c.unwrap-value.result)) parts
    (subst (λ (x : g.row.S.Denot). length c.loop.place.me.0.parts ≡ all_parts → Signed g.S.Chronicled.signer c.loop.place.me.0.parts (g.S.Chronicled.journal x)) is hit.5)
