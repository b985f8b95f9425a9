use Rattle.std.proofs.Common.{arith, ◌≡◌, ℕ, List, [], ◌∷◌, ◌++◌, refl, sym, ap, ◌∙◌, subst, MatchResult}
use Rattle.std.specs.List.{Contains}
use Rattle.std.proofs.lemmas.List.Elements.{All-head}
use Rattle.pass_lock.specs.Journal.{Follows, IsKnown, numbers}
use Rattle.pass_lock.specs.Pass.{brought, given}
use Rattle.pass_lock_rows.specs.declared.desk.Event.{Event}
use Rattle.pass_lock_rows.specs.Turns.{Maker, seen_by, Makes, Waits}
use Rattle.pass_lock_rows.proofs.Own.{turned, grew}
use Rattle.pass_lock_rows.proofs.clerk.Clerk.turn.Goals as goal

pub leave-requires-clause-grew : goal.leave-requires-clause-grew
leave-requires-clause-grew g c = let who : ℕ = c.self.inside.who in let was : List Event = c.enter-desk.result in let seen : List Event = seen_by c.self.inside.pass.parts in
    let parts : c.enter-desk.new.pass.parts ≡ (who, was) ∷ [] = ap (λ k. k.parts) c.enter-desk.ensures.pass ∙ ap (λ k. brought was k.parts) c.self.invariant in
    let start : given c.enter-desk.new.pass.turn ≡ was = ap (λ k. given k.turn) c.enter-desk.ensures.pass in
    let has : Contains (numbers c.enter-desk.new.pass.parts) who = subst (λ (p : List (ℕ × List Event)). Contains (numbers p) who) (sym parts) (0, omega arith, refl) in
    let t = grew who c.args.n was c.file-answer.new.self c.enter-desk.new.pass.parts c.file-answer.result has c.file-answer.ensures in
    (t.0, t.1 ∙ ap (λ l. l ++ t.0) (sym start), t.2)

pub returns : goal.returns
returns g c = let who : ℕ = c.self.inside.who in let seen : List Event = seen_by c.self.inside.pass.parts in let was : List Event = c.enter-desk.result in let now : List Event = c.file-answer.new.self in
    let parts : c.self.inside.pass.parts ≡ (who, seen) ∷ [] = ap (λ k. k.parts) c.self.invariant in
    let known : IsKnown (λ (e : Event). e.who) was ((who, seen) ∷ []) = subst (λ (p : List (ℕ × List Event)). IsKnown (λ (e : Event). e.who) was p) parts c.enter-desk.ensures.seen in
    let f : Follows (λ (e : Event). e.who) who seen was = All-head (λ (p : ℕ × List Event). Follows (λ (e : Event). e.who) p.0 p.1 was) (who, seen) [] known in
    let after : seen_by c.leave.new.pass.parts ≡ now = ap (λ k. seen_by k.parts) c.leave.ensures ∙ (ap (λ k. seen_by (brought now k.parts)) c.enter-desk.ensures.pass ∙ ap (λ p. seen_by (brought now (brought was p))) parts) in
    let r = c.file-answer.result in let start : Maker = record { lock = c.self.inside.lock.now; who = who; seen = seen } in
    let base : MatchResult r (λ _. Makes start c.args.n (record start { seen = now })) (λ _. Waits start (record start { seen = now })) = turned c.args.n start was now r f c.file-answer.ensures in
    subst (λ (x : List Event). MatchResult r (λ _. Makes c.args.self.now c.args.n (record start { seen = x })) (λ _. Waits c.args.self.now (record start { seen = x }))) (sym after)
    (subst (λ (m : Maker). MatchResult r (λ _. Makes m c.args.n (record start { seen = now })) (λ _. Waits m (record start { seen = now }))) c.self.view_is base)
