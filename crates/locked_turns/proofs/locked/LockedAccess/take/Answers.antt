use Rattle.std.proofs.Common.{◌≡◌, ◌≢◌, ℕ, List, [], ◌∷◌, ◌++◌, sym, ap, ◌∙◌, subst}
use Rattle.std.proofs.lemmas.List.Elements.{All-head}
use Rattle.legal_journal.specs.declared.events.Event.{Event}
use Rattle.legal_journal.specs.Journal.{state_of, IsLegal}
use Rattle.legal_journal.specs.Turns.{MayCall}
use Rattle.pass_lock.specs.Journal.{Part, Follows, IsKnown, Signed}
use Rattle.pass_lock.specs.Pass.{brought, given, first_seen}
use Rattle.turn_scopes.specs.Beside.{MayTake, IsTaken}
use Rattle.locked_turns.specs.Locked.{LockedView}
use Rattle.locked_turns.proofs.Passing.{besides, own_signed}
use Rattle.locked_turns.proofs.locked.LockedAccess.take.Goals as goal

pub apply-answer-requires : goal.apply-answer-requires
apply-answer-requires g c =
    let p = g.P.Rules in
    let who : ℕ = c.self.inside.who in
    let seen : List Event = first_seen c.self.inside.pass.parts in
    let was : List Event = c.enter-desk.result.fabric.journal in
    let parts : c.self.inside.pass.parts ≡ (who, seen) ∷ [] = ap (λ k. k.parts) c.self.invariant.1 in
    let known : IsKnown (λ (e : Event). e.who) was ((who, seen) ∷ []) = subst (λ (q : List (Part Event)). IsKnown (λ (e : Event). e.who) was q) parts c.enter-desk.ensures.seen in
    let f : Follows (λ (e : Event). e.who) who seen was = All-head (λ (q : Part Event). Follows (λ (e : Event). e.who) q.0 q.1 was) (who, seen) [] known in
    let may = subst (λ (x : LockedView). MayTake p.law (λ user. user ≢ x.who) x.who x.seen c.args.call) (sym c.self.view_is) c.requires.may in
    subst (λ (es : List Event). MayCall (state_of es) p.law who c.args.call) (sym f.1)
    (may.behind f.0 (besides who f.0 f.2) (subst (IsLegal p.law) f.1 c.journal-legal.ensures.legal))

pub leave-requires-clause-grew : goal.leave-requires-clause-grew
leave-requires-clause-grew g c =
    let who : ℕ = c.self.inside.who in
    let was : List Event = c.enter-desk.result.fabric.journal in
    let parts : c.enter-desk.new.pass.parts ≡ (who, was) ∷ [] = ap (λ k. k.parts) c.enter-desk.ensures.pass ∙ ap (λ k. brought was k.parts) c.self.invariant.1 in
    let start : given c.enter-desk.new.pass.turn ≡ was = ap (λ k. given k.turn) c.enter-desk.ensures.pass in
    let a = c.apply-answer.ensures.adds in (
      a.own,
      a.added ∙ ap (λ (l : List Event). l ++ a.own) (sym start),
      subst (λ (q : List (Part Event)). Signed (λ (e : Event). e.who) q a.own) (sym parts) (own_signed who c.args.call c.apply-answer.result a.own was a.event),
    )

pub returns-clause-taken : goal.returns-clause-taken
returns-clause-taken g c =
    let p = g.P.Rules in
    let who : ℕ = c.self.inside.who in
    let seen : List Event = first_seen c.self.inside.pass.parts in
    let was : List Event = c.enter-desk.result.fabric.journal in
    let now : List Event = c.apply-answer.new.self.journal in
    let parts : c.self.inside.pass.parts ≡ (who, seen) ∷ [] = ap (λ k. k.parts) c.self.invariant.1 in
    let known : IsKnown (λ (e : Event). e.who) was ((who, seen) ∷ []) = subst (λ (q : List (Part Event)). IsKnown (λ (e : Event). e.who) was q) parts c.enter-desk.ensures.seen in
    let f : Follows (λ (e : Event). e.who) who seen was = All-head (λ (q : Part Event). Follows (λ (e : Event). e.who) q.0 q.1 was) (who, seen) [] known in
    let a = c.apply-answer.ensures.adds in
    let after : first_seen c.leave.new.pass.parts ≡ now = ap (λ k. first_seen k.parts) c.leave.ensures ∙ (ap (λ k. first_seen (brought now k.parts)) c.enter-desk.ensures.pass ∙ ap (λ q. first_seen (brought now (brought was q))) parts) in
    let base : IsTaken p.law (λ user. user ≢ who) who seen c.args.call c.apply-answer.result now = record {
      others = f.0;
      own = a.own;
      between = besides who f.0 f.2;
      event = a.event;
      seen = a.added ∙ ap (λ (l : List Event). l ++ a.own) f.1;
      legal = c.apply-answer.ensures.legal;
    } in
    subst (λ (x : List Event). IsTaken p.law (λ user. user ≢ c.args.self.now.who) c.args.self.now.who c.args.self.now.seen c.args.call c.apply-answer.result x) (sym after)
    (subst (λ (m : LockedView). IsTaken p.law (λ user. user ≢ m.who) m.who m.seen c.args.call c.apply-answer.result now) c.self.view_is base)
