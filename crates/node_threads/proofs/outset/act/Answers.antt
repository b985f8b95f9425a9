use Rattle.std.proofs.Common.{◌≡◌, ◌++◌, List, [], ◌∷◌, sym, ap, ◌∙◌, subst, arith}
use Rattle.legal_journal.specs.declared.events.Event.{Event}
use Rattle.pass_lock.specs.Journal.{Part, Signed}
use Rattle.pass_lock.specs.Pass.{Known, all_parts, brought, given, numbered}
use Rattle.node_threads.specs.Outset.{GoesOutside, MakesCalls}
use Rattle.node_threads.specs.Passes.{journal_of, signer}
use Rattle.node_threads.proofs.Beginning.{acted, goes_own, makes_one, own_signed, was_made}
use Rattle.node_threads.proofs.Joining.{rested_size}
use Rattle.node_threads.proofs.outset.act.Goals as goal

pub enter-desk-requires-clause-part : goal.enter-desk-requires-clause-part
enter-desk-requires-clause-part g c = let all = rested_size c.args.lock.now c.args.main.now c.requires.rested in omega (arith, all)

pub leave-requires-clause-grew : goal.leave-requires-clause-grew
leave-requires-clause-grew g c =
    let was : List Event = c.enter-desk.result.fabric.journal in
    let old : Known Event = c.args.main.now in
    let parts : c.enter-desk.new.pass.parts ≡ brought was (brought (journal_of old) (numbered 0 all_parts)) = ap (λ (k : Known Event). k.parts) c.enter-desk.ensures.pass ∙ ap (λ (k : Known Event). brought was k.parts) c.requires.rested in
    let start : given c.enter-desk.new.pass.turn ≡ was = ap (λ (k : Known Event). given k.turn) c.enter-desk.ensures.pass in
    let a = c.apply-answer.ensures.adds in (
      a.own,
      a.added ∙ ap (λ (l : List Event). l ++ a.own) (sym start),
      subst (λ (q : List (Part Event)). Signed signer q a.own) (sym parts) (own_signed was (journal_of old) c.args.call c.apply-answer.result a.own a.event),
    )

pub returns-then-is_made-clause-rested : goal.returns-then-is_made-clause-rested
returns-then-is_made-clause-rested g c =
    (acted c.args.lock.now c.enter-desk.result.fabric.journal c.apply-answer.new.self.journal c.args.main.now c.enter-desk.new.pass c.leave.new.pass _ _ c.requires.rested c.enter-desk.ensures.seen c.enter-desk.ensures.signed c.enter-desk.ensures.pass c.leave.ensures).rested

pub returns-then-is_made-clause-made : goal.returns-then-is_made-clause-made
returns-then-is_made-clause-made g c =
    let was : List Event = c.enter-desk.result.fabric.journal in
    let now : List Event = c.apply-answer.new.self.journal in
    let a = c.apply-answer.ensures.adds in
    let d = acted c.args.lock.now was now c.args.main.now c.enter-desk.new.pass c.leave.new.pass _ _ c.requires.rested c.enter-desk.ensures.seen c.enter-desk.ensures.signed c.enter-desk.ensures.pass c.leave.ensures in
    let one = was_made c.is_made.result 0 c.args.call c.apply-answer.result a.own c.is_made.ensures c.if-is_made.true c.requires.acts a.event in
    subst (MakesCalls (c.args.call ∷ []) (journal_of c.args.main.now)) (sym d.first)
    (subst (λ j. MakesCalls (c.args.call ∷ []) j now) d.same (makes_one c.args.call c.apply-answer.result was a.own now one a.added))

pub returns-then-is_made-clause-goes : goal.returns-then-is_made-clause-goes
returns-then-is_made-clause-goes g c =
    let was : List Event = c.enter-desk.result.fabric.journal in
    let now : List Event = c.apply-answer.new.self.journal in
    let a = c.apply-answer.ensures.adds in
    let d = acted c.args.lock.now was now c.args.main.now c.enter-desk.new.pass c.leave.new.pass _ _ c.requires.rested c.enter-desk.ensures.seen c.enter-desk.ensures.signed c.enter-desk.ensures.pass c.leave.ensures in
    subst (GoesOutside g.P.Rules.law (journal_of c.args.main.now)) (sym d.first)
    (subst (λ j. GoesOutside g.P.Rules.law j now) d.same (goes_own g.P.Rules.law c.args.call c.apply-answer.result was a.own now c.requires.acts a.event a.added c.apply-answer.ensures.legal))

pub returns-clause-rested : goal.returns-clause-rested
returns-clause-rested g c =
    (acted c.args.lock.now c.enter-desk.result.fabric.journal c.apply-answer.new.self.journal c.args.main.now c.enter-desk.new.pass c.leave.new.pass _ _ c.requires.rested c.enter-desk.ensures.seen c.enter-desk.ensures.signed c.enter-desk.ensures.pass c.leave.ensures).rested

pub returns-clause-goes : goal.returns-clause-goes
returns-clause-goes g c =
    let was : List Event = c.enter-desk.result.fabric.journal in
    let now : List Event = c.apply-answer.new.self.journal in
    let a = c.apply-answer.ensures.adds in
    let d = acted c.args.lock.now was now c.args.main.now c.enter-desk.new.pass c.leave.new.pass _ _ c.requires.rested c.enter-desk.ensures.seen c.enter-desk.ensures.signed c.enter-desk.ensures.pass c.leave.ensures in
    subst (GoesOutside g.P.Rules.law (journal_of c.args.main.now)) (sym d.first)
    (subst (λ j. GoesOutside g.P.Rules.law j now) d.same (goes_own g.P.Rules.law c.args.call c.apply-answer.result was a.own now c.requires.acts a.event a.added c.apply-answer.ensures.legal))
