use Rattle.std.proofs.Common.{◌≡◌, List, sym, ap, ◌∙◌}
use Rattle.legal_journal.specs.declared.events.Event.{Event}
use Rattle.pass_lock.specs.Pass.{Known, brought}
use Rattle.pass_lock.proofs.Known.{brought-again}
use Rattle.node_threads.proofs.phase.look.Goals as goal

pub returns : goal.returns
returns g c =
    let was : List Event = c.enter-desk.result.fabric.journal in
    let old : Known Event = c.args.main.now in
    let new : Known Event = c.leave.new.pass in
    let lock_is : new.lock ≡ old.lock = ap (λ (k : Known Event). k.lock) c.leave.ensures ∙ ap (λ (k : Known Event). k.lock) c.enter-desk.ensures.pass in
    let parts_are : new.parts ≡ brought was old.parts = ap (λ (k : Known Event). k.parts) c.leave.ensures ∙ (ap (λ (k : Known Event). brought was k.parts) c.enter-desk.ensures.pass ∙ brought-again was was old.parts) in
    let turn_is : new.turn ≡ old.turn = ap (λ (k : Known Event). k.turn) c.leave.ensures ∙ sym c.requires.outside in
    record {
      journal = was;
      known = c.enter-desk.ensures.seen;
      is = λ i. record { lock = lock_is i; parts = parts_are i; made = new.made; turn = turn_is i };
      legal = c.journal-legal.ensures.legal;
      signed = c.enter-desk.ensures.signed;
    }
