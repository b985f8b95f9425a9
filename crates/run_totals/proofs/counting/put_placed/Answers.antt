use Rattle.std.proofs.Common.{◌≡◌, ap, ◌∙◌, Some, rules}
use Rattle.run_totals.specs.Replay.{shown, with_placed}
use Rattle.run_totals.proofs.Replaying.{shown-insert}
use Rattle.run_totals.proofs.counting.put_placed.Goals as goal

pub returns-in_ok-insert-in-Some : goal.returns-in_ok-insert-in-Some
returns-in_ok-insert-in-Some c =
    let copy : c.in_ok-command-in-Some.command ≡ c.in-Some.command.now = search rules in
    ap shown c.in_ok-insert-in-Some.ensures.entries
    ∙ shown-insert c.args.turns.now.entries c.in-Some.turn c.in_ok-command-in-Some.command
    ∙ ap (λ k. with_placed (shown c.args.turns.now.entries) (Some (c.in-Some.turn, Some k))) copy
    ∙ ap (with_placed (shown c.args.turns.now.entries)) c.in-Some.ensures
