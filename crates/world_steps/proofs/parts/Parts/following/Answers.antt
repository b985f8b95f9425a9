use Rattle.std.proofs.Common.{◌≡◌, ◌∙◌, ap, sym, Some}
use Rattle.world_steps.specs.Parts.{World, given_under}
use Rattle.world_steps.specs.Laws.{any_append, any_trim}
use Rattle.world_steps.proofs.Fits.{given_chain, change_fits}
use Rattle.world_steps.proofs.parts.Parts.following.Goals as goal

pub changed-requires-clause-chain : goal.changed-requires-clause-chain
changed-requires-clause-chain c =
    let given : given_under c.args.self.now.register c.args.expected ≡ Some c.in-Some.old.now = sym (ap (λ (w : World). given_under w.register c.args.expected) c.self.view_is) ∙ sym c.in-Some.ensures in
    given_chain any_append any_trim c.args.self.now c.requires c.args.expected c.in-Some.old.now given

pub changed-requires-clause-fits : goal.changed-requires-clause-fits
changed-requires-clause-fits c =
    let given : given_under c.args.self.now.register c.args.expected ≡ Some c.in-Some.old.now = sym (ap (λ (w : World). given_under w.register c.args.expected) c.self.view_is) ∙ sym c.in-Some.ensures in
    change_fits any_append any_trim c.args.self.now c.requires c.args.expected c.in-Some.old.now c.args.change given (sym c.if-not-may_follow.ensures)
