use Rattle.std.proofs.Common.{◌∙◌, ap, drop}
use Rattle.std.proofs.lemmas.List.{drop-drop}
use Rattle.native_loglet.proofs.opening.let_go.Goals as goal

pub loop-index-preserved : goal.loop-index-preserved
loop-index-preserved c = c.pop_front.ensures.rest ∙ ap (drop 1) c.loop-index.invariant ∙ drop-drop 1 c.loop-index._index c.args.entries.now.items
