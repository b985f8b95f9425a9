use Rattle.std.proofs.Common.{◌∙◌, sym}
use Rattle.script_words.proofs.Words.{none_at}
use Rattle.script_words.proofs.shelf.all_kinds.Goals as goal

pub returns-in-None : goal.returns-in-None
returns-in-None c = none_at c.loop-word.kinds.items c.args.words.now c.loop-word.word-index _ _ c.loop-word-test.true (sym c.kind_of.ensures ∙ c.in-None.is) c.loop-word.invariant
