use Rattle.std.proofs.Common.{◌≡◌, map, drop}
use Rattle.script_words.specs.Shelf.{all_kinds}
use Rattle.script_words.proofs.Words.{with_front}
use Rattle.script_words.proofs.shelf.all_kinds.Given as goal

abbrev pub invariant-loop-word : goal.invariant-loop-word
invariant-loop-word l = with_front l.kinds.items (all_kinds (map (λ s. s.now) (drop l.word-index l.words))) ≡ all_kinds (map (λ s. s.now) l.words)
