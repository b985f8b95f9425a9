use Rattle.std.proofs.Common.{◌≡◌, ◌∷◌, map, string_bytes, codes, take}
use Rattle.script_words.proofs.plan.told_words.Given as goal

abbrev pub invariant-loop-word : goal.invariant-loop-word
invariant-loop-word l = map (λ s. s.now) l.told.items ≡ codes "delos_sim" ∷ map string_bytes (take l.word-index l.words)
