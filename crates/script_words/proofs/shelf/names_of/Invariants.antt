use Rattle.std.proofs.Common.{◌≡◌, map, take}
use Rattle.script_words.specs.Shelf.{kind_name}
use Rattle.script_words.proofs.shelf.names_of.Given as goal

abbrev pub invariant-loop-kind : goal.invariant-loop-kind
invariant-loop-kind l = map (λ s. s.now) l.names.items ≡ map kind_name (take l.kind-index l.kinds)
