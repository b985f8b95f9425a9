use Rattle.std.proofs.Common.{◌≡◌, ◌++◌, take, codes}
use Rattle.std.specs.List.{flat_map}
use Rattle.row_text.specs.Output.{pair_text}
use Rattle.row_text.proofs.render.put_others.Given as goal

abbrev pub invariant-loop-pair : goal.invariant-loop-pair
invariant-loop-pair l = l.out ≡ l.fn.out ++ flat_map (λ q. codes " " ++ pair_text q) (take l.pair-index l.pairs)
