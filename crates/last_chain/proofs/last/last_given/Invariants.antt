use Rattle.std.proofs.Common.{◌≡◌, ◌≤◌, length, take}
use Rattle.last_chain.specs.Gifts.{given_last}
use Rattle.last_chain.proofs.last.last_given.Given as goal

-- no event from here on gave a chain
abbrev pub invariant-loop-left : goal.invariant-loop-left
invariant-loop-left l = record {
  within : l.left ≤ length l.journal;
  rest : given_last l.journal ≡ given_last (take l.left l.journal);
}

abbrev pub decreases-loop-left : goal.decreases-loop-left
decreases-loop-left l = l.left
