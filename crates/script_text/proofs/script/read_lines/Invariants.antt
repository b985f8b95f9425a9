use Rattle.std.proofs.Common.{◌≡◌, ◌≤◌, length}
use Rattle.script_text.specs.Script.{lines_from, lines_in, script_of}
use Rattle.script_text.proofs.Runs.{with_front}
use Rattle.script_text.proofs.script.read_lines.Given as goal

abbrev pub invariant-loop-rest : goal.invariant-loop-rest
invariant-loop-rest l = record {
  so_far : with_front l.lines.items (lines_from l.nodes l.seen l.n l.at (lines_in l.rest)) ≡ script_of l.nodes l.bytes;
  place : l.at ≤ 1048576;
  number : l.n ≤ 20001;
}

abbrev pub decreases-loop-rest : goal.decreases-loop-rest
decreases-loop-rest l = length l.rest
