-- The exit status of the program.
use Rattle.std.specs.Prelude.{ℕ}
use Rattle.script_runner.specs.declared.ended.Status.{Status}
use Rattle.script_runner.specs.declared.ended.Status.TheVariants.{Done, Open, BadLine, BadWords, SourceFault, SinkFault, Memory}

abbrev pub code_of : Status → ℕ
code_of Done = 0
code_of Open = 1
code_of BadLine = 2
code_of BadWords = 3
code_of SourceFault = 4
code_of SinkFault = 5
code_of Memory = 6
