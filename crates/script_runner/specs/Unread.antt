-- Why there are no lines where a source wasn't read, or a script.
use Rattle.outside_ends.specs.declared.whole.ReadError.{ReadError}
use Rattle.outside_ends.specs.declared.whole.ReadError.TheVariants as read
use Rattle.script_text.specs.declared.script.ParseError.{ParseError}
use Rattle.script_text.specs.declared.script.ParseError.TheVariants as parse
use Rattle.script_runner.specs.declared.lines.NoLines.{NoLines}
use Rattle.script_runner.specs.declared.lines.NoLines.TheVariants as none

abbrev pub unread : ReadError → NoLines
unread read.Memory = none.Memory
unread read.Failed = none.Source

abbrev pub unparsed : ParseError → NoLines
unparsed parse.Memory = none.Memory
unparsed (parse.Bad bad) = none.Bad bad
