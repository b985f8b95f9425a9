-- The text of a refused script.
use Rattle.std.specs.Prelude.{◌++◌, ℕ, List, codes}
use Rattle.std.specs.Fmt.{decimal}
use Rattle.script_text.specs.declared.line.Rule.{Rule}
use Rattle.script_text.specs.declared.line.Rule.TheVariants as rule
use Rattle.script_text.specs.declared.script.BadLine.{BadLine}

abbrev pub rule_text : Rule → List ℕ
rule_text rule.ScriptTooLong = codes "script too long"
rule_text rule.TooManyLines = codes "too many lines"
rule_text rule.TooLong = codes "too long"
rule_text rule.Byte = codes "byte"
rule_text rule.Spaces = codes "spaces"
rule_text rule.Word = codes "word"
rule_text rule.Count = codes "count"
rule_text rule.Node = codes "node"
rule_text rule.Session = codes "session"
rule_text rule.Number = codes "number"
rule_text rule.Key = codes "key"
rule_text rule.Value = codes "value"
rule_text rule.Retired = codes "retired"
rule_text rule.Moved = codes "moved"
rule_text rule.Sessions = codes "sessions"

-- `line N: RULE`
abbrev pub refusal_text : BadLine → List ℕ
refusal_text b = codes "line " ++ decimal b.n ++ codes ": " ++ rule_text b.rule ++ codes "\n"
