use Rattle.std.proofs.Common.{subst}
use Rattle.script_text.specs.Script.{ReadsScript}
use Rattle.script_text.proofs.Laws.{is_found, is_short}
use Rattle.script_text.proofs.Again.{script_again}
use Rattle.script_text.proofs.Table.{is_refused, refused_again}
use Rattle.script_text.proofs.script.parse.Goals as goal

pub returns-clause-found : goal.returns-clause-found
returns-clause-found c = is_found c.args.nodes c.args.bytes.now c.read_lines.result c.read_lines.ensures

pub returns-clause-only : goal.returns-clause-only
returns-clause-only c = λ s spelled. subst (λ f. ReadsScript c.read_lines.result f) (script_again c.args.nodes c.args.bytes.now s c.requires spelled) c.read_lines.ensures

pub returns-clause-short : goal.returns-clause-short
returns-clause-short c = is_short c.args.nodes c.args.bytes.now c.read_lines.result c.read_lines.ensures

pub returns-clause-refused : goal.returns-clause-refused
returns-clause-refused c = λ bad is. is_refused c.args.nodes c.args.bytes.now c.read_lines.result bad c.read_lines.ensures is

pub returns-clause-told : goal.returns-clause-told
returns-clause-told c = λ bad spelled. subst (λ f. ReadsScript c.read_lines.result f) (refused_again c.args.nodes c.args.bytes.now bad c.requires spelled) c.read_lines.ensures
