use Rattle.std.proofs.Common.{◌≡◌, ◌≤◌, Err, ap, arith, length, subst, rules}
use Rattle.script_text.specs.declared.script.ParseError.{ParseError}
use Rattle.script_text.specs.declared.script.ParseError.TheVariants as parse
use Rattle.script_text.specs.Script.{script_of, ReadsScript}
use Rattle.script_runner.specs.Ends.{read_limit}
use Rattle.script_runner.proofs.Outside.{bad-parsed, refused-read}
use Rattle.script_runner.proofs.lines.read_lines.Goals as goal

pub returns-in_err-script-clause-bad : goal.returns-in_err-script-clause-bad
returns-in_err-script-clause-bad g c = λ bad is.
    let plan = c.args.plan.now in
    let bytes = c.in_ok-bytes.bytes.items in
    let fault = c.in_err-script.field-0.0 in
    let same = bad-parsed c.from_residual-in_err-script.result fault bad is c.from_residual-in_err-script.ensures.1 in
    let within : length bytes ≤ read_limit = search rules in
    refused-read plan (g.S.Source.left c.args.source.now) (g.S.Source.left c.read_up_to.new.source) bytes bad c.requires.run c.in_ok-bytes.ensures.bytes within
    (rw c.as_slice.ensures.value at (subst (λ (f : ParseError). ReadsScript (Err f) (script_of plan.nodes c.as_slice.result.now)) same c.in_err-script.ensures.exact))
