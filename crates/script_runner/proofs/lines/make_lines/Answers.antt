use Rattle.std.proofs.Common.{◌≡◌, ◌∙◌, ap, refl, sym, subst, rules, List}
use Rattle.script_text.specs.declared.asks.NamedLine.{NamedLine}
use Rattle.script_text.specs.Lines.{lines_of}
use Rattle.script_text.specs.Spelling.{IsScript}
use Rattle.script_words.specs.Plans.{IsTask}
use Rattle.script_words.specs.declared.plan.Task.{Task}
use Rattle.made_script.specs.Made.{made_lines, made_text}
use Rattle.made_script.proofs.Spelled.{made-script}
use Rattle.crew_run.proofs.Running.{if_ok}
use Rattle.script_runner.specs.Lines.{AreLinesFor, TakenFrom}
use Rattle.script_runner.proofs.Outside.{read-same}
use Rattle.script_runner.proofs.lines.make_lines.Goals as goal

pub returns : goal.returns
returns c =
    let plan = c.args.plan.now in
    let script = made_lines plan.seed c.args.count plan.nodes in
    let few = subst IsTask c.requires.make c.requires.plan.task in
    let is = made-script plan.seed c.args.count plan.nodes c.requires.plan.nodes.0 c.requires.plan.nodes.1 few.1 in
    let text : c.as_slice.result.now ≡ made_text plan.seed c.args.count plan.nodes = search rules in
    let same = read-same script c.in-Ok.script (c.in-Ok.ensures.only script (subst (λ bs. IsScript plan.nodes bs script) (sym text) is)) in
    record {
      lines = λ left.
          if_ok (λ (ls : List NamedLine). ls ≡ lines_of c.in-Ok.script) (AreLinesFor plan left)
          (λ ls are. record {
            bytes = made_text plan.seed c.args.count plan.nodes;
            script = script;
            comes = subst (λ (t : Task). TakenFrom t plan left (made_text plan.seed c.args.count plan.nodes) script) (sym c.requires.make) (refl, refl);
            spelled = is;
            are = are ∙ ap lines_of same;
          })
          c.named_lines.result c.named_lines.ensures;
    }
