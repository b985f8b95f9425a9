use Rattle.std.proofs.Common.{◌<◌, ◌+◌, ◌^◌, ◌∙◌, ◌++◌, List, length, subst, sym, ap, arith, [], ◌∷◌}
use Rattle.std.specs.Option.{option_to_list}
use Rattle.std.proofs.lemmas.Iterator.Adapters.{YieldsList-from_vec}
use Rattle.std.proofs.lemmas.Iterator.Consumers.{YieldsList-turn}
use Rattle.script_text.specs.declared.asks.NamedLine.{NamedLine}
use Rattle.script_text.specs.declared.asks.Walk.{Walk}
use Rattle.script_text.specs.Lines.{lines_of}
use Rattle.script_text.proofs.Walking.{IsPast, past_none, past_line, named_is, lines_of-snoc}
use Rattle.script_text.proofs.asks.named_lines.Goals as goal

pub loop-line-init : goal.loop-line-init
loop-line-init c = record {
  past = subst (λ (w : Walk). IsPast [] w) (sym c.walk_from_the_start-walk.ensures) past_none;
  named = c.in_ok-items.ensures.items;
}

pub loop-line-preserved : goal.loop-line-preserved
loop-line-preserved c =
    let all = c.into_iter-line-iterator.ensures.into_iter_gives in
    let same_length = all.1 ∙ c.into_lines-lines.result.ok.0 in
    let turn = YieldsList-turn (YieldsList-from_vec {s = c.into_iter-line-iterator.result} _ all.0 same_length) c.loop-line.yielded c.loop-line.line-iterator c.loop-line.yielded_by _ c.next.new.self c.in-Some.line c.in-Some.is c.next.ensures.steps in
    let small : length c.loop-line.yielded + 1 < 2 ^ 64 = omega (arith, turn.0, all.2, same_length) in
    let named = c.walk_on-named.ensures.named ∙ named_is c.loop-line.yielded c.in-Some.line c.loop-line.walk small c.loop-line.invariant.past c.walk_on-named.ensures.counted in
    record {
      past = subst (λ (w : Walk). IsPast (c.loop-line.yielded ++ c.in-Some.line ∷ []) w) (sym c.walk_on-named.ensures.walked)
          (past_line c.loop-line.yielded c.in-Some.line c.loop-line.walk small c.loop-line.invariant.past c.walk_on-named.ensures.counted);
      named = c.in_ok-push_some.ensures ∙ ap (λ (t : List NamedLine). t ++ option_to_list c.walk_on-named.result) c.loop-line.invariant.named
          ∙ ap (λ o. lines_of c.loop-line.yielded ++ option_to_list o) named ∙ sym (lines_of-snoc c.loop-line.yielded c.in-Some.line);
    }
