use Rattle.std.proofs.Common.{◌≡◌, ◌+◌, ◌-◌, ◌++◌, ◌∷◌, [], length, map, drop, sym, ap, ◌∙◌, arith, rules}
use Rattle.std.proofs.lemmas.List.{length-map}
use Rattle.std.specs.Arc.{arc_value}
use Rattle.snap_reads.specs.Steps.{says}
use Rattle.snap_reads.specs.declared.change.Published.{Published}
use Rattle.snap_reads.proofs.Steps.{carried_on}
use Rattle.snap_reads.proofs.absorb.end.Goals as goal

pub returns-clause-ok : goal.returns-clause-ok
returns-clause-ok c =
    let old = c.args.shown.now in
    let count : c.in-Some.count ≡ old.count + 1 = c.in-Some.ensures.1 in
    let sizes : length (map arc_value old.carried.items) ≡ length old.carried.items = length-map old.carried.items arc_value in
    let size : c.len.result ≡ length old.carried.items = c.len.ensures ∙ old.carried.ok.0 in
    let many : c.saturating_sub.result ≡ c.args.needless - (old.count - length (map arc_value old.carried.items)) =
    c.saturating_sub.ensures ∙ ap (λ n. c.args.needless - n) (c.saturating_sub-first.ensures ∙ ap (λ n. old.count - n) (size ∙ sym sizes)) in
    let carried = carried_on arc_value c.saturating_sub.result old.carried.items c.push_back.new.self.items c.let_go.new.carried.items c.in_ok-kept.kept (arc_value c.args.of.now) c.let_go.ensures c.in-Ok.ensures.items c.in_ok-kept.ensures
    ∙ ap (λ n. drop n (map arc_value old.carried.items ++ arc_value c.args.of.now ∷ [])) many in
    λ i. record { tables = old.tables; pos = (c.deref.ensures i).pos; count = count i; carried = carried i }
