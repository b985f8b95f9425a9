use Rattle.std.proofs.Common.{◌<◌, length, slice_index_or, slice_set, sym, subst, ◌∙◌, arith}
use borrow.Author.Count.{below_more}
use Rattle.std.proofs.lemmas.List.{get_or-set_same, get_or-set_other, get_or_default, length-set}
use Rattle.node_threads.specs.Each.{Changes}
use Rattle.node_threads.proofs.threads.in_turn.Goals as goal

pub loop-k-preserved : goal.loop-k-preserved
loop-k-preserved g c =
    let k = c.loop-k.k in
    let xs = c.args.s.now in
    let ys = c.loop-k.s in
    let y = c.at_one.new.it in
    let i = c.loop-k.invariant in
    let R : g.row.T.Denot → g.row.T.Denot → Type 0 = Changes g.F.Fn c.args.f.now in
    let within : k < length ys = omega arith in
    record {
      size = length-set ys k y ∙ i.size;
      later = λ j d h. get_or-set_other ys k j y d (λ e. omega arith) ∙ i.later j d (omega arith);
      done = λ j d h. below_more (λ n. R (slice_index_or xs n d) (slice_index_or (slice_set ys k y) n d)) k
          (λ n u. subst (R (slice_index_or xs n d)) (sym (get_or-set_other ys k n y d (λ e. omega arith))) (i.done n d u))
          (subst (R (slice_index_or xs k d)) (sym (get_or-set_same ys k y d within))
          (subst (λ x. R x y) (get_or_default ys k _ d within ∙ i.later k d (omega arith)) c.at_one.ensures))
          j h;
    }
