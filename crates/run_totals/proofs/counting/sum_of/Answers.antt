use Rattle.std.proofs.Common.{◌≡◌, sym, ap, ◌∙◌, arith, rules, ◌+ℤ◌, fold, length, FitsSigned, w64, to_z, of_z}
use Rattle.std.specs.Int.{w128}
use Rattle.std.specs.Map.Iter.{deref_pair}
use Rattle.std.proofs.lemmas.Int.{ints, to_z-of_z}
use Rattle.std.proofs.lemmas.List.{length_push}
use Rattle.std.proofs.lemmas.Map.Iter.{rest_more}
use Rattle.run_totals.specs.Totals.{number_in}
use Rattle.run_totals.proofs.counting.sum_of.Goals as goal

pub loop-value-preserved : goal.loop-value-preserved
loop-value-preserved c =
    let step = rest_more deref_pair c.loop-value.value-iterator c.next.new.self c.next.result (c.in-Some.field-0-0, c.in-Some.value) c.in-Some.is c.next.ensures.steps in
    let left = ap length step in
    let count = length_push c.loop-value.yielded (c.in-Some.field-0-0, c.in-Some.value) in
    let fits : FitsSigned w64 c.number_in-number.result = search rules in
    let number : c.from-sum.result ≡ c.number_in-number.result = c.from-sum.ensures ∙ to_z-of_z w64 c.number_in-number.result fits in
    let sum : to_z w128 (of_z w128 (to_z w128 c.loop-value.sum-bits +ℤ to_z w128 (of_z w128 c.from-sum.result))) ≡ to_z w128 c.loop-value.sum-bits +ℤ c.number_in-number.result = omega (arith, ints) in
    record {
      can_next = tt;
      is_finite = tt;
      whole =
          ap (λ s. fold (λ s e. s +ℤ number_in e.1) s c.next.new.self) (sum ∙ ap (λ n. to_z w128 c.loop-value.sum-bits +ℤ n) c.number_in-number.ensures)
          ∙ sym (ap (fold (λ s e. s +ℤ number_in e.1) (to_z w128 c.loop-value.sum-bits)) step)
          ∙ c.loop-value.invariant.whole;
      short = omega (arith, c.loop-value.invariant.short);
      low = omega (arith, ints);
      high = omega (arith, ints);
    }
