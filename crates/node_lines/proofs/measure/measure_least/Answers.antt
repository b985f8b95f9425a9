use Rattle.std.proofs.Common.{length, ap, ◌∙◌, subst}
use Rattle.engine_api.specs.Acted.{unpack_all}
use Rattle.engine_api.specs.Members.{least_position}
use Rattle.node_lines.specs.declared.measure.Measured.TheVariants as measured
use Rattle.node_lines.specs.Measuring.{Measures}
use Rattle.node_lines.proofs.Floors.{least-in_state}
use Rattle.node_lines.proofs.Measuring.{measures_other, measures_none}
use Rattle.node_lines.proofs.measure.measure_least.Goals as goal

pub returns-in-Failed : goal.returns-in-Failed
returns-in-Failed g c =
    let p = g.T.Law.Rules in
    let old = c.args.node.now in
    let new = c.catch_up.new.node in
    record { measures = measures_none p.law length (λ log. least_position old.nodes (unpack_all 0 log)) old new c.in-Failed.cause (subst (Measures p.law length old new) c.in-Failed.is c.in_ok-cause.ensures.measures) }

pub returns-in_ok-position-in-At : goal.returns-in_ok-position-in-At
returns-in_ok-position-in-At g c =
    let p = g.T.Law.Rules in
    let old = c.args.node.now in
    let new = c.catch_up.new.node in
    let h : Measures p.law length old new (measured.At c.in-At.field-0) = subst (Measures p.law length old new) c.in-At.is c.in_ok-cause.ensures.measures in
    record {
      measures = measures_other p.law length (λ log. least_position old.nodes (unpack_all 0 log)) old new c.in-At.field-0 c.in_ok-position-in-At.position h
          (λ log size led. c.in_ok-position-in-At.ensures.least ∙ (least-in_state new.nodes log new.replica.contents led ∙ ap (λ nodes. least_position nodes (unpack_all 0 log)) h.moves.goes.keeps.nodes));
    }
