use Rattle.std.proofs.Common.{length, ap, sym, ◌∙◌, subst}
use Rattle.engine_api.specs.Members.{clean_position}
use Rattle.engine_steps.specs.Layout.{clean_of}
use Rattle.node_lines.specs.Measuring.{Measures}
use Rattle.node_lines.proofs.Measuring.{measures_other, measures_none}
use Rattle.node_lines.proofs.measure.measure_clean.Goals as goal

pub returns-in-Failed : goal.returns-in-Failed
returns-in-Failed g c =
    let p = g.T.Law.Rules in
    let old = c.args.node.now in
    let new = c.catch_up.new.node in
    record { measures = measures_none p.law length clean_position old new c.in-Failed.cause (subst (Measures p.law length old new) c.in-Failed.is c.in_ok-cause.ensures.measures) }

pub returns-in_ok-position-in-At : goal.returns-in_ok-position-in-At
returns-in_ok-position-in-At g c =
    let p = g.T.Law.Rules in
    let old = c.args.node.now in
    let new = c.catch_up.new.node in
    record {
      measures = measures_other p.law length clean_position old new c.in-At.field-0 c.in_ok-position-in-At.position (subst (Measures p.law length old new) c.in-At.is c.in_ok-cause.ensures.measures)
          (λ log size led. c.in_ok-position-in-At.ensures.clean ∙ (ap (clean_of new.replica.contents) (sym size) ∙ led.clean));
    }
