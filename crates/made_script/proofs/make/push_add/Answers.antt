use Rattle.std.proofs.lemmas.Result.{on_ok_weaker}
use Rattle.made_script.proofs.Steps.{line_put, put-ok}
use Rattle.made_script.proofs.make.push_add.Goals as goal

pub returns : goal.returns
returns c =
    on_ok_weaker c.extend_from_slice-4.result
    (λ ended. line_put c.args.node c.args.key c.args.amount _ _ _ _ _ _ _ c.in_ok-extend_from_slice.ensures.items c.in_ok-extend_from_slice-2.ensures.items
    c.in_ok-push_number.ensures c.in_ok-extend_from_slice-3.ensures.items c.in_ok-push_number-2.ensures ended)
    (put-ok c.extend_from_slice-4.result _ _ _ c.extend_from_slice-4.ensures.items)
