use Rattle.std.proofs.Common.{sym, subst, List, ◌∷◌, [], Option}
use Rattle.atomic_table.specs.Table.{opening}
use Rattle.pass_lock.specs.Rule.{Kept, opened}
use Rattle.pass_lock.proofs.Ends.{opens}
use Rattle.pass_lock.proofs.lock.Shared.new.Goals as goal

pub new-requires : goal.new-requires
new-requires g c = subst (λ (l : List (Option g.row.S.Denot)). Kept g.S.Chronicled.journal g.S.Chronicled.signer 65536 (opening (0 ∷ 0 ∷ 0 ∷ []) l (opened 65536))) (sym c.in_ok-slots.ensures.ok)
    (opens g.S.Chronicled.journal g.S.Chronicled.signer 65536 c.args.value c.requires)
