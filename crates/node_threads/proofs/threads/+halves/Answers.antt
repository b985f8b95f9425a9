use Rattle.std.proofs.Common.{◌++◌, List, sym, subst}
use Rattle.node_threads.specs.Each.{ChangesAll}
use Rattle.node_threads.proofs.Halves.{both}
use Rattle.node_threads.proofs.threads.+halves.Goals as goal

pub beside-returns : goal.beside-returns
beside-returns g t c =
    let cut = c.split_at_mut-a in
    subst (λ (xs : List g.row.T.Denot). ChangesAll g.F.Fn c.args.f.now xs (c.both_halves.new.a ++ c.both_halves.new.b)) (sym cut.ensures.value)
    (both g.F.Fn c.args.f.now cut.result.0.now cut.result.1.now c.both_halves.new.a c.both_halves.new.b c.both_halves.ensures.front c.both_halves.ensures.back)
