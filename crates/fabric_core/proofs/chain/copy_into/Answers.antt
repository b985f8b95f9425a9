use Rattle.std.proofs.Common.{length, ap, arith}
use Rattle.chain_map.proofs.Links.{length-chain}
use Rattle.fabric_core.proofs.chain.copy_into.Goals as goal

pub unreachable-requires : goal.unreachable-requires
unreachable-requires c =
    let few = length-chain c.args.chain.now c.requires.chain in
    let full = (c.in_default.ensures).full in
    omega (arith, few, full, c.requires.large, ap length c.as_slice.ensures)
