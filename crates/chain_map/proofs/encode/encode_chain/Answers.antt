use Rattle.std.proofs.Common.{arith}
use Rattle.chain_map.proofs.Links.{length-chain}
use Rattle.chain_map.proofs.encode.encode_chain.Goals as goal

pub put_segments-requires : goal.put_segments-requires
put_segments-requires c = rw c.as_slice-segments.ensures (omega (arith, length-chain c.args.chain.now c.requires))
