use Rattle.entry_codec.proofs.Headers.{bodies-entry}
use Rattle.entry_codec.proofs.encode.encode_entry.Goals as goal

pub put_headers-requires-clause-bodies : goal.put_headers-requires-clause-bodies
put_headers-requires-clause-bodies c = rw c.as_slice-headers.ensures (bodies-entry c.args.entry.now c.requires)
