use Rattle.std.proofs.Common.{arith}
use Rattle.entry_codec.proofs.Headers.{length-rising}
use Rattle.entry_codec.proofs.encode.put_headers.Goals as goal

pub overflow_cast-headers : goal.overflow_cast-headers
overflow_cast-headers c = omega (arith, length-rising 1 c.args.headers.now (omega arith) c.requires.rising)
