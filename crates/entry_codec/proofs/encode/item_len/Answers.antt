use Rattle.std.proofs.Common.{◌<◌, ◌^◌, arith}
use Rattle.delos_types.specs.Spelling.{headers_length}
use Rattle.entry_codec.proofs.Headers.{headers_length-item}
use Rattle.entry_codec.proofs.encode.item_len.Goals as goal

pub headers_len-requires : goal.headers_len-requires
headers_len-requires c = rw c.as_slice.ensures (omega (arith, headers_length-item c.args.item.now c.requires))

pub overflow_add-result : goal.overflow_add-result
overflow_add-result c =
    let small : headers_length c.as_slice.result.now < 2 ^ 24 = rw c.as_slice.ensures (headers_length-item c.args.item.now c.requires) in
    omega (arith, small, c.headers_len.ensures)

pub overflow_add-result-2 : goal.overflow_add-result-2
overflow_add-result-2 c =
    let small : headers_length c.as_slice.result.now < 2 ^ 24 = rw c.as_slice.ensures (headers_length-item c.args.item.now c.requires) in
    omega (arith, small, c.headers_len.ensures, c.len.ensures, c.requires.payload)
