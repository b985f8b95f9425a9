use Rattle.std.proofs.Common.{◌≡◌, ◌≤◌, ◌∙◌, length, drop, take, ap, sym, arith}
use Rattle.std.proofs.lemmas.List.{take_rest}
use Rattle.outside_ends.specs.Memory.{Reading}
use Rattle.outside_ends.proofs.Moves.{front_moved}
use Rattle.outside_ends.proofs.memory.MemSourceSource.take.Goals as goal

pub returns-clause-bytes : goal.returns-clause-bytes
returns-clause-bytes c =
    let all : c.deref.result.now ≡ c.self.inside.bytes.items = c.deref.ensures.value in
    let copied : c.copy_from_slice.new.self ≡ take c.min-n.result (drop c.self.inside.at c.self.inside.bytes.items) =
    c.copy_from_slice.ensures.after ∙ ap (take c.min-n.result) (take_rest c.deref.result.now c.self.inside.at ∙ ap (drop c.self.inside.at) all) in
    let fits : c.min-n.result ≤ length (drop c.self.inside.at c.self.inside.bytes.items) =
    omega (arith, ap length (sym (ap (drop c.self.inside.at) all)), ap length (take_rest c.deref.result.now c.self.inside.at)) in
    ap (λ (r : Reading). r.left) (sym c.self.view_is)
    ∙ front_moved c.self.inside.bytes.items c.args.buf.now c.copy_from_slice.new.self c.self.inside.at c.min-n.result copied fits
