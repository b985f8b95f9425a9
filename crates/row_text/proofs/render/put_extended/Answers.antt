use Rattle.std.proofs.Common.{◌≡◌, ◌∙◌, ◌++◌, List, ℕ, ap, append_assoc, codes}
use Rattle.std.specs.Fmt.{decimal}
use Rattle.std.proofs.lemmas.Result.{on_ok_weaker}
use Rattle.row_text.proofs.render.put_extended.Goals as goal

two : (out one new a b : List ℕ) → one ≡ out ++ a → new ≡ one ++ b → new ≡ out ++ (a ++ b)
two out one new a b h k = k ∙ ap (λ (t : List ℕ). t ++ b) h ∙ append_assoc out a b

pub returns : goal.returns
returns c = on_ok_weaker c.labelled-2.result
    (two c.args.out.now c.labelled.new.self c.labelled-2.new.self (codes "extended v=" ++ decimal c.args.version) (codes " at " ++ decimal c.args.start) c.in_ok-labelled.ensures) c.labelled-2.ensures
