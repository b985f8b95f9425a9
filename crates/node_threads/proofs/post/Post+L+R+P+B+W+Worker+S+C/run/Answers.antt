use Rattle.std.proofs.Common.{◌≡◌, sym, ap, ◌∙◌, Some}
use Rattle.std.specs.Prelude.{is_ok}
use Rattle.node_threads.proofs.Working.{took}
use Rattle.node_threads.proofs.post.Post+L+R+P+B+W+Worker+S+C.run.Goals as goal

pub returns : goal.returns
returns g c =
    let access : c.args.self.now.access ≡ Some c.unwrap-access.result = ap (λ q. q.access) (sym c.self.view_is) ∙ (sym c.take.ensures.value ∙ c.unwrap-access.ensures) in
    let worker : c.args.self.now.worker ≡ Some c.unwrap-worker.result = ap (λ q. q.worker) (sym c.self.view_is) ∙ (sym c.take-2.ensures.value ∙ c.unwrap-worker.ensures) in
    let q = c.take_part-part in
    took _ _ _ _ _ _ _ _ _ _ c.requires.may c.unwrap-access.result q.result.access c.unwrap-worker.result q.result.part c.fill.new.self q.new.notes.items (is_ok q.result.answer) _ access worker c.fill.ensures c.is_ok-self-inside.ensures.value q.ensures.whose q.ensures.took
