use Rattle.std.proofs.Common.{◌≡◌, ◌-◌, ◌+◌, ◌≤◌, ℕ, suc, List, [], ◌∷◌, length, length-append, sym, ap, ◌∙◌, subst, arith}
use Rattle.pass_lock.specs.Pass.{Known, all_parts, one_part, numbered}
use Rattle.pass_lock_rows.specs.Turns.{Maker, seen_by}
use Rattle.pass_lock_rows.specs.Office.{AllFresh}
use Rattle.pass_lock_rows.proofs.Clerks.{cut_one, parts_of, one_part_is, fresh_push}
use Rattle.pass_lock_rows.proofs.office.hire.Goals as goal
use Rattle.pass_lock_rows.proofs.office.hire.Goals.{After-split-pass}

pub split-pass-requires-clause-enough : goal.split-pass-requires-clause-enough
split-pass-requires-clause-enough g c = let i = c.loop-k.invariant in let few = c.ranges.count.fits in let l = parts_of c.loop-k.k (all_parts - c.loop-k.k) c.args.main.now _ i.0 in omega arith

-- the next part is cut off
cut : (g : _) (c : After-split-pass g) → let k = c.loop-k.k in let main = c.args.main.now in
    (c.split-pass.new.pass ≡ record main { parts = numbered (suc k) (all_parts - (k + 1)) }) × (c.split-pass.result ≡ record main { parts = (k, []) ∷ []; made = [] })
cut g c = let k : ℕ = c.loop-k.k in let few = c.ranges.count.fits in let below = c.loop-k-test.true in let size : all_parts - k ≡ suc (all_parts - (k + 1)) = omega arith in
    cut_one k (all_parts - k) (all_parts - (k + 1)) c.args.main.now _ _ _ size c.loop-k.invariant.0 c.split-pass.ensures.kept c.split-pass.ensures.moved

pub new-requires : goal.new-requires
new-requires g c = let q : Known _ = c.split-pass.result in
    one_part_is c.args.lock.now c.loop-k.k c.args.main.now q c.requires.whole (cut g (goal.at.new-requires g c).After-split-pass).1 ∙ ap (λ n. one_part c.args.lock.now n (seen_by q.parts) q.made) (sym c.from.ensures)

pub loop-k-preserved : goal.loop-k-preserved
loop-k-preserved g c = let i = c.loop-k.invariant in let k : ℕ = c.loop-k.k in let t = cut g (goal.at.loop-k-preserved g c).After-split-pass in let old : List Maker = c.loop-k.clerks.items in let more = c.push_reserved.ensures in
    let who : c.from.result ≡ length old = c.from.ensures ∙ sym i.1 in let seen = ap (λ (x : Known _). seen_by x.parts) t.1 in (
      t.0 ∙ ap (λ n. record c.args.main.now { parts = numbered n (all_parts - (k + 1)) }) (let next : suc k ≡ k + 1 = omega arith in next),
      (let a = ap length more.items in let b = length-append old (c.new.result ∷ []) in let d = i.1 in omega arith),
      subst (AllFresh c.args.lock.now) (sym more.items) (fresh_push c.args.lock.now old c.new.result i.2 (c.new.ensures ∙ (λ j. record { lock = c.args.lock.now; who = who j; seen = seen j }))),
      subst (λ n. c.args.count ≤ n) (sym more.capacity) i.3,
    )
