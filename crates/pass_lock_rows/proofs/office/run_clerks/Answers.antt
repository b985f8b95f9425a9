use Rattle.std.proofs.Common.{◌≡◌, suc, List, [], ◌∷◌, ◌++◌, length, length-append, take, drop, sym, ap, ◌∙◌, subst, arith}
use Rattle.std.proofs.Math.Seq.{take-append_seam}
use Rattle.pass_lock_rows.specs.Turns.{Maker}
use Rattle.pass_lock_rows.specs.Office.{AllWorked, AllBack, Collected}
use Rattle.pass_lock_rows.proofs.Clerks.{back_after, back_last, collected_start, collected_more}
use Rattle.pass_lock_rows.proofs.office.run_clerks.Goals as goal

pub loop-clerk-init : goal.loop-clerk-init
loop-clerk-init g c = let before : List Maker = c.hire.new.clerks.items in let after : List Maker = c.work_all.new.clerks in let rest : List Maker = drop (length after) before in
    let same : length after ≡ length before = c.work_all.auto.clerks ∙ ap length c.as_mut_slice.ensures.value in
    let is : take c.hire.new.clerks.len (after ++ rest) ≡ after = ap (λ n. take n (after ++ rest)) (c.hire.new.clerks.ok.0 ∙ sym same) ∙ take-append_seam after rest in
    let worked : AllWorked c.args.turns before after = subst (λ (l : List Maker). AllWorked c.args.turns l after) c.as_mut_slice.ensures.value c.work_all.ensures in
    subst (λ (l : List Maker). Collected c.args.lock.now c.args.count c.args.turns (length l) c.hire.new.main × AllBack c.args.lock.now c.args.turns l) (sym is) (
      collected_start c.args.lock.now c.args.count c.args.turns (length after) c.args.main.now c.hire.new.main c.requires.whole c.hire.ensures.main (same ∙ c.hire.ensures.count),
      back_after c.args.lock.now c.args.turns before after same c.hire.ensures.fresh worked,
    )

pub loop-clerk-preserved : goal.loop-clerk-preserved
loop-clerk-preserved g c = let i = c.loop-clerk.invariant in let all : List Maker = c.loop-clerk.clerks.items in let left : List Maker = c.pop.new.self.items in let m : Maker = c.in-Some.clerk in
    let items : all ≡ left ++ m ∷ [] = c.in-Some.ensures.items in let b = back_last c.args.lock.now c.args.turns all left m items i.1 in
    let size : length all ≡ suc (length left) = (let a = ap length items in let l = length-append left (m ∷ []) in omega arith) in
    (collected_more c.args.lock.now c.args.count c.args.turns (length all) (length left) c.loop-clerk.main c.join.new.pass c.into_pass.result m size i.0 b.0 c.into_pass.ensures c.join.ensures, b.1)
