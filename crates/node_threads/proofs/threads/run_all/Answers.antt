use Rattle.std.proofs.Common.{◌≡◌, ◌<◌, ◌≤◌, ℕ, length, take, drop, ◌++◌, slice_index_or, sym, ap, ◌∙◌, subst, ⊎_elim, arith}
use Rattle.std.proofs.lemmas.Bool.{cases_lt}
use Rattle.std.proofs.Math.Seq.{take-append_seam}
use Rattle.locked_turns.specs.Locked.{LockedView}
use Rattle.node_course.specs.FaultLines.{strays_from}
use Rattle.node_threads.specs.declared.stirrer.Stirrer.{Stirrer}
use Rattle.node_threads.specs.Posts.{AllMayWork, AllWorked, MayWork, Worked}
use Rattle.node_threads.specs.Stirring.{Stirred}
use Rattle.node_threads.proofs.Stirring.{stirred_none}
use Rattle.node_threads.proofs.threads.run_all.Goals as goal

module _ {P : Type 0} where
  abbrev IsReady : ℕ → Stirrer LockedView P → Type 0
  IsReady cells s = (s.access.who ≡ 0) × (0 < s.cells) × (s.cells ≡ cells)

  -- the stirrer made its turns
  abbrev HasRun : Stirrer LockedView P → Stirrer LockedView P → Type 0
  HasRun s t = (t.access.who ≡ 0) × Stirred (strays_from s.cells 0 s.turns) s.access.seen t.access.seen t.sufficed

  idle : (s t : Stirrer LockedView P) → s.turns ≡ 0 → s.access.who ≡ 0 → t ≡ s → HasRun s t
  idle s t none who same = subst (HasRun s) (sym same) (who, stirred_none s.cells s.turns s.access.seen s.sufficed none)

  has_run : (s s' t t' : Stirrer LockedView P) → s' ≡ s → t' ≡ t → HasRun s' t' → HasRun s t
  has_run s s' t t' a b h = subst (λ x. HasRun x t) a (subst (HasRun s') b h)

pub with_other-requires-clause-accepts : goal.with_other-requires-clause-accepts
with_other-requires-clause-accepts g c κs within = record {
  each = λ i d low p is. (
    c.requires.run,
    c.requires.range.0,
    c.requires.range.1,
    c.requires.sends,
    c.requires.phase,
    subst (MayWork g.P.Rules.law g.S.Replica.meaning c.args.lines.now c.args.faults.now.lines.now c.args.faults.now.phase c.args.from c.args.to (λ w. w.seat) (λ w. w.desks.items)) (sym is)
        ((subst (AllMayWork g.P.Rules.law g.S.Replica.meaning c.args.lines.now c.args.faults.now.lines.now c.args.faults.now.phase c.args.from c.args.to (λ w. w.seat) (λ w. w.desks.items)) (sym c.as_mut_slice.ensures.value) c.requires.may).each i d low),
  );
}

pub with_other-requires-clause-other : goal.with_other-requires-clause-other
with_other-requires-clause-other g c κs within = λ p is.
    subst (IsReady (length g.P.Rules.law.shelf)) (sym is) c.requires.stirrer

pub returns : goal.returns
returns g c =
    let before = c.args.posts.now in
    let after = c.with_other.new.s in
    let done = c.with_other.ensures.each in
    let same : length after ≡ length before.items = done.len ∙ ap length c.as_mut_slice.ensures.value in
    let is = ap (λ n. take n (after ++ drop (length after) before.items)) (before.ok.0 ∙ sym same) ∙ take-append_seam after (drop (length after) before.items) in
    let worked : AllWorked g.P.Rules.law g.S.Replica.meaning c.args.lines.now c.args.faults.now.lines.now c.args.faults.now.phase c.args.from c.args.to (λ w. w.seat) (λ w. w.desks.items) c.as_mut_slice.result.now after = record {
      each = λ i d low.
          let k = done.each i d low in
          subst (λ x. Worked g.P.Rules.law g.S.Replica.meaning c.args.lines.now c.args.faults.now.lines.now c.args.faults.now.phase c.args.from c.args.to (λ w. w.seat) (λ w. w.desks.items) x (slice_index_or after i d)) k.argument_is
          (subst (λ y. Worked g.P.Rules.law g.S.Replica.meaning c.args.lines.now c.args.faults.now.lines.now c.args.faults.now.phase c.args.from c.args.to (λ w. w.seat) (λ w. w.desks.items) k.argument.now y) k.left k.call);
    } in
    let old = c.args.stirrer.now in
    let new = c.with_other.new.other in
    let ran : HasRun old new = ⊎_elim
    (λ (some : 0 < old.turns).
    let k = c.with_other.ensures.other some in
    has_run old k.argument.now new k.after_call.now k.argument_is k.left k.call)
    (λ (none : old.turns ≤ 0).
    let zero : old.turns ≡ 0 = omega (arith, none) in
    idle old new zero c.requires.stirrer.0 (c.with_other.ensures.none zero))
    (cases_lt 0 old.turns) in
    record {
      worked = subst (AllWorked g.P.Rules.law g.S.Replica.meaning c.args.lines.now c.args.faults.now.lines.now c.args.faults.now.phase c.args.from c.args.to (λ w. w.seat) (λ w. w.desks.items) before.items) (sym is)
          (subst (λ xs. AllWorked g.P.Rules.law g.S.Replica.meaning c.args.lines.now c.args.faults.now.lines.now c.args.faults.now.phase c.args.from c.args.to (λ w. w.seat) (λ w. w.desks.items) xs after) c.as_mut_slice.ensures.value worked);
      size = ap length is ∙ same;
      stirrer = ran.0;
      stirred = ran.1;
    }
