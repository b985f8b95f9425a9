-- A post's node takes its part in a phase.
use Rattle.std.proofs.Common.{◌≡◌, refl, sym, ap, ◌∙◌, subst, ℕ, Bool, List, Some}
use Rattle.legal_journal.specs.Law.{Law}
use Rattle.replica_api.specs.Replica.{Meaning}
use Rattle.script_text.specs.declared.asks.NamedLine.{NamedLine}
use Rattle.script_text.specs.declared.faults.FaultLine.{FaultLine}
use Rattle.turn_scopes.specs.Seats.{SeatView}
use Rattle.locked_turns.specs.Locked.{LockedView}
use Rattle.node_lines.specs.declared.desk.Desk.{Desk}
use Rattle.node_crew.specs.declared.note.Note.{Note}
use Rattle.node_threads.specs.Parts.{TookPart}
use Rattle.node_threads.specs.Posts.{PostView, MayWork, Worked, view_of}

some_is : {A : Type 0} (x y : A) → Some x ≡ Some y → x ≡ y
some_is x y e = cc

module _ {W : Type 0} (law : Law) (meaning : Meaning) (lines : List NamedLine) (faults : List FaultLine) (phase from to : ℕ) (seat : W → SeatView) (desks : W → List Desk) (p : PostView W) where
  access_is : (m : MayWork law meaning lines faults phase from to seat desks p) (l : LockedView) → p.access ≡ Some l → l ≡ view_of m.n m.journal
  access_is m l is = some_is l (view_of m.n m.journal) (sym is ∙ ap (λ (q : PostView W). q.access) m.is)

  worker_is : (m : MayWork law meaning lines faults phase from to seat desks p) (w : W) → p.worker ≡ Some w → w ≡ m.worker
  worker_is m w is = some_is w m.worker (sym is ∙ ap (λ (q : PostView W). q.worker) m.is)

  pub took : (m : MayWork law meaning lines faults phase from to seat desks p) (l l' : LockedView) (w w' : W) (p' : PostView W) (notes : List Note) (sufficed b : Bool) → p.access ≡ Some l → p.worker ≡ Some w
      → p' ≡ record { access = Some l'; worker = Some w'; notes = notes; sufficed = b } → b ≡ sufficed → l'.who ≡ l.who
      → TookPart law meaning lines faults phase from to l.who l.seen (seat w) (desks w) l'.seen (seat w') (desks w') notes sufficed → Worked law meaning lines faults phase from to seat desks p p'
  took m l l' w w' p' notes sufficed b access worker is same who part =
      let done : Worked law meaning lines faults phase from to seat desks p (record { access = Some l'; worker = Some w'; notes = notes; sufficed = b }) = record {
        n = m.n;
        journal = m.journal;
        before = m.worker;
        was = m.is;
        seen = l'.seen;
        access_is = ap (λ k. Some (view_of k l'.seen)) (who ∙ ap (λ (k : LockedView). k.who) (access_is m l access));
        after = w';
        worker_is = refl;
        part = subst (λ (k : LockedView). TookPart law meaning lines faults phase from to k.who k.seen (seat m.worker) (desks m.worker) l'.seen (seat w') (desks w') notes b) (access_is m l access)
            (subst (λ (x : W). TookPart law meaning lines faults phase from to l.who l.seen (seat x) (desks x) l'.seen (seat w') (desks w') notes b) (worker_is m w worker)
            (subst (λ x. TookPart law meaning lines faults phase from to l.who l.seen (seat w) (desks w) l'.seen (seat w') (desks w') notes x) (sym same) part));
      } in
      subst (Worked law meaning lines faults phase from to seat desks p) (sym is) done
