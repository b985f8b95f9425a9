-- What stands once the chain was read last.
use Rattle.std.proofs.Common.{◌≡◌, refl, sym, ap, ◌∙◌, subst, inl, inr, ℕ, zero, suc, ◌+◌, List, [], ◌∷◌, ◌++◌, arith, append_assoc, append-nil, lit≤}
use Rattle.std.specs.Prelude.{replicate}
use Rattle.legal_journal.specs.Law.{Law}
use Rattle.legal_journal.specs.declared.events.Event.{Event}
use Rattle.legal_journal.specs.declared.events.FabricCall.{FabricCall}
use Rattle.legal_journal.specs.declared.events.FabricCall.TheVariants.{ReadChain, MendMeta}
use Rattle.legal_journal.specs.FaultCalls.{made_by}
use Rattle.legal_journal.specs.Journal.{IsLegal}
use Rattle.script_text.specs.declared.faults.FaultLine.{FaultLine}
use Rattle.replica_api.specs.Replica.{Meaning}
use Rattle.turn_scopes.specs.Alone.{OwnSince, AreOwn}
use Rattle.turn_scopes.specs.Seats.{SeatView, SeatOk}
use Rattle.node_lines.proofs.Staying.{seat_later}
use Rattle.node_crew.specs.Crews.{CrewStands}
use Rattle.node_course.specs.FaultLines.{AreOutside, HaveActed, acts_before}
use Rattle.last_chain.specs.Last.{AsksOnce, AskedOnce, calls_of}
use Rattle.run_closing.specs.Opening.{MendsOnly}
use Rattle.run_closing.proofs.Mending.{made_by-append, mended_between, mends_only, outside_calls, read_none}
use Rattle.run_closing.proofs.Opening.{own_more as closing_own}
use Rattle.crew_run.specs.Acting.{HasActed}

-- each node can take the fabric still
pub stands_on : {A : Type 0} (law : Law) (meaning : Meaning) (who : ℕ) (early new : List Event) (seat : A → SeatView) (workers : List A)
    → OwnSince who early new → IsLegal law new → CrewStands law meaning early seat workers → CrewStands law meaning new seat workers
stands_on law meaning who early new seat workers since legal h = λ j w at.
    subst (λ l. SeatOk law meaning l (seat w)) (sym since.seen)
    (seat_later law early since.more (subst (IsLegal law) since.seen legal) meaning (seat w) (h j w at))

-- what number 0 did as the chain was read last

own_more : (early new : List Event) → OwnSince 0 early new → (a : AsksOnce early new) → AreOwn 0 a.more
own_more early new since a = closing_own 0 early new a.more since a.seen

pub outside_asked : (early new : List Event) → OwnSince 0 early new → (a : AsksOnce early new) → AreOutside a.more
outside_asked early new since a = by a.calls
  where
    own : AreOwn 0 a.more
    own = own_more early new since a

    by : AskedOnce (calls_of a.more) → AreOutside a.more
    by (inl h) = outside_calls a.more (ReadChain ∷ []) h (inl refl, tt) own
    by (inr h) = outside_calls a.more (ReadChain ∷ MendMeta 0 ∷ ReadChain ∷ []) h (inl refl, (inr refl, (inl refl, tt))) own

-- the register was opened again once at most, and nothing else was broken or mended
pub asked_only : (early new : List Event) → OwnSince 0 early new → AsksOnce early new → MendsOnly 1 early new
asked_only early new since a = by a.calls
  where
    own : AreOwn 0 a.more
    own = own_more early new since a

    by : AskedOnce (calls_of a.more) → MendsOnly 1 early new
    by (inl h) = mends_only 1 0 early new a.more (lit≤ tt) a.seen own (read_none (calls_of a.more) h)
    by (inr h) = mends_only 1 1 early new a.more (lit≤ tt) a.seen own (mended_between (calls_of a.more) h)

-- All that number 0 did

replicated : {A : Type 0} (x : A) (m n : ℕ) → replicate m x ++ replicate n x ≡ replicate (m + n) x
replicated x zero n = let same : n ≡ 0 + n = omega arith in ap (λ k. replicate k x) same
replicated x (suc m) n =
    let next : suc m + n ≡ suc (m + n) = omega arith in
    ap (λ l. x ∷ l) (replicated x m n) ∙ ap (λ k. replicate k x) (sym next)

-- what fault lines ask, and then two openings of the register at most
pub has_acted : (cells : ℕ) (faults : List FaultLine) (played closed told : List Event) → HaveActed cells faults 0 played → MendsOnly 1 played closed → MendsOnly 1 closed told → HasActed cells faults told
has_acted cells faults played closed told h a b = record {
  opened = a.times + b.times;
  few = let low = a.few in let high = b.few in omega (arith, low, high);
  acted = record {
    phases = h.phases;
    all = h.all;
    made = b.made
        ∙ (ap (λ l. l ++ made_by 0 (replicate b.times (MendMeta 0))) (a.made ∙ ap (λ l. l ++ made_by 0 (replicate a.times (MendMeta 0))) (h.made ∙ ap (made_by 0) (append-nil asked)))
        ∙ (append_assoc (made_by 0 asked) (made_by 0 (replicate a.times (MendMeta 0))) (made_by 0 (replicate b.times (MendMeta 0)))
        ∙ (ap (λ l. made_by 0 asked ++ l) (sym (made_by-append 0 (replicate a.times (MendMeta 0)) (replicate b.times (MendMeta 0))) ∙ ap (made_by 0) (replicated (MendMeta 0) a.times b.times))
        ∙ sym (made_by-append 0 asked (replicate (a.times + b.times) (MendMeta 0))))));
  };
}
  where
    asked : List FabricCall
    asked = acts_before cells faults h.phases
