-- Posts before and behind their nodes' parts.
use Rattle.std.proofs.Common.{◌≡◌, refl, sym, ap, ◌∙◌, subst, ℕ, zero, suc, ◌+◌, ◌<◌, Bool, true, false, List, [], ◌∷◌, ◌++◌, length, length-append, append_assoc, slice_index_or, Some, arith}
use Rattle.std.specs.Prelude.{slice_get, ◌&&◌}
use Rattle.std.specs.List.{AllByRecursion}
use Rattle.std.proofs.lemmas.Option.{slice_get_within}
use Rattle.legal_journal.specs.Law.{Law}
use Rattle.legal_journal.specs.declared.events.Event.{Event}
use Rattle.pass_lock.specs.Journal.{Follows}
use Rattle.replica_api.specs.Replica.{Meaning}
use Rattle.script_text.specs.declared.asks.NamedLine.{NamedLine}
use Rattle.script_text.specs.declared.faults.FaultLine.{FaultLine}
use Rattle.turn_scopes.specs.Seats.{SeatView}
use Rattle.locked_turns.specs.Locked.{LockedView}
use Rattle.node_lines.specs.declared.desk.Desk.{Desk}
use Rattle.node_course.specs.FaultLines.{ArmedBy, stops_in}
use Rattle.node_crew.specs.Arming.{AreArmed}
use Rattle.node_crew.specs.declared.note.Note.{Note}
use Rattle.node_crew.specs.Notes.{AreNotesOf}
use Rattle.node_threads.specs.Parts.{CanTakePart, TookPart}
use Rattle.node_threads.specs.Passes.{signer}
use Rattle.node_threads.specs.Posts.{AllHave, AllMayWork, AllNoted, AllWorked, Has, MayWork, PostView, Worked, all_sufficed, cons_some, seated, seated_from, seen_of, seens, view_of, workers_of}
use Rattle.node_threads.proofs.Numbers.{AllFollow}

pub some_is : {A : Type 0} (x y : A) → Some x ≡ Some y → x ≡ y
some_is x y e = cc

pub both_so : (a b : Bool) → (a && b) ≡ true → (a ≡ true) × (b ≡ true)
both_so true b e = (refl, e)
both_so false b e = absurd (cc)

module _ {W : Type 0} where
  pub seated_size : (n : ℕ) (journal : List Event) (ws : List W) → length (seated_from n journal ws) ≡ length ws
  seated_size n journal [] = refl
  seated_size n journal (w ∷ ws) = omega (arith, seated_size (suc n) journal ws)

  -- one node more is seated
  pub seats_on : (journal : List Event) (n : ℕ) (posts posts' : List (PostView W)) (p : PostView W) (w : W) (ws ws' : List W) → posts' ≡ posts ++ p ∷ [] → p ≡ seated n journal w → n ≡ 1 + length posts → ws ≡ w ∷ ws'
      → posts' ++ seated_from (1 + length posts') journal ws' ≡ posts ++ seated_from (1 + length posts) journal ws
  seats_on journal n posts posts' p w ws ws' more seat number is =
      let size : length posts' ≡ length posts + 1 = ap length more ∙ length-append posts (p ∷ []) in
      let next : 1 + length posts' ≡ suc (1 + length posts) = omega (arith, size) in
      let rest : seated_from (1 + length posts') journal ws' ≡ seated_from (suc (1 + length posts)) journal ws' = ap (λ k. seated_from k journal ws') next in
      let first : p ≡ seated (1 + length posts) journal w = seat ∙ ap (λ k. seated k journal w) number in
      ap (λ l. l ++ seated_from (1 + length posts') journal ws') more
      ∙ (append_assoc posts (p ∷ []) (seated_from (1 + length posts') journal ws')
      ∙ (ap (λ l. posts ++ p ∷ l) rest
      ∙ (ap (λ q. posts ++ q ∷ seated_from (suc (1 + length posts)) journal ws') first
      ∙ ap (λ l. posts ++ seated_from (1 + length posts) journal l) (sym is))))

  -- the last of the first posts has the part of its number
  pub have_at : (n : ℕ) (xs : List (PostView W)) (p : PostView W) (ys : List (PostView W)) → AllHave n (xs ++ p ∷ ys) → Has (n + length xs) p
  have_at n [] p ys h = let e : n ≡ n + 0 = omega arith in subst (λ k. Has k p) e h.0
  have_at n (x ∷ xs) p ys h = let e : suc n + length xs ≡ n + suc (length xs) = omega arith in subst (λ k. Has k p) e (have_at (suc n) xs p ys h.1)

  pub noted_at : (count : ℕ) (xs : List (PostView W)) (p : PostView W) (ys : List (PostView W)) → AllNoted count (xs ++ p ∷ ys) → AllByRecursion (λ note. note.line < count) p.notes
  noted_at count [] p ys h = h.0
  noted_at count (x ∷ xs) p ys h = noted_at count xs p ys h.1

  -- one post that has its worker
  pub workers_more : (p : PostView W) (ps : List (PostView W)) (w : W) → p.worker ≡ Some w → w ∷ workers_of ps ≡ workers_of (p ∷ ps)
  workers_more p ps w is = sym (ap (λ o. cons_some o (workers_of ps)) is)

  module _ (law : Law) (meaning : Meaning) (lines : List NamedLine) (faults : List FaultLine) (phase from to : ℕ) (seat : W → SeatView) (desks : W → List Desk) (journal : List Event) where
    -- each can take its part that is seated
    pub may_work : (n : ℕ) (ws : List W) → ((j : ℕ) (w : W) → slice_get ws j ≡ Some w → CanTakePart law meaning lines faults phase from to (n + j) journal (seat w) (desks w)) → AllMayWork law meaning lines faults phase from to seat desks (seated_from n journal ws)
    may_work n ws can = record { each = λ i d low. each n ws can i d low }
      where
        each : (n : ℕ) (ws : List W) → ((j : ℕ) (w : W) → slice_get ws j ≡ Some w → CanTakePart law meaning lines faults phase from to (n + j) journal (seat w) (desks w)) → (i : ℕ) (d : PostView W) → i < length (seated_from n journal ws)
            → MayWork law meaning lines faults phase from to seat desks (slice_index_or (seated_from n journal ws) i d)
        each n [] can i d low = absurd (omega (arith, low))
        each n (w ∷ ws) can zero d low = let e : n + 0 ≡ n = omega arith in record {
          n = n;
          journal = journal;
          worker = w;
          is = refl;
          can = subst (λ k. CanTakePart law meaning lines faults phase from to k journal (seat w) (desks w)) e (can 0 w refl);
        }
        each n (w ∷ ws) can (suc i) d low = each (suc n) ws (λ j x at. let e : n + suc j ≡ suc n + j = omega arith in subst (λ k. CanTakePart law meaning lines faults phase from to k journal (seat x) (desks x)) e (can (suc j) x at)) i d (omega (arith, low))

    -- node n, whose worker this was, took its part
    pub record Met (n : ℕ) (w : W) (p : PostView W) : Type 0 where
      pub seen : List Event
      pub access_is : p.access ≡ Some (view_of n seen)
      pub after : W
      pub worker_is : p.worker ≡ Some after
      pub part : TookPart law meaning lines faults phase from to n journal (seat w) (desks w) seen (seat after) (desks after) p.notes p.sufficed

    -- so did the nodes from this number on
    abbrev pub AllMet : ℕ → List W → List (PostView W) → Type 0
    AllMet n [] [] = Unit {0}
    AllMet n (w ∷ ws) (p ∷ ps) = Met n w p × AllMet (suc n) ws ps
    AllMet n ws ps = ⊥

    met_of : (n : ℕ) (w : W) (p : PostView W) → Worked law meaning lines faults phase from to seat desks (seated n journal w) p → Met n w p
    met_of n w p h =
        let access : view_of n journal ≡ view_of h.n h.journal = some_is (view_of n journal) (view_of h.n h.journal) (ap (λ (q : PostView W). q.access) h.was) in
        let n_is : h.n ≡ n = sym (ap (λ (l : LockedView). l.who) access) in
        let journal_is : h.journal ≡ journal = sym (ap (λ (l : LockedView). l.seen) access) in
        let before_is : h.before ≡ w = sym (some_is w h.before (ap (λ (q : PostView W). q.worker) h.was)) in
        record {
          seen = h.seen;
          access_is = h.access_is ∙ ap (λ k. Some (view_of k h.seen)) n_is;
          after = h.after;
          worker_is = h.worker_is;
          part = subst (λ k. TookPart law meaning lines faults phase from to k journal (seat w) (desks w) h.seen (seat h.after) (desks h.after) p.notes p.sufficed) n_is
              (subst (λ j. TookPart law meaning lines faults phase from to h.n j (seat w) (desks w) h.seen (seat h.after) (desks h.after) p.notes p.sufficed) journal_is
              (subst (λ x. TookPart law meaning lines faults phase from to h.n h.journal (seat x) (desks x) h.seen (seat h.after) (desks h.after) p.notes p.sufficed) before_is h.part));
        }

    pub all_met : (n : ℕ) (ws : List W) (ps : List (PostView W)) → length ps ≡ length ws → AllWorked law meaning lines faults phase from to seat desks (seated_from n journal ws) ps → AllMet n ws ps
    all_met n [] [] size h = tt
    all_met n [] (p ∷ ps) size h = absurd (omega (arith, size))
    all_met n (w ∷ ws) [] size h = absurd (omega (arith, size))
    all_met n (w ∷ ws) (p ∷ ps) size h = (met_of n w p (h.each 0 p (omega arith)), all_met (suc n) ws ps (omega (arith, size)) (record { each = λ i d low. h.each (suc i) d (omega (arith, low)) }))

    pub all_have : (n : ℕ) (ws : List W) (ps : List (PostView W)) → AllMet n ws ps → AllHave n ps
    all_have n [] [] m = tt
    all_have n (w ∷ ws) (p ∷ ps) m = (record { seen = m.0.seen; access_is = m.0.access_is; worker = m.0.after; worker_is = m.0.worker_is }, all_have (suc n) ws ps m.1)
    all_have n [] (p ∷ ps) m = absurd m
    all_have n (w ∷ ws) [] m = absurd m

    within : (n count : ℕ) (notes : List Note) → length lines ≡ count → AreNotesOf lines n notes → AllByRecursion (λ note. note.line < count) notes
    within n count [] size h = tt
    within n count (note ∷ notes) size h = (let low = slice_get_within lines note.line h.0.line h.0.is in omega (arith, low, size), within n count notes size h.1)

    pub all_noted : (count n : ℕ) (ws : List W) (ps : List (PostView W)) → ((j : ℕ) (w : W) → slice_get ws j ≡ Some w → length lines ≡ count) → AllMet n ws ps → AllNoted count ps
    all_noted count n [] [] size m = tt
    all_noted count n (w ∷ ws) (p ∷ ps) size m = (within n count p.notes (size 0 w refl) m.0.part.own, all_noted count (suc n) ws ps (λ j x at. size (suc j) x at) m.1)
    all_noted count n [] (p ∷ ps) size m = absurd m
    all_noted count n (w ∷ ws) [] size m = absurd m

    pub workers_size : (n : ℕ) (ws : List W) (ps : List (PostView W)) → AllMet n ws ps → length (workers_of ps) ≡ length ws
    workers_size n [] [] m = refl
    workers_size n (w ∷ ws) (p ∷ ps) m = ap length (sym (workers_more p ps m.0.after m.0.worker_is)) ∙ (let rest = workers_size (suc n) ws ps m.1 in omega (arith, rest))
    workers_size n [] (p ∷ ps) m = absurd m
    workers_size n (w ∷ ws) [] m = absurd m

    armed_at : (n : ℕ) (ws : List W) (ps : List (PostView W)) → AllMet n ws ps → all_sufficed ps ≡ true → (j : ℕ) (was now : W) → slice_get ws j ≡ Some was → slice_get (workers_of ps) j ≡ Some now
        → ArmedBy (stops_in (n + j) phase faults) (seat was).node.replica (seat now).node.replica
    armed_at n [] ps m all j was now p q = absurd (cc)
    armed_at n (w ∷ ws) [] m all j was now p q = absurd m
    armed_at n (w ∷ ws) (x ∷ ps) m all zero was now p q =
        let so = both_so x.sufficed (all_sufficed ps) all in
        let number : n ≡ n + 0 = omega arith in
        let there : slice_get (workers_of (x ∷ ps)) 0 ≡ Some m.0.after = ap (λ l. slice_get l 0) (sym (workers_more x ps m.0.after m.0.worker_is)) in
        subst (λ k. ArmedBy (stops_in k phase faults) (seat was).node.replica (seat now).node.replica) number
        (subst (λ y. ArmedBy (stops_in n phase faults) (seat was).node.replica (seat y).node.replica) (some_is m.0.after now (sym there ∙ q))
        (subst (λ y. ArmedBy (stops_in n phase faults) (seat y).node.replica (seat m.0.after).node.replica) (some_is w was p) (m.0.part.armed so.0)))
    armed_at n (w ∷ ws) (x ∷ ps) m all (suc j) was now p q =
        let so = both_so x.sufficed (all_sufficed ps) all in
        let number : suc n + j ≡ n + suc j = omega arith in
        let there : slice_get (workers_of ps) j ≡ Some now = ap (λ l. slice_get l (suc j)) (workers_more x ps m.0.after m.0.worker_is) ∙ q in
        subst (λ k. ArmedBy (stops_in k phase faults) (seat was).node.replica (seat now).node.replica) number (armed_at (suc n) ws ps m.1 so.1 j was now p there)

    -- where memory sufficed, each node's disk was armed by its stops of the phase, and by nothing else
    pub all_armed : (ws : List W) (ps : List (PostView W)) → AllMet 1 ws ps → all_sufficed ps ≡ true → AreArmed (λ n. stops_in n phase faults) (λ w. (seat w).node.replica) ws (workers_of ps)
    all_armed ws ps m all = record {
      size = workers_size 1 ws ps m;
      each = λ j was now p q. let number : 1 + j ≡ j + 1 = omega arith in
          subst (λ k. ArmedBy (stops_in k phase faults) (seat was).node.replica (seat now).node.replica) number (armed_at 1 ws ps m all j was now p q);
    }

    -- a node by its index: its worker before and behind, and its post, and that the journal goes on behind what was seen there, by events of
    -- others
    pub record MetAt (n : ℕ) (ws : List W) (ps : List (PostView W)) (whole : List Event) (j : ℕ) : Type 0 where
      pub worker : W
      pub at : slice_get ws j ≡ Some worker
      pub post : PostView W
      pub there : slice_get ps j ≡ Some post
      pub met : Met (n + j) worker post
      pub is : slice_get (workers_of ps) j ≡ Some met.after
      pub follows : Follows signer (n + j) met.seen whole

    pub met_at : (n : ℕ) (ws : List W) (ps : List (PostView W)) (whole : List Event) → AllMet n ws ps → AllFollow n (seens ps) whole → (j : ℕ) → j < length ws → MetAt n ws ps whole j
    met_at n [] ps whole m f j low = absurd (omega (arith, low))
    met_at n (w ∷ ws) [] whole m f j low = absurd m
    met_at n (w ∷ ws) (p ∷ ps) whole m f zero low =
        let e : n ≡ n + 0 = omega arith in
        let k : Met (n + 0) w p = subst (λ i. Met i w p) e m.0 in
        record {
          worker = w;
          at = refl;
          post = p;
          there = refl;
          met = k;
          is = ap (λ l. slice_get l 0) (sym (workers_more p ps k.after k.worker_is));
          follows = subst (λ a. Follows signer (n + 0) (seen_of a) whole) k.access_is (subst (λ i. Follows signer i (seen_of p.access) whole) e f.0);
        }
    met_at n (w ∷ ws) (p ∷ ps) whole m f (suc j) low =
        let x = met_at (suc n) ws ps whole m.1 f.1 j (omega (arith, low)) in
        let e : suc n + j ≡ n + suc j = omega arith in
        record {
          worker = x.worker;
          at = x.at;
          post = x.post;
          there = x.there;
          met = record {
            seen = x.met.seen;
            access_is = x.met.access_is ∙ ap (λ k. Some (view_of k x.met.seen)) e;
            after = x.met.after;
            worker_is = x.met.worker_is;
            part = subst (λ k. TookPart law meaning lines faults phase from to k journal (seat x.worker) (desks x.worker) x.met.seen (seat x.met.after) (desks x.met.after) x.post.notes x.post.sufficed) e x.met.part;
          };
          is = ap (λ l. slice_get l (suc j)) (sym (workers_more p ps m.0.after m.0.worker_is)) ∙ x.is;
          follows = subst (λ k. Follows signer k x.met.seen whole) e x.follows;
        }

  pub sufficed_at : (ps : List (PostView W)) → all_sufficed ps ≡ true → (j : ℕ) (p : PostView W) → slice_get ps j ≡ Some p → p.sufficed ≡ true
  sufficed_at [] all j p at = absurd (cc)
  sufficed_at (q ∷ ps) all zero p at = subst (λ (x : PostView W). x.sufficed ≡ true) (some_is q p at) (both_so q.sufficed (all_sufficed ps) all).0
  sufficed_at (q ∷ ps) all (suc j) p at = sufficed_at ps (both_so q.sufficed (all_sufficed ps) all).1 j p at
