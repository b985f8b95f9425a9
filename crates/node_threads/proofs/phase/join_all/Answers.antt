use Rattle.std.proofs.Common.{◌≡◌, ◌+◌, ◌<◌, ℕ, suc, List, [], ◌∷◌, ◌++◌, length, length-append, append_assoc, append-nil, Option, refl, sym, ap, ◌∙◌, subst, arith}
use Rattle.std.specs.Prelude.{◌&&◌, IsSome}
use Rattle.std.specs.List.{AllByRecursion}
use Rattle.std.proofs.lemmas.List.{nil_from_length}
use Rattle.legal_journal.specs.declared.events.Event.{Event}
use Rattle.pass_lock.specs.Pass.{Known, LockId, one_part}
use Rattle.locked_turns.specs.Locked.{LockedView}
use Rattle.node_crew.specs.Notes.{noted}
use Rattle.node_crew.proofs.Notes.{noted_size}
use Rattle.node_threads.specs.Passes.{parts_from}
use Rattle.node_threads.specs.Posts.{AllHave, AllNoted, Has, PostView, all_sufficed, looks_after, seen_of, seens, who_of, workers_of}
use Rattle.node_threads.proofs.Joining.{joined_more}
use Rattle.node_threads.proofs.Posts.{have_at, noted_at, workers_more}
use Rattle.node_threads.proofs.phase.join_all.Goals as goal
use Rattle.node_threads.proofs.phase.join_all.Goals.{In-Some}

pub loop-post-init : goal.loop-post-init
loop-post-init g c = record {
  done = [];
  is = sym (append-nil c.args.posts.items);
  main = refl;
  workers = c.requires.none;
  looks = refl;
  size = refl;
  sufficed = refl;
  room = let none = ap length c.requires.none in omega (arith, c.requires.space, none);
}

-- the posts are those that are left, this one, and those that are done
whole : (g : _) (c : In-Some g) → c.args.posts.items ≡ c.pop.new.self.items ++ c.in-Some.post ∷ c.loop-post.invariant.done
whole g c =
    let i = c.loop-post.invariant in
    i.is ∙ (ap (λ (l : List (PostView g.row.K.Denot)). l ++ i.done) c.in-Some.ensures.items ∙ append_assoc c.pop.new.self.items (c.in-Some.post ∷ []) i.done)

has : (g : _) (c : In-Some g) → Has (1 + length c.pop.new.self.items) c.in-Some.post
has g c = have_at 1 c.pop.new.self.items c.in-Some.post c.loop-post.invariant.done (subst (AllHave 1) (whole g c) c.requires.have)

pub part-pass-requires-clause-access : goal.part-pass-requires-clause-access
part-pass-requires-clause-access g c = subst IsSome (sym (has g (goal.at.part-pass-requires-clause-access g c).In-Some).access_is) refl

pub part-pass-requires-clause-worker : goal.part-pass-requires-clause-worker
part-pass-requires-clause-worker g c = subst IsSome (sym (has g (goal.at.part-pass-requires-clause-worker g c).In-Some).worker_is) refl

pub write_down-requires : goal.write_down-requires
write_down-requires g c =
    let i = c.loop-post.invariant in
    let b = (goal.at.write_down-requires g c).In-Some in
    subst (λ notes. AllByRecursion (λ note. note.line < length c.loop-post.looks.items) notes) (sym c.part-pass.ensures.notes)
    (subst (λ n. AllByRecursion (λ note. note.line < n) c.in-Some.post.notes) (sym i.size)
    (noted_at (length c.args.looks.now.items) c.pop.new.self.items c.in-Some.post i.done (subst (AllNoted (length c.args.looks.now.items)) (whole g b) c.requires.lines)))

-- the pass of the post's part
one : {W : Type 0} (lock : LockId) (n : ℕ) (p : PostView W) (q : Known Event) → Has n p → q ≡ one_part lock (who_of p.access) (seen_of p.access) q.made → q ≡ one_part lock n (seen_of p.access) q.made
one lock n p q h is = is ∙ ap (λ (a : Option LockedView). one_part lock (who_of a) (seen_of p.access) q.made) h.access_is

pub loop-post-preserved : goal.loop-post-preserved
loop-post-preserved g c =
    let l = c.loop-post in
    let i = l.invariant in
    let b = (goal.at.loop-post-preserved g c).In-Some in
    let left : List (PostView g.row.K.Denot) = c.pop.new.self.items in
    let p = c.in-Some.post in
    let pass_is = one g.B.Room.lock (1 + length left) p c.part-pass.result.pass (has g b) c.part-pass.ensures.pass in
    let size : length l.posts.items ≡ suc (length left) = ap length c.in-Some.ensures.items ∙ (length-append left (p ∷ []) ∙ (let e : length left + 1 ≡ suc (length left) = omega arith in e)) in
    record {
      done = p ∷ i.done;
      is = whole g b;
      main = joined_more (1 + length left) (1 + length l.posts.items) (seen_of p.access) (seens i.done) c.args.main.now l.main c.join.new.pass c.part-pass.result.pass _ (omega (arith, size)) i.main (ap (λ (x : Known Event). x.parts) pass_is) c.join.ensures;
      workers = c.put_first.ensures.items ∙ (ap (λ ws. c.part-pass.result.worker ∷ ws) i.workers ∙ workers_more p i.done c.part-pass.result.worker c.part-pass.ensures.worker);
      looks = c.write_down.ensures ∙ (ap (λ ns. noted l.looks.items ns) c.part-pass.ensures.notes ∙ ap (λ ls. noted ls p.notes) i.looks);
      size = ap length c.write_down.ensures ∙ (noted_size l.looks.items c.part-pass.result.notes.items ∙ i.size);
      sufficed = c.both-sufficed.ensures ∙ (ap (λ h. h && l.sufficed) c.part-pass.ensures.sufficed ∙ ap (λ s. p.sufficed && s) i.sufficed);
      room = let put = ap length c.put_first.ensures.items in let more = c.put_first.ensures.room in omega (arith, size, put, more, i.room);
    }

pub join-requires-clause-other_lock : goal.join-requires-clause-other_lock
join-requires-clause-other_lock g c =
    let b = (goal.at.join-requires-clause-other_lock g c).In-Some in
    ap (λ (x : Known Event). x.lock) (one g.B.Room.lock (1 + length c.pop.new.self.items) c.in-Some.post c.part-pass.result.pass (has g b) c.part-pass.ensures.pass) ∙ sym c.requires.room

pub join-requires-clause-other_outside : goal.join-requires-clause-other_outside
join-requires-clause-other_outside g c =
    let b = (goal.at.join-requires-clause-other_outside g c).In-Some in
    ap (λ (x : Known Event). x.turn) (one g.B.Room.lock (1 + length c.pop.new.self.items) c.in-Some.post c.part-pass.result.pass (has g b) c.part-pass.ensures.pass)

pub join-requires-clause-lock : goal.join-requires-clause-lock
join-requires-clause-lock g c = ap (λ (x : Known Event). x.lock) c.loop-post.invariant.main ∙ (c.requires.outside.0 ∙ sym c.requires.room)

pub join-requires-clause-outside : goal.join-requires-clause-outside
join-requires-clause-outside g c = ap (λ (x : Known Event). x.turn) c.loop-post.invariant.main ∙ c.requires.outside.1

pub put_first-requires : goal.put_first-requires
put_first-requires g c =
    let size = ap length c.in-Some.ensures.items in
    omega (arith, size, length-append c.pop.new.self.items (c.in-Some.post ∷ []), c.loop-post.invariant.room)

pub returns : goal.returns
returns g c =
    let l = c.loop-post in
    let i = l.invariant in
    let start = c.args.main.now in
    let over : length l.posts.items ≡ 0 = omega (arith, c.in_default.ensures.cases.0, l.posts.ok.0) in
    let none = nil_from_length l.posts.items over in
    let all : i.done ≡ c.args.posts.items = sym (i.is ∙ ap (λ (xs : List (PostView g.row.K.Denot)). xs ++ i.done) none) in
    record {
      main = i.main ∙ (ap (λ n. record start { parts = parts_from (1 + n) (seens i.done) ++ start.parts; made = l.main.made }) over ∙ ap (λ ps. record start { parts = parts_from 1 (seens ps) ++ start.parts; made = l.main.made }) all);
      workers = i.workers ∙ ap workers_of all;
      looks = i.looks ∙ ap (looks_after c.args.looks.now.items) all;
      sufficed = i.sufficed ∙ ap all_sufficed all;
    }
