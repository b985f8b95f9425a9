use Rattle.std.proofs.Common.{◌≡◌, ◌<◌, ◌≤◌, ◌-◌, ◌+◌, ◌++◌, ℕ, suc, List, [], ◌∷◌, append-nil, length, length-append, slice_index_or, true, Some, refl, sym, ap, ◌∙◌, subst, arith}
use Rattle.std.specs.Prelude.{remove}
use Rattle.std.proofs.lemmas.List.{nil_from_length}
use Rattle.legal_journal.specs.declared.events.Event.{Event}
use Rattle.pass_lock.specs.Journal.{Part}
use Rattle.pass_lock.specs.Pass.{Known, all_parts, numbered, brought, first_seen, one_part}
use Rattle.node_threads.specs.Passes.{journal_of}
use Rattle.node_threads.specs.Posts.{PostView, seated, seated_from, view_of}
use Rattle.node_threads.proofs.Numbers.{brought_size}
use Rattle.node_threads.proofs.Joining.{cut_one, one_part_is}
use Rattle.node_threads.proofs.Posts.{seats_on}
use Rattle.node_threads.proofs.phase.seat_all.Goals as goal
use Rattle.node_threads.proofs.phase.seat_all.Goals.{After-split-pass}

pub loop-alloc-init : goal.loop-alloc-init
loop-alloc-init g c =
    let none = c.requires.none in
    let j = journal_of c.args.main.now in
    let size : length c.args.posts.now.items ≡ 0 = ap length none in
    let start = c.args.main.now in
    record {
      main = ap (λ (l : List (Part Event)). record start { parts = l }) (c.requires.parts ∙ ap (λ n. brought j (numbered (1 + n) (all_parts - (1 + n)))) (sym size));
      are = ap (λ (l : List (PostView g.row.K.Denot)). l ++ seated_from (1 + length l) j c.args.workers.now.items) none;
      count = omega (arith, size);
      room = c.requires.space;
      space = refl;
    }

pub split-pass-requires-clause-enough : goal.split-pass-requires-clause-enough
split-pass-requires-clause-enough g c =
    let i = c.loop-alloc.invariant in
    let n : ℕ = length c.loop-alloc.posts.items in
    let size : length c.loop-alloc.main.parts ≡ all_parts - (1 + n) = ap (λ (x : Known Event). length x.parts) i.main ∙ brought_size (journal_of c.args.main.now) (1 + n) (all_parts - (1 + n)) in
    omega (arith, size, i.count, c.requires.few)

-- the next part is cut off
cut : (g : _) (c : After-split-pass g) → let n = length c.loop-alloc.posts.items in let start = c.args.main.now in let j = journal_of c.args.main.now in
    (c.split-pass.new.pass ≡ record start { parts = brought j (numbered (suc (1 + n)) (all_parts - suc (1 + n))) }) × (c.split-pass.result ≡ record start { parts = (1 + n, j) ∷ []; made = [] })
cut g c =
    let i = c.loop-alloc.invariant in
    let n : ℕ = length c.loop-alloc.posts.items in
    let size : all_parts - (1 + n) ≡ suc (all_parts - suc (1 + n)) = omega (arith, i.count, c.requires.few) in
    cut_one (journal_of c.args.main.now) (1 + n) (all_parts - (1 + n)) (all_parts - suc (1 + n)) c.args.main.now c.loop-alloc.main _ _ size i.main c.split-pass.ensures.kept c.split-pass.ensures.moved

-- the worker that was taken stood first
first_of : {A : Type 0} (xs : List A) (x : A) → 0 < length xs → x ≡ slice_index_or xs 0 x → xs ≡ x ∷ remove xs 0
first_of [] x some is = absurd (omega (arith, some))
first_of (y ∷ ys) x some is = ap (λ z. z ∷ ys) (sym is)

pub new-requires-clause-pass : goal.new-requires-clause-pass
new-requires-clause-pass g c =
    let a = (goal.at.new-requires-clause-pass g c).After-split-pass in
    let n : ℕ = length c.loop-alloc.posts.items in
    one_part_is g.B.Room.lock (journal_of c.args.main.now) (1 + n) c.args.main.now c.split-pass.result c.requires.outside.0 c.requires.outside.1 (cut g a).1
    ∙ ap (λ k. one_part g.B.Room.lock k (first_seen c.split-pass.result.parts) c.split-pass.result.made) (let len : c.len.result ≡ n = grind (arith, c.len.ensures) in let e : 1 + n ≡ c.len.result + 1 = omega (arith, len) in e)

pub loop-alloc-preserved : goal.loop-alloc-preserved
loop-alloc-preserved g c =
    let l = c.loop-alloc in
    let i = l.invariant in
    let j = journal_of c.args.main.now in
    let n : ℕ = length l.posts.items in
    let start = c.args.main.now in
    let t = cut g (goal.at.loop-alloc-preserved g c).After-split-pass in
    let more = c.push_reserved.ensures in
    let w = c.remove-worker.result in
    let some : 0 < length l.workers.items = grind (arith, c.loop-alloc-test.true, c.is_empty.ensures) in
    let is = first_of l.workers.items w some c.remove-worker.ensures.value ∙ ap (λ x. w ∷ x) (sym c.remove-worker.ensures.items) in
    let seen : first_seen c.split-pass.result.parts ≡ j = ap (λ (x : Known Event). first_seen x.parts) t.1 in
    let size : length c.push_reserved.new.self.items ≡ n + 1 = ap length more.items ∙ length-append l.posts.items (c.new-in-loop-alloc.result ∷ []) in
    let len : c.len.result ≡ n = grind (arith, c.len.ensures) in
    let number : 1 + n ≡ c.len.result + 1 = omega (arith, len) in
    let next : suc (1 + n) ≡ 1 + length c.push_reserved.new.self.items = omega (arith, size) in
    let access : c.new.result ≡ view_of (1 + n) j = c.new.ensures ∙ (λ x. view_of (sym number x) (seen x)) in
    let seat : c.new-in-loop-alloc.result ≡ seated (1 + n) j w = c.new-in-loop-alloc.ensures ∙ ap (λ a. record { access = Some a; worker = Some w; notes = []; sufficed = true }) access in
    record {
      main = t.0 ∙ ap (λ m. record start { parts = brought j (numbered m (all_parts - m)) }) next;
      are = seats_on j (1 + n) l.posts.items c.push_reserved.new.self.items c.new-in-loop-alloc.result w l.workers.items c.remove-worker.new.self.items more.items seat refl is ∙ i.are;
      count = omega (arith, size, ap length is, i.count);
      room = subst (λ k. length c.args.workers.now.items ≤ k) (sym more.capacity) i.room;
      space = c.remove-worker.ensures.capacity ∙ i.space;
    }

pub returns : goal.returns
returns g c =
    let l = c.loop-alloc in
    let i = l.invariant in
    let j = journal_of c.args.main.now in
    let start = c.args.main.now in
    let over : length l.workers.items ≡ 0 = grind (arith, c.loop-alloc-test.false, c.is_empty.ensures) in
    let none = nil_from_length l.workers.items over in
    let size : length l.posts.items ≡ length c.args.workers.now.items = omega (arith, i.count, over) in
    record {
      main = i.main ∙ ap (λ n. record start { parts = brought j (numbered (1 + n) (all_parts - (1 + n))) }) size;
      posts = sym (append-nil l.posts.items) ∙ (ap (λ ws. l.posts.items ++ seated_from (1 + length l.posts.items) j ws) (sym none) ∙ i.are);
      workers = none;
      space = i.space;
    }
