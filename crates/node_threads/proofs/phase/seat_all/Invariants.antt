use Rattle.std.proofs.Common.{◌≡◌, ◌-◌, ◌+◌, ◌≤◌, ◌++◌, length}
use Rattle.std.specs.Vec.{vec_capacity}
use Rattle.pass_lock.specs.Pass.{numbered, all_parts, brought}
use Rattle.node_threads.specs.Passes.{journal_of}
use Rattle.node_threads.specs.Posts.{seated_from}
use Rattle.node_threads.proofs.phase.seat_all.Given as goal

abbrev pub decreases-loop-alloc : goal.decreases-loop-alloc
decreases-loop-alloc g l = length l.workers.items

abbrev pub invariant-loop-alloc : goal.invariant-loop-alloc
invariant-loop-alloc g l = record {
  main : l.main ≡ record l.initial.main { parts = brought (journal_of l.initial.main) (numbered (1 + length l.posts.items) (all_parts - (1 + length l.posts.items))) };
  are : l.posts.items ++ seated_from (1 + length l.posts.items) (journal_of l.initial.main) l.workers.items ≡ seated_from 1 (journal_of l.initial.main) l.initial.workers.items;
  count : length l.posts.items + length l.workers.items ≡ length l.initial.workers.items;
  room : length l.initial.workers.items ≤ vec_capacity l.posts;
  space : vec_capacity l.workers ≡ vec_capacity l.initial.workers;
}
