use Rattle.std.proofs.Common.{◌≡◌, ◌+◌, ◌≤◌, ◌++◌, List, length, vec_len}
use Rattle.std.specs.Vec.{vec_capacity}
use Rattle.node_threads.specs.Passes.{parts_from}
use Rattle.node_threads.specs.Posts.{PostView, all_sufficed, looks_after, seens, workers_of}
use Rattle.node_threads.proofs.phase.join_all.Given as goal

abbrev pub decreases-loop-post : goal.decreases-loop-post
decreases-loop-post g l = vec_len l.posts

abbrev pub invariant-loop-post : goal.invariant-loop-post
invariant-loop-post g l = record {
  done : List (PostView g.row.K.Denot);
  is : l.initial.posts.items ≡ l.posts.items ++ done;
  main : l.main ≡ record l.initial.main { parts = parts_from (1 + length l.posts.items) (seens done) ++ l.initial.main.parts; made = l.main.made };
  workers : l.workers.items ≡ workers_of done;
  looks : l.looks.items ≡ looks_after l.initial.looks.items done;
  size : length l.looks.items ≡ length l.initial.looks.items;
  sufficed : l.sufficed ≡ all_sufficed done;
  room : length l.posts.items + length l.workers.items ≤ vec_capacity l.workers;
}
