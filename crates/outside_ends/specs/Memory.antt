-- Ends in memory, whose chosen calls fail: what a call answers and leaves, as functions of what there was.
use Rattle.std.specs.Prelude.{◌==◌, ◌-◌, ◌&&◌, ℕ, Bool, true, List, ◌++◌, length, drop, take, min, nat_lt, if◌then◌else◌}
use Rattle.std.specs.List.{list_any}
use Rattle.outside_ends.specs.declared.source.Taken.{Taken}
use Rattle.outside_ends.specs.declared.source.Taken.TheVariants as taken
use Rattle.outside_ends.specs.declared.sink.Written.{Written}
use Rattle.outside_ends.specs.declared.sink.Written.TheVariants as written
use Rattle.outside_ends.specs.Faults.{one_more}

-- a source in memory: what is left, the most that moves in a call, the numbers of the calls that fail, how many
-- were made, and how many failed
pub record Reading : Type 0 where
  pub left : List ℕ
  pub piece : ℕ
  pub failing : List ℕ
  pub calls : ℕ
  pub faults : ℕ

-- a sink in memory: what it holds, how many bytes more it has room for, and the rest as for a source
pub record Writing : Type 0 where
  pub held : List ℕ
  pub room : ℕ
  pub piece : ℕ
  pub failing : List ℕ
  pub calls : ℕ
  pub faults : ℕ

-- the next call is one of those that fail
abbrev pub fails_next : List ℕ → ℕ → Bool
fails_next failing calls = list_any (λ k. k == one_more calls) failing

-- how many bytes the next call takes
abbrev pub taken_next : ℕ → Reading → ℕ
taken_next room s = min (min (length s.left) s.piece) room

abbrev pub take_answer : ℕ → Reading → Taken
take_answer room s = if fails_next s.failing s.calls then taken.Failed
    else (if length s.left == 0 then taken.End else taken.Took (taken_next room s))

abbrev pub after_take : ℕ → Reading → Reading
after_take room s = if fails_next s.failing s.calls then record s { calls = one_more s.calls; faults = one_more s.faults }
    else record s { calls = one_more s.calls; left = drop (taken_next room s) s.left }

-- the next call fails: its number says so, or bytes find no room at all
abbrev pub refuses_next : ℕ → Writing → Bool
refuses_next len s = if fails_next s.failing s.calls then true else (nat_lt 0 len && (s.room == 0))

-- how many bytes the next call puts
abbrev pub put_next : ℕ → Writing → ℕ
put_next len s = min (min len s.piece) s.room

abbrev pub put_answer : ℕ → Writing → Written
put_answer len s = if refuses_next len s then written.Failed else written.Put (put_next len s)

abbrev pub after_put : List ℕ → Writing → Writing
after_put bytes s = if refuses_next (length bytes) s then record s { calls = one_more s.calls; faults = one_more s.faults }
    else record s { calls = one_more s.calls; held = s.held ++ take (put_next (length bytes) s) bytes; room = s.room - put_next (length bytes) s }
