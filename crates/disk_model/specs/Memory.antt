-- A disk in memory: what was done to it, and which image a word picks.
use Rattle.std.specs.Prelude.{ℕ, ◌+◌, ◌-◌, ◌/◌, ◌%◌, ◌==◌, min, List, [], ◌∷◌, ◌++◌, length, take, drop, replicate, if◌then◌else◌}
use Rattle.disk_model.specs.Disk.{Change, Written, CutTo, replayed, Moment, content, with_change, at_rest, Timeline, followed}
use Rattle.disk_model.specs.declared.event.Event.{Event}
use Rattle.disk_model.specs.declared.event.Event.TheVariants.{Write, Cut, Sync, Reopen}

-- all but the last, and of a last write the first half of its bytes
abbrev pub halved : List Change → List Change
halved [] = []
halved (Written at bytes ∷ []) = Written at (take (length bytes / 2) bytes) ∷ []
halved (CutTo n ∷ []) = []
halved (c ∷ d ∷ cs) = c ∷ halved (d ∷ cs)

-- this byte in the part of a range that lies in the bytes
abbrev pub filled : ℕ → ℕ → ℕ → List ℕ → List ℕ
filled at n byte bytes = take at bytes ++ (replicate (min n (length bytes - at)) byte ++ drop (at + n) bytes)

-- in each range that was written
abbrev pub all_filled : ℕ → List Change → List ℕ → List ℕ
all_filled byte [] bytes = bytes
all_filled byte (Written at written ∷ cs) bytes = all_filled byte cs (filled at (length written) byte bytes)
all_filled byte (CutTo n ∷ cs) bytes = all_filled byte cs bytes

-- The image that a word picks: nothing happened; everything; all but the last half; or everything, but with one byte
-- throughout what was written.
abbrev pub image : ℕ → Moment → List ℕ
image word m = if word % 4 == 0 then m.synced else (if word % 4 == 1 then content m else (if word % 4 == 2 then replayed (halved m.changes) m.synced else all_filled (word / 4 % 256) m.changes (content m)))

-- the moment after an event
abbrev pub next : Moment → Event → Moment
next m (Write at bytes) = with_change m (Written at bytes.items)
next m (Cut n) = with_change m (CutTo n)
next m Sync = at_rest (content m)
next m (Reopen word) = at_rest (image word m)

abbrev pub run : Timeline → List Event → Timeline
run line [] = line
run line (e ∷ es) = run (followed line (next line.now e)) es

-- a new disk is empty
abbrev pub timeline_of : List Event → Timeline
timeline_of es = run (record { past = []; now = at_rest [] }) es

-- the changes among some events
abbrev pub changes_of : List Event → List Change
changes_of [] = []
changes_of (Write at bytes ∷ es) = Written at bytes.items ∷ changes_of es
changes_of (Cut n ∷ es) = CutTo n ∷ changes_of es
changes_of (Sync ∷ es) = changes_of es
changes_of (Reopen word ∷ es) = changes_of es
