-- What a word means for the messages of an operation.
use Rattle.std.specs.Prelude.{ℕ, ◌/◌, ◌%◌, ◌==◌, if◌then◌else◌}
use Rattle.fate_words.specs.declared.fates.Fate.{Fate}
use Rattle.fate_words.specs.declared.fates.Fate.TheVariants.{Deliver, DeliverAndKeep, Lose}

-- a word's remainder by 8 says what becomes of the message
abbrev pub fate_of : ℕ → Fate
fate_of word = if word % 8 == 7 then Lose else (if word % 8 == 6 then DeliverAndKeep else Deliver)

-- and what is left of it, which of so many messages moves
abbrev pub pick_of : ℕ → ℕ → ℕ
pick_of word count = word / 8 % count
