-- Which copy stays behind, as the code finds it.
use Rattle.std.proofs.Common.{◌≡◌, ℕ, ◌-◌, ◌<◌, Bool, true, false, refl, sym, ◌∙◌, ap, subst, arith, List, [], ◌∷◌, ◌++◌, length, length-append, get_or, take, Option, Some, None}
use Rattle.std.specs.Prelude.{◌&&◌, nat_lt, is_some, if◌then◌else◌}
use Rattle.std.proofs.Math.Seq.{take-append_seam}
use Rattle.std.proofs.lemmas.Bool.{false≢true, lt-ltb, ltb-true}
use Rattle.delos_types.specs.declared.entry.Entry.{Entry}
use Rattle.fate_words.specs.Words.{fate_of}
use Rattle.native_bag.specs.Bags.{kept_with}
use Rattle.native_plan.specs.declared.pending.Pending.{Pending}
use Rattle.native_plan.specs.Members.{no_member}
use Rattle.quorum_cell.specs.declared.message.Ask.{Ask}
use Rattle.quorum_cell.specs.declared.message.Told.{Told}
use Rattle.quorum_cell.specs.declared.operation.Outcome.{Outcome}
use Rattle.native_plan.specs.declared.message.Errand.{Errand}
use Rattle.native_plan.specs.Strays.{HearsAgain}
use Rattle.native_loglet.specs.declared.mail.Mail.{Mail}
use Rattle.native_loglet.specs.declared.mail.Mail.TheVariants as mail
use Rattle.native_loglet.specs.Moving.{picked_by}
use Rattle.native_loglet.specs.Copies.{is_kept, mail_of, copy_of, kept_after, HearsOpen, CanAsk, CanCome}

-- by another fate there is none
pub none_unkept : (entries : List Entry) (cut t word kept : ℕ) (z : Option Pending) → is_kept (fate_of word) ≡ false → None ≡ copy_of entries cut t word kept z
none_unkept entries cut t word kept None h = refl
none_unkept entries cut t word kept (Some p) h = rw h refl

-- nor where there is no room
pub none_full : (entries : List Entry) (cut t word kept : ℕ) (z : Option Pending) → nat_lt kept 64 ≡ false → None ≡ copy_of entries cut t word kept z
none_full entries cut t word kept None h = refl
none_full entries cut t word kept (Some p) h = rw h (by (is_kept (fate_of word)))
  where
    by : (b : Bool) → None ≡ (if b && false then mail_of entries cut t (picked_by word p) (get_or p.members.items (picked_by word p) no_member).message else None)
    by true = refl
    by false = refl

pub copied_is : (entries : List Entry) (cut t word kept : ℕ) (p : Pending) (copy : Option Mail) → is_kept (fate_of word) ≡ true → nat_lt kept 64 ≡ true → copy ≡ mail_of entries cut t (picked_by word p) (get_or p.members.items (picked_by word p) no_member).message → copy ≡ copy_of entries cut t word kept (Some p)
copied_is entries cut t word kept p copy h room is = rw (h, room) is

-- there is one only where there is room
pub room_there : (entries : List Entry) (cut t word kept : ℕ) (z : Option Pending) (copy : Option Mail) → copy ≡ copy_of entries cut t word kept z → is_some copy ≡ true → kept < 64
room_there entries cut t word kept z copy is some = by (nat_lt kept 64) refl
  where
    by : (b : Bool) → nat_lt kept 64 ≡ b → kept < 64
    by true e = ltb-true kept 64 e
    by false e = absurd (false≢true (ap is_some (none_full entries cut t word kept z e ∙ sym is) ∙ some))

-- it is kept with the others
pub kept_room : (copy : Mail) (xs : List Mail) → length xs < 64 → kept_with copy xs ≡ kept_after (Some copy) xs
kept_room copy xs room = rw (lt-ltb (length xs) 64 room) refl

-- and taken back
pub taken_back : (copy : Option Mail) (xs : List Mail) → (if is_some copy then take (length (kept_after copy xs) - 1) (kept_after copy xs) else kept_after copy xs) ≡ xs
taken_back None xs = refl
taken_back (Some m) xs =
    let long : length (xs ++ m ∷ []) - 1 ≡ length xs = rw (length-append xs (m ∷ [])) (omega arith) in
    rw long (take-append_seam xs (m ∷ []))

---- what comes again

pub hears_undecided : (o : Option Outcome) (cut i : ℕ) (e : Errand) (z : Told) (p q : Pending) → is_some o ≡ false → HearsAgain cut i e z p q → HearsOpen o cut i e z p (Some q)
hears_undecided None cut i e z p q h hears = (q, refl, hears)
hears_undecided (Some a) cut i e z p q h hears = absurd (false≢true (sym h))

pub asked_here : (n : ℕ) (m : Mail) (t i : ℕ) (a : Ask) → m ≡ mail.Asked t i a → CanCome n m → (i < n) × CanAsk a
asked_here n m t i a is can = subst (CanCome n) is can
