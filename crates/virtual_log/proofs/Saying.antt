-- With which words turns carry.
use Rattle.std.proofs.Common.{◌≡◌, ◌≢◌, ◌⊎◌, inl, inr, ℕ, ◌<◌, ◌^◌, Bool, true, false, cond, List, [], ◌∷◌, ◌++◌, sym, ap, ◌∙◌, refl, subst, arith, append_assoc}
use Rattle.std.specs.Prelude.{◌==◌, Result, Ok, Err}
use Rattle.std.proofs.lemmas.Bool.Decides.{nat_tests}
use Rattle.std.proofs.lemmas.List.{append-nil}
use Rattle.fate_words.specs.Drawing.{Draws}
use Rattle.legal_journal.specs.Law.{Law}
use Rattle.legal_journal.specs.declared.events.Event.{Event}
use Rattle.legal_journal.specs.declared.events.FabricCall.{FabricCall}
use Rattle.legal_journal.specs.declared.events.FabricCall.TheVariants.{Carry}
use Rattle.legal_journal.specs.declared.events.FabricAnswer.{FabricAnswer}
use Rattle.legal_journal.specs.declared.events.FabricAnswer.TheVariants as fabric
use Rattle.legal_journal.specs.Turns.{AreOthers, IsTurn}
use Rattle.legal_journal.proofs.Sealing.{one_or_none}
use Rattle.virtual_log.specs.declared.fault.Fault.{Fault}
use Rattle.virtual_log.specs.declared.fault.Fault.TheVariants.{Memory, NoQuorum, Full, Meta}
use Rattle.virtual_log.specs.Saying.{word_of, words_by, SaysNone, SaysDrawn, SparesOne, DrawsBy, DrawsOwn}

words_append : (who : ℕ) (xs ys : List Event) → words_by who (xs ++ ys) ≡ words_by who xs ++ words_by who ys
words_append who [] ys = refl
words_append who (x ∷ xs) ys =
    ap (λ ws. cond (x.who == who) (word_of x.call) [] ++ ws) (words_append who xs ys)
    ∙ sym (append_assoc (cond (x.who == who) (word_of x.call) []) (words_by who xs) (words_by who ys))

draws_append : (gives : List ℕ → ℕ → List ℕ → Type 0) (xs ys a b c : List ℕ) → Draws gives a xs b → Draws gives b ys c → Draws gives a (xs ++ ys) c
draws_append gives [] ys a b c h k = subst (λ s. Draws gives s ys c) h k
draws_append gives (x ∷ xs) ys a b c h k = (h.0, h.1, h.2, draws_append gives xs ys h.0 b c h.3 k)

-- what others carry isn't who's
others_none : (who : ℕ) (es : List Event) → AreOthers who es → words_by who es ≡ []
others_none who [] h = refl
others_none who (e ∷ es) h = ap (λ b. cond b (word_of e.call) [] ++ words_by who es) (by (e.who == who) refl) ∙ others_none who es h.1
  where
    by : (b : Bool) → (e.who == who) ≡ b → (e.who == who) ≡ false
    by true t = let same : e.who ≡ who = grind (arith, nat_tests) in absurd (h.0 same)
    by false t = t

own_word : (who : ℕ) (call : FabricCall) (answer : FabricAnswer) → words_by who (record { who = who; call = call; answer = answer } ∷ []) ≡ word_of call
own_word who call answer =
    let same : (who == who) ≡ true = grind (arith, nat_tests) in
    ap (λ b. cond b (word_of call) [] ++ []) same ∙ append-nil (word_of call)

-- no event carries anything
pub none_refl : (who : ℕ) (a : List Event) → SaysNone who a a
none_refl who a = record { more = []; seen = sym (append-nil a); none = refl }

-- .. nor what whoever is the same does next
pub none_then : (who user : ℕ) (a b c : List Event) → user ≡ who → SaysNone who a b → SaysNone user b c → SaysNone who a c
none_then who user a b c same f later =
    let g = subst (λ k. SaysNone k b c) same later in
    record {
      more = f.more ++ g.more;
      seen = g.seen ∙ (ap (λ l. l ++ g.more) f.seen ∙ append_assoc a f.more g.more);
      none = words_append who f.more g.more ∙ (ap (λ ws. ws ++ words_by who g.more) f.none ∙ g.none);
    }

pub drawn_refl : {gives : List ℕ → ℕ → List ℕ → Type 0} {x : List ℕ} (who : ℕ) (a : List Event) → SaysDrawn gives who x a x a
drawn_refl {gives} {x} who a = record { more = []; seen = sym (append-nil a); drawn = refl }

-- who carries nothing draws nothing
pub none_drawn : {gives : List ℕ → ℕ → List ℕ → Type 0} {x : List ℕ} {who : ℕ} {a b : List Event} → SaysNone who a b → SaysDrawn gives who x a x b
none_drawn {gives} {x} {who} {a} {b} h = record { more = h.more; seen = h.seen; drawn = subst (λ ws. Draws gives x ws x) (sym h.none) refl }

-- what whoever is the same draws next
pub drawn_then : {gives : List ℕ → ℕ → List ℕ → Type 0} {x y z : List ℕ} (who user : ℕ) (a b c : List Event) → user ≡ who → SaysDrawn gives who x a y b → SaysDrawn gives user y b z c → SaysDrawn gives who x a z c
drawn_then {gives} {x} {y} {z} who user a b c same f later =
    let g = subst (λ k. SaysDrawn gives k y b z c) same later in
    record {
      more = f.more ++ g.more;
      seen = g.seen ∙ (ap (λ l. l ++ g.more) f.seen ∙ append_assoc a f.more g.more);
      drawn = subst (λ ws. Draws gives x ws z) (sym (words_append who f.more g.more)) (draws_append gives (words_by who f.more) (words_by who g.more) x y z f.drawn g.drawn);
    }

-- where no word is left, none is whatever the fault, and whatever is answered
pub by_drawn : {gives : List ℕ → ℕ → List ℕ → Type 0} {x y : List ℕ} (who : ℕ) (a b : List Event) (fault : Fault) → SaysDrawn gives who x a y b → DrawsBy gives who x a fault y b
by_drawn {gives} {x} {y} who a b Memory h = record { last = y; says = h; spare = inl refl }
by_drawn who a b (NoQuorum id unreached) h = h
by_drawn who a b (Full id) h = h
by_drawn who a b Meta h = h

pub draws_any : {A : Type 0} {gives : List ℕ → ℕ → List ℕ → Type 0} {x y : List ℕ} (who : ℕ) (a b : List Event) (r : Result A Fault) → SaysDrawn gives who x a y b → DrawsOwn gives who x a r y b
draws_any who a b (Ok o) h = h
draws_any who a b (Err fault) h = by_drawn who a b fault h

-- what is left by what whoever is the same does next
pub spares_then : {gives : List ℕ → ℕ → List ℕ → Type 0} {x y z : List ℕ} (who user : ℕ) (a b c : List Event) → user ≡ who → SaysDrawn gives who x a y b → SparesOne gives user y b z c → SparesOne gives who x a z c
spares_then who user a b c same f g = record { last = g.last; says = drawn_then who user a b c same f g.says; spare = g.spare }

pub draws_then : {gives : List ℕ → ℕ → List ℕ → Type 0} {x y : List ℕ} (z : List ℕ) (who user : ℕ) (a b c : List Event) (fault : Fault) → user ≡ who → SaysDrawn gives who x a y b → DrawsBy gives user y b fault z c → DrawsBy gives who x a fault z c
draws_then z who user a b c Memory same f g = spares_then who user a b c same f g
draws_then z who user a b c (NoQuorum id unreached) same f g = drawn_then who user a b c same f g
draws_then z who user a b c (Full id) same f g = drawn_then who user a b c same f g
draws_then z who user a b c Meta same f g = drawn_then who user a b c same f g

-- .. and by what carries nothing then
pub spares_on : {gives : List ℕ → ℕ → List ℕ → Type 0} {x y : List ℕ} (who user : ℕ) (a b c : List Event) → user ≡ who → SparesOne gives who x a y b → SaysNone user b c → SparesOne gives who x a y c
spares_on who user a b c same f g = record { last = f.last; says = drawn_then who user a b c same f.says (none_drawn g); spare = f.spare }

-- .. whatever is answered
pub draws_next : {A : Type 0} (gives : List ℕ → ℕ → List ℕ → Type 0) (x y : List ℕ) (who : ℕ) (a b c : List Event) (r : Result A Fault) → SaysNone who a b → DrawsOwn gives who x b r y c → DrawsOwn gives who x a r y c
draws_next gives x y who a b c (Ok o) f g = drawn_then who who a b c refl (none_drawn f) g
draws_next gives x y who a b c (Err fault) f g = draws_then y who who a b c fault refl (none_drawn f) g

module _ (law : Law) (who : ℕ) (old : List Event) where
  turn_words : (call : FabricCall) (answer : FabricAnswer) (new : List Event) (words : List ℕ) → (t : IsTurn law who old call answer new) → words_by who t.own ≡ words → words_by who (t.others ++ t.own) ≡ words
  turn_words call answer new words t is = words_append who t.others t.own ∙ (ap (λ ws. ws ++ words_by who t.own) (others_none who t.others t.apart) ∙ is)

  -- a turn that carries nothing
  pub turn_silent : (call : FabricCall) (answer : FabricAnswer) (new : List Event) → IsTurn law who old call answer new → word_of call ≡ [] → SaysNone who old new
  turn_silent call answer new t silent = record {
    more = t.others ++ t.own;
    seen = t.seen ∙ append_assoc old t.others t.own;
    none = turn_words call answer new [] t (by (one_or_none who call answer t.own t.event));
  }
    where
      by : (t.own ≡ []) ⊎ (t.own ≡ record { who = who; call = call; answer = answer } ∷ []) → words_by who t.own ≡ []
      by (inl none) = ap (words_by who) none
      by (inr one) = ap (words_by who) one ∙ (own_word who call answer ∙ silent)

  module _ {gives : List ℕ → ℕ → List ℕ → Type 0} {x : List ℕ} where
    turn_by : (call : FabricCall) (answer : FabricAnswer) (new : List Event) (z words : List ℕ) → (t : IsTurn law who old call answer new) → words_by who t.own ≡ words → Draws gives x words z → SaysDrawn gives who x old z new
    turn_by call answer new z words t is h = record {
      more = t.others ++ t.own;
      seen = t.seen ∙ append_assoc old t.others t.own;
      drawn = subst (λ ws. Draws gives x ws z) (sym (turn_words call answer new words t is)) h;
    }

    -- a carry that has its event
    pub turn_draws : {y : List ℕ} (i u word : ℕ) (answer : FabricAnswer) (new : List Event) → (t : IsTurn law who old (Carry i u word) answer new)
        → t.own ≡ record { who = who; call = Carry i u word; answer = answer } ∷ [] → gives x word y → word < 2 ^ 64 → SaysDrawn gives who x old y new
    turn_draws {y} i u word answer new t one given low =
        turn_by (Carry i u word) answer new y (word ∷ []) t (ap (words_by who) one ∙ own_word who (Carry i u word) answer) (y, given, low, refl)

    -- .. for which memory is wanting
    pub turn_spares : {y : List ℕ} (i u word : ℕ) (new : List Event) → IsTurn law who old (Carry i u word) fabric.Memory new → gives x word y → word < 2 ^ 64 → SparesOne gives who x old y new
    turn_spares {y} i u word new t given low = by t.event
      where
        by : (t.own ≡ []) ⊎ (t.own ≡ record { who = who; call = Carry i u word; answer = fabric.Memory } ∷ []) → SparesOne gives who x old y new
        by (inl none) = record { last = x; says = turn_by (Carry i u word) fabric.Memory new x [] t (ap (words_by who) none) refl; spare = inr (word, (y, given, low, refl)) }
        by (inr one) = record { last = y; says = turn_draws i u word fabric.Memory new t one given low; spare = inl refl }
