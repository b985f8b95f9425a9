-- The replies go down: the session engine's slots change, and nothing else.
use Rattle.std.proofs.Common.{◌≡◌, ◌≢◌, refl, sym, ap, subst, ◌∙◌, ℕ, true, false, List, [], ◌∷◌, Option, Some, None, inl, inr}
use Rattle.std.specs.Ordering.{is_lt}
use Rattle.std.specs.FinMap as finmap
use Rattle.delos_types.specs.Spaces.{SpaceMap, Text, text_cmp}
use Rattle.delos_types.specs.declared.place.Place.{Place}
use Rattle.engine_api.specs.declared.content.Content.{Content}
use Rattle.engine_api.specs.declared.content.Content.TheVariants.{Session, Alive, Leave, Trim}
use Rattle.engine_steps.specs.Layout.{slot_text}
use Rattle.engine_steps.specs.Steps.{RepliesAt}
use Rattle.engine_steps.specs.Words.{under}
use Rattle.log_laws.specs.Rises.{Hears, Sinks}
use Rattle.log_laws.specs.State.{HoldsRanks}
use Rattle.log_laws.specs.declared.rising.Told.{Told}
use Rattle.log_laws.proofs.Keys.{get_put_other, other_kind, other_key, other_head}
use Rattle.log_laws.proofs.Ranks.{holds_put_low}
use Rattle.log_laws.proofs.Firsts.{same_or_not}

-- of this change the ranks see nothing
pub record Unseen (m m' : SpaceMap) : Type 0 where
  pub low : (b : ℕ) (k : Text) → b ≢ 2 → finmap.get m' (2, b ∷ k) ≡ finmap.get m (2, b ∷ k)
  pub waiting : HoldsRanks m → HoldsRanks m'
  pub high : (k : Text) → is_lt (text_cmp k (4 ∷ [])) ≡ false → finmap.get m' (2, k) ≡ finmap.get m (2, k)

-- and other kinds neither
pub record Sunk (m m' : SpaceMap) : Type 0 where
  pub unseen : Unseen m m'
  pub kinds : (a : ℕ) (k : Text) → a ≢ 2 → finmap.get m' (a, k) ≡ finmap.get m (a, k)

sunk_none : (m : SpaceMap) → Sunk m m
sunk_none m = record { unseen = record { low = λ b k ne. refl; waiting = λ h. h; high = λ k lim. refl }; kinds = λ a k ne. refl }

sunk_both : (m mid m' : SpaceMap) → Sunk m mid → Sunk mid m' → Sunk m m'
sunk_both m mid m' a b = record {
  unseen = record {
    low = λ i k ne. b.unseen.low i k ne ∙ a.unseen.low i k ne;
    waiting = λ h. b.unseen.waiting (a.unseen.waiting h);
    high = λ k lim. b.unseen.high k lim ∙ a.unseen.high k lim;
  };
  kinds = λ i k ne. b.kinds i k ne ∙ a.kinds i k ne;
}

slot_sunk : (m : SpaceMap) (k text : Text) → Sunk m (finmap.insert m (2, 2 ∷ k) text)
slot_sunk m k text = record {
  unseen = record {
    low = λ b q ne. get_put_other m _ _ text (other_key 2 2 _ _ (other_head b 2 _ _ ne));
    waiting = λ h. holds_put_low m (2 ∷ k) text refl h;
    high = λ q lim. get_put_other m _ _ text (other_key 2 2 _ _ (λ e. let off : true ≡ false = sym (ap (λ l. is_lt (text_cmp l (4 ∷ []))) e) ∙ lim in absurd (cc)));
  };
  kinds = λ a q ne. get_put_other m _ _ text (other_kind a 2 _ _ ne);
}

reply_sunk : (m mid : SpaceMap) (place : Place) (w : Option Content) (reply : Text) → RepliesAt m place w reply mid → Sunk m mid
reply_sunk m mid place None reply h = subst (λ z. Sunk m z) (sym h) (sunk_none m)
reply_sunk m mid place (Some (Session s r c)) reply h = subst (λ z. Sunk m z) (sym h.4) (slot_sunk m _ (slot_text place r reply))
reply_sunk m mid place (Some (Alive n z)) reply h = subst (λ z. Sunk m z) (sym h) (sunk_none m)
reply_sunk m mid place (Some (Leave n)) reply h = subst (λ z. Sunk m z) (sym h) (sunk_none m)
reply_sunk m mid place (Some (Trim z)) reply h = subst (λ z. Sunk m z) (sym h) (sunk_none m)

hears_sunk : (k : ℕ) (m : SpaceMap) (told : List Told) (m' : SpaceMap) → Hears k m told m' → Sunk m m'
hears_sunk k m [] m' h = subst (λ z. Sunk m z) (sym h) (sunk_none m)
hears_sunk k m (t ∷ ts) m' h =
    elim (same_or_not k 2) [
      | inl e ↦ sunk_both m h.0 m' (reply_sunk m h.0 t.place (under 2 t.item) t.reply (h.1.session e)) (hears_sunk k h.0 ts m' h.2)
      | inr ne ↦ sunk_both m h.0 m' (subst (λ z. Sunk m z) (sym (h.1.other ne)) (sunk_none m)) (hears_sunk k h.0 ts m' h.2)
    ]

pub sinks_unseen : (ks : List ℕ) (m : SpaceMap) (told : List Told) (m' : SpaceMap) → Sinks ks m told m' → Sunk m m'
sinks_unseen [] m told m' s = subst (λ z. Sunk m z) (sym s) (sunk_none m)
sinks_unseen (k ∷ ks) m told m' s = sunk_both m s.0 m' (sinks_unseen ks m told s.0 s.1) (hears_sunk k s.0 told m' s.2)
