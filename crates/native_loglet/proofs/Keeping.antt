-- The copy that a carry keeps is a message of the cell that it leads to.
use Rattle.std.proofs.Common.{◌≡◌, ℕ, ◌<◌, Bool, true, false, refl, sym, ◌∙◌, ap, subst, arith, List, [], ◌∷◌, length, drop, get_or, Option, Some, None, inl, inr}
use Rattle.std.specs.Prelude.{◌⊎◌, nat_lt, slice_get, option_map}
use Rattle.std.proofs.lemmas.Bool.{lt-ltb}
use Rattle.std.proofs.lemmas.Option.{none-some, same_Some}
use Rattle.delos_types.specs.declared.entry.Entry.{Entry}
use Rattle.fate_words.specs.declared.fates.Fate.{Fate}
use Rattle.fate_words.specs.declared.fates.Fate.TheVariants.{Deliver, DeliverAndKeep, Lose}
use Rattle.fate_words.specs.Words.{fate_of}
use Rattle.quorum_cell.specs.declared.message.Ask.{Ask}
use Rattle.quorum_cell.specs.declared.message.Told.{Told}
use Rattle.quorum_cell.specs.declared.operation.CellStep.{CellStep}
use Rattle.quorum_cell.specs.declared.operation.CellStep.TheVariants.{Send, RequestComes, RequestStops}
use Rattle.quorum_cell.specs.Cells.{Cell, operation}
use Rattle.quorum_cell.specs.Steps.{cell_step, run_cell, ask_for, sent}
use Rattle.quorum_cell.specs.Law.{QuorumLaw}
use Rattle.quorum_cell.proofs.Lists.{slice_get_push_new}
use Rattle.quorum_cell.proofs.Runs.{run_later}
use Rattle.native_plan.specs.declared.pending.Pending.{Pending}
use Rattle.native_plan.specs.declared.message.Errand.{Errand}
use Rattle.native_plan.specs.declared.message.Message.{Message}
use Rattle.native_plan.specs.declared.message.Message.TheVariants.{Asked, Told as Answered}
use Rattle.native_plan.specs.Members.{no_member, due_of}
use Rattle.native_ties.specs.Parts.{IsPartOf, IsAllowed, asked_by, wish_of}
use Rattle.native_ties.specs.Steps.{IsRequest, IsStop}
use Rattle.native_ties.specs.Strays.{IsRequest as IsRequestOf, IsReply}
use Rattle.native_ties.proofs.Asking.{allowed}
use Rattle.native_ties.proofs.Copying.{copied}
use Rattle.native_loglet.specs.declared.mail.Mail.{Mail}
use Rattle.native_loglet.specs.declared.mail.Mail.TheVariants as mail
use Rattle.native_loglet.specs.Natives.{Native, look_in, IsMail, IsCellOf}
use Rattle.native_loglet.specs.Moving.{picked_by}
use Rattle.native_loglet.specs.Copies.{mail_of, kept_by, copy_of, copy_in, kept_after}
use Rattle.native_loglet.specs.Steps.{ComesBy, FatedBy}
use Rattle.native_loglet.proofs.Extending.{run_extends}
use Rattle.native_loglet.proofs.Mails.{mail_stays, strays_stay, pushed_each, same_strays}
use Rattle.native_loglet.proofs.Stepping.{open_there}

module _ (a : Native) (c : Cell) (h : IsCellOf a c) (t : ℕ) (p : Pending) (is : look_in a.pending t ≡ Some p) (waiting : p.outcome ≡ None) where
  part : IsPartOf c t p
  part = open_there a c t (Some p) is h

  law : QuorumLaw c
  law = h.lawful.law.quorum

  pub server_here : (i : ℕ) → i < length p.members.items → i < length c.servers
  server_here i here = (let all : length p.members.items ≡ length c.servers = (part.goes waiting).course.all in omega (arith, here, all))

  asked_same : (e : Errand) (ask : Ask) → asked_by (drop c.cut c.entries) c.cut (due_of c.cut e) ≡ Some ask → asked_by a.entries a.marks.cut (due_of a.marks.cut e) ≡ Some ask
  asked_same e ask known = ap {B = Option Ask} (λ (es : List Entry). asked_by es a.marks.cut (due_of a.marks.cut e)) (sym h.entries) ∙ ap {B = Option Ask} (λ k. asked_by (drop c.cut c.entries) k (due_of k e)) (sym h.cut) ∙ known

  -- what is sent is the cell's last request
  sent_there : (i : ℕ) (e : Errand) (x : Ask) → i < length c.servers → ask_for c (operation c t) (wish_of e) ≡ Some x → IsRequestOf (cell_step c (Send t i (wish_of e))) (length c.requests) t i x
  sent_there i e x here may =
      let sends : cell_step c (Send t i (wish_of e)) ≡ sent c t i (Some x) = rw (part.shows.is_open, lt-ltb i (length c.servers) here, may) refl in
      ap (λ (d : Cell). slice_get d.requests (length c.requests)) sends ∙ slice_get_push_new c.requests (record { ticket = t; server = i; ask = x }) (length c.requests) refl

  asked_kept : (i : ℕ) (e : Errand) (m : Mail) (steps : List CellStep) → i < length c.servers → (get_or p.members.items i no_member).message ≡ Some (Asked e) → IsRequest c t i (due_of c.cut e) steps ⊎ IsStop c t i (due_of c.cut e) steps → mail_of a.entries a.marks.cut t i (Some (Asked e)) ≡ Some m → IsMail (run_cell steps c) m
  asked_kept i e m steps here asked are copy =
      let y : IsAllowed c t (due_of c.cut e) = allowed c t i p e part waiting here asked in
      let same : mail.Asked t i y.ask ≡ m = same_Some _ _ (sym (ap (option_map (λ x. mail.Asked t i x)) (asked_same e y.ask y.is)) ∙ copy) in
      let there : IsRequestOf (cell_step c (Send t i (wish_of (due_of c.cut e)))) (length c.requests) t i y.ask = sent_there i (due_of c.cut e) y.ask here y.allowed in
      subst (IsMail (run_cell steps c)) same (length c.requests, by y.ask there are, (let many = (run_later steps c).servers in omega (arith, here, many)))
    where
      by : (x : Ask) → IsRequestOf (cell_step c (Send t i (wish_of (due_of c.cut e)))) (length c.requests) t i x → IsRequest c t i (due_of c.cut e) steps ⊎ IsStop c t i (due_of c.cut e) steps → IsRequestOf (run_cell steps c) (length c.requests) t i x
      by x there (inl same) = subst (λ (ss : List CellStep). IsRequestOf (run_cell ss c) (length c.requests) t i x) (sym same) ((run_extends (RequestComes (length c.requests) ∷ []) (cell_step c (Send t i (wish_of (due_of c.cut e))))).requests (length c.requests) _ there)
      by x there (inr same) = subst (λ (ss : List CellStep). IsRequestOf (run_cell ss c) (length c.requests) t i x) (sym same) ((run_extends (RequestStops (length c.requests) ∷ []) (cell_step c (Send t i (wish_of (due_of c.cut e))))).requests (length c.requests) _ there)

  told_kept : (i : ℕ) (e : Errand) (z : Told) (m : Mail) (steps : List CellStep) → i < length c.servers → (get_or p.members.items i no_member).message ≡ Some (Answered e z) → mail_of a.entries a.marks.cut t i (Some (Answered e z)) ≡ Some m → IsMail (run_cell steps c) m
  told_kept i e z m steps here told copy =
      let reply : (k : ℕ) × IsReply c k t i e z = copied c t i e z p part waiting here told in
      subst (IsMail (run_cell steps c)) (same_Some (mail.Told t i e z) m copy) (mail_stays c (run_cell steps c) (mail.Told t i e z) law (run_later steps c) (run_extends steps c) (reply.0, reply.1, here))

  copy_kept : (f : Fate) (room : Bool) (i : ℕ) (m : Mail) (steps : List CellStep) → i < length c.servers → FatedBy f c t i (get_or p.members.items i no_member) steps → kept_by f room (mail_of a.entries a.marks.cut t i (get_or p.members.items i no_member).message) ≡ Some m → IsMail (run_cell steps c) m
  copy_kept f room i m steps here = by f room
    where
      at : (z : Option Message) → (get_or p.members.items i no_member).message ≡ z → ComesBy c t i z steps → mail_of a.entries a.marks.cut t i z ≡ Some m → IsMail (run_cell steps c) m
      at None same x e = absurd x
      at (Some (Asked errand)) same x e = asked_kept i errand m steps here same x e
      at (Some (Answered errand z)) same x e = told_kept i errand z m steps here same e

      by : (g : Fate) (r : Bool) → FatedBy g c t i (get_or p.members.items i no_member) steps → kept_by g r (mail_of a.entries a.marks.cut t i (get_or p.members.items i no_member).message) ≡ Some m → IsMail (run_cell steps c) m
      by DeliverAndKeep true x e = at (get_or p.members.items i no_member).message refl x e
      by DeliverAndKeep false x e = absurd (none-some m e)
      by Deliver r x e = absurd (none-some m e)
      by Lose r x e = absurd (none-some m e)

  -- and so are those that were kept before
  pub all_kept : (word i : ℕ) (ms : List Mail) (steps : List CellStep) → i < length c.servers → i ≡ picked_by word p → FatedBy (fate_of word) c t i (get_or p.members.items i no_member) steps → ms ≡ kept_after (copy_in a t word) a.strays → (n : ℕ) (m : Mail) → slice_get ms n ≡ Some m → IsMail (run_cell steps c) m
  all_kept word i ms steps here picked fated kept = same_strays (kept_after (copy_in a t word) a.strays) ms (IsMail (run_cell steps c)) kept (after (copy_in a t word) refl)
    where
      before : (n : ℕ) (m : Mail) → slice_get a.strays n ≡ Some m → IsMail (run_cell steps c) m
      before = strays_stay a c (run_cell steps c) h (run_later steps c) (run_extends steps c)

      copy_is : copy_in a t word ≡ kept_by (fate_of word) (nat_lt (length a.strays) 64) (mail_of a.entries a.marks.cut t i (get_or p.members.items i no_member).message)
      copy_is = ap (copy_of a.entries a.marks.cut t word (length a.strays)) is ∙ ap (λ (j : ℕ). kept_by (fate_of word) (nat_lt (length a.strays) 64) (mail_of a.entries a.marks.cut t j (get_or p.members.items j no_member).message)) (sym picked)

      after : (z : Option Mail) → copy_in a t word ≡ z → (n : ℕ) (m : Mail) → slice_get (kept_after z a.strays) n ≡ Some m → IsMail (run_cell steps c) m
      after None e = before
      after (Some x) e = pushed_each (IsMail (run_cell steps c)) a.strays x before (copy_kept (fate_of word) (nat_lt (length a.strays) 64) i x steps here fated (sym copy_is ∙ e))
