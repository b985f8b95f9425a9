use Rattle.std.proofs.Common.{refl, ap, sym, ◌∙◌, Some}
use Rattle.std.specs.Prelude.{option_map}
use Rattle.loglet_api.specs.declared.call.Answer.TheVariants.{Got}
use Rattle.native_loglet.proofs.Rules.{cut_answer, other_answer}
use Rattle.native_loglet.proofs.closing.answer.Goals as goal

pub returns-then-is_cut : goal.returns-then-is_cut
returns-then-is_cut c = cut_answer c.args.cut c.args.decided (sym c.is_cut.ensures ∙ c.if-is_cut.true)

pub returns-in-OpenTail : goal.returns-in-OpenTail
returns-in-OpenTail c = other_answer c.args.cut c.args.decided _ (sym c.is_cut.ensures ∙ c.if-is_cut.false) (rw c.in-OpenTail.is refl)

pub returns-in-SealedTail : goal.returns-in-SealedTail
returns-in-SealedTail c = other_answer c.args.cut c.args.decided _ (sym c.is_cut.ensures ∙ c.if-is_cut.false) (rw c.in-SealedTail.is refl)

pub returns-in-Gone : goal.returns-in-Gone
returns-in-Gone c = other_answer c.args.cut c.args.decided _ (sym c.is_cut.ensures ∙ c.if-is_cut.false) (rw c.in-Gone.is refl)

pub returns-in-Beyond : goal.returns-in-Beyond
returns-in-Beyond c = other_answer c.args.cut c.args.decided _ (sym c.is_cut.ensures ∙ c.if-is_cut.false) (rw c.in-Beyond.is refl)

pub returns-in-TrimDone : goal.returns-in-TrimDone
returns-in-TrimDone c = other_answer c.args.cut c.args.decided _ (sym c.is_cut.ensures ∙ c.if-is_cut.false) (rw c.in-TrimDone.is refl)

pub returns-in-NoQuorum : goal.returns-in-NoQuorum
returns-in-NoQuorum c = other_answer c.args.cut c.args.decided _ (sym c.is_cut.ensures ∙ c.if-is_cut.false) (rw c.in-NoQuorum.is refl)

pub returns-in-Reached : goal.returns-in-Reached
returns-in-Reached c = other_answer c.args.cut c.args.decided _ (sym c.is_cut.ensures ∙ c.if-is_cut.false) (rw c.in-Reached.is (ap (λ y. Some y) c.placed.ensures))

pub returns-in-Shut : goal.returns-in-Shut
returns-in-Shut c = other_answer c.args.cut c.args.decided _ (sym c.is_cut.ensures ∙ c.if-is_cut.false) (rw c.in-Shut.is (ap (λ y. Some y) c.sealed.ensures))

pub returns-in-Found : goal.returns-in-Found
returns-in-Found c = other_answer c.args.cut c.args.decided _ (sym c.is_cut.ensures ∙ c.if-is_cut.false) (rw c.in-Found.is (ap (option_map (λ e. Got e)) (sym c.unwrap.ensures)))
