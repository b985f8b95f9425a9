use Rattle.std.proofs.Common.{sym, ap, ◌∙◌, is_some}
use Rattle.engine_api.specs.Items.{contents_of}
use Rattle.batch_engine.proofs.AllSay.{sound_is, false_is, true_is, ok_same, rest_whole}
use Rattle.batch_engine.proofs.+are_sound.Goals as goal

pub returns-then-not-sound : goal.returns-then-not-sound
returns-then-not-sound t c =
    false_is _ _ _ (sound_is c.args.items.now c.item-item.result c.in-len1-up.len_at_least c.item-item.is) (sym c.in_ok-sound-in-len1-up.ensures ∙ c.if-not-sound.true)

pub returns-else-not-sound : goal.returns-else-not-sound
returns-else-not-sound t c =
    ok_same c.are_sound.result _ _
    (ap (λ l. is_some (contents_of l)) (rest_whole c.args.items.now)
    ∙ true_is _ _ _ (sound_is c.args.items.now c.item-item.result c.in-len1-up.len_at_least c.item-item.is) (sym c.in_ok-sound-in-len1-up.ensures ∙ c.if-not-sound.false)) c.are_sound.ensures
