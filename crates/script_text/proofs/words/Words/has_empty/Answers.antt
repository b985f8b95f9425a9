use Rattle.std.proofs.Common.{◌∙◌, map, ap}
use Rattle.std.specs.List.{list_any}
use Rattle.script_text.specs.Words.{is_empty}
use Rattle.script_text.proofs.Lists.{list_any-map}
use Rattle.script_text.proofs.words.Words.has_empty.Goals as goal

pub returns : goal.returns
returns c = c.any_empty.ensures ∙ list_any-map is_empty (λ s. s.now) c.as_slice.result.now
    ∙ ap (λ xs. list_any is_empty (map (λ s. s.now) xs)) c.as_slice.ensures.value ∙ ap (list_any is_empty) c.self.view_is
